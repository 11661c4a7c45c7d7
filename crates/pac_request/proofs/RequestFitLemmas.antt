-- What a line asks fits the catalogue.
use Rattle.std.proofs.Common.{◌≡◌, ◌∙◌, ℕ, Bool, true, false, cond, eqb, List, [], ◌∷◌, map, length, Option, Some, None, Result, Ok, Err, IsSomeAnd, refl, sym, ap, subst}
use Rattle.std.specs.Prelude.{slice_get, ok_or, IfOk}
use Rattle.std.specs.Option.{option_map}
use Rattle.std.proofs.lemmas.Bool.{eqb-true}
use Rattle.std.proofs.lemmas.Option.{slice_get-map}
use Rattle.pac_base.specs.Refusals.{Reports}
use Rattle.pac_base.specs.declared.refusal.Refusal.{Refusal}
use Rattle.pac_value.specs.declared.values.Ty.{Ty}
use Rattle.pac_value.specs.declared.values.Ty.TheVariants as ty
use Rattle.pac_value.specs.declared.values.Value.{Value}
use Rattle.pac_value.specs.declared.values.Value.TheVariants as value
use Rattle.pac_value.specs.declared.values.Key.{Key}
use Rattle.pac_value.specs.declared.values.Key.TheVariants as key
use Rattle.pac_value.specs.Values.{type_of, key_value}
use Rattle.pac_value.specs.Expressions.{◌>>=◌}
use Rattle.pac_ops.specs.declared.shapes.TableTypes.{TableTypes}
use Rattle.pac_ops.specs.declared.transaction.Change.{Change}
use Rattle.pac_ops.specs.declared.transaction.Change.TheVariants.{Put, Delete}
use Rattle.pac_ops.specs.Shapes.{KeyFits, ColumnsFit, RowFits, ChangeFits, RecordsFit}
use Rattle.pac_bytes.proofs.Results.{bind_ok}
use Rattle.pac_syntax.specs.declared.tree.NameNode.{NameNode}
use Rattle.pac_types.specs.declared.table.Table.{Table}
use Rattle.pac_types.specs.declared.procedure.Proc.{Proc}
use Rattle.pac_types.specs.Fits.{FitParams, FitsCall, shape}
use Rattle.pac_types.specs.WellFormed.{types}
use Rattle.pac_types.specs.Typing.{CatalogueState}
use Rattle.pac_request.specs.declared.fault.LineFault.{LineFault}
use Rattle.pac_request.specs.declared.fault.LineFaultKind.TheVariants.{UnknownName, WrongCount, WrongType}
use Rattle.pac_request.specs.declared.node.LineNode.{LineNode}
use Rattle.pac_request.specs.declared.node.LineNode.TheVariants as line
use Rattle.pac_request.specs.declared.node.PlacedLiteral.{PlacedLiteral}
use Rattle.pac_request.specs.declared.node.RecordNode.{RecordNode}
use Rattle.pac_request.specs.declared.node.RecordNode.TheVariants as record_
use Rattle.pac_request.specs.declared.request.Request.{Request}
use Rattle.pac_request.specs.declared.request.Request.TheVariants as request
use Rattle.pac_request.specs.LineKinds.{line_fault}
use Rattle.pac_request.specs.RequestFits.{RequestFits, AskedFits}
use Rattle.pac_request.specs.RequestMeaning.{key_of, asked_key, asked_values, counted_literals, named_proc, named_table, proc_at, table_at, asked_call, asked_put, asked_cell, asked_change, asked_changes, asked}
use Rattle.pac_request.proofs.MeaningLemmas.{values_fit}

ok_is : {A : Type 0} (x y : A) → ◌≡◌ {A = Result A LineFault} (Ok x) (Ok y) → x ≡ y
ok_is x y e = cc

some_is : {A : Type 0} (o : Option A) (fault : LineFault) (x : A) → ok_or o fault ≡ Ok x → o ≡ Some x
some_is None fault x e = absurd cc
some_is (Some y) fault x e = ap (λ z. Some z) (ok_is y x e)

-- ---- names

-- what is found under a name stands at its number
proc_there : (procs : List Proc) (name : NameNode) (p : ℕ × Proc) → proc_at procs name ≡ Ok p → slice_get procs p.0 ≡ Some p.1
proc_there procs name p e =
    let fault = line_fault UnknownName name.at in
    let n = bind_ok (named_proc procs name) (λ number. ok_or (slice_get procs number) fault >>= λ proc. Ok (number, proc)) p e in
    let f = bind_ok (ok_or (slice_get procs n.0) fault) (λ proc. Ok (n.0, proc)) p n.2 in
    subst (λ (q : ℕ × Proc). slice_get procs q.0 ≡ Some q.1) (ok_is (n.0, f.0) p f.2) (some_is (slice_get procs n.0) fault f.0 f.1)

table_there : (tables : List Table) (name : NameNode) (t : ℕ × Table) → table_at tables name ≡ Ok t → slice_get tables t.0 ≡ Some t.1
table_there tables name t e =
    let fault = line_fault UnknownName name.at in
    let n = bind_ok (named_table tables name) (λ number. ok_or (slice_get tables number) fault >>= λ table. Ok (number, table)) t e in
    let f = bind_ok (ok_or (slice_get tables n.0) fault) (λ table. Ok (n.0, table)) t n.2 in
    subst (λ (q : ℕ × Table). slice_get tables q.0 ≡ Some q.1) (ok_is (n.0, f.0) t f.2) (some_is (slice_get tables n.0) fault f.0 f.1)

shape_there : (tables : List Table) (t : ℕ) (table : Table) → slice_get tables t ≡ Some table → slice_get (map shape tables) t ≡ Some (shape table)
shape_there tables t table e = slice_get-map shape tables t ∙ ap (option_map shape) e

-- ---- literals

key_typed : (t : Ty) (v : Value) (k : Key) → key_of t v ≡ Some k → t ≡ type_of (key_value k)
key_typed ty.Int (value.Int z) k e = ap (λ (x : Key). type_of (key_value x)) (key_is (key.Int z) e)
  where
    key_is : (x : Key) → ◌≡◌ {A = Option Key} (Some x) (Some k) → x ≡ k
    key_is x e = cc
key_typed ty.Text (value.Text x) k e = ap (λ (y : Key). type_of (key_value y)) (key_is (key.Text x) e)
  where
    key_is : (y : Key) → ◌≡◌ {A = Option Key} (Some y) (Some k) → y ≡ k
    key_is y e = cc
key_typed _ _ k e = absurd cc

key_fits : (table : Table) (l : PlacedLiteral) (k : Key) → asked_key table.key l ≡ Ok k → KeyFits k (shape table)
key_fits table l k e = key_typed table.key l.value k (some_is (key_of table.key l.value) (line_fault WrongType l.at) k e)

-- as many literals as types, and they are the same literals
record AreCounted (tys : List Ty) (ls counted : List PlacedLiteral) : Type 0 where
  same : length tys ≡ length ls
  are : ls ≡ counted

counted_are : (name : NameNode) (tys : List Ty) (ls counted : List PlacedLiteral) → counted_literals name tys ls ≡ Ok counted → AreCounted tys ls counted
counted_are name tys ls counted e = by (eqb (length tys) (length ls)) refl e
  where
    by : (b : Bool) → eqb (length tys) (length ls) ≡ b → ◌≡◌ {A = Result (List PlacedLiteral) LineFault} (cond b (Ok ls) (Err (line_fault WrongCount name.at))) (Ok counted) → AreCounted tys ls counted
    by true is e = record { same = eqb-true _ _ is; are = ok_is ls counted e }
    by false is e = absurd cc

-- ---- what is asked

fits_there : (procs : List Proc) (n : ℕ) (proc : Proc) (args : List Value) → slice_get procs n ≡ Some proc → FitParams proc.params args → FitsCall procs n args
fits_there procs n proc args e fit = subst (λ o. IsSomeAnd o (λ (p : Proc). FitParams p.params args)) (sym e) fit

row_there : (tables : List Table) (n : ℕ) (table : Table) (key : Key) (row : List Value) → slice_get tables n ≡ Some table → KeyFits key (shape table) → ColumnsFit row (shape table) → RowFits (map shape tables) (n, key) row
row_there tables n table key row e k fit = subst (λ o. IsSomeAnd o (λ (t : TableTypes). KeyFits key t × ColumnsFit row t)) (sym (shape_there tables n table e)) (k, fit)

key_there : (tables : List Table) (n : ℕ) (table : Table) (key : Key) → slice_get tables n ≡ Some table → KeyFits key (shape table) → IsSomeAnd (slice_get (map shape tables) n) (KeyFits key)
key_there tables n table key e k = subst (λ o. IsSomeAnd o (KeyFits key)) (sym (shape_there tables n table e)) k

call_fits : (catalogue : CatalogueState) (name : NameNode) (ls : List PlacedLiteral) (r : Request) → asked_call catalogue.procs name ls ≡ Ok r → RequestFits catalogue r
unfolding asked_call
call_fits catalogue name ls r e =
    let p = bind_ok (proc_at catalogue.procs name)
    (λ p. counted_literals name (types p.1.params) ls >>= λ counted. asked_values (types p.1.params) counted >>= λ args. Ok (request.Call (record { proc = p.0; args = args }))) r e in
    let k = bind_ok (counted_literals name (types p.0.1.params) ls) (λ counted. asked_values (types p.0.1.params) counted >>= λ args. Ok (request.Call (record { proc = p.0.0; args = args }))) r p.2 in
    let v = bind_ok (asked_values (types p.0.1.params) k.0) (λ args. Ok (request.Call (record { proc = p.0.0; args = args }))) r k.2 in
    let counted = counted_are name (types p.0.1.params) ls k.0 k.1 in
    let fit = values_fit (types p.0.1.params) ls v.0 counted.same (ap (asked_values (types p.0.1.params)) counted.are ∙ v.1) in
    subst (RequestFits catalogue) (ok_is (request.Call (record { proc = p.0.0; args = v.0 })) r v.2)
    (fits_there catalogue.procs p.0.0 p.0.1 v.0 (proc_there catalogue.procs name p.0 p.1) fit.are)

put_fits : (tables : List Table) (name : NameNode) (key : PlacedLiteral) (ls : List PlacedLiteral) (c : Change) → asked_put tables name key ls ≡ Ok c → ChangeFits (map shape tables) c
unfolding asked_put
put_fits tables name key ls c e =
    let t = bind_ok (table_at tables name)
    (λ t. counted_literals name (types t.1.columns) ls >>= λ counted. asked_key t.1.key key >>= λ found. asked_values (types t.1.columns) counted >>= λ row. Ok (Put t.0 found row)) c e in
    let n = bind_ok (counted_literals name (types t.0.1.columns) ls)
    (λ counted. asked_key t.0.1.key key >>= λ found. asked_values (types t.0.1.columns) counted >>= λ row. Ok (Put t.0.0 found row)) c t.2 in
    let k = bind_ok (asked_key t.0.1.key key) (λ found. asked_values (types t.0.1.columns) n.0 >>= λ row. Ok (Put t.0.0 found row)) c n.2 in
    let v = bind_ok (asked_values (types t.0.1.columns) n.0) (λ row. Ok (Put t.0.0 k.0 row)) c k.2 in
    let counted = counted_are name (types t.0.1.columns) ls n.0 n.1 in
    let fit = values_fit (types t.0.1.columns) ls v.0 counted.same (ap (asked_values (types t.0.1.columns)) counted.are ∙ v.1) in
    subst (ChangeFits (map shape tables)) (ok_is (Put t.0.0 k.0 v.0) c v.2)
    (row_there tables t.0.0 t.0.1 k.0 v.0 (table_there tables name t.0 t.1) (key_fits t.0.1 key k.0 k.1) fit.are)

cell_fits : (tables : List Table) (name : NameNode) (key : PlacedLiteral) (cell : ℕ × Key) → asked_cell tables name key ≡ Ok cell → IsSomeAnd (slice_get (map shape tables) cell.0) (KeyFits cell.1)
unfolding asked_cell
cell_fits tables name key cell e =
    let t = bind_ok (table_at tables name) (λ t. asked_key t.1.key key >>= λ found. Ok (t.0, found)) cell e in
    let k = bind_ok (asked_key t.0.1.key key) (λ found. Ok (t.0.0, found)) cell t.2 in
    subst (λ (c : ℕ × Key). IsSomeAnd (slice_get (map shape tables) c.0) (KeyFits c.1)) (ok_is (t.0.0, k.0) cell k.2)
    (key_there tables t.0.0 t.0.1 k.0 (table_there tables name t.0 t.1) (key_fits t.0.1 key k.0 k.1))

change_fits : (tables : List Table) (r : RecordNode) (c : Change) → asked_change tables r ≡ Ok c → ChangeFits (map shape tables) c
change_fits tables (record_.Put name key ls) c e = put_fits tables name key ls c e
change_fits tables (record_.Delete name key) c e =
    let cell = bind_ok (asked_cell tables name key) (λ cell. Ok (Delete cell.0 cell.1)) c e in
    subst (ChangeFits (map shape tables)) (ok_is (Delete cell.0.0 cell.0.1) c cell.2) (cell_fits tables name key cell.0 cell.1)

changes_fit : (tables : List Table) (rs : List RecordNode) (cs : List Change) → asked_changes tables rs ≡ Ok cs → RecordsFit (map shape tables) cs
unfolding asked_changes
changes_fit tables [] cs e = subst (RecordsFit (map shape tables)) (ok_is [] cs e) tt
changes_fit tables (r ∷ rs) cs e =
    let c = bind_ok (asked_change tables r) (λ change. asked_changes tables rs >>= λ changes. Ok (change ∷ changes)) cs e in
    let more = bind_ok (asked_changes tables rs) (λ changes. Ok (c.0 ∷ changes)) cs c.2 in
    subst (RecordsFit (map shape tables)) (ok_is (c.0 ∷ more.0) cs more.2) (change_fits tables r c.0 c.1, changes_fit tables rs more.0 more.1)

pub asked_fits : (catalogue : CatalogueState) (node : LineNode) (said : Option Request) → asked catalogue node ≡ Ok said → AskedFits catalogue said
asked_fits catalogue line.Empty said e = subst (AskedFits catalogue) (ok_is None said e) tt
asked_fits catalogue (line.Call name ls) said e =
    let call = bind_ok (asked_call catalogue.procs name ls) (λ call. Ok (Some call)) said e in
    subst (AskedFits catalogue) (ok_is (Some call.0) said call.2) (call_fits catalogue name ls call.0 call.1)
asked_fits catalogue (line.AdHoc rs) said e =
    let changes = bind_ok (asked_changes catalogue.tables rs) (λ changes. Ok (Some (request.AdHoc changes))) said e in
    subst (AskedFits catalogue) (ok_is (Some (request.AdHoc changes.0)) said changes.2) (changes_fit catalogue.tables rs changes.0 changes.1)
asked_fits catalogue (line.Show name key) said e =
    let cell = bind_ok (asked_cell catalogue.tables name key) (λ cell. Ok (Some (request.Show cell.0 cell.1))) said e in
    subst (AskedFits catalogue) (ok_is (Some (request.Show cell.0.0 cell.0.1)) said cell.2) (cell_fits catalogue.tables name key cell.0 cell.1)
asked_fits catalogue line.Flush said e = subst (AskedFits catalogue) (ok_is (Some request.Flush) said e) tt
asked_fits catalogue line.Save said e = subst (AskedFits catalogue) (ok_is (Some request.Save) said e) tt
asked_fits catalogue line.Stop said e = subst (AskedFits catalogue) (ok_is (Some request.Stop) said e) tt

pub answer_fits : (catalogue : CatalogueState) (node : LineNode) (result : Result (Option Request) (Refusal LineFault)) → Reports (λ said. said) result (asked catalogue node) → IfOk result (AskedFits catalogue)
answer_fits catalogue node (Ok said) e = asked_fits catalogue node said e
answer_fits catalogue node (Err refusal) e = tt
