-- The values of literals, one after another.
use Rattle.std.proofs.Common.{◌≡◌, true, List, [], ◌∷◌, ◌++◌, length, map, Option, Some, None, Result, Ok, Err, refl, sym, ap, ◌∙◌, append_assoc, subst, ◌<◌, arith}
use Rattle.std.specs.Prelude.{IfOk, IsTrue, ok_or}
use Rattle.std.specs.List.{list_all}
use Rattle.std.proofs.lemmas.List.{append-nil, length-map}
use Rattle.pac_base.specs.Refusals.{Reports, Fails}
use Rattle.pac_base.specs.declared.refusal.Refusal.TheVariants.{Fault, NoMemory}
use Rattle.pac_ops.specs.declared.transaction.Change.{Change}
use Rattle.pac_types.specs.declared.table.Table.{Table}
use Rattle.pac_request.specs.declared.node.RecordNode.{RecordNode}
use Rattle.pac_base.specs.declared.refusal.Refusal.{Refusal}
use Rattle.pac_value.specs.declared.values.Ty.{Ty}
use Rattle.pac_value.specs.declared.values.Ty.TheVariants as ty
use Rattle.pac_value.specs.declared.values.Value.{Value}
use Rattle.pac_value.specs.declared.values.Value.TheVariants as value
use Rattle.pac_value.specs.Values.{type_of, is_stored}
use Rattle.pac_value.specs.Expressions.{◌>>=◌}
use Rattle.pac_types.specs.declared.table.Column.{Column}
use Rattle.pac_types.specs.WellFormed.{types}
use Rattle.pac_request.specs.declared.fault.LineFaultKind.TheVariants.{WrongType}
use Rattle.pac_request.specs.LineKinds.{line_fault}
use Rattle.pac_request.specs.declared.node.PlacedLiteral.{PlacedLiteral}
use Rattle.pac_request.specs.declared.fault.LineFault.{LineFault}
use Rattle.pac_request.specs.RequestMeaning.{value_of, asked_value, asked_values, asked_change, asked_changes}

abbrev Values : Type 0
Values = Result (List Value) LineFault

-- these values before those that follow
abbrev pub preceding : List Value → Values → Values
preceding vs r = r >>= λ ws. Ok (vs ++ ws)

more_preceding : (vs : List Value) (v : Value) (r : Values) → preceding vs (r >>= λ ws. Ok (v ∷ ws)) ≡ preceding (vs ++ (v ∷ [])) r
more_preceding vs v (Ok ws) = ap (λ (x : List Value). ok x) (sym (append_assoc vs (v ∷ []) ws))
  where
    ok : List Value → Values
    ok x = Ok x
more_preceding vs v (Err f) = refl

pub values_on : (vs ws : List Value) (t : Ty) (tys us : List Ty) (l : PlacedLiteral) (ls ks : List PlacedLiteral) (v : Value) (all : Values) → us ≡ t ∷ tys → ks ≡ l ∷ ls → ws ≡ vs ++ (v ∷ []) → Ok v ≡ asked_value t l
    → preceding vs (asked_values us ks) ≡ all → preceding ws (asked_values tys ls) ≡ all
unfolding asked_values
values_on vs ws t tys us l ls ks v all e f g is h =
    let there = rw (e, f, sym is) at h in rw g (sym (more_preceding vs v (asked_values tys ls)) ∙ there)

pub values_fail : (vs : List Value) (t : Ty) (tys us : List Ty) (l : PlacedLiteral) (ls ks : List PlacedLiteral) (fault : LineFault) (all : Values) → us ≡ t ∷ tys → ks ≡ l ∷ ls → Err fault ≡ asked_value t l
    → preceding vs (asked_values us ks) ≡ all → all ≡ Err fault
unfolding asked_values
values_fail vs t tys us l ls ks fault all e f is h =
    let there = rw (e, f, sym is) at h in sym there

pub values_done : (vs : List Value) (r all : Values) → r ≡ Ok [] → preceding vs r ≡ all → all ≡ Ok vs
values_done vs r all e h = sym h ∙ rw e (ap (λ (x : List Value). ok x) (append-nil vs))
  where
    ok : List Value → Values
    ok x = Ok x

-- ---- what is read

pub no_types : (columns : List Column) (ls : List PlacedLiteral) → length columns < 1 → asked_values (types columns) ls ≡ Ok []
unfolding asked_values
no_types [] ls h = refl
no_types (c ∷ cs) ls h = absurd (omega arith)

pub no_literals : (tys : List Ty) (ls : List PlacedLiteral) → length ls < 1 → asked_values tys ls ≡ Ok []
unfolding asked_values
no_literals [] ls h = refl
no_literals (t ∷ tys) [] h = refl
no_literals (t ∷ tys) (l ∷ ls) h = absurd (omega arith)

value_is : (a b : Value) → ◌≡◌ {A = Option Value} (Some a) (Some b) → a ≡ b
value_is a b e = cc

values_are : (a b : List Value) → ◌≡◌ {A = Values} (Ok a) (Ok b) → a ≡ b
values_are a b e = cc

-- a value that is read has its type, and is no bool
record HasType (t : Ty) (v : Value) : Type 0 where
  is : type_of v ≡ t
  stored : is_stored v ≡ true

has_type : (t : Ty) (x v : Value) → value_of t x ≡ Some v → HasType t v
has_type ty.Int (value.Int z) v e = subst (HasType ty.Int) (value_is (value.Int z) v e) (record { is = refl; stored = refl })
has_type ty.Text (value.Text x) v e = subst (HasType ty.Text) (value_is (value.Text x) v e) (record { is = refl; stored = refl })
has_type _ _ v e = absurd cc

pub record HaveAll (tys : List Ty) (vs : List Value) : Type 0 where
  pub are : map type_of vs ≡ tys
  pub stored : list_all is_stored vs ≡ true

pub values_fit : (tys : List Ty) (ls : List PlacedLiteral) (vs : List Value) → length tys ≡ length ls → asked_values tys ls ≡ Ok vs → HaveAll tys vs
unfolding asked_values
values_fit [] ls vs same e = subst (HaveAll []) (values_are [] vs e) (record { are = refl; stored = refl })
values_fit (t ∷ tys) [] vs same e = absurd (omega (arith, same))
values_fit (t ∷ tys) (l ∷ ls) vs same e = by (λ ws is. values_fit tys ls ws (omega (arith, same)) is) (value_of t l.value) refl e
  where
    rest : ((ws : List Value) → asked_values tys ls ≡ Ok ws → HaveAll tys ws) → (v : Value) (r : Values) → asked_values tys ls ≡ r → value_of t l.value ≡ Some v → (r >>= λ ws. Ok (v ∷ ws)) ≡ Ok vs → HaveAll (t ∷ tys) vs
    rest inner v (Err f) is head e = absurd cc
    rest inner v (Ok ws) is head e =
        let h = has_type t l.value v head in
        let more = inner ws is in
        subst (HaveAll (t ∷ tys)) (values_are (v ∷ ws) vs e) (record { are = rw (h.is, more.are) refl; stored = rw (h.stored, more.stored) refl })

    by : ((ws : List Value) → asked_values tys ls ≡ Ok ws → HaveAll tys ws) → (o : Option Value) → value_of t l.value ≡ o → (ok_or o (line_fault WrongType l.at) >>= λ v. asked_values tys ls >>= λ ws. Ok (v ∷ ws)) ≡ Ok vs → HaveAll (t ∷ tys) vs
    by inner None is e = absurd cc
    by inner (Some v) is e = rest inner v (asked_values tys ls) refl is e

pub count_of : {V : Type 0} (view : V → List Value) (columns : List Column) (ls : List PlacedLiteral) (result : Result V (Refusal LineFault)) → length (types columns) ≡ length ls → Reports view result (asked_values (types columns) ls)
    → IfOk result (λ values. length (view values) ≡ length columns)
count_of view columns ls (Ok values) same e = let all = values_fit (types columns) ls (view values) same e in
    sym (length-map (view values) type_of) ∙ ap (λ (x : List Ty). length x) all.are ∙ length-map columns (λ column. column.ty)
count_of view columns ls (Err refusal) same e = tt

pub stored_of : {V : Type 0} (view : V → List Value) (columns : List Column) (ls : List PlacedLiteral) (result : Result V (Refusal LineFault)) → length (types columns) ≡ length ls → Reports view result (asked_values (types columns) ls)
    → IfOk result (λ values. IsTrue (list_all is_stored (view values)))
stored_of view columns ls (Ok values) same e = (values_fit (types columns) ls (view values) same e).stored
stored_of view columns ls (Err refusal) same e = tt

-- ---- records

abbrev Changes : Type 0
Changes = Result (List Change) LineFault

-- these changes before those that follow
abbrev pub changes_before : List Change → Changes → Changes
changes_before cs r = r >>= λ ds. Ok (cs ++ ds)

abbrev changed : List Change → Changes
changed x = Ok x

more_changes : (cs : List Change) (c : Change) (r : Changes) → changes_before cs (r >>= λ ds. Ok (c ∷ ds)) ≡ changes_before (cs ++ (c ∷ [])) r
more_changes cs c (Ok ds) = ap changed (sym (append_assoc cs (c ∷ []) ds))
more_changes cs c (Err f) = refl

pub changes_on : (tables : List Table) (cs ds : List Change) (r : RecordNode) (rs all_rs : List RecordNode) (c : Change) (all : Changes) → all_rs ≡ r ∷ rs → ds ≡ cs ++ (c ∷ []) → asked_change tables r ≡ Ok c
    → changes_before cs (asked_changes tables all_rs) ≡ all → changes_before ds (asked_changes tables rs) ≡ all
unfolding asked_changes
changes_on tables cs ds r rs all_rs c all e g is h =
    let there = rw (e, is) at h in rw g (sym (more_changes cs c (asked_changes tables rs)) ∙ there)

pub changes_fail : (tables : List Table) (cs : List Change) (r : RecordNode) (rs all_rs : List RecordNode) (refusal : Refusal LineFault) (all : Changes) → all_rs ≡ r ∷ rs → Fails refusal (asked_change tables r)
    → changes_before cs (asked_changes tables all_rs) ≡ all → Fails refusal all
unfolding asked_changes
changes_fail tables cs r rs all_rs NoMemory all e is h = tt
changes_fail tables cs r rs all_rs (Fault fault) all e is h =
    let there = rw (e, is) at h in sym there

pub changes_done : (tables : List Table) (cs : List Change) (rs : List RecordNode) (all : Changes) → rs ≡ [] → changes_before cs (asked_changes tables rs) ≡ all → all ≡ Ok cs
unfolding asked_changes
changes_done tables cs rs all e h =
    let there = rw e at h in sym there ∙ ap changed (append-nil cs)
