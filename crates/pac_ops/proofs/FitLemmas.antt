-- An operation that finds what it uses keeps rows fitting and variables typed.
use Rattle.pac_base.proofs.ItemLemmas.{mapped_some}
use Rattle.std.proofs.Common.{◌≡◌, ℕ, zero, suc, ◌==◌, Bool, true, false, cond, List, [], ◌∷◌, map, length, refl, sym, ap, ◌∙◌, subst, Option, Some, None, Result, Ok, Err, unwrap_or}
use Rattle.std.specs.Prelude.{slice_get, slice_set, IsSomeAnd, IsTrue}
use Rattle.std.specs.Option.{option_map, option_and_then}
use Rattle.std.specs.Ordering.{eq_by_cmp}
use Rattle.std.specs.FinMap.{get}
use Rattle.std.proofs.lemmas.List.{map-set}
use Rattle.std.proofs.lemmas.Option.{slice_get-map, same_Some}
use Rattle.pac_value.specs.declared.values.Ty.{Ty}
use Rattle.pac_value.specs.declared.values.Ty.TheVariants.{Int as IntTy, Text as TextTy, Bool as BoolTy}
use Rattle.pac_value.specs.declared.values.Value.{Value}
use Rattle.pac_value.specs.declared.values.Value.TheVariants.{Int, Text, Bool as Truth}
use Rattle.pac_value.specs.declared.expr.Expr.{Expr}
use Rattle.pac_value.specs.declared.expr.Trap.{Trap}
use Rattle.pac_value.specs.Values.{type_of, key_value, as_key}
use Rattle.pac_value.specs.Expressions.{Values, value, type_in, ◌>>=◌}
use Rattle.pac_value.specs.Scopes.{is_bool, is_wanted, are_wanted, is_width}
use Rattle.pac_value.specs.State.{Cell, cell_cmp, RowValues}
use Rattle.pac_value.proofs.CellLemmas.{tied_same}
use Rattle.pac_ops.specs.declared.reason.Reason.{Reason}
use Rattle.pac_ops.specs.declared.shapes.TableTypes.{TableTypes}
use Rattle.pac_ops.specs.declared.program.FlatOp.{FlatOp}
use Rattle.pac_ops.specs.declared.program.OpKind.{OpKind}
use Rattle.pac_ops.specs.declared.program.OpKind.TheVariants.{Let, Cond, Read, Has, Put, SetCol, Delete, AbortIf}
use Rattle.pac_ops.specs.Reasons.{or_abort}
use Rattle.pac_ops.specs.Shapes.{KeyFits, ColumnsFit, RowFits}
use Rattle.pac_ops.specs.Programs.{key_type_in, row_type_in, column_type_in, IsRowWanted, IsWellTyped, given_type, scope_in}
use Rattle.pac_ops.specs.Uses.{expr_uses, exprs_use, conds_use, kind_uses, defined_variable}
use Rattle.pac_ops.specs.Operations.{State, touched, Effect, Nothing, Gives, Leaves, values, column_or, replaced, unless_asked, effect, row_at}
use Rattle.pac_ops.specs.Flat.{all_hold, default_of, flat_done}
use Rattle.pac_ops.specs.Effects.{cell_in, flat_cell, RowChange, Same, Now, FlatEffect, nothing, default_in, done_effect, effect_or_default, kind_effect, flat_effect, given, changed}
use Rattle.pac_ops.specs.StaysFit.{HasTyped, IsFit, FindsUses}
use Rattle.pac_base.proofs.TestLemmas.{or_left, or_right, same_number}
use Rattle.pac_ops.proofs.EffectLemmas.{form}
use Rattle.pac_ops.proofs.StateLemmas.{row_now, get-changed, value_now, get-given}
use Rattle.pac_ops.proofs.TypeLemmas.{Typed, value-typed, RowTyped, values-typed, wanted_is}

some_one : {A : Type 0} (o : Option A) (P : A → Type 0) → IsSomeAnd o P → (x : A) × (o ≡ Some x) × P x
some_one None P h = absurd h
some_one (Some x) P h = (x, refl, h)

set-same : {A : Type 0} (xs : List A) (i : ℕ) (x : A) → slice_get xs i ≡ Some x → slice_set xs i x ≡ xs
set-same [] i x h = refl
set-same (y ∷ ys) zero x h = let e : y ≡ x = cc in ap (λ z. z ∷ ys) (sym e)
set-same (y ∷ ys) (suc i) x h = ap (λ zs. y ∷ zs) (set-same ys i x h)

key_kept : (v : Value) → (type_of v ≡ BoolTy → ⊥) → key_value (as_key v) ≡ v
key_kept (Int n) h = refl
key_kept (Text t) h = refl
key_kept (Truth b) h = absurd (h refl)

default_typed : (ty : Ty) → type_of (default_of ty) ≡ ty
default_typed IntTy = refl
default_typed TextTy = refl
default_typed BoolTy = refl

bool_is : (o : Option Ty) → is_bool o ≡ true → o ≡ Some BoolTy
bool_is (Some BoolTy) h = refl
bool_is (Some IntTy) h = absurd cc
bool_is (Some TextTy) h = absurd cc
bool_is None h = absurd cc

module _ (tables : List TableTypes) (vars : List Ty) where
  -- a done effect gives a value of the variable's type, or leaves a row that fits
  abbrev pub EffectOk : Option Cell → Effect → Type 0
  EffectOk cell Nothing = Unit {0}
  EffectOk cell (Gives x v) = slice_get vars x ≡ Some (type_of v)
  EffectOk cell (Leaves None) = Unit {0}
  EffectOk cell (Leaves (Some row)) = (a : Cell) → cell ≡ Some a → RowFits tables a row

  abbrev pub ResultOk : Option Cell → Result Effect Reason → Type 0
  ResultOk cell (Ok e) = EffectOk cell e
  ResultOk cell (Err reason) = Unit {0}

  -- the columns of a table whose column wants a value
  column_of : (t c : ℕ) (types : TableTypes) → slice_get tables t ≡ Some types → column_type_in tables t c ≡ slice_get types.columns c
  column_of t c types at = ap (λ (o : Option TableTypes). option_and_then (λ columns. slice_get columns c) (option_map (λ table. table.columns) o)) at

  module _ (env : Values) (row : Option RowValues) where
    abbrev pub RowFitsAt : Option Cell → Type 0
    RowFitsAt cell = (a : Cell) → cell ≡ Some a → (r : RowValues) → row ≡ Some r → RowFits tables a r

    abbrev pub GivesTyped : OpKind → Type 0
    GivesTyped kind = (x : ℕ) → defined_variable kind ≡ Some x → IsSomeAnd (slice_get vars x) (λ ty. given_type (scope_in vars) kind ≡ Some ty)

    given_by : (kind : OpKind) → GivesTyped kind → (x : ℕ) → defined_variable kind ≡ Some x → (ty : Ty) × (slice_get vars x ≡ Some ty) × (given_type (scope_in vars) kind ≡ Some ty)
    given_by kind gives x d = some_one (slice_get vars x) (λ ty. given_type (scope_in vars) kind ≡ Some ty) (gives x d)

    -- the cell at a key's value
    cell_is : (t : ℕ) (v : Value) (cell : Option Cell) → ◌≡◌ {A = Result (Option Cell) Trap} (Ok (Some (t, as_key v))) (Ok cell) → cell ≡ Some (t, as_key v)
    cell_is t v cell e = cc

    at_is : (t : ℕ) (v : Value) (cell : Option Cell) (a : Cell) → cell ≡ Some (t, as_key v) → cell ≡ Some a → a ≡ (t, as_key v)
    at_is t v cell a e f = same_Some a (t, as_key v) (sym f ∙ e)

    give : (x : ℕ) (ty : Ty) (r : Result Value Trap) (cell : Option Cell) → slice_get vars x ≡ Some ty → Typed ty r → ResultOk cell (or_abort r >>= λ v. Ok (Gives x v))
    give x ty (Ok v) cell at h = at ∙ ap (λ t. Some t) (sym h)
    give x ty (Err trap) cell at h = tt

    read_typed : (t c : ℕ) (d v : Value) (r : RowValues) → RowFits tables (t, as_key v) r → is_wanted (Some (type_of d)) (column_type_in tables t c) ≡ true → type_of (unwrap_or (slice_get r c) d) ≡ type_of d
    read_typed t c d v r fits wanted =
        let table = some_one (slice_get tables t) (λ types. KeyFits (as_key v) types × ColumnsFit r types) fits in
        let column = wanted_is (Some (type_of d)) (column_type_in tables t c) wanted in
        go (slice_get r c) (sym (slice_get-map type_of r c) ∙ ap (λ tys. slice_get tys c) table.2.1 ∙ sym (column_of t c table.0 table.1) ∙ column.2 ∙ sym column.1)
      where
        go : (o : Option Value) → option_map type_of o ≡ Some (type_of d) → type_of (unwrap_or o d) ≡ type_of d
        go None e = refl
        go (Some w) e = same_Some (type_of w) (type_of d) e

    column_read : (t c : ℕ) (d : Value) (r : Result Value Trap) (cell : Option Cell) → (r >>= λ v. Ok (Some (t, as_key v))) ≡ Ok cell → RowFitsAt cell
        → is_wanted (Some (type_of d)) (column_type_in tables t c) ≡ true → type_of (column_or row c d) ≡ type_of d
    column_read t c d (Err trap) cell at fits wanted = absurd cc
    column_read t c d (Ok v) cell at fits wanted = go row refl
      where
        go : (o : Option RowValues) → row ≡ o → type_of (column_or o c d) ≡ type_of d
        go None e = refl
        go (Some r) e = read_typed t c d v r (fits (t, as_key v) (cell_is t v cell at) r e) wanted

    -- a key of the type that a table wants fits it
    key_fits : (t : ℕ) (v : Value) (o : Option Ty) (types : TableTypes) → slice_get tables t ≡ Some types → is_wanted o (key_type_in tables t) ≡ true → ((ty : Ty) → o ≡ Some ty → type_of v ≡ ty) → KeyFits (as_key v) types
    key_fits t v o types at wanted typed =
        let w = wanted_is o (key_type_in tables t) wanted in
        let same : type_of v ≡ w.0 = typed w.0 w.1 in
        let key : types.key ≡ w.0 = same_Some types.key w.0 (sym (ap (λ (p : Option TableTypes). option_map (λ table. table.key) p) at) ∙ w.2) in
        key ∙ sym same ∙ ap type_of (sym (key_kept v (λ e. w.3 (sym same ∙ e))))

    put_fits : (t : ℕ) (k : Expr) (es : List Expr) → is_wanted (type_in (scope_in vars) k) (key_type_in tables t) ≡ true → IsRowWanted (map (type_in (scope_in vars)) es) (row_type_in tables t)
        → (r : Result Value Trap) → value k env ≡ r → ((ty : Ty) → type_in (scope_in vars) k ≡ Some ty → Typed ty r)
        → (rs : Result RowValues Trap) → ((tys : List Ty) → are_wanted (map (type_in (scope_in vars)) es) tys ≡ true → RowTyped vars env tys rs)
        → (cell : Option Cell) → (r >>= λ v. Ok (Some (t, as_key v))) ≡ Ok cell → ResultOk cell (or_abort rs >>= λ vs. Ok (Leaves (Some vs)))
    put_fits t k es wanted rows (Err trap) is typed rs typeds cell at = absurd cc
    put_fits t k es wanted rows (Ok v) is typed (Err trap) typeds cell at = tt
    put_fits t k es wanted rows (Ok v) is typed (Ok vs) typeds cell at = λ a here. subst (λ (c : Cell). RowFits tables c vs) (sym (at_is t v cell a (cell_is t v cell at) here)) fits
      where
        table : (types : TableTypes) × (slice_get tables t ≡ Some types)
        table = let m = mapped_some (λ (table : TableTypes). table.key) (slice_get tables t) _ (wanted_is (type_in (scope_in vars) k) (key_type_in tables t) wanted).2 in (m.0, m.1)

        columns : map type_of vs ≡ table.0.columns
        columns =
            let r = some_one (row_type_in tables t) (λ types. IsTrue (is_width (length (map (type_in (scope_in vars)) es))) × IsTrue (are_wanted (map (type_in (scope_in vars)) es) types)) rows in
            typeds r.0 r.2.1 ∙ same_Some r.0 table.0.columns (sym r.1 ∙ ap (λ (o : Option TableTypes). option_map (λ table. table.columns) o) table.1)

        fits : RowFits tables (t, as_key v) vs
        fits = subst (λ (o : Option TableTypes). IsSomeAnd o (λ types. KeyFits (as_key v) types × ColumnsFit vs types)) (sym table.1)
            (key_fits t v (type_in (scope_in vars) k) table.0 table.1 wanted (λ ty e. typed ty e), columns)

    set_fits : (t c : ℕ) (e : Expr) → is_wanted (type_in (scope_in vars) e) (column_type_in tables t c) ≡ true
        → (r : Result Value Trap) (cell : Option Cell) → (r >>= λ v. Ok (Some (t, as_key v))) ≡ Ok cell → RowFitsAt cell
        → (w : Result Value Trap) → ((ty : Ty) → type_in (scope_in vars) e ≡ Some ty → Typed ty w)
        → ResultOk cell (or_abort w >>= λ v. replaced row c v >>= λ vs. Ok (Leaves (Some vs)))
    set_fits t c e wanted (Err trap) cell at fits w typed = absurd cc
    set_fits t c e wanted (Ok v) cell at fits (Err trap) typed = tt
    set_fits t c e wanted (Ok v) cell at fits (Ok u) typed = go row refl
      where
        go : (o : Option RowValues) → row ≡ o → ResultOk cell (replaced o c u >>= λ vs. Ok (Leaves (Some vs)))
        go None is = tt
        go (Some r) is = λ a here. subst (λ (c' : Cell). RowFits tables c' (slice_set r c u)) (sym (at_is t v cell a (cell_is t v cell at) here))
            (let old = some_one (slice_get tables t) (λ types. KeyFits (as_key v) types × ColumnsFit r types) (fits (t, as_key v) (cell_is t v cell at) r is) in
            let column = wanted_is (type_in (scope_in vars) e) (column_type_in tables t c) wanted in
            let same : type_of u ≡ column.0 = typed column.0 column.1 in
            let there : slice_get old.0.columns c ≡ Some (type_of u) = sym (column_of t c old.0 old.1) ∙ column.2 ∙ ap (λ ty. Some ty) (sym same) in
            let columns : map type_of (slice_set r c u) ≡ old.0.columns = map-set type_of r c u ∙ ap (λ tys. slice_set tys c (type_of u)) old.2.1 ∙ set-same old.0.columns c (type_of u) there in
            subst (λ (o : Option TableTypes). IsSomeAnd o (λ types. KeyFits (as_key v) types × ColumnsFit (slice_set r c u) types)) (sym old.1) (old.2.0, columns))

    asked_ok : (cell : Option Cell) (v : Value) → ResultOk cell (unless_asked v)
    asked_ok cell (Truth true) = tt
    asked_ok cell (Truth false) = tt
    asked_ok cell (Int n) = tt
    asked_ok cell (Text t) = tt

    effect_ok : (kind : OpKind) → IsWellTyped tables (scope_in vars) kind → GivesTyped kind → ((x : ℕ) → kind_uses x kind ≡ true → HasTyped vars env x)
        → (cell : Option Cell) → touched kind env ≡ Ok cell → RowFitsAt cell → ResultOk cell (effect kind env row)
    effect_ok (Let x e) typed gives has cell at fits =
        let g = given_by (Let x e) gives x refl in give x g.0 (value e env) cell g.1 (value-typed vars env e has g.0 g.2)
    effect_ok (Cond x e) typed gives has cell at fits =
        let g = given_by (Cond x e) gives x refl in
        give x g.0 (value e env) cell g.1 (subst (λ ty. Typed ty (value e env)) (same_Some BoolTy g.0 g.2) (value-typed vars env e has BoolTy (bool_is (type_in (scope_in vars) e) typed)))
    effect_ok (Read x t k c d) typed gives has cell at fits =
        let g = given_by (Read x t k c d) gives x refl in
        g.1 ∙ sym g.2 ∙ ap (λ ty. Some ty) (sym (column_read t c d (value k env) cell at fits typed.1))
    effect_ok (Has x t k) typed gives has cell at fits = let g = given_by (Has x t k) gives x refl in g.1 ∙ sym g.2
    effect_ok (Put t k es) typed gives has cell at fits =
        put_fits t k es typed.0 typed.1 (value k env) refl (λ ty e. value-typed vars env k (λ x u. has x (or_left (expr_uses x k) (exprs_use x es) u)) ty e)
        (values es env) (λ tys w. values-typed vars env es (λ x u. has x (or_right (expr_uses x k) (exprs_use x es) u)) tys w) cell at
    effect_ok (SetCol t k c e) typed gives has cell at fits =
        set_fits t c e typed.1 (value k env) cell at fits (value e env) (λ ty h. value-typed vars env e (λ x u. has x (or_right (expr_uses x k) (expr_uses x e) u)) ty h)
    effect_ok (Delete t k) typed gives has cell at fits = tt
    effect_ok (AbortIf e) typed gives has cell at fits = go (value e env)
      where
        go : (r : Result Value Trap) → ResultOk cell (or_abort r >>= λ v. unless_asked v)
        go (Ok v) = asked_ok cell v
        go (Err trap) = tt

  -- ---- the effect of a flat operation

  pub record EffectFits (cell : Option Cell) (e : FlatEffect) : Type 0 where
    pub gives : (g : ℕ × Value) → e.gives ≡ Some g → slice_get vars g.0 ≡ Some (type_of g.1)
    pub leaves : (a : Cell) (row : RowValues) → cell ≡ Some a → e.change ≡ Now (Some row) → RowFits tables a row

  no_change : {A : Type 0} (n : Option RowValues) → Same ≡ Now n → A
  no_change n e = absurd cc

  no_gift : {A : Type 0} (g : ℕ × Value) → ◌≡◌ {A = Option (ℕ × Value)} None (Some g) → A
  no_gift g e = absurd cc

  nothing_fits : (cell : Option Cell) → EffectFits cell nothing
  nothing_fits cell = record { gives = λ g e. no_gift g e; leaves = λ a row at e. no_change (Some row) e }

  now_is : (r : Option RowValues) (row : RowValues) → Now r ≡ Now (Some row) → r ≡ Some row
  now_is r row e = cc

  done_fits : (cell : Option Cell) (e : Effect) → EffectOk cell e → EffectFits cell (done_effect e)
  done_fits cell Nothing ok = nothing_fits cell
  done_fits cell (Gives x v) ok = record { gives = λ g e. subst (λ (h : ℕ × Value). slice_get vars h.0 ≡ Some (type_of h.1)) (same_Some (x, v) g e) ok; leaves = λ a row at e. no_change (Some row) e }
  done_fits cell (Leaves None) ok = record { gives = λ g e. no_gift g e; leaves = λ a row at e. (let wrong : None ≡ Some row = now_is None row e in absurd cc) }
  done_fits cell (Leaves (Some r)) ok = record { gives = λ g e. no_gift g e; leaves = λ a row at e. subst (RowFits tables a) (same_Some r row (now_is (Some r) row e)) (ok a at) }

  default_fits : (o : Option ℕ) (cell : Option Cell) (reason : Reason) → EffectFits cell (record { gives = default_in vars o; change = Same; reason = Some reason })
  default_fits None cell reason = record { gives = λ g e. no_gift g e; leaves = λ a row at e. no_change (Some row) e }
  default_fits (Some x) cell reason = record { gives = λ g e. go (slice_get vars x) refl g e; leaves = λ a row at e. no_change (Some row) e }
    where
      go : (o : Option Ty) → slice_get vars x ≡ o → (g : ℕ × Value) → option_map (λ ty. (x, default_of ty)) o ≡ Some g → slice_get vars g.0 ≡ Some (type_of g.1)
      go None at g e = no_gift g e
      go (Some ty) at g e = subst (λ (h : ℕ × Value). slice_get vars h.0 ≡ Some (type_of h.1)) (same_Some (x, default_of ty) g e) (at ∙ ap (λ t. Some t) (sym (default_typed ty)))

  settled_fits : (o : Option ℕ) (cell : Option Cell) (r : Result Effect Reason) → ResultOk cell r → EffectFits cell (effect_or_default vars o r)
  settled_fits o cell (Ok e) ok = done_fits cell e ok
  settled_fits o cell (Err reason) ok = default_fits o cell reason

  pub effect_fits : (op : FlatOp) (env : Values) (row : Option RowValues) → IsWellTyped tables (scope_in vars) op.kind → GivesTyped env row op.kind → FindsUses vars op env
      → RowFitsAt env row (flat_cell op env) → EffectFits (flat_cell op env) (flat_effect vars op env row)
  effect_fits op env row typed gives has fits = go (all_hold env op.conds) refl
    where
      kind : (r : Result (Option Cell) Trap) → touched op.kind env ≡ r → all_hold env op.conds ≡ true → RowFitsAt env row (cell_in r)
          → EffectFits (cell_in r) (effect_or_default vars (defined_variable op.kind) (or_abort r >>= λ cell. effect op.kind env row))
      kind (Ok cell) at held fits = settled_fits (defined_variable op.kind) cell (effect op.kind env row)
          (effect_ok env row op.kind typed gives (λ x u. has held x (or_right (conds_use x op.conds) (kind_uses x op.kind) u)) cell at fits)
      kind (Err trap) at held fits = default_fits (defined_variable op.kind) None _

      go : (b : Bool) → all_hold env op.conds ≡ b → EffectFits (cond b (cell_in (touched op.kind env)) None) (cond b (kind_effect vars op.kind env row) nothing)
      go true e = kind (touched op.kind env) refl e (λ a at. fits a (ap (λ b. cond b (cell_in (touched op.kind env)) None) e ∙ at))
      go false e = nothing_fits None

  -- an operation that finds what it uses keeps the state fit
  pub op_fit : (op : FlatOp) (s : State) → IsWellTyped tables (scope_in vars) op.kind
      → ((x : ℕ) → defined_variable op.kind ≡ Some x → IsSomeAnd (slice_get vars x) (λ ty. given_type (scope_in vars) op.kind ≡ Some ty))
      → FindsUses vars op s.env → IsFit tables vars s → IsFit tables vars (flat_done vars op s)
  op_fit op s typed gives has fit = subst (IsFit tables vars) (sym (form vars op s)) (record { rows = rows; types = types })
    where
      row_here : (o : Option Cell) (a : Cell) → o ≡ Some a → (r : RowValues) → row_at s.tables o ≡ Some r → RowFits tables a r
      row_here o a at r h = fit.rows a r (ap (row_at s.tables) (sym at) ∙ h)

      made : EffectFits (flat_cell op s.env) (flat_effect vars op s.env (row_at s.tables (flat_cell op s.env)))
      made = effect_fits op s.env (row_at s.tables (flat_cell op s.env)) typed gives has (row_here (flat_cell op s.env))

      rows : (q : Cell) (r : RowValues) → get (changed (flat_cell op s.env) (flat_effect vars op s.env (row_at s.tables (flat_cell op s.env))).change s.tables) q ≡ Some r → RowFits tables q r
      rows q r h = go (flat_cell op s.env) refl (flat_effect vars op s.env (row_at s.tables (flat_cell op s.env))).change refl (sym (get-changed (flat_cell op s.env) (flat_effect vars op s.env (row_at s.tables (flat_cell op s.env))).change s.tables q) ∙ h)
        where
          go : (c : Option Cell) → flat_cell op s.env ≡ c → (ch : RowChange) → (flat_effect vars op s.env (row_at s.tables (flat_cell op s.env))).change ≡ ch → row_now c ch (get s.tables q) q ≡ Some r → RowFits tables q r
          go None at ch is h = fit.rows q r h
          go (Some a) at Same is h = fit.rows q r h
          go (Some a) at (Now new) is h = pick (eq_by_cmp cell_cmp q a) refl h
            where
              pick : (b : Bool) → eq_by_cmp cell_cmp q a ≡ b → cond b new (get s.tables q) ≡ Some r → RowFits tables q r
              pick true t h = subst (λ (c : Cell). RowFits tables c r) (sym (tied_same q a t)) (made.leaves a r at (is ∙ ap (λ n. Now n) h))
              pick false t h = fit.rows q r h

      types : (x : ℕ) (v : Value) → get (given (flat_effect vars op s.env (row_at s.tables (flat_cell op s.env))).gives s.env) x ≡ Some v → slice_get vars x ≡ Some (type_of v)
      types x v h = go (flat_effect vars op s.env (row_at s.tables (flat_cell op s.env))).gives refl (sym (get-given (flat_effect vars op s.env (row_at s.tables (flat_cell op s.env))).gives s.env x) ∙ h)
        where
          go : (g : Option (ℕ × Value)) → (flat_effect vars op s.env (row_at s.tables (flat_cell op s.env))).gives ≡ g → value_now g (get s.env x) x ≡ Some v → slice_get vars x ≡ Some (type_of v)
          go None is h = fit.types x v h
          go (Some g) is h = pick (x == g.0) refl h
            where
              pick : (b : Bool) → (x == g.0) ≡ b → cond b (Some g.1) (get s.env x) ≡ Some v → slice_get vars x ≡ Some (type_of v)
              pick true t h = ap (slice_get vars) (same_number x g.0 t) ∙ made.gives g is ∙ ap (λ w. Some (type_of w)) (same_Some g.1 v h)
              pick false t h = fit.types x v h
