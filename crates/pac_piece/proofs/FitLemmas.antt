-- Operations of a plan that find what they use can be executed, and mean what they mean in the plan.
use Rattle.std.proofs.Common.{◌≡◌, ℕ, true, cond, List, [], ◌∷◌, ◌++◌, map, Option, Some, None, IsSome, IsTrue, Result, Ok, Err, refl, sym, ap, ◌∙◌, subst}
use Rattle.std.specs.Prelude.{slice_get}
use Rattle.std.specs.List.{AllByRecursion}
use Rattle.std.specs.Option.{option_map}
use Rattle.std.proofs.lemmas.Option.{same_Some}
use Rattle.std.proofs.lemmas.List.{length-map}
use Rattle.pac_value.specs.declared.values.Ty.{Ty}
use Rattle.pac_value.specs.declared.values.Value.{Value}
use Rattle.pac_value.specs.declared.expr.Expr.{Expr}
use Rattle.pac_value.specs.declared.expr.Trap.{Trap}
use Rattle.pac_value.specs.Expressions.{Values, type_in, types_of, ◌>>=◌}
use Rattle.pac_value.specs.Scopes.{is_bool, is_wanted, are_wanted, is_width}
use Rattle.pac_value.specs.State.{Cell, RowValues}
use Rattle.pac_ops.specs.declared.reason.Reason.{Reason}
use Rattle.pac_ops.specs.declared.shapes.TableTypes.{TableTypes}
use Rattle.pac_ops.specs.declared.program.OpKind.{OpKind}
use Rattle.pac_ops.specs.declared.program.OpKind.TheVariants.{Let, Cond, Read, Has, Put, SetCol, Delete, AbortIf}
use Rattle.pac_ops.specs.Reasons.{or_abort}
use Rattle.pac_ops.specs.Programs.{IsWellTyped, IsRowWanted, scope_in, key_type_in, row_type_in, column_type_in}
use Rattle.pac_ops.specs.Uses.{expr_uses, exprs_use, kind_uses, conds_use, defined_variable}
use Rattle.pac_ops.specs.Notes.{note_at}
use Rattle.pac_ops.specs.Operations.{State, Effect, touched, effect, row_at, with_effect, define, done}
use Rattle.pac_ops.specs.Flat.{all_hold, default_of, given_default, with_default, done_or_default, flat_done, flat_reason}
use Rattle.pac_ops.specs.Defaults.{trapped_type}
use Rattle.pac_ops.specs.Effects.{NumberedOp, default_in, numbered_meaning, numbered_notes}
use Rattle.pac_ops.specs.StaysFit.{HasTyped, StaysFitAt}
use Rattle.pac_ops.proofs.DefaultLemmas.{defaults_by_kind}
use Rattle.pac_ops.proofs.StayLemmas.{Typable}
use Rattle.pac_ops.proofs.TypeLemmas.{wanted_is}
use Rattle.pac_ops.proofs.TypedOver.{typed_over}
use Rattle.pac_base.specs.Members.{Each}
use Rattle.pac_base.proofs.TestLemmas.{or_left, or_right, and_left, and_right}
use Rattle.pac_piece.specs.Effects.{CanDo}
use Rattle.pac_plan.specs.Codes.{IsStoredTyped}
use Rattle.pac_piece.specs.Frames.{defaulted, done_or_defaulted, after_op, after_ops, notes_after, CanRun}

-- ---- what an operation needs

bool_some : (o : Option Ty) → is_bool o ≡ true → IsSome o
bool_some None h = cc
bool_some (Some ty) h = refl

module _ (vars : List Ty) (env : Values) where
  some_over : (e : Expr) → ((x : ℕ) → expr_uses x e ≡ true → HasTyped vars env x) → IsSome (type_in (scope_in vars) e) → IsSome (type_in (types_of env) e)
  some_over e f h = subst (λ t. IsSome t) (sym (typed_over vars env e f)) h

  stored_over : (e : Expr) (want : Option Ty) → ((x : ℕ) → expr_uses x e ≡ true → HasTyped vars env x) → is_wanted (type_in (scope_in vars) e) want ≡ true → IsStoredTyped env e
  stored_over e want f h =
      let w = wanted_is (type_in (scope_in vars) e) want h in
      let over : type_in (types_of env) e ≡ type_in (scope_in vars) e = typed_over vars env e f in
      (subst (λ t. IsSome t) (sym (over ∙ w.1)) refl, λ b. w.3 (same_Some _ _ (sym (over ∙ w.1) ∙ b)))

  all_stored : (es : List Expr) (types : List Ty) → ((x : ℕ) → exprs_use x es ≡ true → HasTyped vars env x) → are_wanted (map (type_in (scope_in vars)) es) types ≡ true → AllByRecursion (IsStoredTyped env) es
  all_stored [] types f h = tt
  all_stored (e ∷ es) [] f h = cc
  all_stored (e ∷ es) (ty ∷ types) f h = (
    stored_over e (Some ty) (λ x u. f x (or_left (expr_uses x e) (exprs_use x es) u)) (and_left (is_wanted (type_in (scope_in vars) e) (Some ty)) (are_wanted (map (type_in (scope_in vars)) es) types) h),
    all_stored es types (λ x u. f x (or_right (expr_uses x e) (exprs_use x es) u)) (and_right (is_wanted (type_in (scope_in vars) e) (Some ty)) (are_wanted (map (type_in (scope_in vars)) es) types) h),
  )

  module _ (tables : List TableTypes) where
    can_do : (kind : OpKind) → IsWellTyped tables (scope_in vars) kind → ((x : ℕ) → kind_uses x kind ≡ true → HasTyped vars env x) → CanDo env kind
    can_do (Let x e) w f = some_over e f w
    can_do (Cond x e) w f = some_over e f (bool_some _ w)
    can_do (Read x t k c d) w f = stored_over k (key_type_in tables t) f w.0
    can_do (Has x t k) w f = stored_over k (key_type_in tables t) f w
    can_do (Put t k es) w f = go (row_type_in tables t) w.1
      where
        go : (o : Option (List Ty)) → IsRowWanted (map (type_in (scope_in vars)) es) o → CanDo env (Put t k es)
        go None h = absurd h
        go (Some types) h = (
          stored_over k (key_type_in tables t) (λ x u. f x (or_left (expr_uses x k) (exprs_use x es) u)) w.0,
          subst (λ n. IsTrue (is_width n)) (length-map es (type_in (scope_in vars))) h.0,
          all_stored es types (λ x u. f x (or_right (expr_uses x k) (exprs_use x es) u)) h.1,
        )
    can_do (SetCol t k c e) w f = (
      stored_over k (key_type_in tables t) (λ x u. f x (or_left (expr_uses x k) (expr_uses x e) u)) w.0,
      stored_over e (column_type_in tables t c) (λ x u. f x (or_right (expr_uses x k) (expr_uses x e) u)) w.1,
    )
    can_do (Delete t k) w f = stored_over k (key_type_in tables t) f w
    can_do (AbortIf e) w f = some_over e f (bool_some _ w)

-- ---- the default of one that aborts

-- why an operation aborts is in its cell or in its effect
aborts_at : (kind : OpKind) (s : State) (reason : Reason) → done kind s ≡ Err reason → (row : Option RowValues) × ((or_abort (touched kind s.env) >>= λ cell. effect kind s.env row) ≡ Err reason)
aborts_at kind s reason h = go (touched kind s.env) h
  where
    then_err : (cell : Option Cell) (r : Result Effect Reason) → (r >>= λ e. Ok (with_effect cell e s)) ≡ Err reason → r ≡ Err reason
    then_err cell (Ok e) k = cc
    then_err cell (Err other) k = cc

    go : (r : Result (Option Cell) Trap) → (or_abort r >>= λ cell. effect kind s.env (row_at s.tables cell) >>= λ e. Ok (with_effect cell e s)) ≡ Err reason
        → (row : Option RowValues) × ((or_abort r >>= λ cell. effect kind s.env row) ≡ Err reason)
    go (Ok cell) k = (row_at s.tables cell, then_err cell _ k)
    go (Err trap) k = (None, cc)

module _ (tables : List TableTypes) (vars : List Ty) where
  same_default : (kind : OpKind) (s : State) → default_in vars (defined_variable kind) ≡ option_map {U = ℕ × Value} (λ x. (x, default_of (trapped_type kind))) (defined_variable kind)
      → defaulted (defined_variable kind) (trapped_type kind) s ≡ with_default vars (defined_variable kind) s
  same_default kind s e = go (defined_variable kind) e
    where
      typed : (x : ℕ) (o : Option Ty) → option_map {U = ℕ × Value} (λ ty. (x, default_of ty)) o ≡ Some (x, default_of (trapped_type kind)) → define x (default_of (trapped_type kind)) s ≡ given_default x o s
      typed x None k = cc
      typed x (Some ty) k = let same : default_of ty ≡ default_of (trapped_type kind) = ap (λ (p : ℕ × Value). p.1) (same_Some (x, default_of ty) (x, default_of (trapped_type kind)) k) in ap (λ v. define x v s) (sym same)

      go : (o : Option ℕ) → default_in vars o ≡ option_map {U = ℕ × Value} (λ x. (x, default_of (trapped_type kind))) o → defaulted o (trapped_type kind) s ≡ with_default vars o s
      go None k = refl
      go (Some x) k = typed x (slice_get vars x) k

  pub same_op : (o : NumberedOp) (s : State) → Typable tables vars o → after_op o.1 s ≡ flat_done vars o.1 s
  same_op o s typable = ap (λ t. cond (all_hold s.env o.1.conds) t s) (go (done o.1.kind s) refl)
    where
      go : (r : Result State Reason) → done o.1.kind s ≡ r → done_or_defaulted o.1.kind s r ≡ done_or_default vars o.1.kind s r
      go (Ok t) h = refl
      go (Err reason) h =
          let at = aborts_at o.1.kind s reason h in
          same_default o.1.kind s (defaults_by_kind vars o.1.kind s.env at.0 reason typable.gives at.1)

  -- operations that find what they use can be executed, and leave what they mean
  pub can_run : (os : List NumberedOp) (s : State) → Each (Typable tables vars) os → StaysFitAt tables vars os s → CanRun os s
  can_run [] s each fits = tt
  can_run (o ∷ os) s each fits = (
    (λ hold. can_do vars s.env tables o.1.kind each.0.typed (λ x u. fits.1 hold x (or_right (conds_use x o.1.conds) (kind_uses x o.1.kind) u))),
    can_run os (after_op o.1 s) each.1 (subst (λ t. StaysFitAt tables vars os t) (sym (same_op o s each.0)) fits.2),
  )

  pub same_meaning : (os : List NumberedOp) (s : State) → Each (Typable tables vars) os → after_ops os s ≡ numbered_meaning vars os s
  unfolding numbered_meaning
  same_meaning [] s each = refl
  same_meaning (o ∷ os) s each = ap (after_ops os) (same_op o s each.0) ∙ same_meaning os (flat_done vars o.1 s) each.1

  pub same_notes : (txn : ℕ) (os : List NumberedOp) (s : State) → Each (Typable tables vars) os → notes_after txn os s ≡ numbered_notes vars txn os s
  unfolding numbered_notes
  same_notes txn [] s each = refl
  same_notes txn (o ∷ os) s each = ap (λ notes. note_at txn o.0 (flat_reason o.1 s) ++ notes) (ap (notes_after txn os) (same_op o s each.0) ∙ same_notes txn os (flat_done vars o.1 s) each.1)
