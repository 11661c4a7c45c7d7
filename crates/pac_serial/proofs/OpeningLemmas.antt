-- The parameters have the values of the arguments, and so their types.
use Rattle.std.proofs.Common.{◌≡◌, ℕ, zero, suc, ◌+◌, ◌<◌, ◌==◌, true, false, cond, List, [], ◌∷◌, Option, Some, None, IsSome, refl, sym, ap, ◌∙◌, subst, arith}
use Rattle.std.specs.Prelude.{slice_get}
use Rattle.std.specs.Option.{option_map}
use Rattle.std.specs.Cmp.{nat_cmp_total, unsigned_ties}
use Rattle.std.specs.FinMap.{get, insert, get-insert}
use Rattle.std.proofs.lemmas.Option.{slice_get-map}
use Rattle.std.proofs.lemmas.Bool.Decides.{nat_tests}
use Rattle.pac_value.specs.declared.values.Value.{Value}
use Rattle.pac_value.specs.Values.{type_of}
use Rattle.pac_value.specs.Expressions.{Values, types_of}
use Rattle.pac_types.specs.declared.table.Column.{Column}
use Rattle.pac_types.specs.declared.table.Table.{Table}
use Rattle.pac_types.specs.declared.procedure.Proc.{Proc}
use Rattle.pac_types.specs.WellFormed.{scope_of, scope_after_all, IsWellFormedProc}
use Rattle.pac_types.specs.Fits.{FitParams}
use Rattle.pac_ops.specs.Operations.{with_values}
use Rattle.pac_types.proofs.ScopeLemmas.{Within}
use Rattle.pac_types.proofs.WellFormedLemmas.{scope_after_all-within}
use Rattle.pac_serial.proofs.ExecLemmas.{some-within}

other : (x n : ℕ) → x < n → (x == n) ≡ false
other x n h = grind (arith, nat_tests)

same : (n : ℕ) → (n == n) ≡ true
same n = grind (arith, nat_tests)

insert-at : (env : Values) (n : ℕ) (v : Value) (x : ℕ) → get (insert env n v) x ≡ cond (x == n) (Some v) (get env x)
insert-at env n v x = get-insert nat_cmp_total env n v x ∙ ap (λ b. cond b (Some v) (get env x)) (sym (unsigned_ties x n))

below : (n : ℕ) (vs : List Value) (env : Values) (x : ℕ) → x < n → get (with_values n vs env) x ≡ get env x
below n [] env x h = refl
below n (v ∷ vs) env x h = below (n + 1) vs (insert env n v) x (omega arith) ∙ insert-at env n v x ∙ ap (λ b. cond b (Some v) (get env x)) (other x n h)

at : (n : ℕ) (vs : List Value) (env : Values) (i : ℕ) (v : Value) → slice_get vs i ≡ Some v → get (with_values n vs env) (n + i) ≡ Some v
at n [] env i v h = cc
at n (w ∷ vs) env zero v h =
    let e : n + zero ≡ n = omega arith in
    ap (get (with_values (n + 1) vs (insert env n w))) e ∙ below (n + 1) vs (insert env n w) n (omega arith) ∙ insert-at env n w n ∙ ap (λ b. cond b (Some w) (get env n)) (same n) ∙ h
at n (w ∷ vs) env (suc i) v h =
    let e : n + suc i ≡ (n + 1) + i = omega arith in
    ap (get (with_values (n + 1) vs (insert env n w))) e ∙ at (n + 1) vs (insert env n w) i v h

-- a parameter has the value of its argument
pub argument-at : (args : List Value) (old : Values) (y : ℕ) (v : Value) → slice_get args y ≡ Some v → get (with_values 0 args old) y ≡ Some v
argument-at args old y v found =
    let cell : y ≡ 0 + y = omega arith in
    ap (get (with_values 0 args old)) cell ∙ at 0 args old y v found

opening-within : (params : List Column) (args : List Value) (old : Values) → FitParams params args → Within (scope_of params) (types_of (with_values 0 args old))
opening-within params args old fit x ty h = go (slice_get args x) refl
  where
    found : option_map type_of (slice_get args x) ≡ Some ty
    found = sym (slice_get-map type_of args x) ∙ ap (λ tys. slice_get tys x) fit ∙ h

    go : (o : Option Value) → slice_get args x ≡ o → types_of (with_values 0 args old) x ≡ Some ty
    go None e = let none : None ≡ Some ty = ap (option_map type_of) (sym e) ∙ found in cc
    go (Some v) e =
        ap (option_map type_of) (argument-at args old x v e ∙ sym e) ∙ found

-- a well-formed procedure is well-formed where it begins
pub opening-well_formed : (tables : List Table) (proc : Proc) (args : List Value) (old env : Values) → IsWellFormedProc tables proc → FitParams proc.params args → env ≡ with_values 0 args old → IsSome (scope_after_all tables proc.body (types_of env))
opening-well_formed tables proc args old env well_formed fit e =
    subst (λ (m : Values). IsSome (scope_after_all tables proc.body (types_of m))) (sym e)
    (some-within (scope_after_all tables proc.body (scope_of proc.params)) (scope_after_all tables proc.body (types_of (with_values 0 args old)))
    (scope_after_all-within tables proc.body (scope_of proc.params) (types_of (with_values 0 args old)) (opening-within proc.params args old fit)) well_formed)
