-- Keys that are arguments.
use Rattle.std.proofs.Common.{◌≡◌, ℕ, ◌+◌, Bool, true, false, not, List, [], ◌∷◌, sym, ap, ◌∙◌, subst, true≢false, Option, Some, Result, Ok, unwrap_or, arith}
use Rattle.std.specs.List.{list_all}
use Rattle.std.specs.FinMap.{get, empty}
use Rattle.pac_value.specs.declared.values.Value.{Value}
use Rattle.pac_value.specs.declared.values.Value.TheVariants.{Bool as Truth}
use Rattle.pac_value.specs.declared.expr.Expr.{Expr, Var}
use Rattle.pac_value.specs.declared.expr.Trap.{Trap}
use Rattle.pac_value.specs.Values.{as_key}
use Rattle.pac_value.specs.Expressions.{value_step, ◌>>=◌}
use Rattle.pac_value.proofs.ByForms.{by_forms, fold-Lit, fold-Var, fold-Bin, fold-Not}
use Rattle.pac_ops.specs.declared.program.Program.{Program}
use Rattle.pac_ops.specs.declared.transaction.Txn.{Txn}
use Rattle.pac_ops.specs.Operations.{with_values}
use Rattle.pac_ops.specs.Effects.{NumberedOp, target_of, defined_in, numbered_from}
use Rattle.pac_ops.proofs.ProgramLemmas.{arg_there}
use Rattle.pac_base.specs.Members.{Each}
use Rattle.pac_base.proofs.TestLemmas.{same_number, and_left, and_right}
use Rattle.pac_plan.specs.Nodes.{Operation}
use Rattle.pac_plan.specs.Analysis.{block_in}
use Rattle.pac_plan.specs.Pieces.{part, avoid_step}
use Rattle.pac_plan.specs.Worlds.{txn_at, txn_block, txn_code, txn_args, ops_of, initial, blocks_in}
use Rattle.pac_commute.specs.PlanLaws.{txns_of, planned, numbers_of}
use Rattle.pac_lanes.specs.Stays.{KeysAre}
use Rattle.pac_lanes.specs.ArgKeys.{var_step, is_variable, names_variable, VariableKeys, CallKeys, CallKey}
use Rattle.pac_lanes.proofs.StayLemmas.{key_from_arguments}

variable_is : (x : ℕ) (e : Expr) → is_variable x e ≡ true → e ≡ Var x
variable_is x = by_forms (λ e. is_variable x e ≡ true → e ≡ Var x)
    (λ v h. absurd (true≢false (sym h ∙ fold-Lit Bool (var_step x) v)))
    (λ y h. ap Var (same_number y x (sym (fold-Var Bool (var_step x) y) ∙ h)))
    (λ op l r p q h. absurd (true≢false (sym h ∙ fold-Bin Bool (var_step x) op l r)))
    (λ e p h. absurd (true≢false (sym h ∙ fold-Not Bool (var_step x) e)))

pub variable_keys : VariableKeys
variable_keys x os test = (
  each os (and_left (list_all (λ o. names_variable x (target_of o.1.kind)) os) (not (defined_in os x)) test),
  fold-Var Bool (avoid_step (defined_in os)) x ∙ and_right (list_all (λ o. names_variable x (target_of o.1.kind)) os) (not (defined_in os x)) test,
)
  where
    one : (n : Option (ℕ × Expr)) → names_variable x n ≡ true → (m : ℕ × Expr) → n ≡ Some m → m.1 ≡ Var x
    one n h m same = variable_is x m.1 (subst (λ o. names_variable x o ≡ true) same h)

    each : (ps : List NumberedOp) → list_all (λ o. names_variable x (target_of o.1.kind)) ps ≡ true → Each (λ (o : NumberedOp). (n : ℕ × Expr) → target_of o.1.kind ≡ Some n → n.1 ≡ Var x) ps
    each [] h = tt
    each (o ∷ ps) h = (
      one (target_of o.1.kind) (and_left (names_variable x (target_of o.1.kind)) (list_all (λ o. names_variable x (target_of o.1.kind)) ps) h),
      each ps (and_right (names_variable x (target_of o.1.kind)) (list_all (λ o. names_variable x (target_of o.1.kind)) ps) h),
    )

pub call_keys : CallKeys
call_keys parts first batches p call program at is x test =
    subst (λ (o : Option Txn). KeysAre (part (txn_block parts o) p.block (txn_code parts o)) (Var x)) (sym at)
    (subst (λ (o : Option Program). KeysAre (part (λ o. block_in parts (Operation call.proc o.0)) p.block (numbered_from 0 (ops_of o))) (Var x)) (sym is)
    (variable_keys x _ test))

pub call_key : CallKey
call_key parts first batches t call program at is x free v arg tables =
    sym (key_from_arguments (planned parts first batches) (numbers_of first batches) (blocks_in parts) (initial first (txns_of batches) tables) t (Var x)
    (fold-Var Bool (avoid_step (defined_in (txn_code parts (txn_at first (txns_of batches) t)))) x ∙ ap not (code_free ∙ free)))
    ∙ ap (λ (r : Result Value Trap). r >>= λ v. Ok (as_key v)) (fold-Var (Result Value Trap) (value_step ((initial first (txns_of batches) tables).envs t)) x)
    ∙ ap (λ (o : Option Value). Ok (as_key (unwrap_or o (Truth false)))) there
  where
    code_free : defined_in (txn_code parts (txn_at first (txns_of batches) t)) x ≡ defined_in (numbered_from 0 program.ops) x
    code_free = ap (λ (o : Option Txn). defined_in (txn_code parts o) x) at ∙ ap (λ (o : Option Program). defined_in (numbered_from 0 (ops_of o)) x) is

    zero_more : 0 + x ≡ x
    zero_more = omega arith

    there : get (with_values 0 (txn_args (txn_at first (txns_of batches) t)) empty) x ≡ Some v
    there = ap (λ (o : Option Txn). get (with_values 0 (txn_args o) empty) x) at ∙ ap (get (with_values 0 call.args empty)) (sym zero_more) ∙ arg_there call.args 0 empty x v arg
