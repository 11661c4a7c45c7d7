-- By the inputs of the interface.
use Rattle.std.proofs.Common.{◌≡◌, ◌↔◌, ℕ, List, true, cond, None, Ok, Err, Result, sym, ap, ◌∙◌, subst}
use Rattle.std.specs.Prelude.{Contains, OnOk}
use Rattle.std.specs.FinMap.{get, get-empty}
use Rattle.std.specs.Ordering.{nat_cmp}
use Rattle.pac_value.specs.Expressions.{Values}
use Rattle.pac_ops.specs.declared.transaction.Txn.{Txn}
use Rattle.pac_ops.specs.declared.transaction.Txn.TheVariants.{Call as ACall}
use Rattle.pac_plan.specs.Analysis.{IsPlan}
use Rattle.pac_core.specs.Inputs.{FindsInputs, is_found}
use Rattle.pac_value.specs.Restricted.{HasOnly}
use Rattle.pac_core.proofs.Finding.{finds_of, records_find}
use Rattle.pac_core.proofs.passing.find.Goals as goal

pub returns-in-Call : goal.returns-in-Call
returns-in-Call c = subst (λ (txn : Txn). OnOk c.find_values.result (FindsInputs c.args.plan.now c.args.block txn c.args.kept.now c.find_values.new.env)) (sym c.in-Call.is) (go c.find_values.result c.find_values.ensures)
  where
    are : (x : ℕ) → Contains c.as_slice.result.now x ↔ (is_found c.args.plan.now c.args.block (ACall c.in-Call.call) x ≡ true)
    are = subst (λ (vars : List ℕ). (x : ℕ) → Contains vars x ↔ (is_found c.args.plan.now c.args.block (ACall c.in-Call.call) x ≡ true)) (sym c.as_slice.ensures) c.interface-interface.ensures.inputs

    go : {A E : Type 0} (r : Result A E) → OnOk r (HasOnly c.as_slice.result.now c.args.kept.now c.find_values.new.env) → OnOk r (FindsInputs c.args.plan.now c.args.block (ACall c.in-Call.call) c.args.kept.now c.find_values.new.env)
    go (Ok u) has = finds_of c.args.plan.now c.args.block (ACall c.in-Call.call) c.as_slice.result.now c.args.kept.now c.find_values.new.env are has
    go (Err e) has = tt

pub returns-in-AdHoc : goal.returns-in-AdHoc
returns-in-AdHoc c = λ x.
    ap (λ (env : Values). get env x) c.clear.ensures ∙ get-empty nat_cmp x
    ∙ sym (ap (λ b. cond b (get c.args.kept.now x) None) (ap (λ (txn : Txn). is_found c.args.plan.now c.args.block txn x) c.in-AdHoc.is ∙ records_find c.args.plan.now (subst IsPlan (c.plan.ensures ∙ c.get.ensures) c.is_plan.ensures) c.args.block c.in-AdHoc.records x))
