-- By the inputs of the interface. Records use none.
use Rattle.std.proofs.Common.{◌≡◌, ◌↔◌, ℕ, ◌<◌, List, [], true, true≢false, sym, subst, ◌∙◌, arith}
use Rattle.std.specs.Prelude.{Contains, IsTrue}
use Rattle.pac_ops.specs.declared.transaction.Change.{Change}
use Rattle.pac_ops.specs.declared.transaction.Txn.{Txn}
use Rattle.pac_ops.specs.declared.transaction.Txn.TheVariants.{Call as ACall, AdHoc}
use Rattle.pac_plan.specs.declared.parts.PlanParts.{PlanParts}
use Rattle.pac_plan.specs.Analysis.{IsPlan}
use Rattle.pac_core.specs.Inputs.{FindsInputs, is_found}
use Rattle.pac_core.proofs.Finding.{finds_of, has_of, records_find}
use Rattle.pac_core.proofs.passing.finds.Goals as goal

pub returns-in-Call : goal.returns-in-Call
returns-in-Call c = subst (λ (txn : Txn). IsTrue c.are_values.result ↔ FindsInputs c.args.plan.now c.args.block txn c.args.kept.now c.args.env.now) (sym c.in-Call.is) (
  (λ t. finds_of c.args.plan.now c.args.block txn c.as_slice.result.now c.args.kept.now c.args.env.now are (c.are_values.ensures.0 t)),
  (λ f. c.are_values.ensures.1 (has_of c.args.plan.now c.args.block txn c.as_slice.result.now c.args.kept.now c.args.env.now are f)),
)
  where
    txn : Txn
    txn = ACall c.in-Call.call

    are : (x : ℕ) → Contains c.as_slice.result.now x ↔ (is_found c.args.plan.now c.args.block (ACall c.in-Call.call) x ≡ true)
    are = subst (λ (vars : List ℕ). (x : ℕ) → Contains vars x ↔ (is_found c.args.plan.now c.args.block (ACall c.in-Call.call) x ≡ true)) (sym c.as_slice.ensures) c.interface-interface.ensures.inputs

none_are : (parts : PlanParts) → IsPlan parts → (block : ℕ) (records : List Change) (x : ℕ) → Contains [] x ↔ (is_found parts block (AdHoc records) x ≡ true)
none_are parts is block records x = ((λ h. let lt : h.0 < 0 = h.1 in absurd (omega (arith, lt))), λ t. absurd (true≢false (sym t ∙ records_find parts is block records x)))

pub returns-in-AdHoc : goal.returns-in-AdHoc
returns-in-AdHoc c =
    let is : IsPlan c.args.plan.now = subst IsPlan (c.plan.ensures ∙ c.get.ensures) c.is_plan.ensures in
    let are = none_are c.args.plan.now is c.args.block c.in-AdHoc.records in
    subst (λ (txn : Txn). IsTrue c.are_values-in-AdHoc.result ↔ FindsInputs c.args.plan.now c.args.block txn c.args.kept.now c.args.env.now) (sym c.in-AdHoc.is) (
      (λ t. finds_of c.args.plan.now c.args.block (AdHoc c.in-AdHoc.records) [] c.args.kept.now c.args.env.now are (c.are_values-in-AdHoc.ensures.0 t)),
      (λ f. c.are_values-in-AdHoc.ensures.1 (has_of c.args.plan.now c.args.block (AdHoc c.in-AdHoc.records) [] c.args.kept.now c.args.env.now are f)),
    )
