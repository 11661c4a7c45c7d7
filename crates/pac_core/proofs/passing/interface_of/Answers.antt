-- By the outputs of the interface. Records have none.
use Rattle.std.proofs.Common.{◌≡◌, ◌↔◌, ℕ, ◌<◌, [], true, false, true≢false, sym, subst, arith}
use Rattle.std.specs.Prelude.{Contains}
use Rattle.pac_ops.specs.declared.transaction.Txn.{Txn}
use Rattle.pac_core.specs.Inputs.{PassesOn}
use Rattle.pac_core.proofs.passing.interface_of.Goals as goal

pub returns-in-Call-clause-some : goal.returns-in-Call-clause-some
returns-in-Call-clause-some c = subst (λ (txn : Txn). PassesOn c.args.plan.now c.args.block txn c.interface.result.now.outputs) (sym c.in-Call.is) c.interface.ensures.outputs

none_passes : (x : ℕ) → Contains [] x ↔ (false ≡ true)
none_passes x = ((λ h. let lt : h.0 < 0 = h.1 in absurd (omega (arith, lt))), λ t. absurd (true≢false (sym t)))

pub returns-in-AdHoc-clause-none : goal.returns-in-AdHoc-clause-none
returns-in-AdHoc-clause-none c = subst (λ (txn : Txn). PassesOn c.args.plan.now c.args.block txn []) (sym c.in-AdHoc.is) none_passes
