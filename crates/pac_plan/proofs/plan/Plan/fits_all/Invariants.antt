-- The transactions fit exactly where those that are left do.
use Rattle.std.proofs.Common.{◌↔◌, drop}
use Rattle.std.specs.List.{AllByRecursion}
use Rattle.pac_plan.specs.Codes.{TxnFitsPlan}
use Rattle.pac_plan.proofs.plan.Plan.fits_all.Given as goal

abbrev pub invariant-loop-txn : goal.invariant-loop-txn
invariant-loop-txn l = AllByRecursion (TxnFitsPlan l.self) l.txns ↔ AllByRecursion (TxnFitsPlan l.self) (drop l.txn-index l.txns)
