-- What the transactions so far begin with, and what those that are left do, is all.
use Rattle.std.proofs.Common.{◌≡◌, ◌++◌, drop, map, Some}
use Rattle.std.specs.FinMap.{empty}
use Rattle.pac_ops.specs.Operations.{with_values}
use Rattle.pac_ops.specs.declared.transaction.Txn.{Txn}
use Rattle.pac_plan.specs.Worlds.{txn_args}
use Rattle.pac_core.proofs.loading.begun.Given as goal

abbrev pub invariant-loop-txn : goal.invariant-loop-txn
invariant-loop-txn l = record {
  all : l.kept.items ++ map (λ (txn : Txn). with_values 0 (txn_args (Some txn)) empty) (drop l.txn-index l.txns) ≡ map (λ (txn : Txn). with_values 0 (txn_args (Some txn)) empty) l.txns;
}
