-- The numbers so far, and those of the transactions that are left, are all.
use Rattle.std.proofs.Common.{◌≡◌, ◌++◌, ◌+◌, ◌-◌, length, drop}
use Rattle.std.specs.List.{range_with_len, filter, AllByRecursion}
use Rattle.pac_plan.specs.Codes.{TxnFitsPlan}
use Rattle.pac_plan.specs.Worlds.{txn_at, numbers}
use Rattle.pac_batch.specs.Sets.{has_piece}
use Rattle.pac_batch.proofs.piece_set.set_of.Given as goal

abbrev pub invariant-loop-i : goal.invariant-loop-i
invariant-loop-i l = record {
  fit : AllByRecursion (TxnFitsPlan l.code) (drop l.i l.txns);
  all : l.found.items ++ filter (λ t. has_piece l.code l.block (txn_at l.first l.txns t)) (range_with_len (l.first + l.i) (length l.txns - l.i)) ≡ filter (λ t. has_piece l.code l.block (txn_at l.first l.txns t)) (numbers l.first l.txns);
}
