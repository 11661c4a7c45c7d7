-- The pairs so far, and those of the accesses that are left, are all.
use Rattle.std.proofs.Common.{◌≡◌, ◌++◌, ◌+◌, length}
use Rattle.std.specs.List.{flat_map}
use Rattle.pac_plan.specs.Pairs.{AreEarlierLater}
use Rattle.pac_batch.specs.Conflicts.{numbers_between, conflict_pairs, pairs_with}
use Rattle.pac_batch.proofs.pairs.preds.Given as goal

abbrev pub invariant-loop-i : goal.invariant-loop-i
invariant-loop-i l = record {
  order : AreEarlierLater l.pairs.items;
  all : l.pairs.items ++ flat_map (λ i. pairs_with l.accesses i (numbers_between (i + 1) (length l.accesses))) (numbers_between l.i (length l.accesses)) ≡ conflict_pairs l.accesses;
}
