-- The pairs so far, and those of the accesses that are left, are all.
use Rattle.std.proofs.Common.{◌≡◌, ◌++◌, ◌+◌, length}
use Rattle.pac_plan.specs.Pairs.{AreEarlierLater}
use Rattle.pac_batch.specs.Conflicts.{numbers_between, pairs_with}
use Rattle.pac_batch.proofs.pairs.add_later.Given as goal

abbrev pub invariant-loop-j : goal.invariant-loop-j
invariant-loop-j l = record {
  order : AreEarlierLater l.pairs.items;
  all : l.pairs.items ++ pairs_with l.accesses l.i (numbers_between l.j (length l.accesses)) ≡ l.fn.pairs.items ++ pairs_with l.accesses l.i (numbers_between (l.i + 1) (length l.accesses));
}
