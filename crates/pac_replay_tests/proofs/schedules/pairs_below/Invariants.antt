-- The pairs so far are of earlier and later positions below the number.
use Rattle.pac_plan.specs.Pairs.{AreEarlierLater}
use Rattle.pac_sched.specs.Schedules.{ArePairsBelow}
use Rattle.pac_replay_tests.proofs.schedules.pairs_below.Given as goal

abbrev pub invariant-loop-i : goal.invariant-loop-i
invariant-loop-i l = record {
  order : AreEarlierLater l.kept.items;
  below : ArePairsBelow l.len l.kept.items;
}
