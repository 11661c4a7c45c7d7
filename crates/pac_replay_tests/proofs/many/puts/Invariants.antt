-- The puts so far are in the first table, each at a number of its own.
use Rattle.std.specs.List.{AllByRecursion}
use Rattle.pac_tables.specs.Written.{AreWithin, IsOnce}
use Rattle.pac_replay_tests.proofs.NumberedPuts.{IsBelow}
use Rattle.pac_replay_tests.proofs.many.puts.Given as goal

abbrev pub invariant-loop-key : goal.invariant-loop-key
invariant-loop-key l = record {
  within : AreWithin 1 l.writes.items;
  below : AllByRecursion (IsBelow l.key) l.writes.items;
  once : IsOnce l.writes.items;
}
