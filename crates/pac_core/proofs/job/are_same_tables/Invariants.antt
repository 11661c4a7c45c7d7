-- As many tables, and those so far are the same.
use Rattle.std.proofs.Common.{◌≡◌, length, take}
use Rattle.pac_core.proofs.job.are_same_tables.Given as goal

abbrev pub invariant-loop-table : goal.invariant-loop-table
invariant-loop-table l = record {
  equal : length l.plan.tables ≡ length l.other.tables;
  so_far : take l.table l.plan.tables ≡ take l.table l.other.tables;
}
