-- The records so far, and those of the block that are left, are all.
use Rattle.std.proofs.Common.{◌≡◌, ◌++◌, drop}
use Rattle.pac_ops.specs.Shapes.{RecordsFit}
use Rattle.pac_plan.specs.PieceFits.{records_in}
use Rattle.pac_keys.proofs.records.records_in.Given as goal

abbrev pub invariant-loop-change : goal.invariant-loop-change
invariant-loop-change l = record {
  fit : RecordsFit l.plan.tables (drop l.change-index l.records);
  all : l.found.items ++ records_in l.plan l.block (drop l.change-index l.records) ≡ records_in l.plan l.block l.records;
}
