-- The touches so far, and those of the records that are left, are all.
use Rattle.std.proofs.Common.{◌≡◌, ◌++◌, drop, map}
use Rattle.pac_ops.specs.Shapes.{RecordsFit}
use Rattle.pac_plan.specs.PieceFits.{records_in}
use Rattle.pac_keys.specs.Records.{change_touch}
use Rattle.pac_keys.proofs.records.record_touches.Given as goal

abbrev pub invariant-loop-change : goal.invariant-loop-change
invariant-loop-change l = record {
  fit : RecordsFit l.plan.tables (drop l.change-index l.records);
  all : l.touches.items ++ map change_touch (records_in l.plan l.block (drop l.change-index l.records)) ≡ map change_touch (records_in l.plan l.block l.records);
}
