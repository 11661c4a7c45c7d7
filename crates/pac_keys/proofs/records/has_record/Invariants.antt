-- No record so far is of the block.
use Rattle.std.proofs.Common.{◌≡◌, drop}
use Rattle.pac_ops.specs.Shapes.{RecordsFit}
use Rattle.pac_plan.specs.PieceFits.{records_in}
use Rattle.pac_keys.specs.Records.{has_records}
use Rattle.pac_keys.proofs.records.has_record.Given as goal

abbrev pub invariant-loop-change : goal.invariant-loop-change
invariant-loop-change l = record {
  fit : RecordsFit l.plan.tables (drop l.change-index l.records);
  none : has_records (records_in l.plan l.block (drop l.change-index l.records)) ≡ has_records (records_in l.plan l.block l.records);
}
