-- All are the same exactly where those that are left are the records that are left.
use Rattle.std.proofs.Common.{◌≡◌, ◌↔◌, ◌≤◌, drop, length}
use Rattle.pac_ops.specs.Shapes.{RecordsFit}
use Rattle.pac_plan.specs.PieceFits.{records_in}
use Rattle.pac_keys.proofs.records.are_records_in.Given as goal

abbrev pub invariant-loop-change : goal.invariant-loop-change
invariant-loop-change l = record {
  fit : RecordsFit l.plan.tables (drop l.change-index l.records);
  within : l.at ≤ length l.own;
  same : (l.own ≡ records_in l.plan l.block l.records) ↔ (drop l.at l.own ≡ records_in l.plan l.block (drop l.change-index l.records));
}
