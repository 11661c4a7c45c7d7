-- What the first changes add and take away.
use Rattle.std.proofs.Common.{◌≡◌, ◌≤◌, take}
use Rattle.pac_serial.specs.WriteSets.{gained, lost}
use Rattle.pac_serial.proofs.write_set.WriteSet.balance.Given as goal

abbrev pub invariant-loop-change : goal.invariant-loop-change
invariant-loop-change g l = record {
  gained : l.gained ≡ gained (g.R.Rows.held l.rows) l.table (take l.change-index l.change-items);
  lost : l.lost ≡ lost (g.R.Rows.held l.rows) l.table (take l.change-index l.change-items);
  few_gained : l.gained ≤ l.change-index;
  few_lost : l.lost ≤ l.change-index;
}
