-- The cells of the writes so far have images, which put back what they put back before.
use Rattle.std.proofs.Common.{◌≡◌, ◌<◌, ℕ, true, get_or}
use Rattle.pac_tables.specs.declared.writes.Write.{Write}
use Rattle.pac_tables.specs.Written.{AreWithin, cell_written, is_written, written}
use Rattle.pac_undo.specs.Images.{AreKept}
use Rattle.pac_undo.proofs.noting.note_all.Given as goal

abbrev pub invariant-loop-write : goal.invariant-loop-write
invariant-loop-write g l = record {
  opening : written (g.R.Rows.held l.rows) l.before ≡ written (g.R.Rows.held l.rows) l.fn.before;
  kept : AreKept l.fn.before l.before;
  within : AreWithin (g.R.Rows.tables l.rows) l.before;
  noted : (k : ℕ) (d : Write) → k < l.write-index → is_written l.before (cell_written (get_or l.writes k d)) ≡ true;
}
