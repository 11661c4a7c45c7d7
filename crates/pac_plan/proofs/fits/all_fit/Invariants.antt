-- The changes fit exactly where those that are left do.
use Rattle.std.proofs.Common.{◌↔◌, drop}
use Rattle.pac_ops.specs.Shapes.{RecordsFit}
use Rattle.pac_plan.proofs.fits.all_fit.Given as goal

abbrev pub invariant-loop-change : goal.invariant-loop-change
invariant-loop-change l = RecordsFit l.tables l.changes ↔ RecordsFit l.tables (drop l.change-index l.changes)
