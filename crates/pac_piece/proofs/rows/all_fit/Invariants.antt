-- The copies fit exactly where those that are left do.
use Rattle.std.proofs.Common.{◌↔◌, drop}
use Rattle.std.specs.List.{AllByRecursion}
use Rattle.pac_piece.specs.Copies.{CopyFits}
use Rattle.pac_piece.proofs.rows.all_fit.Given as goal

abbrev pub invariant-loop-row : goal.invariant-loop-row
invariant-loop-row l = AllByRecursion (CopyFits l.plan.tables) l.rows ↔ AllByRecursion (CopyFits l.plan.tables) (drop l.row-index l.rows)
