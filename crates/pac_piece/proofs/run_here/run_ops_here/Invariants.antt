-- The operations so far were executed, and those that are left can be.
use Rattle.std.proofs.Common.{◌<◌, drop, take}
use Rattle.pac_piece.specs.Frames.{CanRun}
use Rattle.pac_piece.specs.InPlace.{KeepsGround, RunsHere, state_here}
use Rattle.pac_piece.specs.Sources.{HaveTables}
use Rattle.pac_piece.proofs.run_here.run_ops_here.Given as goal

abbrev pub invariant-loop-op : goal.invariant-loop-op
invariant-loop-op g l = record {
  keeps : KeepsGround g.R.Rows.held g.R.Rows.tables l.fn.ground l.ground;
  can : CanRun (drop l.op-index l.ops) (state_here g.R.Rows.held l.ground);
  there : HaveTables (λ t. t < g.R.Rows.tables l.ground.rows) (drop l.op-index l.ops);
  runs : RunsHere g.R.Rows.held l.txn (take l.op-index l.ops) l.fn.ground l.ground;
}
