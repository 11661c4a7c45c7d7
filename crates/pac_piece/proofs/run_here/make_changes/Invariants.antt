-- The records that are left lead to what all lead to.
use Rattle.std.proofs.Common.{◌≡◌, ◌<◌, drop, map}
use Rattle.pac_ops.specs.Effects.{numbered_from, record_op}
use Rattle.pac_piece.specs.Frames.{after_ops}
use Rattle.pac_piece.specs.InPlace.{KeepsGround, state_here}
use Rattle.pac_piece.specs.Sources.{HaveTables}
use Rattle.pac_piece.proofs.run_here.make_changes.Given as goal

abbrev pub invariant-loop-change : goal.invariant-loop-change
invariant-loop-change g l = record {
  keeps : KeepsGround g.R.Rows.held g.R.Rows.tables l.fn.ground l.ground;
  there : HaveTables (λ t. t < g.R.Rows.tables l.ground.rows) (numbered_from l.change-index (map record_op (drop l.change-index l.records)));
  state : after_ops (numbered_from l.change-index (map record_op (drop l.change-index l.records))) (state_here g.R.Rows.held l.ground)
      ≡ after_ops (numbered_from 0 (map record_op l.records)) (state_here g.R.Rows.held l.fn.ground);
  note : l.ground.frame.note ≡ l.fn.ground.frame.note;
  values : l.ground.frame.env ≡ l.fn.ground.frame.env;
}
