-- The records so far were executed.
use Rattle.std.proofs.Common.{ℕ, drop, map}
use Rattle.pac_ops.specs.Effects.{numbered_from, record_op}
use Rattle.pac_value.specs.State.{Tables}
use Rattle.pac_piece.specs.Frames.{RunsOn, state_seen}
use Rattle.pac_piece.proofs.run_all.change_all.Given as goal

abbrev pub invariant-loop-change : goal.invariant-loop-change
invariant-loop-change g l = (base : Tables) (txn : ℕ)
    → RunsOn g.K.Outs.Adds base txn (numbered_from 0 (map record_op l.records)) (state_seen base l.fn.frame) l.fn.frame.outs (numbered_from l.change-index (map record_op (drop l.change-index l.records))) l.frame
