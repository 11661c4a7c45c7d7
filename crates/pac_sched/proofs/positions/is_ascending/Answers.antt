-- One more piece comes after the one before it, and so after all.
use Rattle.std.proofs.Common.{arith, sym, ◌∙◌}
use Rattle.pac_sched.proofs.PlaceLemmas.{ascends_more}
use Rattle.pac_sched.proofs.positions.is_ascending.Goals as goal

pub loop-i-preserved : goal.loop-i-preserved
loop-i-preserved c = ascends_more c.args.pieces.now c.loop-i.i (omega arith) (omega arith) c.loop-i.invariant _ (sym c.piece_before.ensures ∙ c.if-not-piece_before.false)
