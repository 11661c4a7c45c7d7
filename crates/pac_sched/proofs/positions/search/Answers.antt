-- The piece at the middle is the one, or all on one side of it are none.
use Rattle.std.proofs.Common.{arith, sym, ◌∙◌, ◌+◌, ◌-◌, ◌/◌}
use Rattle.pac_sched.proofs.PlaceLemmas.{none_below, none_above, only_here, none_apart}
use Rattle.pac_sched.proofs.positions.search.Goals as goal

pub loop-low-preserved-then-piece_before : goal.loop-low-preserved-then-piece_before
loop-low-preserved-then-piece_before c = record {
  inside = c.loop-low.invariant.inside;
  below = λ k d le. none_below c.args.pieces.now c.requires c.args.id (c.loop-low.low + (c.loop-low.high - c.loop-low.low) / 2) (omega arith) _ d (sym c.piece_before.ensures ∙ c.if-piece_before.true) k le;
  above = c.loop-low.invariant.above;
}

pub loop-low-preserved : goal.loop-low-preserved
loop-low-preserved c = record {
  inside = omega arith;
  below = c.loop-low.invariant.below;
  above = λ k d le lt. none_above c.args.pieces.now c.requires c.args.id (c.loop-low.low + (c.loop-low.high - c.loop-low.low) / 2) (omega arith) _ d (sym c.piece_before-else-piece_before.ensures ∙ c.if-piece_before-2.true) k le lt;
}

pub returns-else-piece_before-2 : goal.returns-else-piece_before-2
returns-else-piece_before-2 c = sym (only_here c.args.pieces.now c.requires c.args.id (c.loop-low.low + (c.loop-low.high - c.loop-low.low) / 2) (omega arith) _ (sym c.piece_before.ensures ∙ c.if-piece_before.false) (sym c.piece_before-else-piece_before.ensures ∙ c.if-piece_before-2.false))

pub returns : goal.returns
returns c = sym (none_apart c.args.pieces.now c.args.id c.loop-low.low c.loop-low.high (omega arith) c.loop-low.invariant.below c.loop-low.invariant.above)
