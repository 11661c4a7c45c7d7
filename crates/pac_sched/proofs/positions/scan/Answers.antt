-- The first piece that is the one, or none.
use Rattle.std.proofs.Common.{arith, sym, ap, ◌∙◌}
use Rattle.std.proofs.lemmas.List.{get_or_default}
use Rattle.pac_plan.specs.Pieces.{is_piece}
use Rattle.pac_sched.proofs.PlaceLemmas.{first_at, none_at}
use Rattle.pac_sched.proofs.positions.scan.Goals as goal

pub returns-then-is_piece : goal.returns-then-is_piece
returns-then-is_piece c = sym (first_at (is_piece c.args.id) c.args.pieces.now c.loop-i.i c.args.id (omega arith) (ap (is_piece c.args.id) (get_or_default c.args.pieces.now c.loop-i.i c.args.id _ (omega arith)) ∙ sym c.is_piece.ensures ∙ c.if-is_piece.true) (λ k lt. c.loop-i.invariant k c.args.id lt))

pub returns : goal.returns
returns c = sym (none_at (is_piece c.args.id) c.args.pieces.now c.args.id (λ k lt. c.loop-i.invariant k c.args.id (omega arith)))
