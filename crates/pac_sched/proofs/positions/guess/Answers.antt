-- The piece stands where it was looked for, and in an ascending list nowhere else.
use Rattle.std.proofs.Common.{◌∙◌, sym, arith}
use Rattle.pac_sched.proofs.PlaceLemmas.{stands_once}
use Rattle.pac_sched.proofs.positions.guess.Goals as goal

pub returns-then-is_piece : goal.returns-then-is_piece
returns-then-is_piece c = stands_once c.args.pieces.now c.requires c.args.id _ (omega arith) _ (sym c.is_piece.ensures ∙ c.if-is_piece.true)
