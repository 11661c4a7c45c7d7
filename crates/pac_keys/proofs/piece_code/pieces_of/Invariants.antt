-- The pieces of the blocks so far.
use Rattle.std.proofs.Common.{◌≡◌, length}
use Rattle.pac_keys.specs.PlanCodes.{ArePiecesOf}
use Rattle.pac_keys.proofs.piece_code.pieces_of.Given as goal

abbrev pub invariant-loop-block : goal.invariant-loop-block
invariant-loop-block l = record { size : length l.pieces.items ≡ l.block; each : ArePiecesOf l.plan l.proc l.pieces.items }
