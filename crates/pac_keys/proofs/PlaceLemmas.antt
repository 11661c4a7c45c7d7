-- What stands at a procedure and a block.
use Rattle.std.proofs.Common.{◌≡◌, ◌<◌, ℕ, List, Some, length, refl, ap, ◌∙◌, get_or, arith}
use Rattle.std.specs.Prelude.{slice_get}
use Rattle.std.proofs.lemmas.Option.{slice_get_read}
use Rattle.pac_plan.specs.declared.parts.PlanParts.{PlanParts}
use Rattle.pac_keys.specs.declared.piece_code.PieceCode.{PieceCode}
use Rattle.pac_keys.specs.PlanCodes.{IsPlanCode, piece_code}

pub place_in : (parts : PlanParts) (procs : List (List PieceCode)) → IsPlanCode parts procs → (proc block : ℕ) → proc < length parts.programs → block < parts.blocks
    → (read : List (List PieceCode)) (pieces : List PieceCode) (read' : List PieceCode) (piece : PieceCode)
    → read ≡ procs → pieces ≡ get_or read proc pieces → read' ≡ pieces → piece ≡ get_or read' block piece
    → piece ≡ piece_code parts proc block
place_in parts procs is proc block proc_in block_in read pieces read' piece same at same' at' =
    (is.each.each proc pieces here).each block piece there
  where
    here : slice_get procs proc ≡ Some pieces
    here = slice_get_read procs (length procs) proc pieces refl (let all = is.all in omega (arith, proc_in)) (at ∙ ap (λ (xs : List (List PieceCode)). get_or xs proc pieces) same)

    there : slice_get pieces block ≡ Some piece
    there = slice_get_read pieces (length pieces) block piece refl (let size : length pieces ≡ parts.blocks = is.each.size proc pieces here in omega (arith, block_in)) (at' ∙ ap (λ (xs : List PieceCode). get_or xs block piece) same')
