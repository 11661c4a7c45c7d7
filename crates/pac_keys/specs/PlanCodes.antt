-- What is kept of a plan's procedures, block by block.
use Rattle.std.specs.Prelude.{◌≡◌, ℕ, List, length, slice_get, Some}
use Rattle.pac_plan.specs.declared.code.Code.TheVariants.{Ops}
use Rattle.pac_plan.specs.declared.parts.PlanParts.{PlanParts}
use Rattle.pac_plan.specs.Codes.{proc_ops}
use Rattle.pac_keys.specs.declared.piece_code.PieceCode.{PieceCode}
use Rattle.pac_keys.specs.Probes.{probes_of}

-- the code and the probes of a procedure in a block
abbrev pub piece_code : PlanParts → ℕ → ℕ → PieceCode
piece_code parts proc block = record { code = Ops (proc_ops parts proc block); probes = probes_of (proc_ops parts proc block) }

-- each of the first blocks has its piece
pub record ArePiecesOf (parts : PlanParts) (proc : ℕ) (pieces : List PieceCode) : Type 0 where
  pub each : (block : ℕ) (piece : PieceCode) → slice_get pieces block ≡ Some piece → piece ≡ piece_code parts proc block

-- each of the first procedures has its pieces, one for each block
pub record AreProcsOf (parts : PlanParts) (procs : List (List PieceCode)) : Type 0 where
  pub size : (proc : ℕ) (pieces : List PieceCode) → slice_get procs proc ≡ Some pieces → length pieces ≡ parts.blocks
  pub each : (proc : ℕ) (pieces : List PieceCode) → slice_get procs proc ≡ Some pieces → ArePiecesOf parts proc pieces

-- each procedure has its pieces
pub record IsPlanCode (parts : PlanParts) (procs : List (List PieceCode)) : Type 0 where
  pub all : length procs ≡ length parts.programs
  pub each : AreProcsOf parts procs
