-- What replay leans on: the facts about blocks that make it give what serial execution gives.
use Rattle.std.specs.Prelude.{◌≡◌, ◌⊎◌, ℕ, ◌<◌, length, slice_get, Some}
use Rattle.pac_ops.specs.declared.program.Program.{Program}
use Rattle.pac_ops.specs.Uses.{Defines}
use Rattle.pac_ops.specs.Dependencies.{Uses, Accesses}
use Rattle.pac_plan.specs.declared.parts.PlanParts.{PlanParts}
use Rattle.pac_plan.specs.Nodes.{Operation, VirtualWrite}
use Rattle.pac_plan.specs.Analysis.{block_in, HasBlockEdge}

-- the blocks keep what has to be kept in order
pub record KeepsOrder (parts : PlanParts) : Type 0 where
  -- at most one operation of a procedure defines a variable
  pub once : (p i j x : ℕ) (program : Program) → slice_get parts.programs p ≡ Some program → Defines program.ops i x → Defines program.ops j x → i ≡ j
  -- what uses a variable comes after what defines it, in its block or in one to which an edge leads
  pub flows : (p i j x : ℕ) (program : Program) → slice_get parts.programs p ≡ Some program → Defines program.ops i x → Uses program.ops j x
      → (i < j) × ((block_in parts (Operation p i) ≡ block_in parts (Operation p j)) ⊎ HasBlockEdge parts (block_in parts (Operation p i)) (block_in parts (Operation p j)))
  -- edges lead to higher numbers
  pub up : (b c : ℕ) → HasBlockEdge parts b c → b < c
  -- an operation on a table is in the table's home
  pub homes : (p i t : ℕ) (program : Program) → slice_get parts.programs p ≡ Some program → Accesses program.ops i t → block_in parts (Operation p i) ≡ block_in parts (VirtualWrite t)
  -- each block is one of those that are counted
  pub below : (p i : ℕ) (program : Program) → slice_get parts.programs p ≡ Some program → i < length program.ops → block_in parts (Operation p i) < parts.blocks
