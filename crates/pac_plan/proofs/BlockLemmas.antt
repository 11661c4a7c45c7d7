-- Where the block of an operation stands.
use Rattle.std.proofs.Common.{◌≡◌, ℕ, ◌<◌, List, length, Some, sym, ap, ◌∙◌, arith}
use Rattle.std.specs.Prelude.{slice_get}
use Rattle.std.specs.Option.{option_map}
use Rattle.std.proofs.lemmas.Option.{slice_get-map}
use Rattle.pac_ops.specs.declared.program.Program.{Program}
use Rattle.pac_base.proofs.ItemLemmas.{item, mapped_some}
use Rattle.pac_plan.specs.declared.parts.PlanParts.{PlanParts}
use Rattle.pac_plan.specs.Nodes.{Operation, IsNode}
use Rattle.pac_plan.specs.Analysis.{IsAnalysis}

-- the blocks of a procedure have one for each of its operations
pub row_there : (parts : PlanParts) → IsAnalysis parts → (p i : ℕ) → IsNode parts.programs (length parts.tables) (Operation p i) → (row : List ℕ) × (slice_get parts.block_of p ≡ Some row) × (i < length row)
row_there parts is p i node = (row.0, row.1, omega (arith, row.2, program.2))
  where
    program : (program : Program) × (slice_get parts.programs p ≡ Some program) × (i < length program.ops)
    program = item parts.programs p (λ (q : Program). i < length q.ops) node

    count : option_map (λ (row : List ℕ). length row) (slice_get parts.block_of p) ≡ Some (length program.0.ops)
    count = sym (slice_get-map (λ (row : List ℕ). length row) parts.block_of p)
        ∙ (ap (λ (ns : List ℕ). slice_get ns p) is.each
        ∙ (slice_get-map (λ (q : Program). length q.ops) parts.programs p
        ∙ ap (option_map (λ (q : Program). length q.ops)) program.1))

    row : (row : List ℕ) × (slice_get parts.block_of p ≡ Some row) × (length row ≡ length program.0.ops)
    row = mapped_some (λ (row : List ℕ). length row) (slice_get parts.block_of p) (length program.0.ops) count
