-- What a replay in pieces needs of a world: definers, flow, homes and order of its operations, blocks and batches.
use Rattle.std.specs.Prelude.{◌≡◌, ◌⊎◌, ℕ, ◌<◌, ◌≤◌, true, false, List, [], ◌∷◌, Some}
use Rattle.pac_ops.specs.Uses.{op_uses, defined_variable, accessed_table}
use Rattle.pac_base.specs.Members.{Each, Mem}
use Rattle.pac_ops.specs.Effects.{NumberedOp, is_var, defined_in, used_in}
use Rattle.pac_plan.specs.Pieces.{World, part}

-- no operation uses a variable that a later one defines
abbrev pub Ordered : List NumberedOp → Type 0
Ordered [] = Unit {0}
Ordered (o ∷ os) = Each (λ (d : NumberedOp). (x : ℕ) → is_var x (defined_variable d.1.kind) ≡ true → op_uses x o.1 ≡ false) os × Ordered os

-- a variable is defined in one block; edges go along flow and lead to higher numbers; each table has one home; no operation
-- uses what a later one defines; a later transaction is in no earlier batch
pub record WellFormed (w : World) : Type 0 where
  pub once : (t b b' x : ℕ) → defined_in (part (w.block t) b (w.code t)) x ≡ true → defined_in (part (w.block t) b' (w.code t)) x ≡ true → b ≡ b'
  pub flows : (t b b' x : ℕ) → defined_in (part (w.block t) b (w.code t)) x ≡ true → used_in (part (w.block t) b' (w.code t)) x ≡ true → (b ≡ b') ⊎ (w.edge b b' ≡ true)
  pub up : (b b' : ℕ) → w.edge b b' ≡ true → b < b'
  pub homes : (t : ℕ) → Each (λ (o : NumberedOp). (a : ℕ) → accessed_table o.1.kind ≡ Some a → w.home a ≡ w.block t o) (w.code t)
  pub ordered : (t : ℕ) → Ordered (w.code t)
  pub batches : (t t' : ℕ) → t < t' → w.batch t ≤ w.batch t'

-- each operation stands in one of the blocks
abbrev pub FitsBlocks : World → List ℕ → List ℕ → Type 0
FitsBlocks w ts bs = (t : ℕ) → Mem t ts → Each (λ (o : NumberedOp). Mem (w.block t o) bs) (w.code t)
