-- The pieces of a batch, block by block.
use Rattle.std.specs.Prelude.{ℕ, Bool, true, false, List, [], ◌∷◌, map, filter, Option}
use Rattle.pac_ops.specs.declared.transaction.Txn.{Txn}
use Rattle.pac_plan.specs.declared.parts.PlanParts.{PlanParts}
use Rattle.pac_plan.specs.Pieces.{part, has_ops}
use Rattle.pac_plan.specs.Worlds.{txn_at, txn_code, txn_block, numbers, blocks_in}
use Rattle.pac_batch.specs.declared.piece_set.PieceSet.{PieceSet}

-- a transaction has a piece in the block
abbrev pub has_piece : PlanParts → ℕ → Option Txn → Bool
has_piece parts block txn = has_ops (part (txn_block parts txn) block (txn_code parts txn))

-- the pieces of numbered transactions in a block
abbrev pub set_of : PlanParts → ℕ → List Txn → ℕ → PieceSet
set_of parts first txns block = record { block = block; txns = filter (λ t. has_piece parts block (txn_at first txns t)) (numbers first txns) }

-- there is a number
abbrev pub has_numbers : List ℕ → Bool
has_numbers [] = false
has_numbers (t ∷ ts) = true

-- there is a piece
abbrev pub has_txns : PieceSet → Bool
has_txns set = has_numbers set.txns

-- the pieces of each block that has some, the blocks ascending
abbrev pub sets_of : PlanParts → ℕ → List Txn → List PieceSet
sets_of parts first txns = filter has_txns (map (set_of parts first txns) (blocks_in parts))
