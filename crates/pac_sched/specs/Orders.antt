-- The order of pieces by transaction and block.
use Rattle.std.specs.Prelude.{◌≡◌, Bool, true, ◌&&◌, ◌||◌, ◌==◌, nat_lt, List, AllPairs}
use Rattle.pac_ops.specs.declared.piece.PieceId.{PieceId}

-- a piece comes before another
abbrev pub piece_before : PieceId → PieceId → Bool
piece_before one other = nat_lt one.txn other.txn || (one.txn == other.txn && nat_lt one.block other.block)

-- each piece comes before those after it in the list
abbrev pub IsAscending : List PieceId → Type 0
IsAscending pieces = AllPairs (λ one other. piece_before one other ≡ true) pieces
