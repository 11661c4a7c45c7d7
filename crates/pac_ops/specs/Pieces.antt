-- The order of pieces.
use Rattle.std.specs.Prelude.{◌≡◌, refl}
use Rattle.std.specs.declared.cmp.Ordering.{Ordering}
use Rattle.std.specs.Ordering.{nat_cmp, ordering_then}
use Rattle.pac_ops.specs.declared.piece.PieceId.{PieceId}
use Rattle.pac_ops.specs.contracts.piece.PieceIdOrd.TheImpl as derived

-- by transaction, and then by block
abbrev pub piece_cmp : PieceId → PieceId → Ordering
piece_cmp a b = ordering_then (nat_cmp a.txn b.txn) (nat_cmp a.block b.block)

-- comparisons of pieces return this order
pub piece_order : (a b : PieceId) → (derived.ghosts).cmp a b ≡ piece_cmp a b
piece_order a b = refl
