-- Transactions have at most a piece for each block.
use Rattle.std.proofs.Common.{◌≤◌, ◌<◌, ℕ, suc, ◌*◌, ◌^◌, ap, Bool, true, false, List, [], ◌∷◌, length, length-append, arith}
use Rattle.std.specs.Prelude.{if◌then◌else◌}
use Rattle.std.proofs.lemmas.List.FromFn.{length-range_with_len}
use Rattle.pac_ops.specs.declared.batch.Batch.{Batch}
use Rattle.pac_ops.specs.declared.piece.PieceId.{PieceId}
use Rattle.pac_plan.specs.declared.parts.PlanParts.{PlanParts}
use Rattle.pac_plan.specs.Pieces.{World, blocks_of, piece_exists, pieces}
use Rattle.pac_plan.specs.Worlds.{blocks_in}
use Rattle.pac_commute.specs.PlanLaws.{numbers_of, planned, txns_of}
use Rattle.pac_restore.specs.Batches.{txns_in}
use Rattle.pac_recover.proofs.WorkerLemmas.{same-txns}

with_piece : (there : Bool) (p : PieceId) (ps : List PieceId) (n : ℕ) → length ps ≤ n → length (if there then p ∷ ps else ps) ≤ suc n
with_piece true p ps n le = omega (arith, le)
with_piece false p ps n le = omega (arith, le)

few_blocks : (w : World) (t : ℕ) (bs : List ℕ) → length (blocks_of w t bs) ≤ length bs
few_blocks w t [] = omega arith
few_blocks w t (b ∷ bs) = with_piece (piece_exists w (record { txn = t; block = b })) (record { txn = t; block = b }) (blocks_of w t bs) (length bs) (few_blocks w t bs)

pub few-pieces : (w : World) (ts bs : List ℕ) → length bs < 65536 → length (pieces w ts bs) ≤ 65536 * length ts
few-pieces w [] bs few = omega arith
few-pieces w (t ∷ ts) bs few = omega (arith, length-append (blocks_of w t bs) (pieces w ts bs), few_blocks w t bs, few-pieces w ts bs few, few)

-- and so their number has 64 bits
pub pieces-small : (plan : PlanParts) (batches : List Batch) → plan.blocks < 65536 → length (txns_in batches) < 2 ^ 32 → length (pieces (planned plan 1 batches) (numbers_of 1 batches) (blocks_in plan)) < 2 ^ 64
pieces-small plan batches blocks few =
    let all = few-pieces (planned plan 1 batches) (numbers_of 1 batches) (blocks_in plan) (omega (arith, length-range_with_len 0 plan.blocks, blocks)) in
    omega (arith, all, length-range_with_len 1 (length (txns_of batches)), ap length (same-txns batches), few)
