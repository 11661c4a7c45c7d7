-- The pieces before a place and those from it on: as the place moves over blocks without pieces and to the next transaction, over a piece, and where
-- a batch is loaded.
use Rattle.std.proofs.Common.{◌≡◌, ℕ, zero, suc, ◌+◌, ◌-◌, ◌<◌, ◌≤◌, nat_lt, Bool, true, false, cond, List, [], ◌∷◌, ◌++◌, length, Some, refl, sym, ap, ap₂, ◌∙◌, subst, arith}
use Rattle.std.proofs.lemmas.Bool.Decides.{nat_tests}
use Rattle.std.specs.List.{range_with_len}
use Rattle.pac_ops.specs.declared.batch.Batch.{Batch}
use Rattle.pac_ops.specs.declared.piece.PieceId.{PieceId}
use Rattle.pac_ops.specs.declared.transaction.Txn.{Txn}
use Rattle.pac_base.specs.Members.{Mem}
use Rattle.pac_plan.specs.Pieces.{World, blocks_of, has_ops, part, piece_exists, pieces}
use Rattle.pac_plan.specs.Worlds.{blocks_in, txn_at, txn_block, txn_code}
use Rattle.pac_plan.specs.Codes.{piece_ops}
use Rattle.pac_commute.specs.Loads.{Job, LoadKeeps, and_batch, next_in_job, pieces_of, world_of}
use Rattle.pac_commute.specs.PlanLaws.{NumbersRunOn, txns_of}
use Rattle.pac_commute.proofs.Loads.{in-range, loads_keep, txn_of}
use Rattle.pac_in_order.specs.Lines.{pieces_to}

-- ---- lists

range-both : (m j k : ℕ) → range_with_len m (j + k) ≡ range_with_len m j ++ range_with_len (m + j) k
range-both m zero k = let a : 0 + k ≡ k = omega arith in let b : m ≡ m + 0 = omega arith in ap (range_with_len m) a ∙ ap (λ x. range_with_len x k) b
range-both m (suc j) k =
    let a : suc j + k ≡ suc (j + k) = omega arith in let b : m + 1 + j ≡ m + suc j = omega arith in
    ap (range_with_len m) a ∙ ap (λ xs. m ∷ xs) (range-both (m + 1) j k) ∙ ap (λ x. m ∷ (range_with_len (m + 1) j ++ range_with_len x k)) b

range-last : (m j : ℕ) → range_with_len m (j + 1) ≡ range_with_len m j ++ (m + j) ∷ []
range-last m j = range-both m j 1

range-from : (m b n : ℕ) → b ≤ n → range_with_len m n ≡ range_with_len m b ++ range_with_len (m + b) (n - b)
range-from m b n le = let a : n ≡ b + (n - b) = omega (arith, le) in ap (range_with_len m) a ∙ range-both m b (n - b)

regrouped : (xs ys zs : List PieceId) → (xs ++ ys) ++ zs ≡ xs ++ (ys ++ zs)
regrouped [] ys zs = refl
regrouped (x ∷ xs) ys zs = ap (λ l. x ∷ l) (regrouped xs ys zs)

and_none : (xs : List PieceId) → xs ++ [] ≡ xs
and_none [] = refl
and_none (x ∷ xs) = ap (λ l. x ∷ l) (and_none xs)

pieces-both : (w : World) (ts more bs : List ℕ) → pieces w (ts ++ more) bs ≡ pieces w ts bs ++ pieces w more bs
pieces-both w [] more bs = refl
pieces-both w (t ∷ ts) more bs = ap (λ ps. blocks_of w t bs ++ ps) (pieces-both w ts more bs) ∙ sym (regrouped (blocks_of w t bs) (pieces w ts bs) (pieces w more bs))

blocks-both : (w : World) (t : ℕ) (bs more : List ℕ) → blocks_of w t (bs ++ more) ≡ blocks_of w t bs ++ blocks_of w t more
blocks-both w t [] more = refl
blocks-both w t (b ∷ bs) more = go (piece_exists w (record { txn = t; block = b })) (blocks-both w t bs more)
  where
    go : (c : Bool) → blocks_of w t (bs ++ more) ≡ blocks_of w t bs ++ blocks_of w t more
        → cond c (record { txn = t; block = b } ∷ blocks_of w t (bs ++ more)) (blocks_of w t (bs ++ more)) ≡ cond c (record { txn = t; block = b } ∷ blocks_of w t bs) (blocks_of w t bs) ++ blocks_of w t more
    go true rest = ap (λ l. record { txn = t; block = b } ∷ l) rest
    go false rest = rest

no_blocks : (w : World) (t b d : ℕ) → ((c : ℕ) → b ≤ c → c < b + d → piece_exists w (record { txn = t; block = c }) ≡ false) → blocks_of w t (range_with_len b d) ≡ []
no_blocks w t b zero none = refl
no_blocks w t b (suc d) none =
    ap (λ c. cond c (record { txn = t; block = b } ∷ blocks_of w t (range_with_len (b + 1) d)) (blocks_of w t (range_with_len (b + 1) d))) (none b (omega arith) (omega arith))
    ∙ no_blocks w t (b + 1) d (λ c le lt. none c (omega (arith, le)) (omega (arith, lt)))

one_block : (w : World) (t b : ℕ) → piece_exists w (record { txn = t; block = b }) ≡ true → blocks_of w t (b ∷ []) ≡ record { txn = t; block = b } ∷ []
one_block w t b there = ap (λ c. cond c (record { txn = t; block = b } ∷ []) []) there

module _ (job : Job) (batches : List Batch) where
  abbrev w : World
  w = world_of job batches

  abbrev bs : List ℕ
  bs = blocks_in job.parts

  abbrev count : ℕ
  count = length (txns_of batches)

  -- a transaction's piece in a block is there where it has operations
  pub exists_is : (t b : ℕ) (txn : Txn) → txn_at job.first (txns_of batches) t ≡ Some txn → piece_exists w (record { txn = t; block = b }) ≡ has_ops (piece_ops job.parts b txn)
  exists_is t b txn there = ap (λ o. has_ops (part (txn_block job.parts o) b (txn_code job.parts o))) there

  -- ---- the place moves

  pub blocks_passed : (k b b' : ℕ) → b ≤ b' → ((c : ℕ) → b ≤ c → c < b' → piece_exists w (record { txn = job.first + k; block = c }) ≡ false) → pieces_to job batches k b' ≡ pieces_to job batches k b
  blocks_passed k b b' le none = ap (λ ps. pieces w (range_with_len job.first k) bs ++ ps)
      (ap (blocks_of w (job.first + k)) (range-from 0 b b' le)
      ∙ blocks-both w (job.first + k) (range_with_len 0 b) (range_with_len (0 + b) (b' - b))
      ∙ ap (λ ps. blocks_of w (job.first + k) (range_with_len 0 b) ++ ps) (no_blocks w (job.first + k) (0 + b) (b' - b) (λ c low high. none c (omega (arith, low)) (omega (arith, high, le))))
      ∙ and_none (blocks_of w (job.first + k) (range_with_len 0 b)))

  pub txn_passed : (k : ℕ) → pieces_to job batches (k + 1) 0 ≡ pieces_to job batches k job.parts.blocks
  txn_passed k =
      and_none (pieces w (range_with_len job.first (k + 1)) bs)
      ∙ ap (λ ts. pieces w ts bs) (range-last job.first k)
      ∙ pieces-both w (range_with_len job.first k) ((job.first + k) ∷ []) bs
      ∙ ap (λ ps. pieces w (range_with_len job.first k) bs ++ ps) (and_none (blocks_of w (job.first + k) bs))

  pub piece_passed : (k b : ℕ) → piece_exists w (record { txn = job.first + k; block = b }) ≡ true → pieces_to job batches k (b + 1) ≡ pieces_to job batches k b ++ record { txn = job.first + k; block = b } ∷ []
  piece_passed k b there =
      ap (λ ps. pieces w (range_with_len job.first k) bs ++ ps)
      (ap (blocks_of w (job.first + k)) (range-last 0 b ∙ ap (λ c. range_with_len 0 b ++ c ∷ []) (let e : 0 + b ≡ b = omega arith in e))
      ∙ blocks-both w (job.first + k) (range_with_len 0 b) (b ∷ [])
      ∙ ap (λ ps. blocks_of w (job.first + k) (range_with_len 0 b) ++ ps) (one_block w (job.first + k) b there))
      ∙ sym (regrouped (pieces w (range_with_len job.first k) bs) (blocks_of w (job.first + k) (range_with_len 0 b)) (record { txn = job.first + k; block = b } ∷ []))

  -- ---- what is left

  pub all_passed : pieces_of job batches ≡ pieces_to job batches count 0
  all_passed = sym (and_none (pieces w (range_with_len job.first count) bs))

  -- from a place in a transaction on
  pub left_from : (k b : ℕ) → k < count → b ≤ job.parts.blocks → (rest : List PieceId) × (pieces_of job batches ≡ pieces_to job batches k b ++ rest)
  left_from k b lt le = (
    blocks_of w (job.first + k) (range_with_len b (job.parts.blocks - b)) ++ pieces w (range_with_len (job.first + k + 1) (count - (k + 1))) bs,
    ap (λ ts. pieces w ts bs) numbers_divided
        ∙ pieces-both w (range_with_len job.first k) ((job.first + k) ∷ range_with_len (job.first + k + 1) (count - (k + 1))) bs
        ∙ ap (λ ps. pieces w (range_with_len job.first k) bs ++ (ps ++ pieces w (range_with_len (job.first + k + 1) (count - (k + 1))) bs)) blocks_divided
        ∙ grouped (pieces w (range_with_len job.first k) bs) (blocks_of w (job.first + k) (range_with_len 0 b)) (blocks_of w (job.first + k) (range_with_len b (job.parts.blocks - b)))
        (pieces w (range_with_len (job.first + k + 1) (count - (k + 1))) bs),
  )
    where
      numbers_divided : range_with_len job.first count ≡ range_with_len job.first k ++ (job.first + k) ∷ range_with_len (job.first + k + 1) (count - (k + 1))
      numbers_divided =
          let more : count - k ≡ suc (count - (k + 1)) = omega (arith, lt) in
          range-from job.first k count (omega (arith, lt)) ∙ ap (λ n. range_with_len job.first k ++ range_with_len (job.first + k) n) more

      blocks_divided : blocks_of w (job.first + k) bs ≡ blocks_of w (job.first + k) (range_with_len 0 b) ++ blocks_of w (job.first + k) (range_with_len b (job.parts.blocks - b))
      blocks_divided =
          let same : 0 + b ≡ b = omega arith in
          ap (blocks_of w (job.first + k)) (range-from 0 b job.parts.blocks le ∙ ap (λ c. range_with_len 0 b ++ range_with_len c (job.parts.blocks - b)) same)
          ∙ blocks-both w (job.first + k) (range_with_len 0 b) (range_with_len b (job.parts.blocks - b))

      grouped : (xs ys zs us : List PieceId) → xs ++ ((ys ++ zs) ++ us) ≡ (xs ++ ys) ++ (zs ++ us)
      grouped xs ys zs us = ap (λ l. xs ++ l) (regrouped ys zs us) ∙ sym (regrouped xs ys (zs ++ us))

  -- of the transactions from the place on none has a finished piece, if the one at the place isn't begun
  pub none_begun : (k : ℕ) (q : PieceId) → Mem q (pieces_to job batches k 0) → q.txn ≡ job.first + k → ⊥
  none_begun k q m same =
      let inside = in-range job.first k q.txn (txn_of w q (range_with_len job.first k) bs (subst (Mem q) (and_none (pieces w (range_with_len job.first k) bs)) m)) in
      let below : q.txn < job.first + k = inside.1 in
      omega (arith, below, same)

-- ---- a batch is loaded

module _ (job : Job) (batches : List Batch) (batch : Batch) (run_on : NumbersRunOn job.first batches) (next : batch.first ≡ next_in_job job batches) where
  keeps_load : LoadKeeps job batches batch
  keeps_load = loads_keep job batches batch run_on next

  same_exists : (p : PieceId) → p.txn < next_in_job job batches → piece_exists (world_of job (and_batch batches batch)) p ≡ piece_exists (world_of job batches) p
  same_exists p lt = ap has_ops (keeps_load.operations p lt)

  same_blocks : (t : ℕ) (bs : List ℕ) → t < next_in_job job batches → blocks_of (world_of job (and_batch batches batch)) t bs ≡ blocks_of (world_of job batches) t bs
  same_blocks t [] lt = refl
  same_blocks t (b ∷ bs) lt = λ i. cond (same_exists (record { txn = t; block = b }) lt i) (record { txn = t; block = b } ∷ same_blocks t bs lt i) (same_blocks t bs lt i)

  same_pieces : (m k : ℕ) (bs : List ℕ) → m + k ≤ next_in_job job batches → pieces (world_of job (and_batch batches batch)) (range_with_len m k) bs ≡ pieces (world_of job batches) (range_with_len m k) bs
  same_pieces m zero bs le = refl
  same_pieces m (suc k) bs le = ap₂ (λ xs ys. xs ++ ys) (same_blocks m bs (omega (arith, le))) (same_pieces (m + 1) k bs (omega (arith, le)))

  -- what was finished is what it was
  pub to_same : (k b : ℕ) → k ≤ length (txns_of batches) → (k ≡ length (txns_of batches) → b ≡ 0) → pieces_to job (and_batch batches batch) k b ≡ pieces_to job batches k b
  to_same k b le at_end = ap₂ (λ xs ys. xs ++ ys) (same_pieces job.first k (blocks_in job.parts) (omega (arith, le))) (go (nat_lt k (length (txns_of batches))) refl)
    where
      go : (c : Bool) → nat_lt k (length (txns_of batches)) ≡ c → blocks_of (world_of job (and_batch batches batch)) (job.first + k) (range_with_len 0 b) ≡ blocks_of (world_of job batches) (job.first + k) (range_with_len 0 b)
      go true h = let lt : k < length (txns_of batches) = grind (arith, nat_tests) in same_blocks (job.first + k) (range_with_len 0 b) (omega (arith, lt))
      go false h =
          let ge : length (txns_of batches) ≤ k = grind (arith, nat_tests) in
          let none : b ≡ 0 = at_end (omega (arith, ge, le)) in
          ap (λ n. blocks_of (world_of job (and_batch batches batch)) (job.first + k) (range_with_len 0 n)) none ∙ sym (ap (λ n. blocks_of (world_of job batches) (job.first + k) (range_with_len 0 n)) none)
