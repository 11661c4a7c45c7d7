-- Pieces by their batches: where a transaction stands, which pieces there are, and which come before which.
use Rattle.std.proofs.Common.{◌≡◌, ◌⊎◌, ℕ, zero, suc, ◌+◌, ◌-◌, ◌<◌, ◌≤◌, nat_lt, Bool, true, false, cond, ◌&&◌, ◌||◌, List, [], ◌∷◌, ◌++◌, length, Some, refl, sym, ap, ◌∙◌, inl, inr, arith}
use Rattle.std.specs.Prelude.{slice_get, ◌==◌, Contains}
use Rattle.std.specs.List.{range_with_len}
use Rattle.std.proofs.lemmas.Bool.{cases_lt}
use Rattle.std.proofs.lemmas.Bool.Decides.{nat_tests}
use Rattle.std.proofs.lemmas.List.{length-append}
use Rattle.pac_value.specs.Expressions.{Values}
use Rattle.pac_ops.specs.declared.batch.Batch.{Batch}
use Rattle.pac_ops.specs.declared.piece.PieceId.{PieceId}
use Rattle.pac_ops.specs.declared.transaction.Txn.{Txn}
use Rattle.pac_base.specs.Members.{Mem}
use Rattle.pac_base.proofs.TestLemmas.{and_left, and_right, and_both, or_cases, or_left, or_right, same_number, equal_number}
use Rattle.pac_plan.specs.declared.parts.PlanParts.{PlanParts}
use Rattle.pac_plan.specs.Pieces.{World, access, conflicts, precedes, ops, part, piece_exists, blocks_of, pieces}
use Rattle.pac_plan.specs.Worlds.{txn_at, txn_block, txn_code, batch_of}
use Rattle.pac_plan.specs.Codes.{piece_ops}
use Rattle.pac_plan.proofs.WorldLemmas.{edge-has, has-edge}
use Rattle.pac_commute.specs.PlanLaws.{txns_of, NumbersRunOn, planned}
use Rattle.pac_commute.proofs.BatchLemmas.{numbers_tied}

-- ---- where a transaction stands

-- the transaction with number t is number i of batch k
pub record Stands (batches : List Batch) (t k i : ℕ) : Type 0 where
  pub batch : Batch
  pub there : slice_get batches k ≡ Some batch
  pub inside : i < length batch.txns
  pub number : t ≡ batch.first + i

-- each loaded one does
pub stands : (next : ℕ) (batches : List Batch) → NumbersRunOn next batches → (t : ℕ) → next ≤ t → t < next + length (txns_of batches) → (k : ℕ) × (i : ℕ) × Stands batches t k i
stands next [] run t least within = absurd (omega arith)
stands next (b ∷ bs) run t least within = go (cases_lt t (next + length b.txns)) (stands (next + length b.txns) bs run.1 t)
  where
    go : (t < next + length b.txns) ⊎ (next + length b.txns ≤ t) → (next + length b.txns ≤ t → t < next + length b.txns + length (txns_of bs) → (k : ℕ) × (i : ℕ) × Stands bs t k i) → (k : ℕ) × (i : ℕ) × Stands (b ∷ bs) t k i
    go (inl lt) rest = let first : b.first ≡ next = run.0 in (0, t - next, record { batch = b; there = refl; inside = omega arith; number = omega arith })
    go (inr le) rest =
        let long : length (b.txns ++ txns_of bs) ≡ length b.txns + length (txns_of bs) = length-append b.txns (txns_of bs) in
        let r = rest le (omega arith) in
        (suc r.0, r.1, record { batch = r.2.batch; there = r.2.there; inside = r.2.inside; number = r.2.number })

-- ---- which pieces there are

mem-append : {A : Type 0} (x : A) (xs ys : List A) → Mem x (xs ++ ys) → Mem x xs ⊎ Mem x ys
mem-append x [] ys m = inr m
mem-append x (y ∷ xs) ys (inl e) = inl (inl e)
mem-append x (y ∷ xs) ys (inr m) = go (mem-append x xs ys m)
  where
    go : Mem x xs ⊎ Mem x ys → Mem x (y ∷ xs) ⊎ Mem x ys
    go (inl k) = inl (inr k)
    go (inr k) = inr k

mem-left : {A : Type 0} (x : A) (xs ys : List A) → Mem x xs → Mem x (xs ++ ys)
mem-left x [] ys m = absurd m
mem-left x (y ∷ xs) ys (inl e) = inl e
mem-left x (y ∷ xs) ys (inr m) = inr (mem-left x xs ys m)

mem-right : {A : Type 0} (x : A) (xs ys : List A) → Mem x ys → Mem x (xs ++ ys)
mem-right x [] ys m = m
mem-right x (y ∷ xs) ys m = inr (mem-right x xs ys m)

pub range-in : (n k t : ℕ) → n ≤ t → t < n + k → Mem t (range_with_len n k)
range-in n zero t least within = absurd (omega arith)
range-in n (suc k) t least within = go (cases_lt n t) (range-in (n + 1) k t)
  where
    go : (n < t) ⊎ (t ≤ n) → (n + 1 ≤ t → t < n + 1 + k → Mem t (range_with_len (n + 1) k)) → Mem t (range_with_len n (suc k))
    go (inl lt) rest = inr (rest (omega arith) (omega arith))
    go (inr le) rest = inl (omega arith)

module _ (w : World) where
  block_is : (t : ℕ) (bs : List ℕ) (p : PieceId) → Mem p (blocks_of w t bs) → (p.txn ≡ t) × Mem p.block bs × (piece_exists w p ≡ true)
  block_is t [] p m = absurd m
  block_is t (b ∷ bs) p m = go (piece_exists w (record { txn = t; block = b })) refl m (block_is t bs p)
    where
      go : (c : Bool) → piece_exists w (record { txn = t; block = b }) ≡ c → Mem p (cond c (record { txn = t; block = b } ∷ blocks_of w t bs) (blocks_of w t bs))
          → (Mem p (blocks_of w t bs) → (p.txn ≡ t) × Mem p.block bs × (piece_exists w p ≡ true)) → (p.txn ≡ t) × Mem p.block (b ∷ bs) × (piece_exists w p ≡ true)
      go true exists (inl e) rest = (ap (λ (x : PieceId). x.txn) e, inl (ap (λ (x : PieceId). x.block) e), ap (piece_exists w) e ∙ exists)
      go true exists (inr n) rest = let r = rest n in (r.0, inr r.1, r.2)
      go false exists n rest = let r = rest n in (r.0, inr r.1, r.2)

  block_there : (t : ℕ) (bs : List ℕ) (p : PieceId) → p.txn ≡ t → Mem p.block bs → piece_exists w p ≡ true → Mem p (blocks_of w t bs)
  block_there t [] p own m exists = absurd m
  block_there t (b ∷ bs) p own m exists = go (piece_exists w (record { txn = t; block = b })) refl m (block_there t bs p own)
    where
      go : (c : Bool) → piece_exists w (record { txn = t; block = b }) ≡ c → Mem p.block (b ∷ bs) → (Mem p.block bs → piece_exists w p ≡ true → Mem p (blocks_of w t bs))
          → Mem p (cond c (record { txn = t; block = b } ∷ blocks_of w t bs) (blocks_of w t bs))
      go true is (inl e) rest = inl (λ i. record { txn = own i; block = e i })
      go true is (inr n) rest = inr (rest n exists)
      go false is (inl e) rest =
          let same : p ≡ record { txn = t; block = b } = λ i. record { txn = own i; block = e i } in
          let no : true ≡ false = sym exists ∙ ap (piece_exists w) same ∙ is in
          absurd (cc no)
      go false is (inr n) rest = rest n exists

  pub piece_is : (ts bs : List ℕ) (p : PieceId) → Mem p (pieces w ts bs) → Mem p.txn ts × Mem p.block bs × (piece_exists w p ≡ true)
  piece_is [] bs p m = absurd m
  piece_is (t ∷ ts) bs p m = go (mem-append p (blocks_of w t bs) (pieces w ts bs) m) (piece_is ts bs p)
    where
      go : Mem p (blocks_of w t bs) ⊎ Mem p (pieces w ts bs) → (Mem p (pieces w ts bs) → Mem p.txn ts × Mem p.block bs × (piece_exists w p ≡ true)) → Mem p.txn (t ∷ ts) × Mem p.block bs × (piece_exists w p ≡ true)
      go (inl m) rest = let r = block_is t bs p m in (inl r.0, r.1, r.2)
      go (inr m) rest = let r = rest m in (inr r.0, r.1, r.2)

  pub piece_there : (ts bs : List ℕ) (p : PieceId) → Mem p.txn ts → Mem p.block bs → piece_exists w p ≡ true → Mem p (pieces w ts bs)
  piece_there [] bs p m n exists = absurd m
  piece_there (t ∷ ts) bs p (inl e) n exists = mem-left p (blocks_of w t bs) (pieces w ts bs) (block_there t bs p e n exists)
  piece_there (t ∷ ts) bs p (inr m) n exists = mem-right p (blocks_of w t bs) (pieces w ts bs) (piece_there ts bs p m n exists)

-- ---- the world, at a transaction that stands

module _ (parts : PlanParts) (first : ℕ) (batches : List Batch) (run : NumbersRunOn first batches) where
  abbrev w : World
  w = planned parts first batches

  module _ (t k i : ℕ) (at : Stands batches t k i) where
    -- its batch is counted by those up to it
    pub batch_at : batch_of batches t ≡ k + 1
    batch_at = ap (batch_of batches) at.number ∙ (numbers_tied first batches run k at.batch at.there i at.inside).0

    -- and it is found under its number
    pub txn_there : txn_at first (txns_of batches) t ≡ slice_get at.batch.txns i
    txn_there = ap (txn_at first (txns_of batches)) at.number ∙ (numbers_tied first batches run k at.batch at.there i at.inside).1

    pub ops_at : (block : ℕ) (txn : Txn) → slice_get at.batch.txns i ≡ Some txn → ops w (record { txn = t; block = block }) ≡ piece_ops parts block txn
    ops_at block txn is = λ j. part (txn_block parts ((txn_there ∙ is) j)) block (txn_code parts ((txn_there ∙ is) j))

  -- ---- what comes before what

  -- of two pieces that stand in batches, one precedes the other: it is of the batch, and an edge leads from its block; or of the block and an earlier batch; or of
  -- both, and earlier and in conflict
  pub data Precedes (env : ℕ → Values) (q p : PieceId) (j k : ℕ) : Type 0 where
    ByEdge : j ≡ k → Contains parts.edges (q.block, p.block) → Precedes env q p j k
    ByBatch : q.block ≡ p.block → j < k → Precedes env q p j k
    ByConflict : q.block ≡ p.block → j ≡ k → q.txn < p.txn → conflicts (access w env q) (access w env p) ≡ true → Precedes env q p j k

  module _ (env : ℕ → Values) (q p : PieceId) (j k a b : ℕ) (at_q : Stands batches q.txn j a) (at_p : Stands batches p.txn k b) where
    q_batch : w.batch q.txn ≡ j + 1
    q_batch = batch_at q.txn j a at_q

    p_batch : w.batch p.txn ≡ k + 1
    p_batch = batch_at p.txn k b at_p

    same_batch : (w.batch q.txn == w.batch p.txn) ≡ true → j ≡ k
    same_batch h = let e : w.batch q.txn ≡ w.batch p.txn = same_number (w.batch q.txn) (w.batch p.txn) h in let l = q_batch in let r = p_batch in omega arith

    pub precedes_by : precedes w env q p ≡ true → Precedes env q p j k
    precedes_by h = go (or_cases (w.batch q.txn == w.batch p.txn && w.edge q.block p.block) _ h)
      where
        earlier : nat_lt (w.batch q.txn) (w.batch p.txn) ≡ true → j < k
        earlier h = let e : w.batch q.txn < w.batch p.txn = grind (arith, nat_tests) in let l = q_batch in let r = p_batch in omega arith

        less : nat_lt q.txn p.txn ≡ true → q.txn < p.txn
        less h = grind (arith, nat_tests)

        later : (((q.block == p.block && nat_lt (w.batch q.txn) (w.batch p.txn)) ≡ true) ⊎ ((q.block == p.block && w.batch q.txn == w.batch p.txn && nat_lt q.txn p.txn && conflicts (access w env q) (access w env p)) ≡ true)) → Precedes env q p j k
        later (inl m) = ByBatch (same_number q.block p.block (and_left (q.block == p.block) _ m)) (earlier (and_right (q.block == p.block) _ m))
        later (inr m) =
            let c = and_right (q.block == p.block && w.batch q.txn == w.batch p.txn && nat_lt q.txn p.txn) _ m in
            let abc = and_left (q.block == p.block && w.batch q.txn == w.batch p.txn && nat_lt q.txn p.txn) _ m in
            let lt = and_right (q.block == p.block && w.batch q.txn == w.batch p.txn) _ abc in
            let ab = and_left (q.block == p.block && w.batch q.txn == w.batch p.txn) _ abc in
            ByConflict (same_number q.block p.block (and_left (q.block == p.block) _ ab)) (same_batch (and_right (q.block == p.block) _ ab)) (less lt) c

        go : (((w.batch q.txn == w.batch p.txn && w.edge q.block p.block) ≡ true) ⊎ (((q.block == p.block && nat_lt (w.batch q.txn) (w.batch p.txn)) || (q.block == p.block && w.batch q.txn == w.batch p.txn && nat_lt q.txn p.txn && conflicts (access w env q) (access w env p))) ≡ true)) → Precedes env q p j k
        go (inl m) = ByEdge (same_batch (and_left (w.batch q.txn == w.batch p.txn) _ m)) (has-edge parts q.block p.block (and_right (w.batch q.txn == w.batch p.txn) _ m))
        go (inr m) = later (or_cases (q.block == p.block && nat_lt (w.batch q.txn) (w.batch p.txn)) _ m)

    pub by_precedes : Precedes env q p j k → precedes w env q p ≡ true
    by_precedes h = go h
      where
        equal : j ≡ k → (w.batch q.txn == w.batch p.txn) ≡ true
        equal e = equal_number (w.batch q.txn) (w.batch p.txn) (let l = q_batch in let r = p_batch in omega arith)

        go : Precedes env q p j k → precedes w env q p ≡ true
        go (ByEdge e edge) = or_left (w.batch q.txn == w.batch p.txn && w.edge q.block p.block) _ (and_both (w.batch q.txn == w.batch p.txn) _ (equal e) (edge-has parts q.block p.block edge))
        go (ByBatch e lt) =
            let l = q_batch in let r = p_batch in
            let less : nat_lt (w.batch q.txn) (w.batch p.txn) ≡ true = let m : w.batch q.txn < w.batch p.txn = omega arith in grind (arith, nat_tests) in
            or_right (w.batch q.txn == w.batch p.txn && w.edge q.block p.block) _ (or_left (q.block == p.block && nat_lt (w.batch q.txn) (w.batch p.txn)) _ (and_both (q.block == p.block) _ (equal_number q.block p.block e) less))
        go (ByConflict e same lt c) =
            let less : nat_lt q.txn p.txn ≡ true = grind (arith, nat_tests) in
            or_right (w.batch q.txn == w.batch p.txn && w.edge q.block p.block) _ (or_right (q.block == p.block && nat_lt (w.batch q.txn) (w.batch p.txn)) _
            (and_both (q.block == p.block && w.batch q.txn == w.batch p.txn && nat_lt q.txn p.txn) _
            (and_both (q.block == p.block && w.batch q.txn == w.batch p.txn) _ (and_both (q.block == p.block) _ (equal_number q.block p.block e) (equal same)) less) c))
