-- Sets of loaded batches: each piece has its set, and each set is of a loaded batch and has its pieces.
use Rattle.std.proofs.Common.{◌≡◌, ◌⊎◌, ℕ, zero, suc, ◌+◌, ◌<◌, ◌≤◌, true, List, [], ◌∷◌, map, length, Some, None, refl, sym, ap, subst, ◌∙◌, inl, inr, arith}
use Rattle.std.specs.Prelude.{slice_get}
use Rattle.std.specs.List.{range_with_len}
use Rattle.std.proofs.lemmas.Option.{same_Some}
use Rattle.pac_base.specs.Members.{Mem}
use Rattle.pac_ops.specs.declared.batch.Batch.{Batch}
use Rattle.pac_ops.specs.declared.transaction.Txn.{Txn}
use Rattle.pac_plan.specs.declared.parts.PlanParts.{PlanParts}
use Rattle.pac_plan.specs.Worlds.{blocks_in, txn_at}
use Rattle.pac_batch.specs.declared.piece_set.PieceSet.{PieceSet}
use Rattle.pac_batch.specs.Sets.{has_numbers, has_piece, has_txns, set_of, sets_of}
use Rattle.pac_commute.proofs.Loads.{in-range}
use Rattle.pac_sets.specs.declared.set_id.SetId.{SetId}
use Rattle.pac_core.specs.Links.{set_ids}
use Rattle.pac_core.proofs.Lists.{filter_in, filter_of, map_in, map_of, mem_either, mem_first, mem_second}
use Rattle.pac_core.proofs.SetFacts.{range-in}

-- a list with a member isn't empty
has_one : (ts : List ℕ) (t : ℕ) → Mem t ts → has_numbers ts ≡ true
has_one [] t m = absurd m
has_one (u ∷ us) t m = refl

-- ---- the set of a batch in a block

module _ (parts : PlanParts) (first : ℕ) (txns : List Txn) (block : ℕ) where
  pub txn_in : (t : ℕ) → first ≤ t → t < first + length txns → has_piece parts block (txn_at first txns t) ≡ true → Mem t (set_of parts first txns block).txns
  txn_in t least within has = filter_in (λ t. has_piece parts block (txn_at first txns t)) (range_with_len first (length txns)) t (range-in first (length txns) t least within) has

  pub txn_of_set : (t : ℕ) → Mem t (set_of parts first txns block).txns → (first ≤ t) × (t < first + length txns) × (has_piece parts block (txn_at first txns t) ≡ true)
  txn_of_set t m =
      let r = filter_of (λ t. has_piece parts block (txn_at first txns t)) (range_with_len first (length txns)) t m in
      let within = in-range first (length txns) t r.0 in
      (within.0, within.1, r.1)

  pub set_in : (t : ℕ) → block < parts.blocks → Mem t (set_of parts first txns block).txns → Mem (set_of parts first txns block) (sets_of parts first txns)
  set_in t lt m = filter_in has_txns (map (set_of parts first txns) (blocks_in parts)) (set_of parts first txns block)
      (map_in (set_of parts first txns) (blocks_in parts) block (range-in 0 parts.blocks block (omega arith) (omega arith)))
      (has_one (set_of parts first txns block).txns t m)

-- a set of a batch is of one of the blocks, and has a transaction
pub set_of_batch : (parts : PlanParts) (first : ℕ) (txns : List Txn) (set : PieceSet) → Mem set (sets_of parts first txns)
    → (set.block < parts.blocks) × (set ≡ set_of parts first txns set.block) × (has_txns set ≡ true)
set_of_batch parts first txns set m =
    let r = filter_of has_txns (map (set_of parts first txns) (blocks_in parts)) set m in
    let b = map_of (set_of parts first txns) (blocks_in parts) set r.0 in
    let own : set.block ≡ b.0 = ap (λ (s : PieceSet). s.block) b.2 in
    ((let lt = (in-range 0 parts.blocks b.0 b.1).1 in omega (arith, own, lt)), b.2 ∙ ap (set_of parts first txns) (sym own), r.1)

-- ---- the sets of batches

pub id_in : (parts : PlanParts) (n : ℕ) (batches : List Batch) (k : ℕ) (batch : Batch) → slice_get batches k ≡ Some batch → (set : PieceSet) → Mem set (sets_of parts batch.first batch.txns)
    → Mem {A = SetId} (record { batch = n + k; block = set.block }) (set_ids parts n batches)
id_in parts n [] k batch e set m = let wrong : None ≡ Some batch = e in absurd cc
id_in parts n (b ∷ bs) zero batch e set m =
    let same : b ≡ batch = same_Some b batch e in
    mem_first (record { batch = n + 0; block = set.block }) (map (λ (set : PieceSet). record { batch = n; block = set.block }) (sets_of parts b.first b.txns)) (set_ids parts (n + 1) bs)
    (subst (λ (k : ℕ). Mem {A = SetId} (record { batch = k; block = set.block }) (map (λ (set : PieceSet). record { batch = n; block = set.block }) (sets_of parts b.first b.txns))) (omega arith)
    (map_in (λ (set : PieceSet). record { batch = n; block = set.block }) (sets_of parts b.first b.txns) set (subst (λ (x : Batch). Mem set (sets_of parts x.first x.txns)) (sym same) m)))
id_in parts n (b ∷ bs) (suc k) batch e set m =
    mem_second (record { batch = n + suc k; block = set.block }) (map (λ (set : PieceSet). record { batch = n; block = set.block }) (sets_of parts b.first b.txns)) (set_ids parts (n + 1) bs)
    (subst (λ (k : ℕ). Mem {A = SetId} (record { batch = k; block = set.block }) (set_ids parts (n + 1) bs)) (omega arith) (id_in parts (n + 1) bs k batch e set m))

-- what is known of a set of batches
pub record IsSetOf (parts : PlanParts) (n : ℕ) (batches : List Batch) (id : SetId) : Type 0 where
  pub k : ℕ
  pub batch : Batch
  pub there : slice_get batches k ≡ Some batch
  pub number : id.batch ≡ n + k
  pub inside : id.block < parts.blocks
  pub some : has_txns (set_of parts batch.first batch.txns id.block) ≡ true

pub id_of : (parts : PlanParts) (n : ℕ) (batches : List Batch) (id : SetId) → Mem id (set_ids parts n batches) → IsSetOf parts n batches id
id_of parts n [] id m = absurd m
id_of parts n (b ∷ bs) id m = go (mem_either id (map (λ (set : PieceSet). record { batch = n; block = set.block }) (sets_of parts b.first b.txns)) (set_ids parts (n + 1) bs) m) (λ later. id_of parts (n + 1) bs id later)
  where
    go : Mem id (map (λ (set : PieceSet). record { batch = n; block = set.block }) (sets_of parts b.first b.txns)) ⊎ Mem id (set_ids parts (n + 1) bs) → (Mem id (set_ids parts (n + 1) bs) → IsSetOf parts (n + 1) bs id) → IsSetOf parts n (b ∷ bs) id
    go (inl own) rest =
        let s = map_of (λ (set : PieceSet). record { batch = n; block = set.block }) (sets_of parts b.first b.txns) id own in
        let is = set_of_batch parts b.first b.txns s.0 s.1 in
        let block : id.block ≡ s.0.block = ap (λ (x : SetId). x.block) s.2 in
        let number : id.batch ≡ n = ap (λ (x : SetId). x.batch) s.2 in
        let lt = is.0 in
        record {
          k = 0;
          batch = b;
          there = refl;
          number = omega (arith, number);
          inside = omega (arith, lt, block);
          some = ap (λ x. has_txns (set_of parts b.first b.txns x)) block ∙ ap has_txns (sym is.1) ∙ is.2;
        }
    go (inr later) rest =
        let r = rest later in
        let number = r.number in
        record { k = suc r.k; batch = r.batch; there = r.there; number = omega (arith, number); inside = r.inside; some = r.some }
