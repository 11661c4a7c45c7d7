-- The sets of a batch stand after those of the batches before it, in order; and their pieces are as many as the batch adds.
use Rattle.std.proofs.Common.{◌≡◌, ℕ, ◌+◌, ◌-◌, ◌<◌, ◌==◌, Bool, true, false, cond, is_lt, List, [], ◌∷◌, ◌++◌, map, length, Some, refl, sym, ap, ap₂, subst, ◌∙◌, true≢false, inl, inr, arith}
use Rattle.std.specs.Prelude.{filter, slice_get, sum_by, IsSome, T}
use Rattle.std.specs.declared.cmp.Ordering.TheVariants.{Less, Equal, Greater}
use Rattle.std.specs.Ordering.{nat_cmp, ordering_then}
use Rattle.std.specs.List.{AllZip, range_with_len}
use Rattle.std.specs.FinMap.{is_sorted}
use Rattle.std.specs.FinMap.Entries.{below_all}
use Rattle.std.specs.Cmp.{nat_cmp_total, tied_itself}
use Rattle.std.proofs.lemmas.List.{length-map}
use Rattle.std.proofs.lemmas.List.Sums.{sum_by-cons}
use Rattle.std.proofs.lemmas.Option.{slice_get_within}
use Rattle.pac_base.specs.Members.{Mem, Rises}
use Rattle.pac_base.proofs.TestLemmas.{and_both, and_left, and_right, each_mem, mem_each}
use Rattle.pac_base.proofs.ItemLemmas.{item_at}
use Rattle.pac_ops.specs.declared.batch.Batch.{Batch}
use Rattle.pac_ops.specs.declared.transaction.Txn.{Txn}
use Rattle.pac_plan.specs.declared.parts.PlanParts.{PlanParts}
use Rattle.pac_plan.specs.Pieces.{World, has_ops, part, pieces}
use Rattle.pac_plan.specs.Worlds.{blocks_in, txn_at, txn_block, txn_code}
use Rattle.pac_plan.proofs.WorldLemmas.{rises-range}
use Rattle.pac_batch.specs.declared.piece_set.PieceSet.{PieceSet}
use Rattle.pac_batch.specs.Sets.{has_numbers, has_piece, has_txns, set_of, sets_of}
use Rattle.pac_sets.specs.declared.set_id.SetId.{SetId}
use Rattle.pac_sets.specs.SetOrder.{set_cmp}
use Rattle.pac_sched.proofs.PlaceLemmas.{lt_true}
use Rattle.pac_sets.specs.Sets.{AreLeft, Kept}
use Rattle.pac_commute.specs.Loads.{Job, and_batch, next_in_job, world_of}
use Rattle.pac_commute.specs.PlanLaws.{NumbersRunOn}
use Rattle.pac_commute.proofs.BatchLemmas.{run_on-more}
use Rattle.pac_commute.proofs.Loads.{in-range}
use Rattle.pac_commute.proofs.Replays.{at_number}
use Rattle.pac_core.specs.declared.loaded.LoadedBatch.{LoadedBatch}
use Rattle.pac_core.specs.declared.progress.Progress.{Progress}
use Rattle.pac_core.specs.declared.stage.SetStage.{SetStage}
use Rattle.pac_core.specs.Links.{KeepsProgress, batches_of}
use Rattle.pac_core.specs.Moves.{IsWaitingSet}
use Rattle.pac_core.proofs.CountPieces.{both_ways, count_pieces, exists_at, in_block, sums, sums_alike}
use Rattle.pac_core.proofs.Lists.{at_mem, filter_alike, mem_at}
use Rattle.pac_core.proofs.Ready.{set_at}
use Rattle.pac_core.proofs.SetFacts.{Stands, txn_there}
use Rattle.pac_core.proofs.SetLists.{set_of_batch}

-- ---- order

lesser : (a b : ℕ) → a < b → nat_cmp a b ≡ Less
lesser a b lt = ap (λ c. cond c Less (cond (a == b) Equal Greater)) (lt_true a b lt)

T_true : (b : Bool) → b ≡ true → T b
T_true true e = tt
T_true false e = absurd (true≢false (sym e))

true_T : (b : Bool) → T b → b ≡ true
true_T true t = refl
true_T false t = absurd t

module _ {P : Type 0} where
  below_of : (id : SetId) (sets : List (Kept P)) → ((s : Kept P) → Mem s sets → set_cmp id s.0 ≡ Less) → below_all set_cmp id sets ≡ true
  below_of id [] less = refl
  below_of id (s ∷ ss) less = and_both (is_lt (set_cmp id s.0)) _ (ap is_lt (less s (inl refl))) (below_of id ss (λ x m. less x (inr m)))

  below_both : (id : SetId) (one other : List (Kept P)) → below_all set_cmp id one ≡ true → ((s : Kept P) → Mem s other → set_cmp id s.0 ≡ Less) → below_all set_cmp id (one ++ other) ≡ true
  below_both id [] other b less = below_of id other less
  below_both id (s ∷ ss) other b less = and_both (is_lt (set_cmp id s.0)) _ (and_left _ _ b) (below_both id ss other (and_right (is_lt (set_cmp id s.0)) _ b) less)

  -- two lists in order, each set of the one before each of the other
  sorted_both : (one other : List (Kept P)) → is_sorted set_cmp one ≡ true → is_sorted set_cmp other ≡ true → ((s t : Kept P) → Mem s one → Mem t other → set_cmp s.0 t.0 ≡ Less)
      → is_sorted set_cmp (one ++ other) ≡ true
  sorted_both [] other up up' less = up'
  sorted_both (s ∷ ss) other up up' less =
      and_both (below_all set_cmp s.0 (ss ++ other)) _ (below_both s.0 ss other (and_left _ _ up) (λ t m. less s t (inl refl) m))
      (sorted_both ss other (and_right (below_all set_cmp s.0 ss) _ up) up' (λ x t mx mt. less x t (inr mx) mt))

  -- sets of one batch by ascending blocks
  sorted_blocks : (k : ℕ) (sets : List (Kept P)) → ((s : Kept P) → Mem s sets → s.0.batch ≡ k) → Rises (map (λ (s : Kept P). s.0.block) sets) → is_sorted set_cmp sets ≡ true
  sorted_blocks k [] own up = refl
  sorted_blocks k (s ∷ ss) own up =
      and_both (below_all set_cmp s.0 ss) _
      (below_of s.0 ss (λ t m. later s.0 t.0 (own s (inl refl) ∙ sym (own t (inr m))) (mem_each (λ b. s.0.block < b) (map (λ (s : Kept P). s.0.block) ss) up.0 t.0.block (mapped ss t m))))
      (sorted_blocks k ss (λ t m. own t (inr m)) up.1)
    where
      mapped : (l : List (Kept P)) (t : Kept P) → Mem t l → Mem t.0.block (map (λ (s : Kept P). s.0.block) l)
      mapped [] t m = absurd m
      mapped (x ∷ xs) t (inl e) = inl (ap (λ (s : Kept P). s.0.block) e)
      mapped (x ∷ xs) t (inr m) = inr (mapped xs t m)

      later : (a b : SetId) → a.batch ≡ b.batch → a.block < b.block → set_cmp a b ≡ Less
      later a b e lt = ap₂ ordering_then (ap (λ (n : ℕ). nat_cmp n b.batch) e ∙ tied_itself nat_cmp_total b.batch) (lesser a.block b.block lt)

earlier : (a b : SetId) → a.batch < b.batch → set_cmp a b ≡ Less
earlier a b lt = ap (λ o. ordering_then o (nat_cmp a.block b.block)) (lesser a.batch b.batch lt)

-- ---- the sets of a batch

module _ (parts : PlanParts) (first : ℕ) (txns : List Txn) where
  abbrev sets_in : List ℕ → List PieceSet
  sets_in bs = filter has_txns (map (set_of parts first txns) bs)

  block_in : (bs : List ℕ) (b : ℕ) → Mem b (map (λ (s : PieceSet). s.block) (sets_in bs)) → Mem b bs
  block_in [] b m = absurd m
  block_in (x ∷ xs) b m = go (has_txns (set_of parts first txns x)) m (λ n. block_in xs b n)
    where
      go : (c : Bool) → Mem b (map (λ (s : PieceSet). s.block) (cond c (set_of parts first txns x ∷ sets_in xs) (sets_in xs))) → (Mem b (map (λ (s : PieceSet). s.block) (sets_in xs)) → Mem b xs) → Mem b (x ∷ xs)
      go true (inl e) rest = inl e
      go true (inr n) rest = inr (rest n)
      go false n rest = inr (rest n)

  blocks_rise : (bs : List ℕ) → Rises bs → Rises (map (λ (s : PieceSet). s.block) (sets_in bs))
  blocks_rise [] up = tt
  blocks_rise (x ∷ xs) up = go (has_txns (set_of parts first txns x)) (blocks_rise xs up.1)
    where
      go : (c : Bool) → Rises (map (λ (s : PieceSet). s.block) (sets_in xs)) → Rises (map (λ (s : PieceSet). s.block) (cond c (set_of parts first txns x ∷ sets_in xs) (sets_in xs)))
      go true rest = (each_mem (λ b. x < b) (map (λ (s : PieceSet). s.block) (sets_in xs)) (λ b m. mem_each (λ b. x < b) xs up.0 b (block_in xs b m)), rest)
      go false rest = rest

  none_there : (ts : List ℕ) → has_numbers ts ≡ false → ts ≡ []
  none_there [] e = refl
  none_there (t ∷ ts) e = absurd (true≢false e)

  -- how many pieces they have
  sum_sets : (exists : ℕ → ℕ → Bool) (bs : List ℕ) → sum_by (λ (s : PieceSet). length s.txns) (sets_in bs) ≡ sums exists (λ b. length (set_of parts first txns b).txns) bs
  sum_sets exists [] = refl
  sum_sets exists (x ∷ xs) = go (has_txns (set_of parts first txns x)) refl (sum_sets exists xs)
    where
      go : (c : Bool) → has_txns (set_of parts first txns x) ≡ c → sum_by (λ (s : PieceSet). length s.txns) (sets_in xs) ≡ sums exists (λ b. length (set_of parts first txns b).txns) xs
          → sum_by (λ (s : PieceSet). length s.txns) (cond c (set_of parts first txns x ∷ sets_in xs) (sets_in xs)) ≡ length (set_of parts first txns x).txns + sums exists (λ b. length (set_of parts first txns b).txns) xs
      go true e rest = sum_by-cons (λ (s : PieceSet). length s.txns) (set_of parts first txns x) (sets_in xs) ∙ ap (λ n. length (set_of parts first txns x).txns + n) rest
      go false e rest =
          let none : length (set_of parts first txns x).txns ≡ 0 = ap length (none_there (set_of parts first txns x).txns e) in
          omega (arith, none, rest)

zip_blocks : (k : ℕ) (sets : List PieceSet) (more : List (Kept SetStage)) → AllZip (IsWaitingSet k) sets more → map (λ (s : Kept SetStage). s.0.block) more ≡ map (λ (s : PieceSet). s.block) sets
zip_blocks k [] [] all = refl
zip_blocks k [] (m ∷ ms) all = absurd all
zip_blocks k (s ∷ ss) [] all = absurd all
zip_blocks k (s ∷ ss) (m ∷ ms) all = ap₂ (λ a b. a ∷ b) (ap (λ (x : Kept SetStage). x.0.block) all.0) (zip_blocks k ss ms all.1)

zip_mem : (k : ℕ) (sets : List PieceSet) (more : List (Kept SetStage)) → AllZip (IsWaitingSet k) sets more → (m : Kept SetStage) → Mem m more → (s : PieceSet) × Mem s sets × IsWaitingSet k s m
zip_mem k [] [] all m mem = absurd mem
zip_mem k [] (x ∷ xs) all m mem = absurd all
zip_mem k (s ∷ ss) [] all m mem = absurd all
zip_mem k (s ∷ ss) (x ∷ xs) all m (inl e) = (s, inl refl, e ∙ all.0)
zip_mem k (s ∷ ss) (x ∷ xs) all m (inr mem) = let r = zip_mem k ss xs all.1 m mem in (r.0, inr r.1, r.2)

-- ---- loading

module _ (job : Job) (p : Progress) (keeps : KeepsProgress job p) (batch : Batch) (more : List (Kept SetStage)) (waiting : AllZip (IsWaitingSet (length p.batches.items)) (sets_of p.pieces batch.first batch.txns) more) where
  -- the sets are in order
  pub sets_sorted : T (is_sorted set_cmp (p.sets.sets ++ more))
  sets_sorted = T_true (is_sorted set_cmp (p.sets.sets ++ more)) (sorted_both p.sets.sets more (true_T (is_sorted set_cmp p.sets.sets) keeps.ascend) more_sorted
      (λ s t ms mt. earlier s.0 t.0 (let a = old_batch s ms in let b = own_batch t mt in omega (arith, a, b))))
    where
      own_batch : (t : Kept SetStage) → Mem t more → t.0.batch ≡ length p.batches.items
      own_batch t mt = ap (λ (x : Kept SetStage). x.0.batch) (zip_mem (length p.batches.items) (sets_of p.pieces batch.first batch.txns) more waiting t mt).2

      old_batch : (s : Kept SetStage) → Mem s p.sets.sets → s.0.batch < length p.batches.items
      old_batch s ms =
          let at = mem_at p.sets.sets s ms in
          let set = set_at job p keeps at.0 s.0 s.1 at.1 in
          let lt = slice_get_within (batches_of p) s.0.batch set.batch set.batch_there in
          let len : length (batches_of p) ≡ length p.batches.items = length-map p.batches.items (λ (l : LoadedBatch). l.batch) in
          omega (arith, lt, len)

      more_sorted : is_sorted set_cmp more ≡ true
      more_sorted = sorted_blocks (length p.batches.items) more own_batch
          (subst Rises (sym (zip_blocks (length p.batches.items) (sets_of p.pieces batch.first batch.txns) more waiting)) (blocks_rise p.pieces batch.first batch.txns (blocks_in p.pieces) (rises-range 0 p.pieces.blocks)))

  -- each is in one of the blocks, and has something kept
  pub sets_left : AreLeft p.sets.blocks 0 more
  sets_left j set le at =
      let is = zip_mem (length p.batches.items) (sets_of p.pieces batch.first batch.txns) more waiting set (at_mem more j set at) in
      let inside = (set_of_batch p.pieces batch.first batch.txns is.0 is.1).0 in
      let block : set.0.block ≡ is.0.block = ap (λ (x : Kept SetStage). x.0.block) is.2 in
      let blocks = keeps.blocks in
      (omega (arith, inside, block, blocks), subst IsSome (ap (λ (x : Kept SetStage). x.1) (sym is.2)) refl)

-- the pieces of its sets are those that it adds
module _ (job : Job) (bs : List Batch) (run : NumbersRunOn job.first bs) (batch : Batch) (first : batch.first ≡ next_in_job job bs) where
  abbrev w : World
  w = world_of job (and_batch bs batch)

  abbrev ts : List ℕ
  ts = range_with_len (next_in_job job bs) (length batch.txns)

  -- a transaction of the batch has a piece in a block where that exists
  has_same : (b t : ℕ) → Mem t ts → has_piece job.parts b (txn_at batch.first batch.txns t) ≡ exists_at w t b
  has_same b t m =
      let range = in-range (next_in_job job bs) (length batch.txns) t m in
      let least = range.0 in
      let within = range.1 in
      let inside : t - batch.first < length batch.txns = omega (arith, first, least, within) in
      let s : Stands (and_batch bs batch) t (length bs) (t - batch.first) = record { batch = batch; there = last_there bs; inside = inside; number = omega (arith, first, least) } in
      let found = item_at batch.txns (t - batch.first) inside in
      ap (λ o. has_ops (part (txn_block job.parts o) b (txn_code job.parts o)))
      (ap (txn_at batch.first batch.txns) s.number ∙ at_number job.parts batch.first batch.txns (t - batch.first) found.0 found.1 ∙ sym found.1
      ∙ sym (txn_there job.parts job.first (and_batch bs batch) (run_on-more job.first bs batch run first) t (length bs) (t - batch.first) s))
    where
      last_there : (xs : List Batch) → slice_get (xs ++ batch ∷ []) (length xs) ≡ Some batch
      last_there [] = refl
      last_there (x ∷ xs) = last_there xs

  set_size : (b : ℕ) → length (set_of job.parts batch.first batch.txns b).txns ≡ in_block (exists_at w) b ts
  set_size b =
      ap (λ (n : ℕ). length (filter (λ t. has_piece job.parts b (txn_at batch.first batch.txns t)) (range_with_len n (length batch.txns)))) first
      ∙ ap length (filter_alike (λ t. has_piece job.parts b (txn_at batch.first batch.txns t)) (λ t. exists_at w t b) ts (λ t m. has_same b t m))

  pub pieces_counted : sum_by (λ (set : PieceSet). length set.txns) (sets_of job.parts batch.first batch.txns) ≡ length (pieces w ts (blocks_in job.parts))
  pieces_counted =
      sum_sets job.parts batch.first batch.txns (exists_at w) (blocks_in job.parts)
      ∙ sums_alike (exists_at w) (λ b. length (set_of job.parts batch.first batch.txns b).txns) (λ b. in_block (exists_at w) b ts) (blocks_in job.parts) set_size
      ∙ sym (count_pieces w ts (blocks_in job.parts) ∙ both_ways (exists_at w) ts (blocks_in job.parts))
