-- One more batch is loaded: the replay has it, its pieces wait, and all is kept.
use Rattle.std.proofs.Common.{◌≡◌, ◌⊎◌, ℕ, zero, suc, ◌+◌, ◌-◌, ◌<◌, ◌≤◌, nat_lt, Bool, true, false, cond, not, List, [], ◌∷◌, ◌++◌, map, length, Option, Some, None, refl, sym, ap, ap₂, subst, ◌∙◌, inl, inr, arith}
use Rattle.std.specs.Prelude.{slice_get, filter, sum_by, T}
use Rattle.std.specs.List.{AllZip, range_with_len}
use Rattle.std.specs.FinMap.{empty, get, is_sorted}
use Rattle.std.proofs.lemmas.Bool.Decides.{nat_tests}
use Rattle.std.proofs.lemmas.List.{length-append, length-map}
use Rattle.std.proofs.lemmas.Option.{same_Some, slice_get_within}
use Rattle.pac_base.specs.Members.{Mem}
use Rattle.pac_base.proofs.ItemLemmas.{item_at}
use Rattle.pac_base.proofs.TestLemmas.{unlike}
use Rattle.pac_value.specs.Expressions.{Values}
use Rattle.pac_ops.specs.declared.batch.Batch.{Batch}
use Rattle.pac_ops.specs.declared.piece.PieceId.{PieceId}
use Rattle.pac_ops.specs.declared.transaction.Txn.{Txn}
use Rattle.pac_ops.specs.Operations.{with_values}
use Rattle.pac_plan.specs.declared.parts.PlanParts.{PlanParts}
use Rattle.pac_plan.specs.Pieces.{Present, has_ops, part, pieces}
use Rattle.pac_plan.specs.Worlds.{blocks_in, txn_args, txn_at, txn_block, txn_code}
use Rattle.pac_batch.specs.declared.piece_set.PieceSet.{PieceSet}
use Rattle.pac_batch.specs.Sets.{has_piece, set_of, sets_of}
use Rattle.pac_sched.specs.declared.state.PieceState.{PieceState}
use Rattle.pac_sched.specs.declared.state.PieceState.TheVariants as state
use Rattle.pac_sched.specs.Schedules.{is_finished, is_out}
use Rattle.pac_sets.specs.declared.set_id.SetId.{SetId}
use Rattle.pac_sets.specs.SetOrder.{set_cmp}
use Rattle.pac_sets.specs.Sets.{Kept, WaitsFor, WaitsForNothing, kept_of}
use Rattle.pac_sets.proofs.SetLemmas.{kept_there, there_kept}
use Rattle.pac_commute.specs.Loads.{Job, LoadKeeps, and_batch, begin, loaded, next_in_job, world_of}
use Rattle.pac_commute.specs.Machine.{KeepsJob, KeepsPrecedence, Loaded as LoadedStep, Machine, access_at, among}
use Rattle.pac_commute.specs.PartialFits.{TxnsFitPlan}
use Rattle.pac_commute.specs.PlanLaws.{NumbersRunOn, txns_of}
use Rattle.pac_commute.proofs.BatchLemmas.{run_on-more, txns-more}
use Rattle.pac_commute.proofs.Loads.{in-range, loads_keep, old_batch, pieces_more}
use Rattle.pac_commute.proofs.Replays.{at_number}
use Rattle.pac_commute.proofs.OrderedSteps.{keeps_order}
use Rattle.pac_commute.proofs.Steps as steps
use Rattle.pac_core.specs.declared.loaded.LoadedBatch.{LoadedBatch}
use Rattle.pac_core.specs.declared.progress.Progress.{Progress}
use Rattle.pac_core.specs.declared.stage.OpenSet.{OpenSet}
use Rattle.pac_core.specs.declared.stage.SetStage.{SetStage}
use Rattle.pac_core.specs.declared.stage.SetStage.TheVariants.{Waiting, Open}
use Rattle.pac_core.specs.Cells.{HasCellsOf}
use Rattle.pac_core.specs.Links.{AreKeptPairs, AreStages, IsOpened, IsStageOf, IsUnfinishedBatch, KeepsBatch, KeepsInputs, KeepsProgress, KeepsValues, batches_of, mark, mark_in, pieces_marked, piece_in, replay_so_far, set_ids}
use Rattle.pac_core.specs.Moves.{IsLoadedTo, IsWaitingSet}
use Rattle.pac_core.specs.Replay.{Replay, left, loaded_pieces, machine_of, present_of, with_batch_loaded}
use Rattle.pac_core.proofs.Alike.{invariant_is, order_is, present_is}
use Rattle.pac_core.proofs.Lists.{at_map, at_mem, filter_alike, filter_of, mem_at}
use Rattle.pac_core.proofs.Marks.{placed, set_is}
use Rattle.pac_core.proofs.Ready.{SetAt, at_range, own_piece, set_at, txns, waiting_mark}
use Rattle.pac_core.proofs.SetFacts.{Stands, batch_at, piece_is, txn_there}
use Rattle.pac_core.proofs.SetLists.{set_in, set_of_batch, txn_in}

-- ---- lists

filter_append : {A : Type 0} (f : A → Bool) (xs ys : List A) → filter f (xs ++ ys) ≡ filter f xs ++ filter f ys
filter_append f [] ys = refl
filter_append f (x ∷ xs) ys = go (f x) (filter_append f xs ys)
  where
    go : (b : Bool) → filter f (xs ++ ys) ≡ filter f xs ++ filter f ys → cond b (x ∷ filter f (xs ++ ys)) (filter f (xs ++ ys)) ≡ cond b (x ∷ filter f xs) (filter f xs) ++ filter f ys
    go true e = ap (λ l. x ∷ l) e
    go false e = e

pub filter_none : {A : Type 0} (f : A → Bool) (xs : List A) → ((x : A) → Mem x xs → f x ≡ false) → filter f xs ≡ []
filter_none f [] none = refl
filter_none f (x ∷ xs) none = ap (λ b. cond b (x ∷ filter f xs) (filter f xs)) (none x (inl refl)) ∙ filter_none f xs (λ y m. none y (inr m))

filter_all : {A : Type 0} (f : A → Bool) (xs : List A) → ((x : A) → Mem x xs → f x ≡ true) → filter f xs ≡ xs
filter_all f [] all = refl
filter_all f (x ∷ xs) all = ap (λ b. cond b (x ∷ filter f xs) (filter f xs)) (all x (inl refl)) ∙ ap (λ l. x ∷ l) (filter_all f xs (λ y m. all y (inr m)))

append_none : {A : Type 0} (xs : List A) → xs ++ [] ≡ xs
append_none [] = refl
append_none (x ∷ xs) = ap (λ l. x ∷ l) (append_none xs)

map_append : {A B : Type 0} (f : A → B) (xs ys : List A) → map f (xs ++ ys) ≡ map f xs ++ map f ys
map_append f [] ys = refl
map_append f (x ∷ xs) ys = ap (λ l. f x ∷ l) (map_append f xs ys)

get_left : {A : Type 0} (xs ys : List A) (i : ℕ) (x : A) → slice_get xs i ≡ Some x → slice_get (xs ++ ys) i ≡ Some x
get_left [] ys i x e = let wrong : None ≡ Some x = e in absurd cc
get_left (z ∷ zs) ys zero x e = e
get_left (z ∷ zs) ys (suc i) x e = get_left zs ys i x e

get_right : {A : Type 0} (xs ys : List A) (i : ℕ) → slice_get (xs ++ ys) (length xs + i) ≡ slice_get ys i
get_right [] ys i = ap (slice_get ys) (let e : 0 + i ≡ i = omega arith in e)
get_right (z ∷ zs) ys i = ap (slice_get (z ∷ (zs ++ ys))) (let e : suc (length zs) + i ≡ suc (length zs + i) = omega arith in e) ∙ get_right zs ys i

-- what stands in two lists, one after the other, stands in one of them
get_either : {A : Type 0} (xs ys : List A) (i : ℕ) (x : A) → slice_get (xs ++ ys) i ≡ Some x → (slice_get xs i ≡ Some x) ⊎ ((j : ℕ) × (i ≡ length xs + j) × (slice_get ys j ≡ Some x))
get_either [] ys i x e = inr (i, (let n : i ≡ 0 + i = omega arith in n), e)
get_either (z ∷ zs) ys zero x e = inl e
get_either (z ∷ zs) ys (suc i) x e = go (get_either zs ys i x e)
  where
    go : (slice_get zs i ≡ Some x) ⊎ ((j : ℕ) × (i ≡ length zs + j) × (slice_get ys j ≡ Some x)) → (slice_get (z ∷ zs) (suc i) ≡ Some x) ⊎ ((j : ℕ) × (suc i ≡ length (z ∷ zs) + j) × (slice_get ys j ≡ Some x))
    go (inl h) = inl h
    go (inr (j, n, h)) = inr (j, (let m : suc i ≡ suc (length zs) + j = omega (arith, n) in m), h)

zip_first : {A B : Type 0} (R : A → B → Type 0) (xs : List A) (ys : List B) (i : ℕ) (x : A) → AllZip R xs ys → slice_get xs i ≡ Some x → (y : B) × (slice_get ys i ≡ Some y) × R x y
zip_first R [] ys i x all e = let wrong : None ≡ Some x = e in absurd cc
zip_first R (z ∷ zs) [] i x all e = absurd all
zip_first R (z ∷ zs) (y ∷ ys) zero x all e = (y, refl, subst (λ a. R a y) (same_Some z x e) all.0)
zip_first R (z ∷ zs) (y ∷ ys) (suc i) x all e = zip_first R zs ys i x all.1 e

zip_second : {A B : Type 0} (R : A → B → Type 0) (xs : List A) (ys : List B) (i : ℕ) (y : B) → AllZip R xs ys → slice_get ys i ≡ Some y → (x : A) × (slice_get xs i ≡ Some x) × R x y
zip_second R [] [] i y all e = let wrong : None ≡ Some y = e in absurd cc
zip_second R [] (z ∷ zs) i y all e = absurd all
zip_second R (x ∷ xs) [] i y all e = absurd all
zip_second R (x ∷ xs) (z ∷ zs) zero y all e = (x, refl, subst (R x) (same_Some z y e) all.0)
zip_second R (x ∷ xs) (z ∷ zs) (suc i) y all e = zip_second R xs zs i y all.1 e

-- ---- the sets of more batches

ids_more : (parts : PlanParts) (n : ℕ) (batches : List Batch) (batch : Batch)
    → set_ids parts n (batches ++ batch ∷ []) ≡ set_ids parts n batches ++ map (λ (set : PieceSet). record { batch = n + length batches; block = set.block }) (sets_of parts batch.first batch.txns)
ids_more parts n [] batch = append_none _ ∙ ap (λ (k : ℕ). map (λ (set : PieceSet). record { batch = k; block = set.block }) (sets_of parts batch.first batch.txns)) (omega arith)
ids_more parts n (b ∷ bs) batch =
    ap (λ l. map (λ (set : PieceSet). record { batch = n; block = set.block }) (sets_of parts b.first b.txns) ++ l)
    (ids_more parts (n + 1) bs batch ∙ ap (λ (k : ℕ). set_ids parts (n + 1) bs ++ map (λ (set : PieceSet). record { batch = k; block = set.block }) (sets_of parts batch.first batch.txns)) (omega arith))
    ∙ sym (append_assoc (map (λ (set : PieceSet). record { batch = n; block = set.block }) (sets_of parts b.first b.txns)) (set_ids parts (n + 1) bs) _)
  where
    append_assoc : (xs ys zs : List SetId) → (xs ++ ys) ++ zs ≡ xs ++ (ys ++ zs)
    append_assoc [] ys zs = refl
    append_assoc (x ∷ xs) ys zs = ap (λ l. x ∷ l) (append_assoc xs ys zs)

module _ (job : Job) (p : Progress) (keeps : KeepsProgress job p) (batch : Batch) (first : batch.first ≡ next_in_job job (batches_of p)) (fits : TxnsFitPlan job.parts batch.txns)
    (new : Progress) (to : IsLoadedTo p batch new) (up : T (is_sorted set_cmp (p.sets.sets ++ to.more))) where
  abbrev pub r : Replay
  r = replay_so_far job p

  abbrev pub bs : List Batch
  bs = batches_of p

  abbrev pub bs' : List Batch
  bs' = and_batch (batches_of p) batch

  abbrev pub k : ℕ
  k = length p.batches.items

  abbrev pub sets' : List (Kept SetStage)
  sets' = p.sets.sets ++ to.more

  abbrev pub r' : Replay
  r' = with_batch_loaded r batch

  run' : NumbersRunOn job.first bs'
  run' = run_on-more job.first bs batch keeps.machine.run_on first

  batches_len : length bs ≡ k
  batches_len = length-map p.batches.items (λ (l : LoadedBatch). l.batch)

  batches_are : batches_of new ≡ bs'
  batches_are = ap (map (λ (l : LoadedBatch). l.batch)) to.batches ∙ map_append (λ (l : LoadedBatch). l.batch) p.batches.items (to.loaded ∷ []) ∙ ap (λ b. bs ++ b ∷ []) to.batch_is

  sets_are : new.sets.sets ≡ sets'
  sets_are = ap (λ s. s.sets) to.sets

  abbrev pub new_pieces : List PieceId
  new_pieces = pieces (world_of job bs') (range_with_len (next_in_job job bs) (length batch.txns)) (blocks_in job.parts)

  all_pieces : loaded_pieces r' ≡ loaded_pieces r ++ new_pieces
  all_pieces = pieces_more job bs batch

  facts : LoadKeeps job bs batch
  facts = loads_keep job bs batch keeps.machine.run_on first

  -- ---- marks

  there' : (j : ℕ) (id : SetId) (kept : Option SetStage) → slice_get p.sets.sets j ≡ Some (id, kept) → kept_of id sets' ≡ kept
  there' j id kept e = kept_there sets' up j id kept (get_left p.sets.sets to.more j (id, kept) e)

  old_mark : (q : PieceId) → Mem q (loaded_pieces r) → mark_in bs' sets' q ≡ mark_in bs p.sets.sets q
  old_mark q mem =
      let place = placed job p keeps q mem in
      let lt = (facts.there q mem).0 in
      ap (λ (n : ℕ). mark (kept_of (record { batch = n - 1; block = q.block }) sets') q) (old_batch job bs batch keeps.machine.run_on first q.txn lt)
      ∙ ap (λ s. mark (kept_of s sets') q) (set_is job p keeps q place)
      ∙ ap (λ o. mark o q) (there' place.at (record { batch = place.k; block = q.block }) place.kept place.there ∙ sym (kept_there p.sets.sets keeps.ascend place.at (record { batch = place.k; block = q.block }) place.kept place.there))
      ∙ sym (ap (λ s. mark (kept_of s p.sets.sets) q) (set_is job p keeps q place))

  -- the sets of the batch are there
  own_set : (block t : ℕ) → block < job.parts.blocks → Mem t (set_of job.parts batch.first batch.txns block).txns
      → (j : ℕ) × (slice_get to.more j ≡ Some (record { batch = k; block = block }, Some (Waiting (set_of job.parts batch.first batch.txns block).txns)))
  own_set block t inside mem =
      let j = mem_at (sets_of job.parts batch.first batch.txns) (set_of job.parts batch.first batch.txns block) (set_in job.parts batch.first batch.txns block t inside mem) in
      let added = zip_first (IsWaitingSet k) (sets_of job.parts batch.first batch.txns) to.more j.0 (set_of job.parts batch.first batch.txns block)
      (subst (λ (parts : PlanParts). AllZip (IsWaitingSet k) (sets_of parts batch.first batch.txns) to.more) (sym keeps.parts) to.waiting) j.1 in
      (j.0, added.1 ∙ ap (λ x. Some x) added.2)

  abbrev new_stands : (t : ℕ) → next_in_job job bs ≤ t → t < next_in_job job bs + length batch.txns → Stands bs' t k (t - batch.first)
  new_stands t least within = record {
    batch = batch;
    there = subst (λ (n : ℕ). slice_get bs' n ≡ Some batch) batches_len (ap (slice_get bs') (omega arith) ∙ get_right bs (batch ∷ []) 0);
    inside = omega (arith, first, least, within);
    number = omega (arith, first, least);
  }

  -- a new piece waits
  new_mark : (q : PieceId) → Mem q new_pieces → mark_in bs' sets' q ≡ state.Waiting
  new_mark q mem =
      let is = piece_is (world_of job bs') (range_with_len (next_in_job job bs) (length batch.txns)) (blocks_in job.parts) q mem in
      let range = in-range (next_in_job job bs) (length batch.txns) q.txn is.0 in
      let least = range.0 in
      let within = range.1 in
      let block = (in-range 0 job.parts.blocks q.block is.1).1 in
      let s = new_stands q.txn least within in
      let found = item_at batch.txns (q.txn - batch.first) s.inside in
      let own : txn_at batch.first batch.txns q.txn ≡ txn_at job.first (txns_of bs') q.txn =
      ap (txn_at batch.first batch.txns) s.number ∙ at_number job.parts batch.first batch.txns (q.txn - batch.first) found.0 found.1 ∙ sym found.1 ∙ sym (txn_there job.parts job.first bs' run' q.txn k (q.txn - batch.first) s) in
      let has : has_piece job.parts q.block (txn_at batch.first batch.txns q.txn) ≡ true = ap (λ o. has_ops (part (txn_block job.parts o) q.block (txn_code job.parts o))) own ∙ is.2 in
      let in_set = txn_in job.parts batch.first batch.txns q.block q.txn (omega (arith, first, least)) (omega (arith, first, within)) has in
      let set = own_set q.block q.txn (omega (arith, block)) in_set in
      let counted = batch_at job.parts job.first bs' run' q.txn k (q.txn - batch.first) s in
      ap (λ (n : ℕ). mark (kept_of (record { batch = n - 1; block = q.block }) sets') q) counted
      ∙ ap (λ (n : ℕ). mark (kept_of (record { batch = n; block = q.block }) sets') q) (omega arith)
      ∙ ap (λ o. mark o q) (kept_there sets' up (length p.sets.sets + set.0) (record { batch = k; block = q.block }) (Some (Waiting (set_of job.parts batch.first batch.txns q.block).txns)) (get_right p.sets.sets to.more set.0 ∙ set.1))
      ∙ waiting_mark q.block (set_of job.parts batch.first batch.txns q.block).txns q.txn in_set

  -- ---- the replay

  marked_old : (test : PieceState → Bool) → test state.Waiting ≡ false → pieces_marked test job bs' sets' ≡ pieces_marked test job bs p.sets.sets
  marked_old test none =
      ap (filter (λ q. test (mark_in bs' sets' q))) all_pieces
      ∙ filter_append (λ q. test (mark_in bs' sets' q)) (loaded_pieces r) new_pieces
      ∙ ap₂ (λ a b. a ++ b)
      (filter_alike (λ q. test (mark_in bs' sets' q)) (λ q. test (mark_in bs p.sets.sets q)) (loaded_pieces r) (λ q mem. ap test (old_mark q mem)))
      (filter_none (λ q. test (mark_in bs' sets' q)) new_pieces (λ q mem. ap test (new_mark q mem) ∙ none))
      ∙ append_none _

  pub loads : replay_so_far job new ≡ r'
  loads = λ i. record {
    job = job;
    batches = batches_are i;
    is_closed = to.closed i;
    out = (ap₂ (λ bs ss. pieces_marked is_out job bs ss) batches_are sets_are ∙ marked_old is_out refl) i;
    finished = (ap₂ (λ bs ss. pieces_marked is_finished job bs ss) batches_are sets_are ∙ marked_old is_finished refl) i;
  }

  -- ---- the state

  abbrev pub m : Machine
  m = machine_of r

  abbrev pub now : Present
  now = loaded (next_in_job job bs) (begin job bs').envs m.now

  stepped : KeepsJob job (record { batches = bs'; out = m.out; finished = m.finished; now = now })
  stepped = steps.keeps job keeps.is_plan (LoadedStep m batch first fits) keeps.machine

  ordered : KeepsPrecedence job (record { batches = bs'; out = m.out; finished = m.finished; now = now })
  ordered = keeps_order job keeps.is_plan (LoadedStep m batch first fits) keeps.machine keeps.order

  finished_there : (q : PieceId) → Mem q r'.finished → Mem q (loaded_pieces r')
  finished_there q mem = (facts.there q (filter_of (λ q. is_finished (mark_in bs p.sets.sets q)) (loaded_pieces r) q mem).0).1

  pub present_now : now ≡ present_of r'
  present_now = present_is r' m.out m.finished now stepped (λ q mem. refl) finished_there (λ q mem. steps.mem_among r.out q mem)

  invariant_now : KeepsJob job (machine_of r')
  invariant_now = invariant_is r' m.out m.finished now stepped (λ q mem. refl) finished_there (λ q mem. steps.mem_among r.out q mem)

  order_now : KeepsPrecedence job (machine_of r')
  order_now = order_is r' m.out m.finished now stepped (λ q mem. refl) finished_there (λ q mem. steps.mem_among r.out q mem) ordered

  old_values : (t : ℕ) → t < next_in_job job bs → now.envs t ≡ (present_of r).envs t
  old_values t lt = ap (λ b. cond b (m.now.envs t) ((begin job bs').envs t)) (let is : nat_lt t (next_in_job job bs) ≡ true = grind (arith, nat_tests) in is)

  new_values : (t : ℕ) → next_in_job job bs ≤ t → now.envs t ≡ (begin job bs').envs t
  new_values t le = ap (λ b. cond b (m.now.envs t) ((begin job bs').envs t)) (let is : nat_lt t (next_in_job job bs) ≡ false = grind (arith, nat_tests) in is)

  -- ---- what is kept

  -- an old set is of an old batch
  old_batch_there : (j : ℕ) (id : SetId) (kept : Option SetStage) → slice_get p.sets.sets j ≡ Some (id, kept) → id.batch < k
  old_batch_there j id kept e = let lt = slice_get_within bs id.batch _ (set_at job p keeps j id kept e).batch_there in let len = batches_len in omega (arith, lt, len)

  -- a new one is of the new batch
  new_batch_there : (j : ℕ) (id : SetId) (kept : Option SetStage) → slice_get to.more j ≡ Some (id, kept)
      → (set : PieceSet) × Mem set (sets_of job.parts batch.first batch.txns) × IsWaitingSet k set (id, kept)
  new_batch_there j id kept e =
      let x = zip_second (IsWaitingSet k) (sets_of job.parts batch.first batch.txns) to.more j (id, kept)
      (subst (λ (parts : PlanParts). AllZip (IsWaitingSet k) (sets_of parts batch.first batch.txns) to.more) (sym keeps.parts) to.waiting) e in
      (x.0, at_mem (sets_of job.parts batch.first batch.txns) j x.0 x.1, x.2)

  -- what an old set waits for is what it waited for
  passed_still : (id : SetId) → id.batch < k → WaitsForNothing job.parts.edges p.sets.sets id → WaitsForNothing job.parts.edges sets' id
  passed_still id lt passed other wait = go (kept_of other sets') refl
    where
      below : WaitsFor job.parts.edges id other → other.batch < k
      below (inl edge) = let e = edge.0 in omega (arith, e, lt)
      below (inr earlier) = let e = earlier.1 in omega (arith, e, lt)

      go : (o : Option SetStage) → kept_of other sets' ≡ o → o ≡ None
      go None e = refl
      go (Some stage) e = at (get_either p.sets.sets to.more found.0 (other, Some stage) found.1)
        where
          found : (j : ℕ) × (slice_get sets' j ≡ Some (other, Some stage))
          found = there_kept sets' up other stage e

          at : (slice_get p.sets.sets found.0 ≡ Some (other, Some stage)) ⊎ ((j : ℕ) × (found.0 ≡ length p.sets.sets + j) × (slice_get to.more j ≡ Some (other, Some stage))) → Some stage ≡ None
          at (inl there) = sym (kept_there p.sets.sets keeps.ascend found.0 other (Some stage) there) ∙ passed other wait
          at (inr (j, n, there)) =
              let is = new_batch_there j other (Some stage) there in
              let number : other.batch ≡ k = ap (λ (x : Kept SetStage). x.0.batch) is.2 in
              let lt = below wait in
              absurd (omega (arith, number, lt))

  -- the accesses of old pieces stay
  accesses_stay : (ts : List ℕ) (block : ℕ) → ((t : ℕ) → Mem t ts → t < next_in_job job bs) → map (access_at job (machine_of r)) (map (piece_in block) ts) ≡ map (access_at job (machine_of r')) (map (piece_in block) ts)
  accesses_stay [] block old = refl
  accesses_stay (t ∷ ts) block old = ap₂ (λ a b. a ∷ b) (sym (facts.accesses (piece_in block t) (old t (inl refl)))) (accesses_stay ts block (λ u m. old u (inr m)))

  opened_still : (j : ℕ) (id : SetId) (o : OpenSet) (set : SetAt job p keeps j id (Some (Open o))) → IsOpened r p.sets.sets id (txns job p keeps j id (Some (Open o)) set) o → IsOpened r' sets' id (txns job p keeps j id (Some (Open o)) set) o
  opened_still j id o set is = record {
    pieces = is.pieces;
    pairs = subst (λ l. AreKeptPairs l o.sched.pairs) same is.pairs;
    order = is.order;
    cells = subst (λ l. HasCellsOf l o.cells.items) same is.cells;
    passed = passed_still id (old_batch_there j id (Some (Open o)) set.there) is.passed;
    left = is.left;
    size = is.size;
  }
    where
      ts : List ℕ
      ts = txns job p keeps j id (Some (Open o)) set

      old : (t : ℕ) → Mem t ts → t < next_in_job job bs
      old t mem = (facts.there (piece_in id.block t) (own_piece job p keeps j id (Some (Open o)) set t mem)).0

      same : map (access_at job (machine_of r)) o.sched.pieces ≡ map (access_at job (machine_of r')) o.sched.pieces
      same = ap (map (access_at job (machine_of r))) is.pieces ∙ accesses_stay ts id.block old ∙ sym (ap (map (access_at job (machine_of r'))) is.pieces)

  batch_left : (n : ℕ) (b : Batch) → n < k → slice_get bs' n ≡ Some b → slice_get bs n ≡ Some b
  batch_left n b lt e = go (get_either bs (batch ∷ []) n b e)
    where
      go : (slice_get bs n ≡ Some b) ⊎ ((j : ℕ) × (n ≡ length bs + j) × (slice_get (batch ∷ []) j ≡ Some b)) → slice_get bs n ≡ Some b
      go (inl h) = h
      go (inr (j, e, h)) = let len = batches_len in absurd (omega (arith, e, len, lt))

  stages_now : AreStages r' sets'
  stages_now j id stage b here batch_there = go (get_either p.sets.sets to.more j (id, Some stage) here)
    where
      go : (slice_get p.sets.sets j ≡ Some (id, Some stage)) ⊎ ((i : ℕ) × (j ≡ length p.sets.sets + i) × (slice_get to.more i ≡ Some (id, Some stage))) → IsStageOf r' sets' id (set_of job.parts b.first b.txns id.block).txns stage
      go (inl there) = still stage there (keeps.stages j id stage b there (batch_left id.batch b (old_batch_there j id (Some stage) there) batch_there))
        where
          still : (x : SetStage) → slice_get p.sets.sets j ≡ Some (id, Some x) → IsStageOf r p.sets.sets id (set_of job.parts b.first b.txns id.block).txns x → IsStageOf r' sets' id (set_of job.parts b.first b.txns id.block).txns x
          still (Waiting w) there is = is
          still (Open o) there is =
              let set = set_at job p keeps j id (Some (Open o)) there in
              let same : set.batch ≡ b = same_Some _ _ (sym set.batch_there ∙ batch_left id.batch b (old_batch_there j id (Some (Open o)) there) batch_there) in
              let was = keeps.stages j id (Open o) set.batch set.there set.batch_there in
              subst (λ (x : Batch). IsStageOf r' sets' id (set_of job.parts x.first x.txns id.block).txns (Open o)) same (was.0, was.1, opened_still j id o set was.2)
      go (inr (i, n, there)) =
          let is = new_batch_there i id (Some stage) there in
          let number : id.batch ≡ k = ap (λ (x : Kept SetStage). x.0.batch) is.2 in
          let b_is : b ≡ batch = same_Some _ _ (sym batch_there ∙ ap (slice_get bs') (number ∙ sym batches_len) ∙ ap (slice_get bs') (omega arith) ∙ get_right bs (batch ∷ []) 0) in
          let block : id.block ≡ is.0.block = ap (λ (x : Kept SetStage). x.0.block) is.2 in
          let stage_is : stage ≡ Waiting is.0.txns = same_Some _ _ (ap (λ (x : Kept SetStage). x.1) is.2) in
          let of_batch = set_of_batch job.parts batch.first batch.txns is.0 is.1 in
          subst (λ (x : SetStage). IsStageOf r' sets' id (set_of job.parts b.first b.txns id.block).txns x) (sym stage_is)
          (record {
            before = [];
            is = ap (λ (s : PieceSet). s.txns) of_batch.1 ∙ ap (λ (n : ℕ). (set_of job.parts batch.first batch.txns n).txns) (sym block) ∙ ap (λ (x : Batch). (set_of job.parts x.first x.txns id.block).txns) (sym b_is);
            some = of_batch.2;
          })

  -- an old batch that has an unfinished set had it before
  unfinished_before : (n : ℕ) → n < k → IsUnfinishedBatch sets' n → IsUnfinishedBatch p.sets.sets n
  unfinished_before n lt (j, id, stage, here, number) = go (get_either p.sets.sets to.more j (id, Some stage) here)
    where
      go : (slice_get p.sets.sets j ≡ Some (id, Some stage)) ⊎ ((i : ℕ) × (j ≡ length p.sets.sets + i) × (slice_get to.more i ≡ Some (id, Some stage))) → IsUnfinishedBatch p.sets.sets n
      go (inl there) = (j, id, stage, there, number)
      go (inr (i, at, there)) =
          let is = new_batch_there i id (Some stage) there in
          let own : id.batch ≡ k = ap (λ (x : Kept SetStage). x.0.batch) is.2 in
          absurd (omega (arith, lt, number, own))

  -- an old transaction has a number below the new ones
  old_number : (n : ℕ) (l : LoadedBatch) → slice_get p.batches.items n ≡ Some l → (i : ℕ) (x : Txn) → slice_get l.batch.txns i ≡ Some x → l.batch.first + i < next_in_job job bs
  old_number n l there i x at =
      let s : Stands bs (l.batch.first + i) n i = record { batch = l.batch; there = at_map (λ (l : LoadedBatch). l.batch) p.batches.items n l there; inside = slice_get_within l.batch.txns i x at; number = refl } in
      (at_range job.first (txns_of bs) (l.batch.first + i) x (txn_there job.parts job.first bs keeps.machine.run_on (l.batch.first + i) n i s ∙ at)).1

  values_now : KeepsValues r' new.batches.items new.sets.sets
  values_now n l there_l left_n = subst (λ (s : Present). KeepsBatch job.parts s l) present_now (go (get_either p.batches.items (to.loaded ∷ []) n l (ap (λ items. slice_get items n) (sym to.batches) ∙ there_l)))
    where
      go : (slice_get p.batches.items n ≡ Some l) ⊎ ((j : ℕ) × (n ≡ length p.batches.items + j) × (slice_get (to.loaded ∷ []) j ≡ Some l)) → KeepsBatch job.parts now l
      go (inl there) =
          let is = keeps.values n l there (unfinished_before n (slice_get_within p.batches.items n l there) (subst (λ ss. IsUnfinishedBatch ss n) sets_are left_n)) in
          record {
            all = is.all;
            each = λ i x v at_txn at_kept. subst (λ (e : Values). KeepsInputs job.parts x v e) (sym (old_values (l.batch.first + i) (old_number n l there i x at_txn))) (is.each i x v at_txn at_kept);
          }
      go (inr (suc j, n_is, there)) = let wrong : None ≡ Some l = there in absurd cc
      go (inr (zero, n_is, there)) =
          let same : to.loaded ≡ l = same_Some _ _ there in
          subst (KeepsBatch job.parts now) same (record {
            all = ap length (sym to.kept) ∙ length-map batch.txns (λ (txn : Txn). with_values 0 (txn_args (Some txn)) empty) ∙ sym (ap (λ (b : Batch). length b.txns) to.batch_is);
            each = λ i x v at_txn at_kept block y inside found. own i x v (ap (λ (b : Batch). slice_get b.txns i) (sym to.batch_is) ∙ at_txn) at_kept y;
          })
        where
          own : (i : ℕ) (x : Txn) (v : Values) → slice_get batch.txns i ≡ Some x → slice_get to.loaded.kept.items i ≡ Some v → (y : ℕ) → get v y ≡ get (now.envs (to.loaded.batch.first + i)) y
          own i x v at_txn at_kept y =
              let value : with_values 0 (txn_args (Some x)) empty ≡ v = same_Some _ _ (sym (at_map (λ (txn : Txn). with_values 0 (txn_args (Some txn)) empty) batch.txns i x at_txn) ∙ ap (λ l. slice_get l i) to.kept ∙ at_kept) in
              let number : to.loaded.batch.first + i ≡ batch.first + i = ap (λ (b : Batch). b.first + i) to.batch_is in
              let inside = slice_get_within batch.txns i x at_txn in
              let s : Stands bs' (batch.first + i) k i = record {
                batch = batch;
                there = subst (λ (n : ℕ). slice_get bs' n ≡ Some batch) batches_len (ap (slice_get bs') (omega arith) ∙ get_right bs (batch ∷ []) 0);
                inside = inside;
                number = refl;
              } in
              ap (λ (e : Values). get e y) (sym value)
              ∙ ap (λ o. get (with_values 0 (txn_args o) empty) y) (sym (txn_there job.parts job.first bs' run' (batch.first + i) k i s ∙ at_txn))
              ∙ ap (λ (e : Values). get e y) (sym (new_values (batch.first + i) (omega (arith, first))))
              ∙ ap (λ (t : ℕ). get (now.envs t) y) (sym number)

  -- ---- numbers

  next_now : new.next ≡ next_in_job job bs'
  next_now =
      let len : length (txns_of bs') ≡ length (txns_of bs) + length batch.txns = ap length (txns-more bs batch) ∙ length-append (txns_of bs) batch.txns in
      let a = to.next in let b = keeps.next in omega (arith, a, b, len)

  left_now : left r' ≡ left r + length new_pieces
  left_now =
      ap (λ l. length (filter (λ q. not (among r.finished q)) l)) all_pieces
      ∙ ap length (filter_append (λ q. not (among r.finished q)) (loaded_pieces r) new_pieces)
      ∙ length-append (filter (λ q. not (among r.finished q)) (loaded_pieces r)) (filter (λ q. not (among r.finished q)) new_pieces)
      ∙ ap (λ l. left r + length l) (filter_all (λ q. not (among r.finished q)) new_pieces unfinished_new)
    where
      unfinished_new : (q : PieceId) → Mem q new_pieces → not (among r.finished q) ≡ true
      unfinished_new q mem = ap not (unlike (among r.finished q) (λ h.
          let old = (facts.there q (filter_of (λ q. is_finished (mark_in bs p.sets.sets q)) (loaded_pieces r) q (steps.among_mem r.finished q h)).0).0 in
          let range = in-range (next_in_job job bs) (length batch.txns) q.txn (piece_is (world_of job bs') (range_with_len (next_in_job job bs) (length batch.txns)) (blocks_in job.parts) q mem).0 in
          let least = range.0 in
          omega (arith, old, least)))

  -- as many more are left as there are more
  pub left_more : left r' + length (loaded_pieces r) ≡ left r + length (loaded_pieces r')
  left_more =
      let all : length (loaded_pieces r') ≡ length (loaded_pieces r) + length new_pieces = ap length all_pieces ∙ length-append (loaded_pieces r) new_pieces in
      let now = left_now in
      omega (arith, all, now)

  -- all is kept
  pub load_keeps : (count : sum_by (λ (set : PieceSet). length set.txns) (sets_of job.parts batch.first batch.txns) ≡ length new_pieces) → KeepsProgress job new
  load_keeps count = record {
    parts = keeps.parts ∙ sym to.pieces;
    first = keeps.first ∙ sym to.first;
    edges = ap (λ s. s.edges) to.sets ∙ keeps.edges ∙ ap (λ (x : PlanParts). x.edges) (sym to.pieces);
    blocks = ap (λ s. s.blocks) to.sets ∙ keeps.blocks ∙ ap (λ (x : PlanParts). x.blocks) (sym to.pieces);
    is_plan = keeps.is_plan;
    fit = keeps.fit;
    machine = subst (λ (x : Replay). KeepsJob job (machine_of x)) (sym loads) invariant_now;
    order = subst (λ (x : Replay). KeepsPrecedence job (machine_of x)) (sym loads) order_now;
    note = to.note_is ∙ keeps.note ∙ ap (λ (s : Present). s.note) present_now ∙ ap (λ (x : Replay). (present_of x).note) (sym loads);
    next = next_now ∙ ap (next_in_job job) (sym batches_are);
    unfinished = to.unfinished ∙ ap₂ (λ a b. a + b) keeps.unfinished (ap (λ (parts : PlanParts). sum_by (λ (set : PieceSet). length set.txns) (sets_of parts batch.first batch.txns)) (sym keeps.parts) ∙ count) ∙ sym left_now ∙ ap left (sym loads);
    sets = ids_now;
    ascend = subst (λ ss. T (is_sorted set_cmp ss)) (sym sets_are) up;
    stages = subst (λ (x : Replay). AreStages x new.sets.sets) (sym loads) (subst (AreStages r') (sym sets_are) stages_now);
    values = subst (λ (x : Replay). KeepsValues x new.batches.items new.sets.sets) (sym loads) values_now;
  }
    where
      ids_of_more : (sets : List PieceSet) (more : List (Kept SetStage)) → AllZip (IsWaitingSet k) sets more → map (λ (set : Kept SetStage). set.0) more ≡ map (λ (set : PieceSet). record { batch = k; block = set.block }) sets
      ids_of_more [] [] all = refl
      ids_of_more [] (m ∷ ms) all = absurd all
      ids_of_more (s ∷ ss) [] all = absurd all
      ids_of_more (s ∷ ss) (m ∷ ms) all = ap₂ (λ a b. a ∷ b) (ap (λ (x : Kept SetStage). x.0) all.0) (ids_of_more ss ms all.1)

      ids_now : map (λ (set : Kept SetStage). set.0) new.sets.sets ≡ set_ids job.parts 0 (batches_of new)
      ids_now =
          ap (map (λ (set : Kept SetStage). set.0)) sets_are
          ∙ map_append (λ (set : Kept SetStage). set.0) p.sets.sets to.more
          ∙ ap₂ (λ a b. a ++ b) keeps.sets (ids_of_more (sets_of job.parts batch.first batch.txns) to.more
          (subst (λ (parts : PlanParts). AllZip (IsWaitingSet k) (sets_of parts batch.first batch.txns) to.more) (sym keeps.parts) to.waiting)
          ∙ ap (λ (n : ℕ). map (λ (set : PieceSet). record { batch = n; block = set.block }) (sets_of job.parts batch.first batch.txns)) (sym batches_len ∙ omega arith))
          ∙ sym (ids_more job.parts 0 bs batch)
          ∙ ap (set_ids job.parts 0) (sym batches_are)
