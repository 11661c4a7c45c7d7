-- Opening the pieces of a set changes nothing of the replay, and keeps all that is kept.
use Rattle.std.proofs.Common.{◌≡◌, ◌⊎◌, ℕ, zero, suc, ◌+◌, ◌-◌, ◌<◌, ◌==◌, Bool, true, false, cond, not, ◌&&◌, List, [], ◌∷◌, map, length, Option, Some, None, refl, sym, ap, subst, ◌∙◌, true≢false, inl, inr, arith, replicate}
use Rattle.std.specs.Prelude.{slice_get, position, unwrap_or}
use Rattle.std.specs.List.{list_all, list_any}
use Rattle.std.specs.FinMap.{empty, get}
use Rattle.std.proofs.lemmas.List.{length-map, length-replicate}
use Rattle.std.proofs.lemmas.Option.{same_Some, slice_get-get_or, slice_get_within}
use Rattle.pac_base.specs.Members.{Mem}
use Rattle.pac_base.proofs.ItemLemmas.{item_at}
use Rattle.pac_base.proofs.TestLemmas.{and_left, and_right, and_both, any_gives, any_mem, eq_self, same_number}
use Rattle.pac_value.specs.Expressions.{Values}
use Rattle.pac_ops.specs.declared.batch.Batch.{Batch}
use Rattle.pac_ops.specs.declared.piece.PieceId.{PieceId}
use Rattle.pac_ops.specs.declared.transaction.Txn.{Txn}
use Rattle.pac_ops.specs.Effects.{defined_in, used_in}
use Rattle.pac_plan.specs.declared.parts.PlanParts.{PlanParts}
use Rattle.pac_plan.specs.Pieces.{HasInputs, InputsAre, access_of, is_piece, ops, part}
use Rattle.pac_plan.specs.Worlds.{batch_of, txn_at, txn_block, txn_code}
use Rattle.pac_plan.specs.Codes.{HasTxnInputs, piece_ops}
use Rattle.pac_plan.proofs.WorldLemmas.{has-edge}
use Rattle.pac_batch.specs.Sets.{has_numbers, set_of}
use Rattle.pac_sched.specs.declared.state.PieceState.{PieceState}
use Rattle.pac_sched.specs.declared.state.PieceState.TheVariants as state
use Rattle.pac_sched.specs.Schedules.{at_position, is_finished, is_out, is_waiting, position_of, some_passes}
use Rattle.pac_sched.proofs.PickLemmas.{stands}
use Rattle.pac_sets.specs.declared.set_id.SetId.{SetId}
use Rattle.pac_sets.specs.Sets.{Kept, WaitsForNothing, kept_of, with_kept_at}
use Rattle.pac_sets.proofs.SetLemmas.{kept_there}
use Rattle.pac_commute.specs.Loads.{Job, begin, pieces_of}
use Rattle.pac_commute.specs.Machine.{KeepsJob, KeepsPrecedence, Machine, access_at, among, ends_at, world_at}
use Rattle.pac_commute.specs.PlanLaws.{txns_of}
use Rattle.pac_commute.proofs.FitLemmas.{env_is}
use Rattle.pac_commute.proofs.PlanFacts.{inputs_plan}
use Rattle.pac_commute.proofs.Steps.{in_tables}
use Rattle.pac_core.specs.declared.loaded.LoadedBatch.{LoadedBatch}
use Rattle.pac_core.specs.declared.progress.Progress.{Progress}
use Rattle.pac_core.specs.declared.stage.OpenSet.{OpenSet}
use Rattle.pac_core.specs.declared.stage.SetStage.{SetStage}
use Rattle.pac_core.specs.declared.stage.SetStage.TheVariants.{Waiting, Open}
use Rattle.pac_core.specs.Cells.{HasCellsOf}
use Rattle.pac_core.specs.Inputs.{FindsInputs}
use Rattle.pac_core.specs.Links.{AreKeptPairs, AreStages, IsOpened, IsRest, IsStageOf, KeepsBatch, IsUnfinishedBatch, KeepsInputs, KeepsProgress, KeepsValues, batches_of, mark, mark_in, pieces_marked, piece_in, replay_so_far, set_of_piece}
use Rattle.pac_core.specs.Moves.{IsFreshlyOpen, access_over}
use Rattle.pac_core.specs.Replay.{Replay, left, loaded_pieces, machine_of, present_of}
use Rattle.pac_core.proofs.AccessInputs.{access_same}
use Rattle.pac_core.proofs.KeptAt.{equal_or_not, get_changed, get_other, ids_stay, kept_changed, kept_stays, passes_still, still_up}
use Rattle.pac_core.proofs.Ascending.{position_in}
use Rattle.pac_core.proofs.Lists.{at_map, at_mem, filter_alike, map_at, mem_at}
use Rattle.pac_core.proofs.Marks.{finished_is, placed, set_is}
use Rattle.pac_core.proofs.Ready.{SetAt, all_txns, rest_of, rises, set_at, stands_set, txns}
use Rattle.pac_core.proofs.SetFacts.{Stands, batch_at, ops_at, txn_there}

-- ---- the inputs of a set that waits for nothing

module _ (job : Job) (p : Progress) (keeps : KeepsProgress job p) where
  abbrev r : Replay
  r = replay_so_far job p

  abbrev m : Machine
  m = machine_of r

  -- each transaction of its batch has its inputs in its block
  pub has_inputs : (id : SetId) → WaitsForNothing job.parts.edges p.sets.sets id → (t i : ℕ) → Stands (batches_of p) t id.batch i → HasInputs (world_at job m) (ends_at job m) (piece_in id.block t) m.now
  has_inputs id passed t i s =
      subst (HasInputs (world_at job m) (ends_at job m) (piece_in id.block t)) (sym keeps.machine.now)
      (inputs_plan job.parts keeps.is_plan job.first (batches_of p) keeps.machine.run_on (in_tables job m keeps.machine) (begin job (batches_of p)) (among r.finished) (piece_in id.block t)
      keeps.machine.closed flows)
    where
      flows : (o : PieceId) → Mem o (loaded_pieces r) → (o.txn == t && (world_at job m).edge o.block id.block) ≡ true → among r.finished o ≡ true
      flows o mem f =
          let place = placed job p keeps o mem in
          let same : o.txn ≡ t = same_number o.txn t (and_left (o.txn == t) _ f) in
          let own = batch_at job.parts job.first (batches_of p) keeps.machine.run_on t id.batch i s in
          let other = batch_at job.parts job.first (batches_of p) keeps.machine.run_on o.txn place.k place.i place.stands in
          let equal : batch_of (batches_of p) o.txn ≡ batch_of (batches_of p) t = ap (batch_of (batches_of p)) same in
          finished_is job p keeps o mem
          ∙ ap is_finished (ap (λ s. mark (kept_of s p.sets.sets) o) (set_is job p keeps o place)
          ∙ ap (λ k. mark k o) (passed (record { batch = place.k; block = o.block }) (inl (omega (arith, own, other, equal), has-edge job.parts o.block id.block (and_right (o.txn == t) _ f)))))

  module _ (id : SetId) (passed : WaitsForNothing job.parts.edges p.sets.sets id) (t i : ℕ) (s : Stands (batches_of p) t id.batch i) (txn : Txn) (txn_is : slice_get s.batch.txns i ≡ Some txn)
      (inside : id.block < job.parts.blocks) (kept : Values) (is : KeepsInputs job.parts txn kept (m.now.envs t)) where
    number : txn_at job.first (txns_of (batches_of p)) t ≡ Some txn
    number = txn_there job.parts job.first (batches_of p) keeps.machine.run_on t id.batch i s ∙ txn_is

    operations : ops (world_at job m) (piece_in id.block t) ≡ piece_ops job.parts id.block txn
    operations = ops_at job.parts job.first (batches_of p) keeps.machine.run_on t id.batch i s id.block txn txn_is

    -- what is kept are the inputs, as they are in the end
    pub kept_inputs : InputsAre (piece_ops job.parts id.block txn) (ends_at job m t) kept
    kept_inputs x u d =
        is id.block x inside (and_both _ _ u (ap not d))
        ∙ has_inputs id passed t i s x (ap (λ os. used_in os x) operations ∙ u) (ap (λ os. defined_in os x) operations ∙ d)

    -- and so is what the piece finds of them
    pub found_inputs : (env : Values) → FindsInputs job.parts id.block txn kept env → InputsAre (piece_ops job.parts id.block txn) (ends_at job m t) env
    found_inputs env finds x u d = finds x ∙ ap (λ b. cond b (get kept x) None) (and_both (used_in (piece_ops job.parts id.block txn) x) _ u (ap not d)) ∙ kept_inputs x u d

    pub has_txn_inputs : (env : Values) → FindsInputs job.parts id.block txn kept env → HasTxnInputs job.parts id.block txn env
    has_txn_inputs env finds =
        let end = env_is job.parts keeps.is_plan job.first (batches_of p) keeps.machine.run_on keeps.machine.fit job.tables keeps.fit t txn number in
        (end.0, end.1, subst (λ (e : Values). InputsAre (piece_ops job.parts id.block txn) e env) end.2 (found_inputs env finds))

    -- the access over what is kept is that of the piece
    pub access_kept : access_at job m (piece_in id.block t) ≡ access_of (piece_ops job.parts id.block txn) kept
    access_kept = ap (λ os. access_of os (ends_at job m t)) operations ∙ sym (access_same (piece_ops job.parts id.block txn) (ends_at job m t) kept kept_inputs)

-- ---- a set is opened

module _ (job : Job) (p : Progress) (keeps : KeepsProgress job p) (at : ℕ) (id : SetId) (waiting : List ℕ) (there : slice_get p.sets.sets at ≡ Some (id, Some (Waiting waiting)))
    (passed : WaitsForNothing job.parts.edges p.sets.sets id) (loaded : LoadedBatch) (loaded_there : slice_get p.batches.items id.batch ≡ Some loaded)
    (opening : OpenSet) (fresh : IsFreshlyOpen p.pieces loaded id.block waiting opening) where
  abbrev pub set : SetAt job p keeps at id (Some (Waiting waiting))
  set = set_at job p keeps at id (Some (Waiting waiting)) there

  abbrev pub ts : List ℕ
  ts = txns job p keeps at id (Some (Waiting waiting)) set

  same_batch : loaded.batch ≡ set.batch
  same_batch = same_Some _ _ (sym (at_map (λ (l : LoadedBatch). l.batch) p.batches.items id.batch loaded loaded_there) ∙ set.batch_there)

  same_txns : waiting ≡ ts
  same_txns = refl

  rest : IsRest (all_txns job p keeps at id (Some (Waiting waiting)) set) waiting
  rest = rest_of job p keeps at id (Waiting waiting) set

  abbrev pub new : Progress
  new = record p { sets = record p.sets { sets = with_kept_at p.sets.sets at (Some (Open opening)) } }

  -- each piece of it waits that did, and each other one is finished
  still_there : (q : PieceId) → q.block ≡ id.block → mark (Some (Open opening)) q ≡ mark (Some (Waiting waiting)) q
  still_there q block = go (list_any (λ t. t == q.txn) waiting) refl (position_of opening.sched q) refl
    where
      own : piece_in id.block q.txn ≡ q
      own = λ k. record { txn = q.txn; block = sym block k }

      each : (n i : ℕ) → i < n → unwrap_or (slice_get (replicate n state.Waiting) i) state.Finished ≡ state.Waiting
      each zero i lt = absurd (omega (arith, lt))
      each (suc n) zero lt = refl
      each (suc n) (suc i) lt = each n i (omega (arith, lt))

      -- what stands among the pieces is one of those that wait
      among_these : (i : ℕ) → position_of opening.sched q ≡ Some i → slice_get waiting i ≡ Some q.txn
      among_these i e =
          let s = stands opening.sched q i e in
          let found = map_at (piece_in id.block) waiting i q
          (ap (λ ps. slice_get ps i) (sym fresh.pieces) ∙ slice_get-get_or opening.sched.pieces i q s.0 ∙ ap (λ x. Some x) s.1) in
          found.1 ∙ ap (λ (x : PieceId). Some x.txn) found.2

      -- and each of these stands there
      position_there : Mem q.txn waiting → (i : ℕ) × (position_of opening.sched q ≡ Some i)
      position_there mem =
          let i = mem_at waiting q.txn mem in (
            i.0,
            ap (position_of opening.sched) (sym own) ∙ ap (λ ps. position (is_piece (piece_in id.block q.txn)) ps) fresh.pieces
                ∙ position_in id.block waiting (rises job p keeps at id (Some (Waiting waiting)) set) i.0 q.txn i.1,
          )

      state_is : (i : ℕ) → position_of opening.sched q ≡ Some i → mark (Some (Open opening)) q ≡ state.Waiting
      state_is i e =
          ap (λ o. unwrap_or (at_position opening.sched.states o) state.Finished) e
          ∙ ap (λ (l : List PieceState). unwrap_or (slice_get l i) state.Finished) fresh.states
          ∙ each (length waiting) i (slice_get_within waiting i q.txn (among_these i e))

      go : (b : Bool) → list_any (λ t. t == q.txn) waiting ≡ b → (o : Option ℕ) → position_of opening.sched q ≡ o → mark (Some (Open opening)) q ≡ mark (Some (Waiting waiting)) q
      go true is (Some i) e = state_is i e ∙ sym (ap (λ b. cond b state.Waiting state.Finished) is)
      go true is None e =
          let t = any_gives (λ t. t == q.txn) waiting is in
          let found = position_there (subst (λ (u : ℕ). Mem u waiting) (same_number t.0 q.txn t.2) t.1) in
          let wrong : None ≡ Some found.0 = sym e ∙ found.1 in absurd cc
      go false is (Some i) e = absurd (true≢false (sym (any_mem (λ t. t == q.txn) q.txn waiting (at_mem waiting i q.txn (among_these i e)) (eq_self q.txn)) ∙ is))
      go false is None e = ap (λ o. unwrap_or (at_position opening.sched.states o) state.Finished) e ∙ sym (ap (λ b. cond b state.Waiting state.Finished) is)

  marks_stay : (q : PieceId) → mark_in (batches_of new) new.sets.sets q ≡ mark_in (batches_of p) p.sets.sets q
  marks_stay q = go (equal_or_not (set_of_piece (batches_of p) q).batch id.batch) (equal_or_not q.block id.block)
    where
      stays : (set_of_piece (batches_of p) q ≡ id → ⊥) → mark (kept_of (set_of_piece (batches_of p) q) new.sets.sets) q ≡ mark (kept_of (set_of_piece (batches_of p) q) p.sets.sets) q
      stays differ = ap (λ k. mark k q) (kept_stays p.sets.sets keeps.ascend at id (Some (Waiting waiting)) (Some (Open opening)) there (set_of_piece (batches_of p) q) differ)

      go : ((set_of_piece (batches_of p) q).batch ≡ id.batch) ⊎ ((set_of_piece (batches_of p) q).batch ≡ id.batch → ⊥) → (q.block ≡ id.block) ⊎ (q.block ≡ id.block → ⊥)
          → mark (kept_of (set_of_piece (batches_of p) q) new.sets.sets) q ≡ mark (kept_of (set_of_piece (batches_of p) q) p.sets.sets) q
      go (inl b) (inl c) =
          let same : set_of_piece (batches_of p) q ≡ id = λ i. record { batch = b i; block = c i } in
          ap (λ s. mark (kept_of s new.sets.sets) q) same
          ∙ ap (λ k. mark k q) (kept_changed p.sets.sets keeps.ascend at id (Some (Waiting waiting)) (Some (Open opening)) there)
          ∙ still_there q c
          ∙ sym (ap (λ s. mark (kept_of s p.sets.sets) q) same ∙ ap (λ k. mark k q) (kept_there p.sets.sets keeps.ascend at id (Some (Waiting waiting)) there))
      go (inl b) (inr c) = stays (λ e. c (ap (λ (x : SetId). x.block) e))
      go (inr b) c = stays (λ e. b (ap (λ (x : SetId). x.batch) e))

  marked_stays : (test : PieceState → Bool) → pieces_marked test job (batches_of new) new.sets.sets ≡ pieces_marked test job (batches_of p) p.sets.sets
  marked_stays test = filter_alike (λ q. test (mark_in (batches_of new) new.sets.sets q)) (λ q. test (mark_in (batches_of p) p.sets.sets q)) (pieces_of job (batches_of p)) (λ q mem. ap test (marks_stay q))

  -- the replay is the same
  pub same_replay : replay_so_far job new ≡ replay_so_far job p
  same_replay = λ i. record {
    job = job;
    batches = batches_of p;
    is_closed = p.is_closed;
    out = marked_stays is_out i;
    finished = marked_stays is_finished i;
  }

  -- ---- what is kept

  access_is : (t : ℕ) → Mem t ts → access_over p.pieces loaded id.block t ≡ access_at job (machine_of (replay_so_far job p)) (piece_in id.block t)
  access_is t mem = go (item_at set.batch.txns (t - set.batch.first) s.inside) (item_at loaded.kept.items (t - set.batch.first) kept_inside)
    where
      s : Stands (batches_of p) t id.batch (t - set.batch.first)
      s = stands_set job p keeps at id (Some (Waiting waiting)) set t mem

      values : KeepsBatch job.parts (present_of (replay_so_far job p)) loaded
      values = keeps.values id.batch loaded loaded_there (at, id, Waiting waiting, there, refl)

      kept_inside : t - set.batch.first < length loaded.kept.items
      kept_inside = let lt : t - set.batch.first < length set.batch.txns = s.inside in let all : length loaded.kept.items ≡ length loaded.batch.txns = values.all in let same : length loaded.batch.txns ≡ length set.batch.txns = ap (λ (b : Batch). length b.txns) same_batch in omega (arith, lt, all, same)

      first_is : loaded.batch.first ≡ set.batch.first
      first_is = ap (λ (b : Batch). b.first) same_batch

      go : (x : Txn) × (slice_get set.batch.txns (t - set.batch.first) ≡ Some x) → (k : Values) × (slice_get loaded.kept.items (t - set.batch.first) ≡ Some k)
          → access_over p.pieces loaded id.block t ≡ access_at job (machine_of (replay_so_far job p)) (piece_in id.block t)
      go txn kept =
          let txn_is : slice_get loaded.batch.txns (t - loaded.batch.first) ≡ Some txn.0 = ap (λ (b : Batch). slice_get b.txns (t - b.first)) same_batch ∙ txn.1 in
          let kept_is : slice_get loaded.kept.items (t - loaded.batch.first) ≡ Some kept.0 = ap (λ (n : ℕ). slice_get loaded.kept.items (t - n)) first_is ∙ kept.1 in
          let number : loaded.batch.first + (t - set.batch.first) ≡ t = let n : t ≡ set.batch.first + (t - set.batch.first) = s.number in omega (arith, n, first_is) in
          ap (λ (parts : PlanParts). access_over parts loaded id.block t) (sym keeps.parts)
          ∙ ap (λ o. access_of (part (txn_block job.parts o) id.block (txn_code job.parts o)) (unwrap_or (slice_get loaded.kept.items (t - loaded.batch.first)) empty)) txn_is
          ∙ ap (λ o. access_of (piece_ops job.parts id.block txn.0) (unwrap_or o empty)) kept_is
          ∙ sym (access_kept job p keeps id passed t (t - set.batch.first) s txn.0 txn.1 set.inside kept.0
          (subst (λ (n : ℕ). KeepsInputs job.parts txn.0 kept.0 ((present_of (replay_so_far job p)).envs n)) number
          (values.each (t - set.batch.first) txn.0 kept.0 (ap (λ (b : Batch). slice_get b.txns (t - set.batch.first)) same_batch ∙ txn.1) kept.1)))

  accesses_are : map (access_over p.pieces loaded id.block) waiting ≡ map (access_at job (machine_of (replay_so_far job p))) opening.sched.pieces
  accesses_are =
      ap (map (access_over p.pieces loaded id.block)) same_txns
      ∙ map_alike ts (λ t mem. access_is t mem)
      ∙ sym (ap (map (access_at job (machine_of (replay_so_far job p)))) (fresh.pieces ∙ ap (map (piece_in id.block)) same_txns) ∙ map_both ts)
    where
      map_alike : (us : List ℕ) → ((t : ℕ) → Mem t us → access_over p.pieces loaded id.block t ≡ access_at job (machine_of (replay_so_far job p)) (piece_in id.block t))
          → map (access_over p.pieces loaded id.block) us ≡ map (λ t. access_at job (machine_of (replay_so_far job p)) (piece_in id.block t)) us
      map_alike [] same = refl
      map_alike (u ∷ us) same = ap (λ x. x ∷ map (access_over p.pieces loaded id.block) us) (same u (inl refl)) ∙ ap (λ l. access_at job (machine_of (replay_so_far job p)) (piece_in id.block u) ∷ l) (map_alike us (λ t mem. same t (inr mem)))

      map_both : (us : List ℕ) → map (access_at job (machine_of (replay_so_far job p))) (map (piece_in id.block) us) ≡ map (λ t. access_at job (machine_of (replay_so_far job p)) (piece_in id.block t)) us
      map_both [] = refl
      map_both (u ∷ us) = ap (λ l. access_at job (machine_of (replay_so_far job p)) (piece_in id.block u) ∷ l) (map_both us)

  opened_is : IsOpened (replay_so_far job p) new.sets.sets id ts opening
  opened_is = record {
    pieces = fresh.pieces ∙ ap (map (piece_in id.block)) same_txns;
    pairs = subst (λ l. AreKeptPairs l opening.sched.pairs) accesses_are fresh.pairs;
    order = λ j moved. absurd (true≢false (sym moved ∙ none_moved j));
    cells = subst (λ l. HasCellsOf l opening.cells.items) accesses_are fresh.cells;
    passed = passes_still p.sets.sets keeps.ascend at id (Some (Waiting waiting)) (Some (Open opening)) there job.parts.edges id (λ other same none. let wrong : None ≡ Some (Waiting waiting) = sym none in absurd cc) passed;
    left = ap (list_all is_finished) fresh.states ∙ some_left (length waiting) (some_waiting);
    size = ap length fresh.states ∙ length-replicate (length waiting) state.Waiting ∙ sym (ap length fresh.pieces ∙ length-map waiting (piece_in id.block));
  }
    where
      none_moved : (j : ℕ) → some_passes (λ s. not (is_waiting s)) (slice_get opening.sched.states j) ≡ false
      none_moved j = ap (λ (l : List PieceState). some_passes (λ s. not (is_waiting s)) (slice_get l j)) fresh.states ∙ each (length waiting) j
        where
          each : (n i : ℕ) → some_passes (λ s. not (is_waiting s)) (slice_get (replicate n state.Waiting) i) ≡ false
          each zero i = refl
          each (suc n) zero = refl
          each (suc n) (suc i) = each n i

      some_waiting : 0 < length waiting
      some_waiting = more waiting rest.some
        where
          more : (us : List ℕ) → has_numbers us ≡ true → 0 < length us
          more [] e = absurd (true≢false (sym e))
          more (u ∷ us) e = omega arith

      some_left : (n : ℕ) → 0 < n → list_all is_finished (replicate n state.Waiting) ≡ false
      some_left zero lt = absurd (omega (arith, lt))
      some_left (suc n) lt = refl

  stages_stay : AreStages (replay_so_far job p) new.sets.sets
  stages_stay j s stage batch here batch_there = go (equal_or_not j at)
    where
      go : (j ≡ at) ⊎ (j ≡ at → ⊥) → IsStageOf (replay_so_far job p) new.sets.sets s (set_of job.parts batch.first batch.txns s.block).txns stage
      go (inl e) =
          let same = same_Some _ _ (sym (get_changed p.sets.sets at (id, Some (Waiting waiting)) (Some (Open opening)) there) ∙ ap (slice_get new.sets.sets) (sym e) ∙ here) in
          let id_is : id ≡ s = ap (λ (x : Kept SetStage). x.0) same in
          let stage_is : Open opening ≡ stage = same_Some _ _ (ap (λ (x : Kept SetStage). x.1) same) in
          let batch_is : set.batch ≡ batch = same_Some _ _ (sym set.batch_there ∙ ap (λ (x : SetId). slice_get (batches_of p) x.batch) id_is ∙ batch_there) in
          subst (λ (x : SetStage). IsStageOf (replay_so_far job p) new.sets.sets s (set_of job.parts batch.first batch.txns s.block).txns x) stage_is
          (subst (λ (x : SetId). IsStageOf (replay_so_far job p) new.sets.sets x (set_of job.parts batch.first batch.txns x.block).txns (Open opening)) id_is
          (subst (λ (b : Batch). IsStageOf (replay_so_far job p) new.sets.sets id (set_of job.parts b.first b.txns id.block).txns (Open opening)) batch_is (waiting, rest, opened_is)))
      go (inr differ) = still stage (keeps.stages j s stage batch (sym (get_other p.sets.sets at j (Some (Open opening)) differ) ∙ here) batch_there)
        where
          still : (x : SetStage) → IsStageOf (replay_so_far job p) p.sets.sets s (set_of job.parts batch.first batch.txns s.block).txns x → IsStageOf (replay_so_far job p) new.sets.sets s (set_of job.parts batch.first batch.txns s.block).txns x
          still (Waiting w) is = is
          still (Open o) is = (
            is.0,
            is.1,
            record {
              pieces = is.2.pieces;
              pairs = is.2.pairs;
              order = is.2.order;
              cells = is.2.cells;
              passed = passes_still p.sets.sets keeps.ascend at id (Some (Waiting waiting)) (Some (Open opening)) there job.parts.edges s (λ other same none. let wrong : None ≡ Some (Waiting waiting) = sym none in absurd cc) is.2.passed;
              left = is.2.left;
              size = is.2.size;
            },
          )

  unfinished_stays : (k : ℕ) → IsUnfinishedBatch new.sets.sets k → IsUnfinishedBatch p.sets.sets k
  unfinished_stays k (j, s, stage, here, batch) = go (equal_or_not j at)
    where
      go : (j ≡ at) ⊎ (j ≡ at → ⊥) → IsUnfinishedBatch p.sets.sets k
      go (inl e) =
          let same = same_Some _ _ (sym (get_changed p.sets.sets at (id, Some (Waiting waiting)) (Some (Open opening)) there) ∙ ap (slice_get new.sets.sets) (sym e) ∙ here) in
          (at, id, Waiting waiting, there, ap (λ (x : Kept SetStage). x.0.batch) same ∙ batch)
      go (inr differ) = (j, s, stage, sym (get_other p.sets.sets at j (Some (Open opening)) differ) ∙ here, batch)

  -- all is kept
  pub opens_keep : KeepsProgress job new
  opens_keep = record {
    parts = keeps.parts;
    first = keeps.first;
    edges = keeps.edges;
    blocks = keeps.blocks;
    is_plan = keeps.is_plan;
    fit = keeps.fit;
    machine = subst (λ (x : Replay). KeepsJob job (machine_of x)) (sym same_replay) keeps.machine;
    order = subst (λ (x : Replay). KeepsPrecedence job (machine_of x)) (sym same_replay) keeps.order;
    note = keeps.note ∙ ap (λ (x : Replay). (present_of x).note) (sym same_replay);
    next = keeps.next;
    unfinished = keeps.unfinished ∙ ap left (sym same_replay);
    sets = ids_stay p.sets.sets at (Some (Open opening)) ∙ keeps.sets;
    ascend = still_up p.sets.sets keeps.ascend at id (Some (Waiting waiting)) (Some (Open opening)) there;
    stages = subst (λ (x : Replay). AreStages x new.sets.sets) (sym same_replay) stages_stay;
    values = subst (λ (x : Replay). KeepsValues x new.batches.items new.sets.sets) (sym same_replay) (λ k loaded at_k left. keeps.values k loaded at_k (unfinished_stays k left));
  }
