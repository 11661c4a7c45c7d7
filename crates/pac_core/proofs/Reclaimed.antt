-- Each piece that is out waits again: the replay has none out, and all is kept.
use Rattle.std.proofs.Common.{◌≡◌, ℕ, Bool, true, false, cond, ◌==◌, ◌&&◌, List, [], ◌∷◌, map, Option, Some, None, refl, sym, ap, ap₂, subst, ◌∙◌}
use Rattle.std.specs.Prelude.{slice_get, filter, T, unwrap_or}
use Rattle.std.specs.List.{list_all, list_any}
use Rattle.std.specs.Option.{option_map}
use Rattle.std.specs.FinMap.{is_sorted}
use Rattle.std.specs.FinMap.Entries.{below_all}
use Rattle.std.proofs.Common.{is_lt}
use Rattle.std.proofs.lemmas.List.{length-map}
use Rattle.std.proofs.lemmas.Option.{same_Some, slice_get-map}
use Rattle.pac_base.specs.Members.{Mem}
use Rattle.pac_ops.specs.declared.piece.PieceId.{PieceId}
use Rattle.pac_plan.specs.Pieces.{Present}
use Rattle.pac_batch.specs.Sets.{set_of}
use Rattle.pac_sched.specs.declared.state.PieceState.{PieceState}
use Rattle.pac_sched.specs.declared.state.PieceState.TheVariants as state
use Rattle.pac_sched.specs.Schedules.{IsInOrder, at_position, is_finished, is_out, position_of, put_back, reclaimed}
use Rattle.pac_sets.specs.declared.set_id.SetId.{SetId}
use Rattle.pac_sets.specs.SetOrder.{set_cmp}
use Rattle.pac_sets.specs.Sets.{Kept, WaitsForNothing, kept_of}
use Rattle.pac_sets.proofs.SetLemmas.{kept_there, there_kept}
use Rattle.pac_commute.specs.Loads.{Job, pieces_of}
use Rattle.pac_commute.specs.Machine.{KeepsJob, KeepsPrecedence, among}
use Rattle.pac_core.specs.declared.progress.Progress.{Progress}
use Rattle.pac_core.specs.declared.stage.OpenSet.{OpenSet}
use Rattle.pac_core.specs.declared.stage.SetStage.{SetStage}
use Rattle.pac_core.specs.declared.stage.SetStage.TheVariants.{Waiting, Open}
use Rattle.pac_core.specs.Links.{AreStages, IsStageOf, IsUnfinishedBatch, KeepsBatch, KeepsProgress, KeepsValues, batches_of, mark, mark_in, pieces_marked, replay_so_far, set_of_piece}
use Rattle.pac_core.specs.Moves.{reclaimed_kept, reclaimed_sets, reclaimed_stage}
use Rattle.pac_core.specs.Replay.{Replay, left, loaded_pieces, machine_of, present_of, with_none_out}
use Rattle.pac_core.proofs.Alike.{invariant_is, order_is, present_is}
use Rattle.pac_core.proofs.Lists.{filter_alike, filter_of, map_at}

-- ---- lists of sets

abbrev back : Kept SetStage → Kept SetStage
back set = (set.0, reclaimed_kept set.1)

ids_same : (sets : List (Kept SetStage)) → map (λ (set : Kept SetStage). set.0) (reclaimed_sets sets) ≡ map (λ (set : Kept SetStage). set.0) sets
ids_same [] = refl
ids_same (s ∷ ss) = ap (λ l. s.0 ∷ l) (ids_same ss)

below_same : (id : SetId) (sets : List (Kept SetStage)) → below_all set_cmp id (reclaimed_sets sets) ≡ below_all set_cmp id sets
below_same id [] = refl
below_same id (s ∷ ss) = ap (λ b. is_lt (set_cmp id s.0) && b) (below_same id ss)

sorted_same : (sets : List (Kept SetStage)) → is_sorted set_cmp (reclaimed_sets sets) ≡ is_sorted set_cmp sets
sorted_same [] = refl
sorted_same (s ∷ ss) = ap₂ (λ a b. a && b) (below_same s.0 ss) (sorted_same ss)

-- ---- marks

-- a piece that was out waits
mark_back : (kept : Option SetStage) (q : PieceId) → mark (reclaimed_kept kept) q ≡ put_back (mark kept q)
mark_back None q = refl
mark_back (Some (Waiting txns)) q = go (list_any (λ t. t == q.txn) txns)
  where
    go : (b : Bool) → cond b state.Waiting state.Finished ≡ put_back (cond b state.Waiting state.Finished)
    go true = refl
    go false = refl
mark_back (Some (Open opening)) q = go (position_of opening.sched q)
  where
    at : (o : Option PieceState) → unwrap_or (option_map put_back o) state.Finished ≡ put_back (unwrap_or o state.Finished)
    at None = refl
    at (Some s) = refl

    go : (o : Option ℕ) → unwrap_or (at_position (map put_back opening.sched.states) o) state.Finished ≡ put_back (unwrap_or (at_position opening.sched.states o) state.Finished)
    go None = refl
    go (Some i) = ap (λ o. unwrap_or o state.Finished) (slice_get-map put_back opening.sched.states i) ∙ at (slice_get opening.sched.states i)

none_out : (s : PieceState) → is_out (put_back s) ≡ false
none_out state.Waiting = refl
none_out state.Out = refl
none_out state.Finished = refl

still_finished : (s : PieceState) → is_finished (put_back s) ≡ is_finished s
still_finished state.Waiting = refl
still_finished state.Out = refl
still_finished state.Finished = refl

all_still : (states : List PieceState) → list_all is_finished (map put_back states) ≡ list_all is_finished states
all_still [] = refl
all_still (s ∷ ss) = ap₂ (λ a b. a && b) (still_finished s) (all_still ss)

module _ (job : Job) (p : Progress) (keeps : KeepsProgress job p) (orders : (j : ℕ) (set : SetId) (opening : OpenSet) → slice_get p.sets.sets j ≡ Some (set, Some (Open opening)) → IsInOrder (reclaimed opening.sched)) where
  abbrev r : Replay
  r = replay_so_far job p

  abbrev pub new : Progress
  new = record p { sets = record p.sets { sets = reclaimed_sets p.sets.sets } }

  up : T (is_sorted set_cmp (reclaimed_sets p.sets.sets))
  up = subst T (sym (sorted_same p.sets.sets)) keeps.ascend

  at_back : (j : ℕ) (id : SetId) (kept : Option SetStage) → slice_get p.sets.sets j ≡ Some (id, kept) → slice_get (reclaimed_sets p.sets.sets) j ≡ Some (id, reclaimed_kept kept)
  at_back j id kept e = slice_get-map back p.sets.sets j ∙ ap (option_map back) e

  -- what is kept of a set
  kept_back : (s : SetId) → kept_of s (reclaimed_sets p.sets.sets) ≡ reclaimed_kept (kept_of s p.sets.sets)
  kept_back s = go (kept_of s p.sets.sets) refl (kept_of s (reclaimed_sets p.sets.sets)) refl
    where
      go : (o : Option SetStage) → kept_of s p.sets.sets ≡ o → (n : Option SetStage) → kept_of s (reclaimed_sets p.sets.sets) ≡ n → kept_of s (reclaimed_sets p.sets.sets) ≡ reclaimed_kept o
      go (Some stage) e n f =
          let j = there_kept p.sets.sets keeps.ascend s stage e in
          kept_there (reclaimed_sets p.sets.sets) up j.0 s (Some (reclaimed_stage stage)) (at_back j.0 s (Some stage) j.1)
      go None e None f = f
      go None e (Some stage) f =
          let j = there_kept (reclaimed_sets p.sets.sets) up s stage f in
          let was = map_at back p.sets.sets j.0 (s, Some stage) j.1 in
          let id : was.0.0 ≡ s = ap (λ (x : Kept SetStage). x.0) was.2 in
          let kept : kept_of s p.sets.sets ≡ was.0.1 = ap (λ x. kept_of x p.sets.sets) (sym id) ∙ kept_there p.sets.sets keeps.ascend j.0 was.0.0 was.0.1 was.1 in
          let none : was.0.1 ≡ None = sym kept ∙ e in
          let wrong : ◌≡◌ {A = Option SetStage} None (Some stage) = ap reclaimed_kept (sym none) ∙ ap (λ (x : Kept SetStage). x.1) was.2 in absurd cc

  mark_now : (q : PieceId) → mark_in (batches_of p) (reclaimed_sets p.sets.sets) q ≡ put_back (mark_in (batches_of p) p.sets.sets q)
  mark_now q = ap (λ o. mark o q) (kept_back (set_of_piece (batches_of p) q)) ∙ mark_back (kept_of (set_of_piece (batches_of p) q) p.sets.sets) q

  none_filter : (L : List PieceId) → filter (λ q. is_out (mark_in (batches_of p) (reclaimed_sets p.sets.sets) q)) L ≡ []
  none_filter [] = refl
  none_filter (q ∷ qs) = ap (λ b. cond b (q ∷ filter (λ q. is_out (mark_in (batches_of p) (reclaimed_sets p.sets.sets) q)) qs) (filter (λ q. is_out (mark_in (batches_of p) (reclaimed_sets p.sets.sets) q)) qs)) (ap is_out (mark_now q) ∙ none_out (mark_in (batches_of p) p.sets.sets q)) ∙ none_filter qs

  finished_same : pieces_marked is_finished job (batches_of p) (reclaimed_sets p.sets.sets) ≡ r.finished
  finished_same = filter_alike (λ q. is_finished (mark_in (batches_of p) (reclaimed_sets p.sets.sets) q)) (λ q. is_finished (mark_in (batches_of p) p.sets.sets q)) (pieces_of job (batches_of p))
      (λ q mem. ap is_finished (mark_now q) ∙ still_finished (mark_in (batches_of p) p.sets.sets q))

  -- the replay has none out
  pub reclaimed_now : replay_so_far job new ≡ with_none_out r
  reclaimed_now = λ k. record { job = job; batches = batches_of p; is_closed = p.is_closed; out = none_filter (pieces_of job (batches_of p)) k; finished = finished_same k }

  -- ---- what is kept

  finished_loaded : (q : PieceId) → Mem q r.finished → Mem q (loaded_pieces r)
  finished_loaded q mem = (filter_of (λ q. is_finished (mark_in (batches_of p) p.sets.sets q)) (loaded_pieces r) q mem).0

  invariant_now : KeepsJob job (machine_of (with_none_out r))
  invariant_now = invariant_is (with_none_out r) (among r.out) (among r.finished) (present_of r) keeps.machine (λ q mem. refl) finished_loaded (λ q mem. absurd mem)

  order_now : KeepsPrecedence job (machine_of (with_none_out r))
  order_now = order_is (with_none_out r) (among r.out) (among r.finished) (present_of r) keeps.machine (λ q mem. refl) finished_loaded (λ q mem. absurd mem) keeps.order

  pub reclaimed_present : present_of r ≡ present_of (with_none_out r)
  reclaimed_present = present_is (with_none_out r) (among r.out) (among r.finished) (present_of r) keeps.machine (λ q mem. refl) finished_loaded (λ q mem. absurd mem)

  passed_still : (s : SetId) → WaitsForNothing job.parts.edges p.sets.sets s → WaitsForNothing job.parts.edges (reclaimed_sets p.sets.sets) s
  passed_still s passed other wait = kept_back other ∙ ap reclaimed_kept (passed other wait)

  stages_now : AreStages (with_none_out r) (reclaimed_sets p.sets.sets)
  stages_now j s stage batch here batch_there = go was.0.1 was.1 was.2
    where
      was : (x : Kept SetStage) × (slice_get p.sets.sets j ≡ Some x) × (back x ≡ (s, Some stage))
      was = map_at back p.sets.sets j (s, Some stage) here

      id : was.0.0 ≡ s
      id = ap (λ (x : Kept SetStage). x.0) was.2

      -- of the set itself
      of_stage : (x : SetStage) → slice_get p.sets.sets j ≡ Some (s, Some x) → IsStageOf (with_none_out r) (reclaimed_sets p.sets.sets) s (set_of job.parts batch.first batch.txns s.block).txns (reclaimed_stage x)
      of_stage (Waiting w) there = keeps.stages j s (Waiting w) batch there batch_there
      of_stage (Open o) there =
          let stage = keeps.stages j s (Open o) batch there batch_there in
          let is = stage.2 in (
            stage.0,
            stage.1,
            record {
              pieces = is.pieces;
              pairs = is.pairs;
              order = orders j s o there;
              cells = is.cells;
              passed = passed_still s is.passed;
              left = all_still o.sched.states ∙ is.left;
              size = length-map o.sched.states put_back ∙ is.size;
            },
          )

      go : (k : Option SetStage) → slice_get p.sets.sets j ≡ Some (was.0.0, k) → ◌≡◌ {A = Kept SetStage} (was.0.0, reclaimed_kept k) (s, Some stage) → IsStageOf (with_none_out r) (reclaimed_sets p.sets.sets) s (set_of job.parts batch.first batch.txns s.block).txns stage
      go None there e = let wrong : ◌≡◌ {A = Option SetStage} None (Some stage) = ap (λ (x : Kept SetStage). x.1) e in absurd cc
      go (Some x) there e =
          subst (IsStageOf (with_none_out r) (reclaimed_sets p.sets.sets) s (set_of job.parts batch.first batch.txns s.block).txns) (same_Some _ _ (ap (λ (x : Kept SetStage). x.1) e))
          (of_stage x (there ∙ ap (λ (t : SetId). Some (t, Some x)) id))

  unfinished_was : (k : ℕ) → IsUnfinishedBatch (reclaimed_sets p.sets.sets) k → IsUnfinishedBatch p.sets.sets k
  unfinished_was k (j, s, stage, here, batch) = go was.0.1 was.1 was.2
    where
      was : (x : Kept SetStage) × (slice_get p.sets.sets j ≡ Some x) × (back x ≡ (s, Some stage))
      was = map_at back p.sets.sets j (s, Some stage) here

      go : (o : Option SetStage) → slice_get p.sets.sets j ≡ Some (was.0.0, o) → ◌≡◌ {A = Kept SetStage} (was.0.0, reclaimed_kept o) (s, Some stage) → IsUnfinishedBatch p.sets.sets k
      go None there e = let wrong : ◌≡◌ {A = Option SetStage} None (Some stage) = ap (λ (x : Kept SetStage). x.1) e in absurd cc
      go (Some x) there e = (j, was.0.0, x, there, ap (λ (x : Kept SetStage). x.0.batch) e ∙ batch)

  -- all is kept
  pub reclaimed_keeps : KeepsProgress job new
  reclaimed_keeps = record {
    parts = keeps.parts;
    first = keeps.first;
    edges = keeps.edges;
    blocks = keeps.blocks;
    is_plan = keeps.is_plan;
    fit = keeps.fit;
    machine = subst (λ (x : Replay). KeepsJob job (machine_of x)) (sym reclaimed_now) invariant_now;
    order = subst (λ (x : Replay). KeepsPrecedence job (machine_of x)) (sym reclaimed_now) order_now;
    note = keeps.note ∙ ap (λ (s : Present). s.note) reclaimed_present ∙ ap (λ (x : Replay). (present_of x).note) (sym reclaimed_now);
    next = keeps.next;
    unfinished = keeps.unfinished ∙ ap left (sym reclaimed_now);
    sets = ids_same p.sets.sets ∙ keeps.sets;
    ascend = up;
    stages = subst (λ (x : Replay). AreStages x (reclaimed_sets p.sets.sets)) (sym reclaimed_now) stages_now;
    values = subst (λ (x : Replay). KeepsValues x p.batches.items (reclaimed_sets p.sets.sets)) (sym reclaimed_now) (λ k loaded at_k left.
        subst (λ (s : Present). KeepsBatch job.parts s loaded) reclaimed_present (keeps.values k loaded at_k (unfinished_was k left)));
  }
