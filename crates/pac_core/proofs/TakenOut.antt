-- A ready piece is handed out: the replay has it out, and all is kept.
use Rattle.std.proofs.Common.{◌≡◌, ◌⊎◌, ℕ, zero, suc, Bool, true, false, cond, ◌&&◌, ◌||◌, List, [], ◌∷◌, length, Some, None, refl, sym, ap, subst, ◌∙◌, inl, inr}
use Rattle.std.specs.Prelude.{slice_get, slice_set, filter}
use Rattle.std.specs.List.{list_all}
use Rattle.std.proofs.lemmas.List.{length-set}
use Rattle.std.proofs.lemmas.Option.{same_Some, slice_get_within}
use Rattle.pac_base.specs.Members.{Mem}
use Rattle.pac_ops.specs.declared.batch.Batch.{Batch}
use Rattle.pac_ops.specs.declared.piece.PieceId.{PieceId}
use Rattle.pac_plan.specs.declared.access.Access.TheVariants.{Whole}
use Rattle.pac_plan.specs.Pieces.{Present, adds, is_piece}
use Rattle.pac_batch.specs.Sets.{set_of}
use Rattle.pac_sched.specs.declared.state.PieceState.{PieceState}
use Rattle.pac_sched.specs.declared.state.PieceState.TheVariants as state
use Rattle.pac_sched.specs.Schedules.{IsInOrder, is_finished, is_out, set_at, with_state}
use Rattle.pac_sched.proofs.StateLemmas.{get_same}
use Rattle.pac_sets.specs.declared.set_id.SetId.{SetId}
use Rattle.pac_sets.specs.Sets.{Kept, with_kept_at}
use Rattle.pac_commute.specs.Loads.{Job}
use Rattle.pac_commute.specs.Machine.{Given, IsReadyAt, KeepsJob, KeepsPrecedence, Machine, access_at, among}
use Rattle.pac_commute.proofs.OrderedSteps.{keeps_order}
use Rattle.pac_commute.proofs.Steps as steps
use Rattle.pac_core.specs.declared.progress.Progress.{Progress}
use Rattle.pac_core.specs.declared.stage.OpenSet.{OpenSet}
use Rattle.pac_core.specs.declared.stage.SetStage.{SetStage}
use Rattle.pac_core.specs.declared.stage.SetStage.TheVariants.{Waiting, Open}
use Rattle.pac_core.specs.Links.{AreStages, IsOpened, IsStageOf, IsUnfinishedBatch, KeepsBatch, KeepsProgress, KeepsValues, batches_of, mark_in, pieces_marked, replay_so_far}
use Rattle.pac_core.specs.Replay.{Replay, left, loaded_pieces, machine_of, present_of, with_out}
use Rattle.pac_core.proofs.Alike.{invariant_is, order_is, present_is}
use Rattle.pac_core.proofs.KeptAt.{equal_or_not, get_changed, get_other, ids_stay, passes_still, still_up}
use Rattle.pac_core.proofs.Lists.{filter_of}
use Rattle.pac_core.proofs.Marks.{out_is}
use Rattle.pac_core.proofs.OneMark.{marked_after, moved, old_mark, q0}
use Rattle.pac_core.proofs.Ready.{SetAt, position_is, txns}

-- one that isn't finished is enough
pub not_all : (states : List PieceState) (i : ℕ) (s : PieceState) → slice_get states i ≡ Some s → is_finished s ≡ false → list_all is_finished states ≡ false
not_all [] i s e left = let wrong : None ≡ Some s = e in absurd cc
not_all (x ∷ xs) zero s e left = ap (λ b. b && list_all is_finished xs) (ap is_finished (same_Some x s e) ∙ left)
not_all (x ∷ xs) (suc i) s e left = ap (λ b. is_finished x && b) (not_all xs i s e left) ∙ and_none (is_finished x)
  where
    and_none : (b : Bool) → (b && false) ≡ false
    and_none true = refl
    and_none false = refl

module _ (job : Job) (p : Progress) (keeps : KeepsProgress job p) (at : ℕ) (id : SetId) (opening : OpenSet) (set : SetAt job p keeps at id (Some (Open opening)))
    (i t : ℕ) (e : slice_get (txns job p keeps at id (Some (Open opening)) set) i ≡ Some t) (was : slice_get opening.sched.states i ≡ Some state.Waiting)
    (ready : IsReadyAt job (machine_of (replay_so_far job p)) (q0 job p keeps at id opening set i t e state.Waiting state.Out was)) (keys : access_at job (machine_of (replay_so_far job p)) (q0 job p keeps at id opening set i t e state.Waiting state.Out was) ≡ Whole → ⊥)
    (order : IsInOrder (with_state opening.sched (q0 job p keeps at id opening set i t e state.Waiting state.Out was) state.Out)) where
  abbrev pub r : Replay
  r = replay_so_far job p

  abbrev pub piece : PieceId
  piece = q0 job p keeps at id opening set i t e state.Waiting state.Out was

  abbrev pub now_open : OpenSet
  now_open = moved job p keeps at id opening set i t e state.Waiting state.Out was

  abbrev pub new : Progress
  new = record p { sets = record p.sets { sets = with_kept_at p.sets.sets at (Some (Open now_open)) } }

  outs_are : pieces_marked is_out job (batches_of p) new.sets.sets ≡ filter (adds (among r.out) piece) (loaded_pieces r)
  outs_are = marked_after job p keeps at id opening set i t e state.Waiting state.Out was is_out (adds (among r.out) piece) (λ q mem. go (among r.out q) (is_out (mark_in (batches_of p) p.sets.sets q)) (is_piece piece q) (out_is job p keeps q mem))
    where
      go : (x y : Bool) (b : Bool) → x ≡ y → cond b true y ≡ (b || x)
      go x y true same = refl
      go x y false same = sym same

  finished_are : pieces_marked is_finished job (batches_of p) new.sets.sets ≡ r.finished
  finished_are = marked_after job p keeps at id opening set i t e state.Waiting state.Out was is_finished (λ q. is_finished (mark_in (batches_of p) p.sets.sets q)) (λ q mem. go q (is_piece piece q) refl)
    where
      go : (q : PieceId) (b : Bool) → is_piece piece q ≡ b → cond b false (is_finished (mark_in (batches_of p) p.sets.sets q)) ≡ is_finished (mark_in (batches_of p) p.sets.sets q)
      go q true same = sym (ap (λ x. is_finished (mark_in (batches_of p) p.sets.sets x)) (sym (steps.same_piece piece q same)) ∙ ap is_finished (old_mark job p keeps at id opening set i t e state.Waiting state.Out was))
      go q false same = refl

  -- the replay has the piece out
  pub out_now : replay_so_far job new ≡ with_out r piece
  out_now = λ k. record {
    job = job;
    batches = batches_of p;
    is_closed = p.is_closed;
    out = outs_are k;
    finished = finished_are k;
  }

  -- ---- what is kept

  abbrev pub m : Machine
  m = machine_of r

  stepped : KeepsJob job (record m { out = adds m.out piece })
  stepped = steps.keeps job keeps.is_plan (Given m piece (steps.may_be_taken job keeps.is_plan m piece ready) keys) keeps.machine

  ordered : KeepsPrecedence job (record m { out = adds m.out piece })
  ordered = keeps_order job keeps.is_plan (Given m piece ready keys) keeps.machine keeps.order

  out_among : (q : PieceId) → Mem q (with_out r piece).out → adds m.out piece q ≡ true
  out_among q mem = (filter_of (adds (among r.out) piece) (loaded_pieces r) q mem).1

  invariant_now : KeepsJob job (machine_of (with_out r piece))
  invariant_now = invariant_is (with_out r piece) (adds m.out piece) m.finished m.now stepped (λ q mem. refl) (λ q mem. (filter_of _ (loaded_pieces r) q mem).0) out_among

  order_now : KeepsPrecedence job (machine_of (with_out r piece))
  order_now = order_is (with_out r piece) (adds m.out piece) m.finished m.now stepped (λ q mem. refl) (λ q mem. (filter_of _ (loaded_pieces r) q mem).0) out_among ordered

  pub present_now : m.now ≡ present_of (with_out r piece)
  present_now = present_is (with_out r piece) (adds m.out piece) m.finished m.now stepped (λ q mem. refl) (λ q mem. (filter_of _ (loaded_pieces r) q mem).0) out_among

  opened_still : (s : SetId) (ts : List ℕ) (o : OpenSet) → IsOpened r p.sets.sets s ts o → IsOpened (with_out r piece) new.sets.sets s ts o
  opened_still s ts o is = record {
    pieces = is.pieces;
    pairs = is.pairs;
    order = is.order;
    cells = is.cells;
    passed = passes_still p.sets.sets keeps.ascend at id (Some (Open opening)) (Some (Open now_open)) set.there job.parts.edges s (λ other same none. let wrong : None ≡ Some (Open opening) = sym none in absurd cc) is.passed;
    left = is.left;
    size = is.size;
  }

  opened_now : (ts : List ℕ) → IsOpened r p.sets.sets id ts opening → IsOpened (with_out r piece) new.sets.sets id ts now_open
  opened_now ts is =
      let still = opened_still id ts opening is in
      record {
        pieces = still.pieces;
        pairs = still.pairs;
        order = order;
        cells = still.cells;
        passed = still.passed;
        left = not_all now_open.sched.states i state.Out (states_are ∙ get_same opening.sched.states i state.Out (slice_get_within opening.sched.states i state.Waiting was)) refl;
        size = size_is ∙ is.size;
      }
    where
      states_are : slice_get now_open.sched.states i ≡ slice_get (slice_set opening.sched.states i state.Out) i
      states_are = ap (λ o. slice_get (set_at o state.Out opening.sched.states) i) (position_is job p keeps at id opening set i t e)

      size_is : length now_open.sched.states ≡ length opening.sched.states
      size_is = ap (λ o. length (set_at o state.Out opening.sched.states)) (position_is job p keeps at id opening set i t e) ∙ length-set opening.sched.states i state.Out

  moved_stage : (batch : Batch) → slice_get (batches_of p) id.batch ≡ Some batch → IsStageOf (with_out r piece) new.sets.sets id (set_of job.parts batch.first batch.txns id.block).txns (Open now_open)
  moved_stage batch batch_there =
      let was = keeps.stages at id (Open opening) batch set.there batch_there in
      (was.0, was.1, opened_now was.0 was.2)

  stages_now : AreStages (with_out r piece) new.sets.sets
  stages_now j s stage batch here batch_there = go (equal_or_not j at)
    where
      go : (j ≡ at) ⊎ (j ≡ at → ⊥) → IsStageOf (with_out r piece) new.sets.sets s (set_of job.parts batch.first batch.txns s.block).txns stage
      go (inl same_offset) =
          let same = same_Some _ _ (sym (get_changed p.sets.sets at (id, Some (Open opening)) (Some (Open now_open)) set.there) ∙ ap (slice_get new.sets.sets) (sym same_offset) ∙ here) in
          let id_is : id ≡ s = ap (λ (x : Kept SetStage). x.0) same in
          let stage_is : Open now_open ≡ stage = same_Some _ _ (ap (λ (x : Kept SetStage). x.1) same) in
          subst (λ (x : SetStage). IsStageOf (with_out r piece) new.sets.sets s (set_of job.parts batch.first batch.txns s.block).txns x) stage_is
          (subst (λ (x : SetId). IsStageOf (with_out r piece) new.sets.sets x (set_of job.parts batch.first batch.txns x.block).txns (Open now_open)) id_is
          (moved_stage batch (ap (λ (x : SetId). slice_get (batches_of p) x.batch) id_is ∙ batch_there)))
      go (inr differ) = still stage (keeps.stages j s stage batch (sym (get_other p.sets.sets at j (Some (Open now_open)) differ) ∙ here) batch_there)
        where
          still : (x : SetStage) → IsStageOf r p.sets.sets s (set_of job.parts batch.first batch.txns s.block).txns x → IsStageOf (with_out r piece) new.sets.sets s (set_of job.parts batch.first batch.txns s.block).txns x
          still (Waiting w) is = is
          still (Open o) is = (is.0, is.1, opened_still s is.0 o is.2)

  unfinished_now : (k : ℕ) → IsUnfinishedBatch new.sets.sets k → IsUnfinishedBatch p.sets.sets k
  unfinished_now k (j, s, stage, here, batch) = go (equal_or_not j at)
    where
      go : (j ≡ at) ⊎ (j ≡ at → ⊥) → IsUnfinishedBatch p.sets.sets k
      go (inl same_offset) =
          let same = same_Some _ _ (sym (get_changed p.sets.sets at (id, Some (Open opening)) (Some (Open now_open)) set.there) ∙ ap (slice_get new.sets.sets) (sym same_offset) ∙ here) in
          (at, id, Open opening, set.there, ap (λ (x : Kept SetStage). x.0.batch) same ∙ batch)
      go (inr differ) = (j, s, stage, sym (get_other p.sets.sets at j (Some (Open now_open)) differ) ∙ here, batch)

  -- all is kept
  pub taken_keeps : KeepsProgress job new
  taken_keeps = record {
    parts = keeps.parts;
    first = keeps.first;
    edges = keeps.edges;
    blocks = keeps.blocks;
    is_plan = keeps.is_plan;
    fit = keeps.fit;
    machine = subst (λ (x : Replay). KeepsJob job (machine_of x)) (sym out_now) invariant_now;
    order = subst (λ (x : Replay). KeepsPrecedence job (machine_of x)) (sym out_now) order_now;
    note = keeps.note ∙ ap (λ (s : Present). s.note) present_now ∙ ap (λ (x : Replay). (present_of x).note) (sym out_now);
    next = keeps.next;
    unfinished = keeps.unfinished ∙ ap left (sym out_now);
    sets = ids_stay p.sets.sets at (Some (Open now_open)) ∙ keeps.sets;
    ascend = still_up p.sets.sets keeps.ascend at id (Some (Open opening)) (Some (Open now_open)) set.there;
    stages = subst (λ (x : Replay). AreStages x new.sets.sets) (sym out_now) stages_now;
    values = subst (λ (x : Replay). KeepsValues x new.batches.items new.sets.sets) (sym out_now) (λ k loaded at_k left.
        subst (λ (s : Present). KeepsBatch job.parts s loaded) present_now (keeps.values k loaded at_k (unfinished_now k left)));
  }
