-- A piece that is out is given back: the replay has it out no more, and all is kept.
use Rattle.std.proofs.Common.{◌≡◌, ◌⊎◌, ℕ, Bool, true, false, cond, not, ◌&&◌, List, length, Some, None, refl, sym, ap, subst, ◌∙◌, inl, inr}
use Rattle.std.specs.Prelude.{slice_get, slice_set, filter}
use Rattle.std.proofs.lemmas.List.{length-set}
use Rattle.std.proofs.lemmas.Option.{same_Some, slice_get_within}
use Rattle.pac_base.specs.Members.{Mem}
use Rattle.pac_base.proofs.TestLemmas.{and_left}
use Rattle.pac_ops.specs.declared.batch.Batch.{Batch}
use Rattle.pac_ops.specs.declared.piece.PieceId.{PieceId}
use Rattle.pac_plan.specs.Pieces.{Present, is_piece}
use Rattle.pac_batch.specs.Sets.{set_of}
use Rattle.pac_sched.specs.declared.state.PieceState.TheVariants as state
use Rattle.pac_sched.specs.Schedules.{IsInOrder, is_finished, is_out, set_at, with_state}
use Rattle.pac_sched.proofs.StateLemmas.{get_same}
use Rattle.pac_sets.specs.declared.set_id.SetId.{SetId}
use Rattle.pac_sets.specs.Sets.{Kept, with_kept_at}
use Rattle.pac_commute.specs.Loads.{Job}
use Rattle.pac_commute.specs.Machine.{KeepsJob, KeepsPrecedence, Machine, among}
use Rattle.pac_commute.proofs.Steps as steps
use Rattle.pac_core.specs.declared.progress.Progress.{Progress}
use Rattle.pac_core.specs.declared.stage.OpenSet.{OpenSet}
use Rattle.pac_core.specs.declared.stage.SetStage.{SetStage}
use Rattle.pac_core.specs.declared.stage.SetStage.TheVariants.{Waiting, Open}
use Rattle.pac_core.specs.Links.{AreStages, IsOpened, IsStageOf, IsUnfinishedBatch, KeepsBatch, KeepsProgress, KeepsValues, batches_of, mark_in, pieces_marked, replay_so_far}
use Rattle.pac_core.specs.Replay.{Replay, left, loaded_pieces, machine_of, present_of, without_out}
use Rattle.pac_core.proofs.Alike.{invariant_is, order_is, present_is}
use Rattle.pac_core.proofs.KeptAt.{equal_or_not, get_changed, get_other, ids_stay, passes_still, still_up}
use Rattle.pac_core.proofs.Lists.{filter_of}
use Rattle.pac_core.proofs.Marks.{out_is}
use Rattle.pac_core.proofs.OneMark.{marked_after, moved, old_mark, q0}
use Rattle.pac_core.proofs.Ready.{SetAt, position_is, txns}
use Rattle.pac_core.proofs.TakenOut.{not_all}

module _ (job : Job) (p : Progress) (keeps : KeepsProgress job p) (at : ℕ) (id : SetId) (opening : OpenSet) (set : SetAt job p keeps at id (Some (Open opening)))
    (i t : ℕ) (e : slice_get (txns job p keeps at id (Some (Open opening)) set) i ≡ Some t) (was : slice_get opening.sched.states i ≡ Some state.Out)
    (order : IsInOrder (with_state opening.sched (q0 job p keeps at id opening set i t e state.Out state.Waiting was) state.Waiting)) where
  abbrev pub r : Replay
  r = replay_so_far job p

  abbrev pub piece : PieceId
  piece = q0 job p keeps at id opening set i t e state.Out state.Waiting was

  abbrev pub now_open : OpenSet
  now_open = moved job p keeps at id opening set i t e state.Out state.Waiting was

  abbrev pub new : Progress
  new = record p { sets = record p.sets { sets = with_kept_at p.sets.sets at (Some (Open now_open)) } }

  outs_are : pieces_marked is_out job (batches_of p) new.sets.sets ≡ filter (λ q. among r.out q && not (is_piece piece q)) (loaded_pieces r)
  outs_are = marked_after job p keeps at id opening set i t e state.Out state.Waiting was is_out (λ q. among r.out q && not (is_piece piece q)) (λ q mem. go (among r.out q) (is_out (mark_in (batches_of p) p.sets.sets q)) (is_piece piece q) (out_is job p keeps q mem))
    where
      go : (x y : Bool) (b : Bool) → x ≡ y → cond b false y ≡ (x && not b)
      go true y true same = refl
      go false y true same = refl
      go true y false same = sym same
      go false y false same = sym same

  finished_are : pieces_marked is_finished job (batches_of p) new.sets.sets ≡ r.finished
  finished_are = marked_after job p keeps at id opening set i t e state.Out state.Waiting was is_finished (λ q. is_finished (mark_in (batches_of p) p.sets.sets q)) (λ q mem. go q (is_piece piece q) refl)
    where
      go : (q : PieceId) (b : Bool) → is_piece piece q ≡ b → cond b false (is_finished (mark_in (batches_of p) p.sets.sets q)) ≡ is_finished (mark_in (batches_of p) p.sets.sets q)
      go q true same = sym (ap (λ x. is_finished (mark_in (batches_of p) p.sets.sets x)) (sym (steps.same_piece piece q same)) ∙ ap is_finished (old_mark job p keeps at id opening set i t e state.Out state.Waiting was))
      go q false same = refl

  -- the replay has the piece out no more
  pub back_now : replay_so_far job new ≡ without_out r piece
  back_now = λ k. record {
    job = job;
    batches = batches_of p;
    is_closed = p.is_closed;
    out = outs_are k;
    finished = finished_are k;
  }

  -- ---- what is kept

  abbrev pub m : Machine
  m = machine_of r

  out_among : (q : PieceId) → Mem q (without_out r piece).out → among r.out q ≡ true
  out_among q mem = and_left (among r.out q) _ (filter_of (λ q. among r.out q && not (is_piece piece q)) (loaded_pieces r) q mem).1

  finished_loaded : (q : PieceId) → Mem q r.finished → Mem q (loaded_pieces r)
  finished_loaded q mem = (filter_of (λ q. is_finished (mark_in (batches_of p) p.sets.sets q)) (loaded_pieces r) q mem).0

  invariant_now : KeepsJob job (machine_of (without_out r piece))
  invariant_now = invariant_is (without_out r piece) m.out m.finished m.now keeps.machine (λ q mem. refl) finished_loaded out_among

  order_now : KeepsPrecedence job (machine_of (without_out r piece))
  order_now = order_is (without_out r piece) m.out m.finished m.now keeps.machine (λ q mem. refl) finished_loaded out_among keeps.order

  pub present_now : m.now ≡ present_of (without_out r piece)
  present_now = present_is (without_out r piece) m.out m.finished m.now keeps.machine (λ q mem. refl) finished_loaded out_among

  opened_still : (s : SetId) (ts : List ℕ) (o : OpenSet) → IsOpened r p.sets.sets s ts o → IsOpened (without_out r piece) new.sets.sets s ts o
  opened_still s ts o is = record {
    pieces = is.pieces;
    pairs = is.pairs;
    order = is.order;
    cells = is.cells;
    passed = passes_still p.sets.sets keeps.ascend at id (Some (Open opening)) (Some (Open now_open)) set.there job.parts.edges s (λ other same none. let wrong : None ≡ Some (Open opening) = sym none in absurd cc) is.passed;
    left = is.left;
    size = is.size;
  }

  opened_now : (ts : List ℕ) → IsOpened r p.sets.sets id ts opening → IsOpened (without_out r piece) new.sets.sets id ts now_open
  opened_now ts is =
      let still = opened_still id ts opening is in
      record {
        pieces = still.pieces;
        pairs = still.pairs;
        order = order;
        cells = still.cells;
        passed = still.passed;
        left = not_all now_open.sched.states i state.Waiting (states_are ∙ get_same opening.sched.states i state.Waiting (slice_get_within opening.sched.states i state.Out was)) refl;
        size = size_is ∙ is.size;
      }
    where
      states_are : slice_get now_open.sched.states i ≡ slice_get (slice_set opening.sched.states i state.Waiting) i
      states_are = ap (λ o. slice_get (set_at o state.Waiting opening.sched.states) i) (position_is job p keeps at id opening set i t e)

      size_is : length now_open.sched.states ≡ length opening.sched.states
      size_is = ap (λ o. length (set_at o state.Waiting opening.sched.states)) (position_is job p keeps at id opening set i t e) ∙ length-set opening.sched.states i state.Waiting

  moved_stage : (batch : Batch) → slice_get (batches_of p) id.batch ≡ Some batch → IsStageOf (without_out r piece) new.sets.sets id (set_of job.parts batch.first batch.txns id.block).txns (Open now_open)
  moved_stage batch batch_there =
      let was = keeps.stages at id (Open opening) batch set.there batch_there in
      (was.0, was.1, opened_now was.0 was.2)

  stages_now : AreStages (without_out r piece) new.sets.sets
  stages_now j s stage batch here batch_there = go (equal_or_not j at)
    where
      go : (j ≡ at) ⊎ (j ≡ at → ⊥) → IsStageOf (without_out r piece) new.sets.sets s (set_of job.parts batch.first batch.txns s.block).txns stage
      go (inl same_offset) =
          let same = same_Some _ _ (sym (get_changed p.sets.sets at (id, Some (Open opening)) (Some (Open now_open)) set.there) ∙ ap (slice_get new.sets.sets) (sym same_offset) ∙ here) in
          let id_is : id ≡ s = ap (λ (x : Kept SetStage). x.0) same in
          let stage_is : Open now_open ≡ stage = same_Some _ _ (ap (λ (x : Kept SetStage). x.1) same) in
          subst (λ (x : SetStage). IsStageOf (without_out r piece) new.sets.sets s (set_of job.parts batch.first batch.txns s.block).txns x) stage_is
          (subst (λ (x : SetId). IsStageOf (without_out r piece) new.sets.sets x (set_of job.parts batch.first batch.txns x.block).txns (Open now_open)) id_is
          (moved_stage batch (ap (λ (x : SetId). slice_get (batches_of p) x.batch) id_is ∙ batch_there)))
      go (inr differ) = still stage (keeps.stages j s stage batch (sym (get_other p.sets.sets at j (Some (Open now_open)) differ) ∙ here) batch_there)
        where
          still : (x : SetStage) → IsStageOf r p.sets.sets s (set_of job.parts batch.first batch.txns s.block).txns x → IsStageOf (without_out r piece) new.sets.sets s (set_of job.parts batch.first batch.txns s.block).txns x
          still (Waiting w) is = is
          still (Open o) is = (is.0, is.1, opened_still s is.0 o is.2)

  unfinished_now : (k : ℕ) → IsUnfinishedBatch new.sets.sets k → IsUnfinishedBatch p.sets.sets k
  unfinished_now k (j, s, stage, here, batch) = go (equal_or_not j at)
    where
      go : (j ≡ at) ⊎ (j ≡ at → ⊥) → IsUnfinishedBatch p.sets.sets k
      go (inl same_offset) =
          let same = same_Some _ _ (sym (get_changed p.sets.sets at (id, Some (Open opening)) (Some (Open now_open)) set.there) ∙ ap (slice_get new.sets.sets) (sym same_offset) ∙ here) in
          (at, id, Open opening, set.there, ap (λ (x : Kept SetStage). x.0.batch) same ∙ batch)
      go (inr differ) = (j, s, stage, sym (get_other p.sets.sets at j (Some (Open now_open)) differ) ∙ here, batch)

  -- all is kept
  pub back_keeps : KeepsProgress job new
  back_keeps = record {
    parts = keeps.parts;
    first = keeps.first;
    edges = keeps.edges;
    blocks = keeps.blocks;
    is_plan = keeps.is_plan;
    fit = keeps.fit;
    machine = subst (λ (x : Replay). KeepsJob job (machine_of x)) (sym back_now) invariant_now;
    order = subst (λ (x : Replay). KeepsPrecedence job (machine_of x)) (sym back_now) order_now;
    note = keeps.note ∙ ap (λ (s : Present). s.note) present_now ∙ ap (λ (x : Replay). (present_of x).note) (sym back_now);
    next = keeps.next;
    unfinished = keeps.unfinished ∙ ap left (sym back_now);
    sets = ids_stay p.sets.sets at (Some (Open now_open)) ∙ keeps.sets;
    ascend = still_up p.sets.sets keeps.ascend at id (Some (Open opening)) (Some (Open now_open)) set.there;
    stages = subst (λ (x : Replay). AreStages x new.sets.sets) (sym back_now) stages_now;
    values = subst (λ (x : Replay). KeepsValues x new.batches.items new.sets.sets) (sym back_now) (λ k loaded at_k left.
        subst (λ (s : Present). KeepsBatch job.parts s loaded) present_now (keeps.values k loaded at_k (unfinished_now k left)));
  }
