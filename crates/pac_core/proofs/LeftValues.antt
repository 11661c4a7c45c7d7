-- What a piece leaves is kept of its transaction: what is known of the replay before it is finished, and then; and where there is no room, all is as it was.
use Rattle.std.proofs.Common.{◌≡◌, ℕ, zero, suc, ◌+◌, ◌<◌, ◌≤◌, ◌==◌, Bool, true, false, cond, List, [], ◌∷◌, length, Result, Ok, Err, Option, Some, refl, sym, ap, subst, ◌∙◌}
use Rattle.std.specs.Prelude.{OnErr, OnOk, slice_get, slice_set, T}
use Rattle.std.specs.FinMap.{is_sorted}
use Rattle.std.proofs.lemmas.Option.{same_Some}
use Rattle.pac_value.specs.Expressions.{Values}
use Rattle.pac_ops.specs.declared.batch.Batch.{Batch}
use Rattle.pac_ops.specs.declared.note.Note.{Note}
use Rattle.pac_ops.specs.declared.piece.PieceId.{PieceId}
use Rattle.pac_ops.specs.declared.transaction.Txn.{Txn}
use Rattle.pac_ops.specs.Notes.{least}
use Rattle.pac_sched.specs.declared.state.PieceState.{PieceState}
use Rattle.pac_sched.specs.Schedules.{Schedule, is_finished, is_out}
use Rattle.pac_sets.specs.declared.set_id.SetId.{SetId}
use Rattle.pac_sets.specs.SetOrder.{set_cmp}
use Rattle.pac_sets.specs.Sets.{IsOpenSet, with_kept_at}
use Rattle.pac_undo.specs.Undo.{Undoable}
use Rattle.pac_commute.specs.Loads.{Job, next_in_job}
use Rattle.pac_commute.specs.Machine.{KeepsJob, KeepsPrecedence}
use Rattle.pac_core.specs.declared.loaded.LoadedBatch.{LoadedBatch}
use Rattle.pac_core.specs.declared.place.Place.{Place}
use Rattle.pac_core.specs.declared.progress.Progress.{Progress}
use Rattle.pac_core.specs.declared.stage.SetStage.{SetStage}
use Rattle.pac_core.specs.declared.stage.SetStage.TheVariants.{Open}
use Rattle.pac_core.specs.Inputs.{PassesOn}
use Rattle.pac_core.specs.Links.{AreStages, IsCore, KeepsBatch, KeepsInputs, KeepsProgress, KeepsValues, ReadyFrom, core_of, job_of, pieces_marked, replay_so_far, set_ids}
use Rattle.pac_core.specs.Moves.{AreInBlocks, AreValuesKept, IsFinishedAt, IsFinishedTo, IsFirstFinished, IsMovedTo, IsOrderAfter, MayFinish, MayFinishFirst, StandsOpen, after_finish, after_first, finished_in, keeps_now, keeps_now_at}
use Rattle.pac_core.specs.Places.{AreValuesAt, IsPieceAt, IsTxnAt}
use Rattle.pac_core.specs.Replay.{Replay, left, machine_of, present_of}
use Rattle.pac_core.specs.Results.{HasGiven, HasKept, HasLeft}
use Rattle.pac_core.specs.Values.{GivesTo}
use Rattle.pac_core.proofs.CoreLoads.{goes_on}
use Rattle.pac_core.proofs.Finding.{leaves_of}
use Rattle.pac_core.proofs.Lists.{set_same}
use Rattle.pac_core.proofs.MayFinishes.{set_twice}
use Rattle.pac_core.proofs.NextReady.{from_same}
use Rattle.pac_core.proofs.TakeNext.{kept_after_is}
use Rattle.pac_core.proofs.ValuesKept.{values_kept}

pub on_ok_by : {A E : Type 0} {P Q : Type 0} (r : Result A E) → (P → Q) → OnOk r P → OnOk r Q
on_ok_by (Ok a) f p = f p
on_ok_by (Err e) f p = tt

pub on_err_by : {A E : Type 0} {P Q : Type 0} (r : Result A E) → (P → Q) → OnErr r P → OnErr r Q
on_err_by (Ok a) f p = tt
on_err_by (Err e) f p = f p

set_len : {A : Type 0} (xs : List A) (i : ℕ) (x : A) → length (slice_set xs i x) ≡ length xs
set_len [] i x = refl
set_len (y ∷ ys) zero x = refl
set_len (y ∷ ys) (suc i) x = ap suc (set_len ys i x)

-- one transaction of a batch keeps other values
pub has_given : (old : List LoadedBatch) (b i : ℕ) (vars : List ℕ) (given : Values) (loaded new : LoadedBatch) (kept now : Values) → slice_get old b ≡ Some loaded → slice_get loaded.kept.items i ≡ Some kept
    → new.batch ≡ loaded.batch → new.kept.items ≡ slice_set loaded.kept.items i now → GivesTo vars given kept now → HasGiven old b i vars given (slice_set old b new)
has_given old b i vars given loaded new kept now there kept_there batch is gives = record {
  loaded = loaded;
  there = there;
  kept = kept;
  kept_there = kept_there;
  now = now;
  gives = gives;
  values = values_kept old b loaded new there batch (keeps_now_at i now) is;
  after = new;
  after_there = set_same old b loaded new there;
  now_there = ap (λ l. slice_get l i) is ∙ set_same loaded.kept.items i kept now kept_there;
}

-- what a piece gave of its outputs is what it left
pub has_left : (p : Progress) (place : Place) (piece : PieceId) (outs : Values) (txn : Txn) → IsTxnAt p place txn → (vars : List ℕ) → PassesOn p.pieces piece.block txn vars → (q : Progress) → (q ≡ record p { batches = q.batches })
    → HasGiven p.batches.items place.batch place.index vars outs q.batches.items → HasLeft p place piece outs q
has_left p place piece outs txn txn_is vars are q rest given = record {
  now = given.now;
  leaves = kept_after_is p place piece outs txn txn_is given.kept (given.loaded, given.there, given.kept_there) given.now
      (leaves_of p.pieces piece.block txn vars given.kept given.now outs are given.gives);
  values = given.values;
  stands = (given.after, given.after_there, given.now_there);
  rest = rest;
}

-- ---- before the piece is finished

module _ (p q : Progress) (place : Place) (piece : PieceId) (now : Values) (values : AreValuesKept p.batches.items place.batch (keeps_now_at place.index now) q.batches.items)
    (stands : AreValuesAt q place now) (rest : q ≡ record p { batches = q.batches }) where
  -- the batch is the same, and as many values are kept of it
  same_batch : (loaded : LoadedBatch) → slice_get p.batches.items place.batch ≡ Some loaded → (stands.0.batch ≡ loaded.batch) × (length stands.0.kept.items ≡ length loaded.kept.items)
  same_batch loaded there =
      let before = values.each place.batch stands.0 stands.1 in
      let same : before.0 ≡ loaded = same_Some _ _ (sym before.1 ∙ there) in (
        before.2 ∙ ap (λ (l : LoadedBatch). l.batch) same,
        ap length before.3 ∙ go (place.batch == place.batch) before.0 ∙ ap (λ (l : LoadedBatch). length l.kept.items) same,
      )
    where
      go : (c : Bool) (l : LoadedBatch) → length (cond c (keeps_now_at place.index now l.kept.items) l.kept.items) ≡ length l.kept.items
      go true l = set_len l.kept.items place.index now
      go false l = refl

  pub may_over : MayFinish p place piece → MayFinish q place piece
  may_over may =
      let at = may.placed in
      let same = same_batch at.txn.loaded at.txn.there in
      record {
        placed = record {
          txn = record {
            loaded = stands.0;
            there = stands.1;
            inside = subst (λ (b : Batch). place.index < length b.txns) (sym same.0) at.txn.inside;
            number = subst (λ (b : Batch). piece.txn ≡ b.first + place.index) (sym same.0) at.txn.number;
          };
          stands = record {
            set = at.stands.set;
            opening = at.stands.opening;
            there = ap (λ (x : Progress). slice_get x.sets.sets place.at) rest ∙ at.stands.there;
            position_is = at.stands.position_is;
            far_is = at.stands.far_is;
          };
          set_is = at.set_is;
        };
        room = subst (λ n. place.index < n) (sym same.1) may.room;
        counted = subst (λ (x : Progress). 0 < x.unfinished) (sym rest) may.counted;
        opened = subst (λ (x : Progress). IsOpenSet x.sets.edges x.sets.sets place.at) (sym rest) may.opened;
        ascend = subst (λ (x : Progress). T (is_sorted set_cmp x.sets.sets)) (sym rest) may.ascend;
        blocks = subst AreInBlocks (sym rest) may.blocks;
      }

  -- what is finished then is finished with these values
  to_over : (set : SetId) (after : Option SetStage) → set.batch ≡ place.batch → (note : Option Note) (new : Progress) → IsFinishedTo q place.at set after place.index now note new
      → IsFinishedTo p place.at set after place.index now note new
  to_over set after own note new is =
      record {
        pieces = is.pieces ∙ ap (λ (x : Progress). x.pieces) rest;
        sets = is.sets ∙ ap (λ (x : Progress). record x.sets { sets = with_kept_at x.sets.sets place.at after }) rest;
        note_is = is.note_is ∙ ap (λ (x : Progress). least x.note note) rest;
        first = is.first ∙ ap (λ (x : Progress). x.first) rest;
        next = is.next ∙ ap (λ (x : Progress). x.next) rest;
        unfinished = is.unfinished ∙ ap (λ (x : Progress). x.unfinished) rest;
        closed = is.closed ∙ ap (λ (x : Progress). x.is_closed) rest;
        recent = (subst (λ (x : Progress). new.recent ≤ x.recent) rest is.recent.0, is.recent.1);
        batches = is.batches ∙ values.batches;
        values = λ k loaded at some.
            let middle = is.values k loaded at some in
            let before = values.each k middle.0 middle.1 in (
              before.0,
              before.1,
              middle.2 ∙ before.2,
              middle.3
                  ∙ ap (λ l. cond (k == set.batch) (keeps_now l place.index now) l) (before.3 ∙ ap (λ n. cond (k == n) (keeps_now before.0.kept.items place.index now) before.0.kept.items) (sym own))
                  ∙ twice (k == set.batch) before.0.kept.items,
            );
      }
    where
      twice : (c : Bool) (l : List Values) → cond c (keeps_now (cond c (keeps_now l place.index now) l) place.index now) (cond c (keeps_now l place.index now) l) ≡ cond c (keeps_now l place.index now) l
      twice true l = set_twice l place.index now now
      twice false l = refl

  -- a piece of an open set
  pub finished_over : (note : Option Note) (new : Progress) → IsFinishedAt q place piece now note new → IsFinishedAt p place piece now note new
  finished_over note new to set opening there own =
      to_over set (after_finish (finished_in opening piece)) own note new (to set opening (ap (λ (x : Progress). slice_get x.sets.sets place.at) rest ∙ there) own)

  -- and the first of one that waits
  pub first_over : (note : Option Note) (new : Progress) → IsFirstFinished q place now note new → IsFirstFinished p place now note new
  first_over note new to set first others there own =
      to_over set (after_first others) own note new (to set first others (ap (λ (x : Progress). slice_get x.sets.sets place.at) rest ∙ there) own)

  pub first_may_over : MayFinishFirst p place → MayFinishFirst q place
  first_may_over may = record {
    stands = record {
      set = may.stands.set;
      first = may.stands.first;
      rest = may.stands.rest;
      there = ap (λ (x : Progress). slice_get x.sets.sets place.at) rest ∙ may.stands.there;
    };
    loaded = stands.0;
    loaded_there = stands.1;
    counted = subst (λ (x : Progress). 0 < x.unfinished) (sym rest) may.counted;
    opened = subst (λ (x : Progress). IsOpenSet x.sets.edges x.sets.sets place.at) (sym rest) may.opened;
    ascend = subst (λ (x : Progress). T (is_sorted set_cmp x.sets.sets)) (sym rest) may.ascend;
    blocks = subst AreInBlocks (sym rest) may.blocks;
  }

  pub order_over : (change : Schedule → Schedule) → IsOrderAfter change q place.at → IsOrderAfter change p place.at
  order_over change order = subst (λ (x : Progress). IsOrderAfter change x place.at) rest order

-- ---- a piece that is handed out then is handed out before

module _ (p q : Progress) (place : Place) (piece : PieceId) (far : PieceState) (at : IsPieceAt p place piece far) (outs : Values) (has : HasLeft p place piece outs q) where
  there_over : slice_get q.sets.sets place.at ≡ Some (at.stands.set, Some (Open at.stands.opening))
  there_over = ap (λ (x : Progress). slice_get x.sets.sets place.at) has.rest ∙ at.stands.there

  pub open_over : StandsOpen q place.at
  open_over = record { set = at.stands.set; opening = at.stands.opening; there = there_over }

  module _ (change : Schedule → Schedule) (new : Progress) (moved : IsMovedTo change q place.at new) where
    -- with the values from before
    abbrev pub moved_before : Progress
    moved_before = record new { batches = p.batches }

    pub before_moved : IsMovedTo change p place.at moved_before
    before_moved set opening there =
        ap (λ (x : Progress). record x { batches = p.batches }) (moved set opening (ap (λ (x : Progress). slice_get x.sets.sets place.at) has.rest ∙ there))
        ∙ ap (λ (x : Progress). record x {
          batches = p.batches;
          sets = record x.sets { sets = with_kept_at x.sets.sets place.at (Some (Open (record { sched = change opening.sched; cells = opening.cells }))) };
        }) has.rest

    batches_moved : new.batches ≡ q.batches
    batches_moved = ap (λ (x : Progress). x.batches) (moved at.stands.set at.stands.opening there_over)

    pub values_moved : AreValuesKept moved_before.batches.items place.batch (keeps_now_at place.index has.now) new.batches.items
    values_moved = subst (λ b. AreValuesKept p.batches.items place.batch (keeps_now_at place.index has.now) b.items) (sym batches_moved) has.values

    pub stands_moved : AreValuesAt new place has.now
    stands_moved = subst (λ (x : Progress). AreValuesAt x place has.now) (sym (moved at.stands.set at.stands.opening there_over)) has.stands

-- ---- there is no room

module _ (job : Job) (p q : Progress) (place : Place) (has : HasKept p place q) (keeps : KeepsProgress job p) where
  abbrev before : Progress
  before = record p { batches = q.batches }

  kept_same : replay_so_far job before ≡ replay_so_far job p
  kept_same = ap (λ (bs : List Batch). record {
    job = job;
    batches = bs;
    is_closed = p.is_closed;
    out = pieces_marked is_out job bs p.sets.sets;
    finished = pieces_marked is_finished job bs p.sets.sets;
  }) has.values.batches

  each_kept : KeepsValues (replay_so_far job p) q.batches.items p.sets.sets
  each_kept k loaded there some =
      let old = has.values.each k loaded there in
      let keep : KeepsBatch job.parts (present_of (replay_so_far job p)) old.0 = keeps.values k old.0 old.1 some in
      let same : loaded.kept.items ≡ old.0.kept.items = old.3 ∙ one (k == place.batch) old.0.kept.items in
      record {
        all = ap length same ∙ keep.all ∙ ap (λ (b : Batch). length b.txns) (sym old.2);
        each = λ i txn kept at_txn at_kept.
            subst (λ (b : Batch). KeepsInputs job.parts txn kept ((present_of (replay_so_far job p)).envs (b.first + i))) (sym old.2)
            (keep.each i txn kept (ap (λ (b : Batch). slice_get b.txns i) (sym old.2) ∙ at_txn) (ap (λ l. slice_get l i) (sym same) ∙ at_kept));
      }
    where
      one : (c : Bool) (l : List Values) → cond c l l ≡ l
      one true l = refl
      one false l = refl

  kept_keeps : KeepsProgress job before
  kept_keeps = record {
    parts = keeps.parts;
    first = keeps.first;
    edges = keeps.edges;
    blocks = keeps.blocks;
    is_plan = keeps.is_plan;
    fit = keeps.fit;
    machine = subst (λ (x : Replay). KeepsJob job (machine_of x)) (sym kept_same) keeps.machine;
    order = subst (λ (x : Replay). KeepsPrecedence job (machine_of x)) (sym kept_same) keeps.order;
    note = keeps.note ∙ ap (λ (x : Replay). (present_of x).note) (sym kept_same);
    next = keeps.next ∙ ap (next_in_job job) (sym has.values.batches);
    unfinished = keeps.unfinished ∙ ap left (sym kept_same);
    sets = keeps.sets ∙ ap (set_ids job.parts 0) (sym has.values.batches);
    ascend = keeps.ascend;
    stages = subst (λ (x : Replay). AreStages x p.sets.sets) (sym kept_same) keeps.stages;
    values = subst (λ (x : Replay). KeepsValues x q.batches.items p.sets.sets) (sym kept_same) each_kept;
  }

  pub no_room_same : replay_so_far job q ≡ replay_so_far job p
  no_room_same = ap (replay_so_far job) has.rest ∙ kept_same

  pub no_room_keeps : KeepsProgress job q
  no_room_keeps = subst (KeepsProgress job) (sym has.rest) kept_keeps

  pub no_room_seen : ReadyFrom job p p.recent → ReadyFrom job q q.recent
  no_room_seen seen = subst (ReadyFrom job q) (sym (ap (λ (x : Progress). x.recent) has.rest)) (from_same job p q keeps no_room_keeps no_room_same p.recent seen)

module _ (p q : Progress) (u after : Undoable) (core : IsCore p u) (place : Place) (has : HasKept p place q) (same : after ≡ u) where
  here : IsCore q u × (core_of q u ≡ core_of p u)
  here = goes_on p q u core (no_room_keeps (job_of p u) p q place has core.progress) (no_room_same (job_of p u) p q place has core.progress)
      (no_room_seen (job_of p u) p q place has core.progress core.seen)

  pub no_room_core : IsCore q after
  no_room_core = subst (IsCore q) (sym same) here.0

  pub no_room_is : core_of q after ≡ core_of p u
  no_room_is = ap (core_of q) same ∙ here.1
