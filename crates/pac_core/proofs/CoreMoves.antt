-- What becomes of a core where a piece at a place is handed out, given back or finished.
use Rattle.std.specs.Prelude.{slice_get}
use Rattle.std.proofs.Common.{◌≡◌, ℕ, ◌+◌, ◌-◌, ◌≤◌, true, false, not, List, length, map, Option, Some, refl, sym, ap, subst, ◌∙◌, arith}
use Rattle.pac_base.specs.Members.{Mem}
use Rattle.pac_base.proofs.TestLemmas.{and_both}
use Rattle.pac_value.specs.Expressions.{Values}
use Rattle.pac_value.specs.State.{Tables}
use Rattle.pac_ops.specs.declared.note.Note.{Note}
use Rattle.pac_ops.specs.declared.piece.PieceId.{PieceId}
use Rattle.pac_ops.specs.declared.transaction.Txn.{Txn}
use Rattle.pac_plan.specs.declared.access.Access.TheVariants.{Whole}
use Rattle.pac_plan.specs.declared.parts.PlanParts.{PlanParts}
use Rattle.pac_plan.specs.Pieces.{Present, apply}
use Rattle.pac_plan.specs.Worlds.{batch_of}
use Rattle.pac_tables.specs.declared.writes.Write.{Write}
use Rattle.pac_tables.specs.Written.{written}
use Rattle.pac_sched.specs.declared.state.PieceState.{PieceState}
use Rattle.pac_sched.specs.declared.state.PieceState.TheVariants as state
use Rattle.pac_sched.specs.declared.state.Pick.TheVariants.{Piece}
use Rattle.pac_sched.specs.Schedules.{IsInOrder, Schedule, after_take, handed_out, is_finished, pick, with_state}
use Rattle.pac_sched.proofs.CallLemmas.{picked}
use Rattle.pac_sets.specs.declared.set_id.SetId.{SetId}
use Rattle.pac_sets.specs.Sets.{Kept, Setting, with_kept_at}
use Rattle.pac_undo.specs.Undo.{Undoable}
use Rattle.pac_commute.specs.Loads.{Job}
use Rattle.pac_commute.specs.Machine.{IsReadyAt, Kept as KeptStep, Ran, access_at, among, drops, world_at}
use Rattle.pac_commute.proofs.OrderedSteps.{keeps_order}
use Rattle.pac_commute.proofs.Steps as steps
use Rattle.pac_core.specs.declared.loaded.LoadedBatch.{LoadedBatch}
use Rattle.pac_core.specs.declared.place.Place.{Place}
use Rattle.pac_core.specs.declared.progress.Progress.{Progress}
use Rattle.pac_core.specs.declared.stage.OpenSet.{OpenSet}
use Rattle.pac_core.specs.declared.stage.SetStage.{SetStage}
use Rattle.pac_core.specs.declared.stage.SetStage.TheVariants.{Open}
use Rattle.pac_core.specs.Inputs.{LeavesValues}
use Rattle.pac_core.specs.Links.{IsCore, KeepsProgress, ReadyFrom, batches_of, core_of, job_of, piece_in, replay_so_far, set_of_piece}
use Rattle.pac_core.specs.Moves.{IsFinishedAt, IsFinishedTo, IsMovedTo, IsOrderAfter, after_finish, finished_in}
use Rattle.pac_core.specs.Places.{AreValuesAt, IsPieceAt, IsTxnAt}
use Rattle.pac_core.specs.Replay.{loaded_pieces, machine_of, present_of, with_finished, with_out, without_out}
use Rattle.pac_core.specs.Results.{IsKeptAfter, IsResult}
use Rattle.pac_core.proofs.BackIn as back
use Rattle.pac_core.proofs.FinishedOne as finished
use Rattle.pac_core.proofs.FinishedMark.{IsStepped}
use Rattle.pac_core.proofs.KeptAt.{ids_stay}
use Rattle.pac_core.proofs.Lists.{at_map}
use Rattle.pac_core.proofs.PlacedPieces as placed
use Rattle.pac_core.proofs.SeenSets.{seen_finished, seen_out}
use Rattle.pac_core.proofs.SetFacts.{Stands, batch_at}
use Rattle.pac_core.proofs.TakenOut as taken

-- ---- it is handed out

module _ (p : Progress) (u : Undoable) (core : IsCore p u) (place : Place) (piece : PieceId) (at : IsPieceAt p place piece state.Waiting)
    (ready : IsReadyAt (job_of p u) (machine_of (core_of p u)) piece) (keys : access_at (job_of p u) (machine_of (core_of p u)) piece ≡ Whole → ⊥)
    (first : pick at.stands.opening.sched ≡ Piece piece) (new : Progress) (to : IsMovedTo after_take p place.at new) (order : IsOrderAfter after_take p place.at) where
  abbrev job : Job
  job = job_of p u

  abbrev q : PieceId
  q = piece_in at.stands.set.block piece.txn

  own : q ≡ piece
  own = placed.own job p core.progress place piece state.Waiting at

  sched_is : after_take at.stands.opening.sched ≡ with_state at.stands.opening.sched q state.Out
  sched_is = ap (handed_out at.stands.opening.sched) (picked at.stands.opening.sched piece first) ∙ ap (λ x. with_state at.stands.opening.sched x state.Out) (sym own)

  abbrev out_open : OpenSet
  out_open = record { sched = with_state at.stands.opening.sched q state.Out; cells = at.stands.opening.cells }

  abbrev out_progress : Progress
  out_progress = record p { sets = record p.sets { sets = with_kept_at p.sets.sets place.at (Some (Open out_open)) } }

  new_is : new ≡ out_progress
  new_is =
      to at.stands.set at.stands.opening at.stands.there
      ∙ ap (λ (s : Schedule). record p { sets = record p.sets { sets = with_kept_at p.sets.sets place.at (Some (Open (record { sched = s; cells = at.stands.opening.cells }))) } }) sched_is

  ready_q : IsReadyAt job (machine_of (core_of p u)) q
  ready_q = subst (IsReadyAt job (machine_of (core_of p u))) (sym own) ready

  keys_q : access_at job (machine_of (core_of p u)) q ≡ Whole → ⊥
  keys_q = subst (λ (x : PieceId). access_at job (machine_of (core_of p u)) x ≡ Whole → ⊥) (sym own) keys

  order_q : IsInOrder (with_state at.stands.opening.sched q state.Out)
  order_q = subst IsInOrder sched_is (order at.stands.set at.stands.opening at.stands.there)

  out_is : replay_so_far job out_progress ≡ with_out (core_of p u) q
  out_is = taken.out_now job p core.progress place.at at.stands.set at.stands.opening (placed.set job p core.progress place piece state.Waiting at) place.position piece.txn
      (placed.index_is job p core.progress place piece state.Waiting at) at.stands.far_is ready_q keys_q order_q

  out_core : IsCore out_progress u
  out_core = record {
    progress = taken.taken_keeps job p core.progress place.at at.stands.set at.stands.opening (placed.set job p core.progress place piece state.Waiting at) place.position piece.txn
        (placed.index_is job p core.progress place piece state.Waiting at) at.stands.far_is ready_q keys_q order_q;
    tables = core.tables;
    rows = core.rows ∙ ap (λ (s : Present). s.tables)
        (taken.present_now job p core.progress place.at at.stands.set at.stands.opening (placed.set job p core.progress place piece state.Waiting at) place.position piece.txn
        (placed.index_is job p core.progress place piece state.Waiting at) at.stands.far_is ready_q keys_q order_q
        ∙ ap present_of (sym out_is));
    seen = seen_out job p core.progress q out_progress refl (ids_stay p.sets.sets place.at (Some (Open out_open))) core.seen refl out_is;
  }

  pub taken_core : IsCore new u
  taken_core = subst (λ (x : Progress). IsCore x u) (sym new_is) out_core

  pub taken_is : core_of new u ≡ with_out (core_of p u) piece
  taken_is = ap (λ (x : Progress). core_of x u) new_is ∙ out_is ∙ ap (with_out (core_of p u)) own

-- ---- it is given back

module _ (p : Progress) (u : Undoable) (core : IsCore p u) (place : Place) (piece : PieceId) (at : IsPieceAt p place piece state.Out)
    (new : Progress) (to : IsMovedTo (λ sched. with_state sched piece state.Waiting) p place.at new) (order : IsOrderAfter (λ sched. with_state sched piece state.Waiting) p place.at) (anew : p.recent ≡ 0) where
  abbrev back_job : Job
  back_job = job_of p u

  abbrev back_piece : PieceId
  back_piece = piece_in at.stands.set.block piece.txn

  back_own : back_piece ≡ piece
  back_own = placed.own back_job p core.progress place piece state.Out at

  sched_back : with_state at.stands.opening.sched piece state.Waiting ≡ with_state at.stands.opening.sched back_piece state.Waiting
  sched_back = ap (λ x. with_state at.stands.opening.sched x state.Waiting) (sym back_own)

  abbrev back_progress : Progress
  back_progress = record p { sets = record p.sets { sets = with_kept_at p.sets.sets place.at (Some (Open (record { sched = with_state at.stands.opening.sched back_piece state.Waiting; cells = at.stands.opening.cells }))) } }

  new_back : new ≡ back_progress
  new_back =
      to at.stands.set at.stands.opening at.stands.there
      ∙ ap (λ (s : Schedule). record p { sets = record p.sets { sets = with_kept_at p.sets.sets place.at (Some (Open (record { sched = s; cells = at.stands.opening.cells }))) } }) sched_back

  order_back : IsInOrder (with_state at.stands.opening.sched back_piece state.Waiting)
  order_back = subst IsInOrder sched_back (order at.stands.set at.stands.opening at.stands.there)

  back_replay : replay_so_far back_job back_progress ≡ without_out (core_of p u) back_piece
  back_replay = back.back_now back_job p core.progress place.at at.stands.set at.stands.opening (placed.set back_job p core.progress place piece state.Out at) place.position piece.txn
      (placed.index_is back_job p core.progress place piece state.Out at) at.stands.far_is order_back

  core_back : IsCore back_progress u
  core_back = record {
    progress = back.back_keeps back_job p core.progress place.at at.stands.set at.stands.opening (placed.set back_job p core.progress place piece state.Out at) place.position piece.txn
        (placed.index_is back_job p core.progress place piece state.Out at) at.stands.far_is order_back;
    tables = core.tables;
    rows = core.rows ∙ ap (λ (s : Present). s.tables)
        (back.present_now back_job p core.progress place.at at.stands.set at.stands.opening (placed.set back_job p core.progress place piece state.Out at) place.position piece.txn
        (placed.index_is back_job p core.progress place piece state.Out at) at.stands.far_is order_back
        ∙ ap present_of (sym back_replay));
    seen = λ q j kept ready there. subst (λ n. n ≤ j) (sym anew) (omega arith);
  }

  pub back_core : IsCore new u
  back_core = subst (λ (x : Progress). IsCore x u) (sym new_back) core_back

  pub back_is : core_of new u ≡ without_out (core_of p u) piece
  back_is = ap (λ (x : Progress). core_of x u) new_back ∙ back_replay ∙ ap (without_out (core_of p u)) back_own

-- ---- it is finished

-- a piece that is out is finished by a step of the machine
pub kept_step : (p : Progress) (u : Undoable) (core : IsCore p u) (piece : PieceId) → among (core_of p u).out piece ≡ true → IsStepped (core_of p u) piece
kept_step p u core piece out = record {
  out = drops (among (core_of p u).out) piece;
  invariant = steps.keeps (job_of p u) core.progress.is_plan (KeptStep (machine_of (core_of p u)) piece out) core.progress.machine;
  order = keeps_order (job_of p u) core.progress.is_plan (KeptStep (machine_of (core_of p u)) piece out) core.progress.machine core.progress.order;
  others = λ q h differ. and_both (among (core_of p u).out q) _ h (ap not differ);
}

-- and so is a ready one
pub ran_step : (p : Progress) (u : Undoable) (core : IsCore p u) (piece : PieceId) → IsReadyAt (job_of p u) (machine_of (core_of p u)) piece → IsStepped (core_of p u) piece
ran_step p u core piece ready = record {
  out = among (core_of p u).out;
  invariant = steps.keeps (job_of p u) core.progress.is_plan (Ran (machine_of (core_of p u)) piece (steps.may_be_taken (job_of p u) core.progress.is_plan (machine_of (core_of p u)) piece ready)) core.progress.machine;
  order = keeps_order (job_of p u) core.progress.is_plan (Ran (machine_of (core_of p u)) piece ready) core.progress.machine core.progress.order;
  others = λ q h differ. h;
}

-- where the replay has a piece finished, with its result written, all is kept
module _ (p : Progress) (u : Undoable) (core : IsCore p u) (piece : PieceId) (loaded : Mem piece (loaded_pieces (core_of p u))) (at : ℕ) (id : SetId) (stage : Option SetStage)
    (there : slice_get p.sets.sets at ≡ Some (set_of_piece (batches_of p) piece, stage))
    (writes : List Write) (outs : Values) (note : Option Note) (result : IsResult (core_of p u) piece writes outs note)
    (next : Option SetStage) (i : ℕ) (kept_now : Values) (new : Progress) (to : IsFinishedTo p at id next i kept_now note new)
    (replay : replay_so_far (job_of p u) new ≡ with_finished (core_of p u) piece) (keeps : KeepsProgress (job_of p u) new)
    (present : apply (world_at (job_of p u) (machine_of (core_of p u))) piece (present_of (core_of p u)) ≡ present_of (with_finished (core_of p u) piece))
    (after : Undoable) (undo : after ≡ record u { current = written u.current writes }) where
  -- the job is the same
  job_same : job_of new after ≡ job_of p u
  job_same = λ k. record { parts = to.pieces k; first = to.first k; tables = ap (λ (x : Undoable). x.opening) undo k }

  pub ended_is : core_of new after ≡ with_finished (core_of p u) piece
  ended_is = ap (λ (j : Job). replay_so_far j new) job_same ∙ replay

  pub ended_core : IsCore new after
  ended_core = record {
    progress = subst (λ (j : Job). KeepsProgress j new) (sym job_same) keeps;
    tables = ap (λ (x : Undoable). x.tables) undo ∙ core.tables ∙ ap (λ (parts : PlanParts). length parts.tables) (sym to.pieces);
    rows =
        ap (λ (x : Undoable). x.current) undo
        ∙ ap (λ (t : Tables). written t writes) core.rows
        ∙ sym result.tables
        ∙ ap (λ (s : Present). s.tables) (present ∙ ap present_of (sym replay) ∙ ap (λ (j : Job). present_of (replay_so_far j new)) (sym job_same));
    seen = subst (λ (j : Job). ReadyFrom j new new.recent) (sym job_same)
        (seen_finished (job_of p u) p core.progress piece new to.batches (ap (λ (s : Setting SetStage). map (λ (set : Kept SetStage). set.0) s.sets) to.sets ∙ ids_stay p.sets.sets at next) core.seen loaded at stage there to.recent replay);
  }

module _ (p : Progress) (u : Undoable) (core : IsCore p u) (place : Place) (piece : PieceId) (far : PieceState) (at : IsPieceAt p place piece far) (unfinished : is_finished far ≡ false)
    (stepped : IsStepped (core_of p u) piece) (txn : Txn) (txn_is : IsTxnAt p place txn) (kept : Values) (kept_is : AreValuesAt p place kept)
    (writes : List Write) (outs : Values) (note : Option Note) (result : IsResult (core_of p u) piece writes outs note) (kept_now : Values) (leaves : IsKeptAfter p place piece outs kept_now)
    (new : Progress) (to : IsFinishedAt p place piece kept_now note new) (order : IsOrderAfter (λ sched. with_state sched piece state.Finished) p place.at) where
  abbrev end_job : Job
  end_job = job_of p u

  abbrev end_piece : PieceId
  end_piece = piece_in at.stands.set.block piece.txn

  end_own : end_piece ≡ piece
  end_own = placed.own end_job p core.progress place piece far at

  order_end : IsInOrder (with_state at.stands.opening.sched end_piece state.Finished)
  order_end = subst (λ (x : PieceId). IsInOrder (with_state at.stands.opening.sched x state.Finished)) (sym end_own) (order at.stands.set at.stands.opening at.stands.there)

  to_end : IsFinishedTo p place.at at.stands.set (after_finish (finished_in at.stands.opening end_piece)) place.index kept_now note new
  to_end = subst (λ (x : PieceId). IsFinishedTo p place.at at.stands.set (after_finish (finished_in at.stands.opening x)) place.index kept_now note new) (sym end_own)
      (to at.stands.set at.stands.opening at.stands.there (placed.batch_is end_job p core.progress place piece far at))

  stepped_end : IsStepped (core_of p u) end_piece
  stepped_end = subst (IsStepped (core_of p u)) (sym end_own) stepped

  result_end : IsResult (core_of p u) end_piece writes outs note
  result_end = subst (λ (x : PieceId). IsResult (core_of p u) x writes outs note) (sym end_own) result

  leaves_end : LeavesValues end_job.parts at.stands.set.block txn outs kept kept_now
  leaves_end = subst (λ (b : ℕ). LeavesValues p.pieces b txn outs kept kept_now) (sym (placed.block_is end_job p core.progress place piece far at)) (leaves txn kept txn_is kept_is)

  end_replay : replay_so_far end_job new ≡ with_finished (core_of p u) end_piece
  end_replay = finished.finishes end_job p core.progress place.at at.stands.set at.stands.opening (placed.set end_job p core.progress place piece far at) place.position piece.txn
      (placed.index_is end_job p core.progress place piece far at) far at.stands.far_is unfinished order_end stepped_end place.index txn (placed.number_is end_job p core.progress place piece far at)
      (placed.in_set_batch end_job p core.progress place piece far at txn txn_is) writes outs note result_end kept kept_now at.txn.loaded (placed.loaded_there end_job p core.progress place piece far at)
      (placed.before_is end_job p core.progress place piece far at txn txn_is kept kept_is) leaves_end new to_end

  end_keeps : KeepsProgress end_job new
  end_keeps = finished.finish_keeps end_job p core.progress place.at at.stands.set at.stands.opening (placed.set end_job p core.progress place piece far at) place.position piece.txn
      (placed.index_is end_job p core.progress place piece far at) far at.stands.far_is unfinished order_end stepped_end place.index txn (placed.number_is end_job p core.progress place piece far at)
      (placed.in_set_batch end_job p core.progress place piece far at txn txn_is) writes outs note result_end kept kept_now at.txn.loaded (placed.loaded_there end_job p core.progress place piece far at)
      (placed.before_is end_job p core.progress place piece far at txn txn_is kept kept_is) leaves_end new to_end

  end_present : apply (world_at end_job (machine_of (core_of p u))) end_piece (present_of (core_of p u)) ≡ present_of (with_finished (core_of p u) end_piece)
  end_present = finished.present_now end_job p core.progress place.at at.stands.set at.stands.opening (placed.set end_job p core.progress place piece far at) place.position piece.txn
      (placed.index_is end_job p core.progress place piece far at) far at.stands.far_is unfinished order_end stepped_end place.index txn (placed.number_is end_job p core.progress place piece far at)
      (placed.in_set_batch end_job p core.progress place piece far at txn txn_is) writes outs note result_end kept kept_now at.txn.loaded (placed.loaded_there end_job p core.progress place piece far at)
      (placed.before_is end_job p core.progress place piece far at txn txn_is kept kept_is) leaves_end new to_end

  -- the set is that of the piece
  end_set : at.stands.set ≡ set_of_piece (batches_of p) end_piece
  end_set =
      let stands : Stands (batches_of p) piece.txn place.batch place.index = record {
        batch = at.txn.loaded.batch;
        there = at_map (λ (l : LoadedBatch). l.batch) p.batches.items place.batch at.txn.loaded at.txn.there;
        inside = at.txn.inside;
        number = at.txn.number;
      } in
      let batch : at.stands.set.batch ≡ place.batch = placed.batch_is end_job p core.progress place piece far at in
      let number : batch_of (batches_of p) piece.txn ≡ place.batch + 1 = batch_at end_job.parts end_job.first (batches_of p) core.progress.machine.run_on piece.txn place.batch place.index stands in
      let same : at.stands.set.batch ≡ batch_of (batches_of p) piece.txn - 1 = omega (arith, batch, number) in
      λ k. record { batch = same k; block = at.stands.set.block }

  -- the set stands there
  end_there : slice_get p.sets.sets place.at ≡ Some (set_of_piece (batches_of p) end_piece, Some (Open at.stands.opening))
  end_there = at.stands.there ∙ ap (λ (s : SetId). Some (s, Some (Open at.stands.opening))) end_set

  end_loaded : Mem end_piece (loaded_pieces (core_of p u))
  end_loaded = subst (λ (x : PieceId). Mem x (loaded_pieces (core_of p u))) (sym end_own) (placed.loaded_is end_job p core.progress place piece far at)

  module _ (after : Undoable) (undo : after ≡ record u { current = written u.current writes }) where
    pub end_is : core_of new after ≡ with_finished (core_of p u) piece
    end_is = ended_is p u core end_piece end_loaded place.at at.stands.set (Some (Open at.stands.opening)) end_there writes outs note result_end (after_finish (finished_in at.stands.opening end_piece)) place.index kept_now new to_end
        end_replay end_keeps end_present after undo ∙ ap (with_finished (core_of p u)) end_own

    pub end_core : IsCore new after
    end_core = ended_core p u core end_piece end_loaded place.at at.stands.set (Some (Open at.stands.opening)) end_there writes outs note result_end (after_finish (finished_in at.stands.opening end_piece)) place.index kept_now new to_end
        end_replay end_keeps end_present after undo
