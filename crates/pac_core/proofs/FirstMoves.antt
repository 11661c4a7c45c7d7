-- What becomes of a core where the first piece that is left of a set that waits is run over the tables, and finished.
use Rattle.std.proofs.Common.{◌≡◌, ℕ, ◌+◌, ◌-◌, List, ◌∷◌, Option, Some, refl, sym, ap, subst, ◌∙◌, arith}
use Rattle.std.specs.Prelude.{slice_get}
use Rattle.std.proofs.lemmas.Option.{same_Some}
use Rattle.pac_value.specs.Expressions.{Values}
use Rattle.pac_ops.specs.declared.note.Note.{Note}
use Rattle.pac_ops.specs.declared.piece.PieceId.{PieceId}
use Rattle.pac_ops.specs.declared.transaction.Txn.{Txn}
use Rattle.pac_plan.specs.Pieces.{apply}
use Rattle.pac_plan.specs.Worlds.{batch_of}
use Rattle.pac_tables.specs.declared.writes.Write.{Write}
use Rattle.pac_tables.specs.Written.{written}
use Rattle.pac_sets.specs.declared.set_id.SetId.{SetId}
use Rattle.pac_sets.specs.Sets.{Kept, WaitsForNothing}
use Rattle.pac_undo.specs.Undo.{Undoable}
use Rattle.pac_commute.specs.Loads.{Job}
use Rattle.pac_commute.specs.Machine.{IsReadyAt, world_at}
use Rattle.pac_core.specs.declared.place.Place.{Place}
use Rattle.pac_core.specs.declared.progress.Progress.{Progress}
use Rattle.pac_core.specs.declared.stage.SetStage.{SetStage}
use Rattle.pac_core.specs.declared.stage.SetStage.TheVariants.{Waiting}
use Rattle.pac_core.specs.Links.{IsCore, KeepsProgress, ReadyFrom, batches_of, core_of, job_of, replay_so_far, set_of_piece}
use Rattle.pac_core.specs.Moves.{IsFinishedTo, IsFirstFinished, IsFirstLeft, MayFinishFirst, after_first}
use Rattle.pac_core.specs.Places.{AreValuesAt, IsTxnAt}
use Rattle.pac_core.specs.Replay.{machine_of, present_of, with_finished}
use Rattle.pac_core.specs.Results.{IsKeptAfter, IsResult}
use Rattle.pac_core.specs.Takes.{IsNextPiece}
use Rattle.pac_core.proofs.CoreMoves.{ended_core, ended_is, ran_step}
use Rattle.pac_core.proofs.FinishedFirst as first
use Rattle.pac_core.proofs.HandIns.{txn_there, values_there}
use Rattle.pac_core.proofs.MayFinishes.{counted_left, in_blocks}
use Rattle.pac_core.proofs.NextFirst.{next_first, ready_first}
use Rattle.pac_core.proofs.OpenedSets.{passed}
use Rattle.pac_core.proofs.PlacedTxns as txns
use Rattle.pac_core.proofs.PlacedTxns.{first_placed}
use Rattle.pac_core.proofs.SetFacts.{batch_at}

-- ---- it is ready

module _ (job : Job) (p : Progress) (keeps : KeepsProgress job p) (place : Place) (piece : PieceId) (at : IsFirstLeft p place piece) where
  abbrev id : SetId
  id = record { batch = place.batch; block = piece.block }

  -- its set waits for nothing
  set_passed : WaitsForNothing job.parts.edges p.sets.sets id
  set_passed = subst (WaitsForNothing job.parts.edges p.sets.sets) (ap (λ (x : Kept SetStage). x.0) (same_Some _ _ (sym at.opened.there ∙ at.there))) (passed job p keeps place.at at.opened)

  pub left_ready : IsReadyAt job (machine_of (replay_so_far job p)) piece
  left_ready = ready_first job p keeps place.at id piece.txn at.rest at.there set_passed

  pub left_next : ReadyFrom job p place.at → IsNextPiece (replay_so_far job p) (Some piece)
  left_next from = next_first job p keeps place.at id piece.txn at.rest at.there set_passed from

  pub may_first : MayFinishFirst p place
  may_first = record {
    stands = record { set = id; first = piece.txn; rest = at.rest; there = at.there };
    loaded = at.txn.loaded;
    loaded_there = at.txn.there;
    counted = counted_left job p keeps piece left_ready.0 left_ready.2;
    opened = at.opened;
    ascend = keeps.ascend;
    blocks = in_blocks job p keeps;
  }

-- ---- it is finished

module _ (p : Progress) (u : Undoable) (core : IsCore p u) (place : Place) (piece : PieceId) (at : IsFirstLeft p place piece)
    (writes : List Write) (outs : Values) (note : Option Note) (result : IsResult (core_of p u) piece writes outs note) (kept_now : Values) (leaves : IsKeptAfter p place piece outs kept_now)
    (new : Progress) (to : IsFirstFinished p place kept_now note new) (after : Undoable) (undo : after ≡ record u { current = written u.current writes }) where
  abbrev job : Job
  job = job_of p u

  abbrev own : SetId
  own = record { batch = place.batch; block = piece.block }

  abbrev txn : Txn
  txn = (txn_there p u core place piece (first_placed at)).0

  abbrev txn_is : IsTxnAt p place txn
  txn_is = (txn_there p u core place piece (first_placed at)).1

  abbrev kept : Values
  kept = (values_there p u core place piece (first_placed at)).0

  abbrev kept_is : AreValuesAt p place kept
  kept_is = (values_there p u core place piece (first_placed at)).1

  ready : IsReadyAt job (machine_of (core_of p u)) piece
  ready = left_ready job p core.progress place piece at

  to_first : IsFinishedTo p place.at own (after_first at.rest) place.index kept_now note new
  to_first = to own piece.txn at.rest at.there refl

  own_set : own ≡ set_of_piece (batches_of p) piece
  own_set =
      let number : batch_of (batches_of p) piece.txn ≡ place.batch + 1 = batch_at job.parts job.first (batches_of p) core.progress.machine.run_on piece.txn place.batch place.index
      (txns.stands_at job p core.progress place piece (first_placed at)) in
      let same : place.batch ≡ batch_of (batches_of p) piece.txn - 1 = omega (arith, number) in
      λ k. record { batch = same k; block = piece.block }

  stands_there : slice_get p.sets.sets place.at ≡ Some (set_of_piece (batches_of p) piece, Some (Waiting (piece.txn ∷ at.rest)))
  stands_there = at.there ∙ ap (λ (s : SetId). Some (s, Some (Waiting (piece.txn ∷ at.rest)))) own_set

  replay : replay_so_far job new ≡ with_finished (core_of p u) piece
  replay = first.finishes job p core.progress place.at own piece.txn at.rest at.there (ran_step p u core piece ready) place.index txn
      (txns.number_is job p core.progress place piece (first_placed at)) (txns.in_set_batch job p core.progress place piece (first_placed at) txn txn_is) writes outs note result kept kept_now at.txn.loaded at.txn.there
      (txns.before_is job p core.progress place piece (first_placed at) txn txn_is kept kept_is) (leaves txn kept txn_is kept_is) new to_first

  all_kept : KeepsProgress job new
  all_kept = first.finish_keeps job p core.progress place.at own piece.txn at.rest at.there (ran_step p u core piece ready) place.index txn
      (txns.number_is job p core.progress place piece (first_placed at)) (txns.in_set_batch job p core.progress place piece (first_placed at) txn txn_is) writes outs note result kept kept_now at.txn.loaded at.txn.there
      (txns.before_is job p core.progress place piece (first_placed at) txn txn_is kept kept_is) (leaves txn kept txn_is kept_is) new to_first

  present : apply (world_at job (machine_of (core_of p u))) piece (present_of (core_of p u)) ≡ present_of (with_finished (core_of p u) piece)
  present = first.present_now job p core.progress place.at own piece.txn at.rest at.there (ran_step p u core piece ready) place.index txn
      (txns.number_is job p core.progress place piece (first_placed at)) (txns.in_set_batch job p core.progress place piece (first_placed at) txn txn_is) writes outs note result kept kept_now at.txn.loaded at.txn.there
      (txns.before_is job p core.progress place piece (first_placed at) txn txn_is kept kept_is) (leaves txn kept txn_is kept_is) new to_first

  pub first_is : core_of new after ≡ with_finished (core_of p u) piece
  first_is = ended_is p u core piece ready.0 place.at own (Some (Waiting (piece.txn ∷ at.rest))) stands_there writes outs note result (after_first at.rest) place.index kept_now new to_first replay all_kept present after undo

  pub first_core : IsCore new after
  first_core = ended_core p u core piece ready.0 place.at own (Some (Waiting (piece.txn ∷ at.rest))) stands_there writes outs note result (after_first at.rest) place.index kept_now new to_first replay all_kept present after undo
