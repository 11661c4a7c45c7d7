-- Own work that is handed in or given back: its result may be written, and its piece is finished then, or waits again.
use Rattle.std.proofs.Common.{◌≡◌, ◌<◌, List, length, Option, refl, arith}
use Rattle.pac_base.proofs.ItemLemmas.{item_at}
use Rattle.pac_value.specs.Expressions.{Values}
use Rattle.pac_ops.specs.declared.note.Note.{Note}
use Rattle.pac_ops.specs.declared.piece.PieceId.{PieceId}
use Rattle.pac_ops.specs.declared.transaction.Txn.{Txn}
use Rattle.pac_tables.specs.declared.writes.Write.{Write}
use Rattle.pac_tables.specs.Written.{AreWithin, written}
use Rattle.pac_piece.specs.declared.work.Work.{Work}
use Rattle.pac_piece.specs.Values.{IsValueOf}
use Rattle.pac_sched.specs.declared.state.PieceState.TheVariants as state
use Rattle.pac_sched.specs.Schedules.{with_state}
use Rattle.pac_undo.specs.Undo.{Undoable}
use Rattle.pac_commute.specs.Machine.{IsReadyAt}
use Rattle.pac_core.specs.declared.place.Place.{Place}
use Rattle.pac_core.specs.declared.progress.Progress.{Progress}
use Rattle.pac_core.specs.Calls.{IsOwn}
use Rattle.pac_core.specs.Links.{IsCore, core_of, job_of}
use Rattle.pac_core.specs.Moves.{IsFinishedAt, IsOrderAfter}
use Rattle.pac_core.specs.Places.{AreValuesAt, IsPieceAt, IsPlaceOf, IsTxnAt}
use Rattle.pac_core.specs.Replay.{machine_of, with_finished}
use Rattle.pac_core.specs.Results.{IsKeptAfter, IsResult}
use Rattle.pac_core.specs.Takes.{IsWorkOver}
use Rattle.pac_core.proofs.CoreMoves.{end_core, end_is, kept_step, ran_step}
use Rattle.pac_core.proofs.EventFacts.{of_own, out_needed, work_result, work_within}
use Rattle.pac_core.proofs.PlacedPieces as placed
use Rattle.pac_core.proofs.PlacedTxns as txns
use Rattle.pac_core.proofs.PlacedTxns.{as_placed}

-- ---- what stands at a place

module _ (p : Progress) (u : Undoable) (core : IsCore p u) (place : Place) (piece : PieceId) (at : IsPlaceOf p place piece) where
  pub txn_there : (txn : Txn) × IsTxnAt p place txn
  txn_there = let found = item_at at.txn.loaded.batch.txns place.index at.txn.inside in (found.0, (at.txn.loaded, at.txn.there, found.1))

  pub values_there : (kept : Values) × AreValuesAt p place kept
  values_there = let found = item_at at.txn.loaded.kept.items place.index room in (found.0, (at.txn.loaded, at.txn.there, found.1))
    where
      room : place.index < length at.txn.loaded.kept.items
      room =
          let inside = at.txn.inside in
          let len = txns.kept_len (job_of p u) p core.progress place piece at in
          omega (arith, inside, len)

-- ---- own work

module _ (p : Progress) (u : Undoable) (core : IsCore p u) (place : Place) (work : Work) (at : IsPieceAt p place work.piece state.Out) (own : IsOwn (core_of p u) work)
    (writes : List Write) (outs : Values) (note : Option Note) (value : IsValueOf work writes outs note) where
  abbrev txn : Txn
  txn = (txn_there p u core place work.piece (as_placed at)).0

  abbrev txn_is : IsTxnAt p place txn
  txn_is = (txn_there p u core place work.piece (as_placed at)).1

  abbrev kept : Values
  kept = (values_there p u core place work.piece (as_placed at)).0

  abbrev kept_is : AreValuesAt p place kept
  kept_is = (values_there p u core place work.piece (as_placed at)).1

  over : IsWorkOver p.pieces work.piece txn kept own.1.cells u.current work
  over = of_own p u core place work at txn txn_is kept kept_is own.1.cells own.1.named own

  pub handed_within : AreWithin u.tables writes
  handed_within = work_within p u core place work.piece (as_placed at) txn txn_is kept kept_is own.1.cells own.1.named work over
      (out_needed p u core place work at txn txn_is kept kept_is) (placed.finished_now (job_of p u) p core.progress place work.piece state.Out at) writes outs note value

  handed_result : IsResult (core_of p u) work.piece writes outs note
  handed_result = work_result p u core place work.piece (as_placed at) txn txn_is kept kept_is own.1.cells own.1.named work over
      (out_needed p u core place work at txn txn_is kept kept_is) (placed.finished_now (job_of p u) p core.progress place work.piece state.Out at) writes outs note value

  module _ (kept_now : Values) (leaves : IsKeptAfter p place work.piece outs kept_now) (new : Progress) (to : IsFinishedAt p place work.piece kept_now note new)
      (order : IsOrderAfter (λ sched. with_state sched work.piece state.Finished) p place.at) (after : Undoable) (undo : after ≡ record u { current = written u.current writes }) where
    pub handed_core : IsCore new after
    handed_core = end_core p u core place work.piece state.Out at refl (kept_step p u core work.piece own.0) txn txn_is kept kept_is writes outs note handed_result kept_now leaves new to order after undo

    pub handed_is : core_of new after ≡ with_finished (core_of p u) work.piece
    handed_is = end_is p u core place work.piece state.Out at refl (kept_step p u core work.piece own.0) txn txn_is kept kept_is writes outs note handed_result kept_now leaves new to order after undo

-- ---- a ready piece that is run at once

module _ (p : Progress) (u : Undoable) (core : IsCore p u) (place : Place) (piece : PieceId) (at : IsPieceAt p place piece state.Waiting) (ready : IsReadyAt (job_of p u) (machine_of (core_of p u)) piece)
    (writes : List Write) (outs : Values) (note : Option Note) (result : IsResult (core_of p u) piece writes outs note)
    (kept_now : Values) (leaves : IsKeptAfter p place piece outs kept_now) (new : Progress) (to : IsFinishedAt p place piece kept_now note new)
    (order : IsOrderAfter (λ sched. with_state sched piece state.Finished) p place.at) (after : Undoable) (undo : after ≡ record u { current = written u.current writes }) where
  pub ran_core : IsCore new after
  ran_core =
      let txn = txn_there p u core place piece (as_placed at) in
      let kept = values_there p u core place piece (as_placed at) in
      end_core p u core place piece state.Waiting at refl (ran_step p u core piece ready) txn.0 txn.1 kept.0 kept.1 writes outs note result kept_now leaves new to order after undo

  pub ran_is : core_of new after ≡ with_finished (core_of p u) piece
  ran_is =
      let txn = txn_there p u core place piece (as_placed at) in
      let kept = values_there p u core place piece (as_placed at) in
      end_is p u core place piece state.Waiting at refl (ran_step p u core piece ready) txn.0 txn.1 kept.0 kept.1 writes outs note result kept_now leaves new to order after undo
