-- The next piece is looked for, which changes nothing that counts; and what is answered of it.
use Rattle.std.proofs.Common.{◌≡◌, ◌↔◌, ℕ, Bool, true, false, Option, None, refl, sym, subst, ◌∙◌, true≢false}
use Rattle.std.specs.Prelude.{IsTrue}
use Rattle.pac_value.specs.Expressions.{Values}
use Rattle.pac_ops.specs.declared.piece.PieceId.{PieceId}
use Rattle.pac_ops.specs.declared.transaction.Txn.{Txn}
use Rattle.pac_sched.specs.declared.state.PieceState.{PieceState}
use Rattle.pac_sched.specs.declared.state.Pick.TheVariants.{Piece}
use Rattle.pac_sched.specs.Schedules.{pick}
use Rattle.pac_undo.specs.Undo.{Undoable}
use Rattle.pac_commute.specs.Loads.{Job}
use Rattle.pac_core.specs.declared.answers.Take.{Take}
use Rattle.pac_core.specs.declared.answers.Take.TheVariants.{NotReady, Done}
use Rattle.pac_core.specs.declared.loaded.LoadedBatch.{LoadedBatch}
use Rattle.pac_core.specs.declared.place.Place.{Place}
use Rattle.pac_core.specs.declared.progress.Progress.{Progress}
use Rattle.pac_core.specs.declared.stage.OpenSet.{OpenSet}
use Rattle.pac_core.specs.Calls.{IsReplayDone, IsTakenPiece}
use Rattle.pac_core.specs.Inputs.{LeavesValues}
use Rattle.pac_core.specs.Links.{IsCore, KeepsProgress, ReadyFrom, core_of, job_of, replay_so_far}
use Rattle.pac_core.specs.declared.alone.NextAlone.{NextAlone}
use Rattle.pac_core.specs.Moves.{IsNextAlone, IsNextAt, IsReadyAtOffset}
use Rattle.pac_core.specs.Places.{AreValuesAt, IsPieceAt, IsTxnAt}
use Rattle.pac_core.specs.Replay.{Replay}
use Rattle.pac_core.specs.Results.{IsKeptAfter}
use Rattle.pac_core.proofs.CoreLoads.{goes_on, same_job}
use Rattle.pac_core.proofs.Lists.{same_item}
use Rattle.pac_core.proofs.ReadyPlaces.{same_open}

-- ---- sets are opened

module _ (p new : Progress) (u : Undoable) (core : IsCore p u) (keeps : (job : Job) → KeepsProgress job p → KeepsProgress job new) (same : (job : Job) → KeepsProgress job p → replay_so_far job new ≡ replay_so_far job p)
    (sees : (job : Job) → KeepsProgress job p → ReadyFrom job p p.recent → ReadyFrom job new new.recent) where
  pub next_core : IsCore new u
  next_core = (goes_on p new u core (keeps (job_of p u) core.progress) (same (job_of p u) core.progress) (sees (job_of p u) core.progress core.seen)).0

  pub next_same : core_of new u ≡ core_of p u
  next_same = (goes_on p new u core (keeps (job_of p u) core.progress) (same (job_of p u) core.progress) (sees (job_of p u) core.progress core.seen)).1

  pub next_at : (next : Option (ℕ × PieceId)) → IsNextAt (job_of p u) new next → IsNextAt (job_of new u) new next
  next_at next is = subst (λ (j : Job). IsNextAt j new next) (sym (same_job p new u (sym (keeps (job_of p u) core.progress).parts) (sym (keeps (job_of p u) core.progress).first))) is

  pub alone_at : (next : Option NextAlone) → IsNextAlone (job_of p u) new next → IsNextAlone (job_of new u) new next
  alone_at next is = subst (λ (j : Job). IsNextAlone j new next) (sym (same_job p new u (sym (keeps (job_of p u) core.progress).parts) (sym (keeps (job_of p u) core.progress).first))) is

  -- what is answered of the progress then is answered of that before
  pub taken_before : (take : Take) (after : Replay) → IsTakenPiece (core_of new u) take after → IsTakenPiece (core_of p u) take after
  taken_before take after is = subst (λ (r : Replay). IsTakenPiece r take after) next_same is

-- ---- none is ready

module _ (p : Progress) (u : Undoable) (core : IsCore p u) where
  pub done_now : (p.is_closed ≡ true) × (p.unfinished ≡ 0) → IsReplayDone (core_of p u)
  done_now done = (done.0, sym core.progress.unfinished ∙ done.1)

  pub done_then : IsReplayDone (core_of p u) → (p.is_closed ≡ true) × (p.unfinished ≡ 0)
  done_then done = (done.0, core.progress.unfinished ∙ done.1)

  pub none_ready : IsNextAt (job_of p u) p None → (b : Bool) → (b ≡ false) → (IsTrue b ↔ ((p.is_closed ≡ true) × (p.unfinished ≡ 0))) → IsTakenPiece (core_of p u) NotReady (core_of p u)
  none_ready none b isnt is = (none, (λ done. true≢false (sym (is.1 (done_then done)) ∙ isnt)), refl)

  pub all_done : (b : Bool) → (b ≡ true) → (IsTrue b ↔ ((p.is_closed ≡ true) × (p.unfinished ≡ 0))) → IsTakenPiece (core_of p u) Done (core_of p u)
  all_done b truly is = (done_now (is.0 truly), refl)

-- ---- the first ready piece

pub first_picked : (p : Progress) (place : Place) (piece : PieceId) (far : PieceState) (at : IsPieceAt p place piece far) → IsReadyAtOffset p place.at piece → pick at.stands.opening.sched ≡ Piece piece
first_picked p place piece far at ready =
    subst (λ (o : OpenSet). pick o.sched ≡ Piece piece)
    (same_open p place.at at.stands.set at.stands.opening ready.stands.opening at.stands.there (ready.stands.set, ready.stands.there))
    ready.picked

-- ---- what is kept after

module _ (p : Progress) (place : Place) (piece : PieceId) (outs : Values) (txn : Txn) (txn_is : IsTxnAt p place txn) (kept : Values) (kept_is : AreValuesAt p place kept) where
  pub kept_after_is : (now : Values) → LeavesValues p.pieces piece.block txn outs kept now → IsKeptAfter p place piece outs now
  kept_after_is now leaves = λ t k t_is k_is.
      subst (λ (x : Txn). LeavesValues p.pieces piece.block x outs k now) (same_item p.batches.items place.batch (λ (l : LoadedBatch). l.batch.txns) place.index txn t txn_is t_is)
      (subst (λ (x : Values). LeavesValues p.pieces piece.block txn outs x now) (same_item p.batches.items place.batch (λ (l : LoadedBatch). l.kept.items) place.index kept k kept_is k_is) leaves)
