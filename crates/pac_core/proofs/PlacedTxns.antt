-- What stands at the place of a piece, whatever is kept of its set: its transaction, and the values that are kept of it.
use Rattle.std.proofs.Common.{◌≡◌, ℕ, ◌+◌, ◌-◌, ◌<◌, Bool, true, false, cond, List, ◌∷◌, length, Some, None, refl, sym, ap, subst, ◌∙◌}
use Rattle.std.specs.Prelude.{slice_get}
use Rattle.std.specs.FinMap.{get}
use Rattle.std.proofs.lemmas.Option.{same_Some}
use Rattle.pac_value.specs.Expressions.{Values}
use Rattle.pac_ops.specs.declared.batch.Batch.{Batch}
use Rattle.pac_ops.specs.declared.piece.PieceId.{PieceId}
use Rattle.pac_ops.specs.declared.transaction.Txn.{Txn}
use Rattle.pac_plan.specs.Codes.{TxnFitsPlan}
use Rattle.pac_plan.specs.Worlds.{txn_at}
use Rattle.pac_sched.specs.declared.state.PieceState.{PieceState}
use Rattle.pac_sets.specs.declared.set_id.SetId.{SetId}
use Rattle.pac_commute.specs.Loads.{Job}
use Rattle.pac_commute.specs.PartialFits.{TxnIsOfPlan}
use Rattle.pac_commute.specs.PlanLaws.{txns_of}
use Rattle.pac_core.specs.declared.loaded.LoadedBatch.{LoadedBatch}
use Rattle.pac_core.specs.declared.place.Place.{Place}
use Rattle.pac_core.specs.declared.progress.Progress.{Progress}
use Rattle.pac_core.specs.declared.stage.SetStage.TheVariants.{Open, Waiting}
use Rattle.pac_core.specs.Inputs.{FindsInputs, is_found}
use Rattle.pac_core.specs.Links.{KeepsBatch, KeepsInputs, KeepsProgress, batches_of, replay_so_far}
use Rattle.pac_core.specs.Moves.{IsFirstLeft}
use Rattle.pac_core.specs.Places.{AreValuesAt, IsPieceAt, IsPlaceOf, IsTxnAt}
use Rattle.pac_core.specs.Replay.{Replay, present_of}
use Rattle.pac_core.proofs.Lists.{at_map}
use Rattle.pac_core.proofs.Marks.{fits_plan}
use Rattle.pac_core.proofs.Ready.{SetAt, set_at}
use Rattle.pac_core.proofs.SetFacts.{Stands, txn_there}

-- a piece of an open set has its place
abbrev pub as_placed : {p : Progress} {place : Place} {piece : PieceId} {far : PieceState} → IsPieceAt p place piece far → IsPlaceOf p place piece
as_placed at = record {
  txn = at.txn;
  stage = Open at.stands.opening;
  there = at.stands.there ∙ ap (λ (s : SetId). Some (s, Some (Open at.stands.opening))) at.set_is;
}

-- and so has the first that is left of a set that waits
abbrev pub first_placed : {p : Progress} {place : Place} {piece : PieceId} → IsFirstLeft p place piece → IsPlaceOf p place piece
first_placed {place = place} {piece = piece} at = record { txn = at.txn; stage = Waiting (piece.txn ∷ at.rest); there = at.there }

module _ (job : Job) (p : Progress) (keeps : KeepsProgress job p) (place : Place) (piece : PieceId) (at : IsPlaceOf p place piece) where
  abbrev pub r : Replay
  r = replay_so_far job p

  -- ---- its set

  abbrev pub id : SetId
  id = record { batch = place.batch; block = piece.block }

  abbrev pub set : SetAt job p keeps place.at id (Some at.stage)
  set = set_at job p keeps place.at id (Some at.stage) at.there

  -- ---- its transaction

  abbrev pub loaded : LoadedBatch
  loaded = at.txn.loaded

  pub batch_there : slice_get (batches_of p) place.batch ≡ Some loaded.batch
  batch_there = at_map (λ (l : LoadedBatch). l.batch) p.batches.items place.batch loaded at.txn.there

  abbrev pub stands_at : Stands (batches_of p) piece.txn place.batch place.index
  stands_at = record { batch = loaded.batch; there = batch_there; inside = at.txn.inside; number = at.txn.number }

  pub set_batch : set.batch ≡ loaded.batch
  set_batch = same_Some _ _ (sym set.batch_there ∙ batch_there)

  pub number_is : piece.txn ≡ set.batch.first + place.index
  number_is = at.txn.number ∙ ap (λ (b : Batch). b.first + place.index) (sym set_batch)

  pub block_inside : piece.block < job.parts.blocks
  block_inside = set.inside

  module _ (txn : Txn) (txn_is : IsTxnAt p place txn) where
    pub in_batch : slice_get loaded.batch.txns place.index ≡ Some txn
    in_batch = ap (λ (l : LoadedBatch). slice_get l.batch.txns place.index) (same_Some _ _ (sym at.txn.there ∙ txn_is.1)) ∙ txn_is.2

    pub in_set_batch : slice_get set.batch.txns place.index ≡ Some txn
    in_set_batch = ap (λ (b : Batch). slice_get b.txns place.index) set_batch ∙ in_batch

    pub there : txn_at job.first (txns_of (batches_of p)) piece.txn ≡ Some txn
    there = txn_there job.parts job.first (batches_of p) keeps.machine.run_on piece.txn place.batch place.index stands_at ∙ in_batch

    pub fits : TxnFitsPlan job.parts txn
    fits = fits_plan job.parts txn (fits_there (txns_of (batches_of p)) (piece.txn - job.first) (found there))
      where
        found : txn_at job.first (txns_of (batches_of p)) piece.txn ≡ Some txn → slice_get (txns_of (batches_of p)) (piece.txn - job.first) ≡ Some txn
        found e = go _ e
          where
            go : (b : Bool) → cond b None (slice_get (txns_of (batches_of p)) (piece.txn - job.first)) ≡ Some txn → slice_get (txns_of (batches_of p)) (piece.txn - job.first) ≡ Some txn
            go true e = let wrong : None ≡ Some txn = e in absurd cc
            go false e = e

        fits_there : (l : List Txn) (i : ℕ) → slice_get (txns_of (batches_of p)) i ≡ Some txn → TxnIsOfPlan job.parts txn
        fits_there l i e = keeps.machine.fit i txn e

    -- ---- the values that are kept

    module _ (kept : Values) (kept_is : AreValuesAt p place kept) where
      values : KeepsBatch job.parts (present_of r) loaded
      values = keeps.values place.batch loaded at.txn.there (place.at, id, at.stage, at.there, refl)

      pub before_is : slice_get loaded.kept.items place.index ≡ Some kept
      before_is = ap (λ (l : LoadedBatch). slice_get l.kept.items place.index) (same_Some _ _ (sym at.txn.there ∙ kept_is.1)) ∙ kept_is.2

      pub inputs : KeepsInputs job.parts txn kept ((present_of r).envs piece.txn)
      inputs = subst (λ (t : ℕ). KeepsInputs job.parts txn kept ((present_of r).envs t)) (sym at.txn.number) (values.each place.index txn kept in_batch before_is)

      -- what a piece finds of them it finds of those of now
      pub finds_now : (env : Values) → FindsInputs job.parts piece.block txn kept env → FindsInputs job.parts piece.block txn ((present_of r).envs piece.txn) env
      finds_now env finds x = finds x ∙ go (is_found job.parts piece.block txn x) refl
        where
          go : (b : Bool) → is_found job.parts piece.block txn x ≡ b → cond b (get kept x) None ≡ cond b (get ((present_of r).envs piece.txn) x) None
          go true f = inputs piece.block x block_inside f
          go false f = refl

      pub finds_kept : (env : Values) → FindsInputs job.parts piece.block txn ((present_of r).envs piece.txn) env → FindsInputs job.parts piece.block txn kept env
      finds_kept env finds x = finds x ∙ go (is_found job.parts piece.block txn x) refl
        where
          go : (b : Bool) → is_found job.parts piece.block txn x ≡ b → cond b (get ((present_of r).envs piece.txn) x) None ≡ cond b (get kept x) None
          go true f = sym (inputs piece.block x block_inside f)
          go false f = refl

  -- there is room for them
  pub kept_len : length loaded.kept.items ≡ length loaded.batch.txns
  kept_len = (keeps.values place.batch loaded at.txn.there (place.at, id, at.stage, at.there, refl)).all
