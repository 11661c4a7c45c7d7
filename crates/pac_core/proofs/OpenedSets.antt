-- The pieces of an open set may be opened, and that keeps all.
use Rattle.std.proofs.Common.{◌≡◌, ℕ, suc, ◌+◌, ◌-◌, ◌<◌, Bool, true, false, cond, List, [], ◌∷◌, length, get_or, Some, None, refl, sym, ap, subst, ◌∙◌}
use Rattle.std.specs.Prelude.{slice_get}
use Rattle.std.specs.List.{AllByRecursion}
use Rattle.std.proofs.lemmas.Option.{same_Some, slice_get_read, slice_get_within}
use Rattle.pac_ops.specs.declared.transaction.Txn.{Txn}
use Rattle.pac_plan.specs.declared.parts.PlanParts.{PlanParts}
use Rattle.pac_plan.specs.Codes.{HasTxnInputs, TxnFitsPlan}
use Rattle.pac_plan.specs.Worlds.{txn_at}
use Rattle.pac_batch.specs.Sets.{set_of}
use Rattle.pac_sets.specs.declared.set_id.SetId.{SetId}
use Rattle.pac_sets.specs.Sets.{IsOpenSet, Kept, WaitsForNothing}
use Rattle.pac_commute.specs.Loads.{Job}
use Rattle.pac_commute.specs.PlanLaws.{txns_of}
use Rattle.pac_core.specs.declared.loaded.LoadedBatch.{LoadedBatch}
use Rattle.pac_core.specs.declared.progress.Progress.{Progress}
use Rattle.pac_core.specs.declared.stage.OpenSet.{OpenSet}
use Rattle.pac_core.specs.declared.stage.SetStage.{SetStage}
use Rattle.pac_core.specs.declared.stage.SetStage.TheVariants.{Waiting}
use Rattle.pac_core.specs.Inputs.{FindsInputs}
use Rattle.pac_core.specs.Links.{IsRest, KeepsBatch, KeepsProgress, batches_of, replay_so_far}
use Rattle.pac_core.specs.Moves.{HasAllInputs, IsOpeningOf, opened_at}
use Rattle.pac_core.specs.Replay.{present_of}
use Rattle.pac_core.proofs.Lists.{at_map, map_at}
use Rattle.pac_core.proofs.Marks.{fits_plan}
use Rattle.pac_core.proofs.Opens.{has_txn_inputs, opens_keep, same_replay}
use Rattle.pac_core.proofs.Ready.{set_at}
use Rattle.pac_core.proofs.SetFacts.{Stands, txn_there}

-- what was read is the open set
module _ (p : Progress) (at : ℕ) (opened : IsOpenSet p.sets.edges p.sets.sets at) (read : Kept SetStage) (here : slice_get p.sets.sets at ≡ Some read) where
  pub set_read : opened.set ≡ read.0
  set_read = ap (λ (x : Kept SetStage). x.0) (same_Some _ _ (sym opened.there ∙ here))

  pub stage_read : (stage : SetStage) → read.1 ≡ Some stage → opened.kept ≡ stage
  stage_read stage e = same_Some _ _ (ap (λ (x : Kept SetStage). x.1) (same_Some _ _ (sym opened.there ∙ here)) ∙ e)

  pub batch_read : (loaded read_loaded : LoadedBatch) → slice_get p.batches.items opened.set.batch ≡ Some loaded → read_loaded ≡ get_or p.batches.items read.0.batch read_loaded → slice_get p.batches.items opened.set.batch ≡ Some read_loaded
  batch_read loaded read_loaded there is =
      slice_get_read p.batches.items (length p.batches.items) opened.set.batch read_loaded refl (slice_get_within p.batches.items opened.set.batch loaded there)
      (is ∙ ap (λ (s : SetId). get_or p.batches.items s.batch read_loaded) (sym set_read))

-- what holds of each item holds of all
pub all_by : {A : Type 0} (P : A → Type 0) (xs : List A) → ((i : ℕ) (x : A) → slice_get xs i ≡ Some x → P x) → AllByRecursion P xs
all_by P [] each = tt
all_by P (x ∷ xs) each = (each 0 x refl, all_by P xs (λ i y e. each (suc i) y e))

module _ (job : Job) (p : Progress) (keeps : KeepsProgress job p) where
  -- each transaction of a loaded batch fits
  pub batch_fits : (k : ℕ) (loaded : LoadedBatch) → slice_get p.batches.items k ≡ Some loaded → AllByRecursion (TxnFitsPlan p.pieces) loaded.batch.txns
  batch_fits k loaded there = all_by (TxnFitsPlan p.pieces) loaded.batch.txns each
    where
      each : (i : ℕ) (txn : Txn) → slice_get loaded.batch.txns i ≡ Some txn → TxnFitsPlan p.pieces txn
      each i txn e = subst (λ (parts : PlanParts). TxnFitsPlan parts txn) keeps.parts (fits_plan job.parts txn (keeps.machine.fit (loaded.batch.first + i - job.first) txn (number (txn_there job.parts job.first (batches_of p) keeps.machine.run_on (loaded.batch.first + i) k i s ∙ e))))
        where
          s : Stands (batches_of p) (loaded.batch.first + i) k i
          s = record { batch = loaded.batch; there = at_map (λ (l : LoadedBatch). l.batch) p.batches.items k loaded there; inside = slice_get_within loaded.batch.txns i txn e; number = refl }

          number : txn_at job.first (txns_of (batches_of p)) (loaded.batch.first + i) ≡ Some txn → slice_get (txns_of (batches_of p)) (loaded.batch.first + i - job.first) ≡ Some txn
          number h = go _ h
            where
              go : (b : Bool) → cond b None (slice_get (txns_of (batches_of p)) (loaded.batch.first + i - job.first)) ≡ Some txn → slice_get (txns_of (batches_of p)) (loaded.batch.first + i - job.first) ≡ Some txn
              go true h = let wrong : None ≡ Some txn = h in absurd cc
              go false h = h

  module _ (at : ℕ) (opened : IsOpenSet p.sets.edges p.sets.sets at) where
    edges_are : p.sets.edges ≡ job.parts.edges
    edges_are = keeps.edges ∙ ap (λ (parts : PlanParts). parts.edges) (sym keeps.parts)

    pub passed : WaitsForNothing job.parts.edges p.sets.sets opened.set
    passed = subst (λ (edges : List (ℕ × ℕ)). WaitsForNothing edges p.sets.sets opened.set) edges_are opened.passed

    -- its batch is loaded
    pub loaded_there : (l : LoadedBatch) × (slice_get p.batches.items opened.set.batch ≡ Some l)
    loaded_there =
        let set = set_at job p keeps at opened.set (Some opened.kept) opened.there in
        let l = map_at (λ (l : LoadedBatch). l.batch) p.batches.items opened.set.batch set.batch set.batch_there in
        (l.0, l.1)

    pub block_inside : opened.set.block < p.pieces.blocks
    block_inside = subst (λ (parts : PlanParts). opened.set.block < parts.blocks) keeps.parts (set_at job p keeps at opened.set (Some opened.kept) opened.there).inside

    module _ (loaded : LoadedBatch) (there : slice_get p.batches.items opened.set.batch ≡ Some loaded) where
      batch_there : slice_get (batches_of p) opened.set.batch ≡ Some loaded.batch
      batch_there = at_map (λ (l : LoadedBatch). l.batch) p.batches.items opened.set.batch loaded there

      pub txns_are : (txns : List ℕ) → opened.kept ≡ Waiting txns → IsRest (set_of p.pieces loaded.batch.first loaded.batch.txns opened.set.block).txns txns
      txns_are txns e = subst (λ (parts : PlanParts). IsRest (set_of parts loaded.batch.first loaded.batch.txns opened.set.block).txns txns) keeps.parts
          (keeps.stages at opened.set (Waiting txns) loaded.batch (opened.there ∙ ap (λ (s : SetStage). Some (opened.set, Some s)) e) batch_there)

      pub inputs_are : HasAllInputs p.pieces loaded opened.set.block
      inputs_are = record {
        all = values.all;
        each = λ i txn kept env at_txn at_kept finds.
            subst (λ (parts : PlanParts). HasTxnInputs parts opened.set.block txn env) keeps.parts
            (has_txn_inputs job p keeps opened.set passed (loaded.batch.first + i) i
            (record { batch = loaded.batch; there = batch_there; inside = slice_get_within loaded.batch.txns i txn at_txn; number = refl })
            txn at_txn (set_at job p keeps at opened.set (Some opened.kept) opened.there).inside kept (values.each i txn kept at_txn at_kept) env
            (subst (λ (parts : PlanParts). FindsInputs parts opened.set.block txn kept env) (sym keeps.parts) finds));
      }
        where
          values : KeepsBatch job.parts (present_of (replay_so_far job p)) loaded
          values = keeps.values opened.set.batch loaded there (at, opened.set, opened.kept, opened.there, refl)

    -- ---- it is opened

    module _ (opening : OpenSet) (is : IsOpeningOf p at opening) where
      set_same : opened.set ≡ is.set
      set_same = ap (λ (x : Kept SetStage). x.0) (same_Some _ _ (sym opened.there ∙ is.there))

      passed_is : WaitsForNothing job.parts.edges p.sets.sets is.set
      passed_is = subst (WaitsForNothing job.parts.edges p.sets.sets) set_same passed

      pub opened_keeps : KeepsProgress job (opened_at p at opening)
      opened_keeps = opens_keep job p keeps at is.set is.txns is.there passed_is is.loaded is.loaded_there opening is.fresh

      pub opened_same : replay_so_far job (opened_at p at opening) ≡ replay_so_far job p
      opened_same = same_replay job p keeps at is.set is.txns is.there passed_is is.loaded is.loaded_there opening is.fresh
