-- A batch that fits what is kept is one that may be loaded, and the other way round.
use Rattle.std.proofs.Common.{◌≡◌, ℕ, zero, suc, false, List, [], ◌∷◌, Option, Some, None, sym, subst, ◌∙◌}
use Rattle.std.specs.Prelude.{IsSomeAnd, map, slice_get}
use Rattle.std.specs.List.{AllByRecursion}
use Rattle.std.specs.Option.{option_map}
use Rattle.std.proofs.lemmas.Option.{same_Some, slice_get-map}
use Rattle.pac_value.specs.Values.{type_of}
use Rattle.pac_ops.specs.declared.batch.Batch.{Batch}
use Rattle.pac_ops.specs.declared.program.Program.{Program}
use Rattle.pac_ops.specs.declared.transaction.Txn.{Txn}
use Rattle.pac_ops.specs.declared.transaction.Txn.TheVariants.{Call as ACall, AdHoc}
use Rattle.pac_plan.specs.Codes.{TxnFitsPlan}
use Rattle.pac_plan.specs.declared.parts.PlanParts.{PlanParts}
use Rattle.pac_undo.specs.Undo.{Undoable}
use Rattle.pac_commute.specs.PartialFits.{TxnIsOfPlan, TxnsFitPlan}
use Rattle.pac_core.specs.declared.progress.Progress.{Progress}
use Rattle.pac_core.specs.Calls.{MayLoad}
use Rattle.pac_core.specs.Links.{IsCore, core_of}
use Rattle.pac_core.proofs.Marks.{fits_plan}
use Rattle.pac_core.proofs.OpenedSets.{all_by}

module _ (parts : PlanParts) where
  of_plan : (txn : Txn) → TxnFitsPlan parts txn → TxnIsOfPlan parts txn
  of_plan (AdHoc records) fits = fits
  of_plan (ACall call) fits = go (slice_get parts.programs call.proc)
      (subst (λ o. IsSomeAnd o (λ types. map type_of call.args ≡ types)) (slice_get-map (λ (program : Program). program.params) parts.programs call.proc) fits)
    where
      go : (o : Option Program) → IsSomeAnd (option_map (λ (program : Program). program.params) o) (λ types. map type_of call.args ≡ types) → IsSomeAnd o (λ program. map type_of call.args ≡ program.params)
      go (Some program) is = is
      go None is = is

  pub all_of_plan : (txns : List Txn) → AllByRecursion (TxnFitsPlan parts) txns → TxnsFitPlan parts txns
  all_of_plan [] all i txn e = absurd (cc e)
  all_of_plan (t ∷ ts) all zero txn e = subst (TxnIsOfPlan parts) (same_Some t txn e) (of_plan t all.0)
  all_of_plan (t ∷ ts) all (suc i) txn e = all_of_plan ts all.1 i txn e

module _ (p : Progress) (u : Undoable) (core : IsCore p u) (batch : Batch) where
  pub may_load : p.is_closed ≡ false → batch.first ≡ p.next → AllByRecursion (TxnFitsPlan p.pieces) batch.txns → MayLoad (core_of p u) batch
  may_load opening first fits = record { opening = opening; first = first ∙ core.progress.next; fits = all_of_plan p.pieces batch.txns fits }

  pub fits_of : MayLoad (core_of p u) batch → (p.is_closed ≡ false) × (batch.first ≡ p.next) × AllByRecursion (TxnFitsPlan p.pieces) batch.txns
  fits_of may = (may.opening, may.first ∙ sym core.progress.next, all_by (TxnFitsPlan p.pieces) batch.txns (λ i txn e. fits_plan p.pieces txn (may.fits i txn e)))
