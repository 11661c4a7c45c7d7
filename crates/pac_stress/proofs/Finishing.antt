-- What workers leave of the test's transactions is what serial execution gives.
use Rattle.std.proofs.Common.{◌≡◌, ◌∙◌, ℕ, List, map, length, Option, Some, None, Result, Ok, Err, sym, ap, subst}
use Rattle.std.specs.Prelude.{IfErr}
use Rattle.std.specs.FinMap.{empty}
use Rattle.pac_value.specs.State.{Tables}
use Rattle.pac_ops.specs.declared.batch.Batch.{Batch}
use Rattle.pac_ops.specs.declared.note.Note.{Note}
use Rattle.pac_ops.specs.declared.transaction.Txn.{Txn}
use Rattle.pac_ops.specs.Notes.{first_note}
use Rattle.pac_ops.specs.Transactions.{Replayed, replayed}
use Rattle.pac_plan.specs.declared.parts.PlanParts.{PlanParts}
use Rattle.pac_plan.specs.Analysis.{IsAnalysis}
use Rattle.pac_plan.specs.Pieces.{pieces}
use Rattle.pac_plan.specs.Worlds.{blocks_in}
use Rattle.pac_commute.specs.PlanLaws.{numbers_of, planned, txns_of}
use Rattle.pac_types.specs.Execution.{serial}
use Rattle.pac_types.specs.Fits.{shape}
use Rattle.pac_types.specs.Typing.{CatalogueState}
use Rattle.pac_flat.specs.Agreement.{AllAgree, ReplaysTheSame}
use Rattle.pac_flat.specs.FlatForm.{program_of}
use Rattle.pac_restore.specs.Batches.{txns_in}
use Rattle.pac_recover.proofs.WorkerLemmas.{ends-with, same-txns, stops-with}
use Rattle.pac_serial.specs.declared.serial.AllError.{AllError}
use Rattle.pac_serial.specs.declared.serial.AllError.TheVariants.{Abort, NoMemory}
use Rattle.pac_stress.specs.BankCatalogue.{bank_catalogue}
use Rattle.pac_stress.specs.StressBatches.{stress_batches}
use Rattle.pac_stress.specs.Stressed.{AbortsStress, Finishes, GivesNoSummary, HavePieces}
use Rattle.pac_stress.proofs.BankTyping.{bank-has}
use Rattle.pac_stress.proofs.BatchRuns.{in-batches}
use Rattle.pac_stress.proofs.NoAborts.{more-than-few}

module _ (cat : CatalogueState) (plan : PlanParts) (replays : ReplaysTheSame cat.procs plan.programs) (batches : List Batch) where
  abbrev left : Replayed
  left = replayed plan.programs 1 (txns_of batches) empty

  agree : AllAgree (serial cat.procs 1 (txns_in batches) empty) left
  agree = subst (λ (l : List Txn). AllAgree (serial cat.procs 1 l empty) left) (sym (same-txns batches)) (replays.executed 1 (txns_of batches) empty)

  -- no note: the tables are those with which serial execution ends
  pub leaves-tables : (rows : Tables) (note : Option Note) → rows ≡ left.tables → note ≡ first_note left.notes → note ≡ None → serial cat.procs 1 (txns_in batches) empty ≡ Ok rows
  leaves-tables rows note same is none = ends-with (serial cat.procs 1 (txns_in batches) empty) left agree (sym is ∙ none) ∙ ap (λ (t : Tables). Ok t) (sym same)

  -- a note: it is the abort that stops it
  pub leaves-abort : (note : Option Note) (first : Note) → note ≡ first_note left.notes → note ≡ Some first → serial cat.procs 1 (txns_in batches) empty ≡ Err first
  leaves-abort note first is some = stops-with (serial cat.procs 1 (txns_in batches) empty) left first agree (sym is ∙ some)

-- the pieces are counted by the plan
pub pieces-are : (cat : CatalogueState) (plan : PlanParts) (batches : List Batch) (count : ℕ) → plan.programs ≡ map program_of cat.procs → plan.tables ≡ map shape cat.tables → IsAnalysis plan
    → count ≡ length (pieces (planned plan 1 batches) (numbers_of 1 batches) (blocks_in plan)) → HavePieces cat batches count
pieces-are cat plan batches count programs tables analysis counted = record { plan = plan; programs = programs; tables = tables; analysis = analysis; counted = counted }

-- ---- the bank's transactions

-- why there is no summary, by why the transactions of the test don't end
pub no-summary-as : (count : ℕ) (cat : CatalogueState) (batches : List Batch) (error : AllError) → cat ≡ bank_catalogue → batches ≡ stress_batches count
    → Finishes cat batches (serial cat.procs 1 (txns_in batches) empty) (Err error) → GivesNoSummary count error
no-summary-as count cat batches (Abort note) same are h =
    let aborts : AbortsStress count note = (bank_catalogue, bank-has, sym (ap (λ (txns : List Txn). serial bank_catalogue.procs 1 txns empty) (ap txns_in are ∙ in-batches count)) ∙ sym (ap (λ (c : CatalogueState). serial c.procs 1 (txns_in batches) empty) same) ∙ h) in
    (aborts, more-than-few count note aborts)
no-summary-as count cat batches NoMemory same are h = tt

-- an error that came has its cause
pub if-error : {T E : Type 0} (P : E → Type 0) (r : Result T E) (error : E) → r ≡ Err error → P error → IfErr r P
if-error {T} {E} P r error is h = subst (λ (q : Result T E). IfErr q P) (sym is) h
