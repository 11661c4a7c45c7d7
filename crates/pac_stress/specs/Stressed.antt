-- What the stress test ends with.
use Rattle.std.specs.Prelude.{◌≡◌, ◌<◌, ℕ, List, map, length, Result, Ok, Err}
use Rattle.std.specs.FinMap.{empty}
use Rattle.pac_value.specs.State.{Tables}
use Rattle.pac_ops.specs.declared.batch.Batch.{Batch}
use Rattle.pac_ops.specs.declared.note.Note.{Note}
use Rattle.pac_plan.specs.declared.parts.PlanParts.{PlanParts}
use Rattle.pac_plan.specs.Analysis.{IsAnalysis}
use Rattle.pac_plan.specs.Pieces.{pieces}
use Rattle.pac_plan.specs.Worlds.{blocks_in}
use Rattle.pac_commute.specs.PlanLaws.{planned, numbers_of}
use Rattle.pac_types.specs.CatalogueText.{HasCatalogue}
use Rattle.pac_types.specs.Execution.{serial}
use Rattle.pac_types.specs.Fits.{shape}
use Rattle.pac_types.specs.Typing.{CatalogueState}
use Rattle.pac_flat.specs.FlatForm.{program_of}
use Rattle.pac_serial.specs.declared.serial.AllError.{AllError}
use Rattle.pac_serial.specs.declared.serial.AllError.TheVariants.{Abort, NoMemory}
use Rattle.pac_script.specs.BankText.{bank_text}
use Rattle.pac_stress.specs.StressBatches.{stress_txns, stress_batches}
use Rattle.pac_stress.specs.Summary.{summary}
use Rattle.pac_stress.specs.declared.execution.Finished.{Finished}

-- ---- pieces

-- by the plan of the catalogue, of which there is only one, the transactions of the batches, numbered from 1 on, have this number of pieces
pub record HavePieces (catalogue : CatalogueState) (batches : List Batch) (count : ℕ) : Type 0 where
  pub plan : PlanParts
  pub programs : plan.programs ≡ map program_of catalogue.procs
  pub tables : plan.tables ≡ map shape catalogue.tables
  pub analysis : IsAnalysis plan
  pub counted : count ≡ length (pieces (planned plan 1 batches) (numbers_of 1 batches) (blocks_in plan))

-- ---- what transactions end with

-- the transactions of batches end with these tables and have this number of pieces, or abort with this, or there was no memory
abbrev pub Finishes : CatalogueState → List Batch → Result Tables Note → Result Finished AllError → Type 0
Finishes catalogue batches meaning (Ok finished) = (meaning ≡ Ok finished.rows.rows) × HavePieces catalogue batches finished.pieces
Finishes catalogue batches meaning (Err (Abort note)) = meaning ≡ Err note
Finishes catalogue batches meaning (Err NoMemory) = Unit {0}

-- what serial execution of the test's transactions gives over a catalogue, from no rows on
abbrev pub stress_outcome : CatalogueState → ℕ → Result Tables Note
stress_outcome catalogue count = serial catalogue.procs 1 (stress_txns 1 count) empty

-- ---- the summary

-- the test of this number of transactions ends with tables over the bank's catalogue, and its summary has this property
pub record IsSummaryOf (count : ℕ) (P : List ℕ → Type 0) : Type 0 where
  pub catalogue : CatalogueState
  pub is : HasCatalogue bank_text catalogue
  pub tables : Tables
  pub ends : stress_outcome catalogue count ≡ Ok tables
  pub pieces : ℕ
  pub counted : HavePieces catalogue (stress_batches count) pieces
  pub has : P (summary count pieces catalogue.tables tables)

-- the test aborts so
abbrev pub AbortsStress : ℕ → Note → Type 0
AbortsStress count note = (catalogue : CatalogueState) × HasCatalogue bank_text catalogue × (stress_outcome catalogue count ≡ Err note)

-- why there is no summary: of at most 100,000 transactions none aborts
abbrev pub GivesNoSummary : ℕ → AllError → Type 0
GivesNoSummary count (Abort note) = AbortsStress count note × (100000 < count)
GivesNoSummary count NoMemory = Unit {0}
