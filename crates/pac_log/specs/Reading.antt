-- How a log is read, from its prefix and from gate to gate.
use Rattle.std.specs.Prelude.{◌≡◌, ◌≤◌, ℕ, ◌+◌, List, [], ◌∷◌, ◌++◌, length, drop, Option, Some, None, Result, Ok, Err, nat_eq, if◌then◌else◌}
use Rattle.pac_value.specs.Expressions.{◌>>=◌}
use Rattle.pac_ops.specs.declared.batch.Batch.{Batch}
use Rattle.pac_ops.specs.declared.transaction.Txn.{Txn}
use Rattle.pac_types.specs.Typing.{CatalogueState}
use Rattle.pac_bytes.specs.Reading.{reported_as}
use Rattle.pac_log.specs.declared.damage.LinkFault.{LinkFault}
use Rattle.pac_log.specs.declared.errors.LogError.{LogError}
use Rattle.pac_log.specs.declared.errors.LogError.TheVariants as error
use Rattle.pac_log.specs.declared.position.NextGate.{NextGate}
use Rattle.pac_log.specs.Bodies.{body_bytes, IsBody}
use Rattle.pac_log.specs.BodyReading.{next_link}
use Rattle.pac_log.specs.Damages.{short_from}
use Rattle.pac_log.specs.Gates.{gate_after}
use Rattle.pac_log.specs.declared.header.Header.{Header}
use Rattle.pac_log.specs.declared.limits.TheConstants.{MAX_BASE}
use Rattle.pac_log.specs.Logs.{base_of, header_bytes, log_prefix, AreBatches, HoldsLog}
use Rattle.pac_types.specs.Accepted.{IsAccepted}
use Rattle.pac_log.specs.Places.{IsAfter}

-- this header comes first, whose text has the catalogue and before which few transactions came, and one gate byte after it
pub record IsStore (header : Header) (catalogue : CatalogueState) (image : List ℕ) : Type 0 where
  pub accepted : IsAccepted header.text catalogue
  pub base : base_of header ≤ MAX_BASE
  pub gate : ℕ
  pub rest : List ℕ
  pub split : image ≡ header_bytes header ++ (gate ∷ rest)

-- in the image these batches stand before the gate, and its byte is there
pub record StandsAfter (header : Header) (batches : List (List Txn)) (gate : NextGate) (image : List ℕ) : Type 0 where
  pub log : AreBatches header gate.catalogue batches
  pub after : IsAfter header batches gate
  pub byte : ℕ
  pub rest : List ℕ
  pub split : image ≡ log_prefix header batches ++ (byte ∷ rest)

-- what these bytes hold, the first of which is a gate: nothing where it is shut, and else a batch, or the first fault; its offset is 0
abbrev pub after_gate : CatalogueState → List ℕ → Result (Option (List Txn)) LinkFault
after_gate catalogue [] = Err (short_from 0)
after_gate catalogue (gate ∷ bytes) = if nat_eq gate 1 then (next_link catalogue (record { at = 1; bytes = bytes }) >>= λ link. Ok (Some link.0.txns)) else Ok None

-- a fault so much further on
abbrev pub further : ℕ → LinkFault → LinkFault
further place fault = record { at = place + fault.at; kind = fault.kind }

-- what the image holds from the gate at this offset on: nothing where it is shut, and else a batch, or the first fault
abbrev pub at_gate : CatalogueState → List ℕ → ℕ → Result (Option (List Txn)) LinkFault
at_gate catalogue image place = reported_as (further place) (after_gate catalogue (drop place image))

-- the first of some batches, where there is one
abbrev pub first_batch : List (List Txn) → Option (List Txn)
first_batch [] = None
first_batch (txns ∷ batches) = Some txns

-- a reader answered what is held, or the fault as damage, unless the device failed or there was no memory
abbrev pub ReportsHeld : Result (Option Batch) LogError → Result (Option (List Txn)) LinkFault → Type 0
ReportsHeld (Ok None) held = held ≡ Ok None
ReportsHeld (Ok (Some batch)) held = held ≡ Ok (Some batch.txns)
ReportsHeld (Err error.NoStore) held = ⊥
ReportsHeld (Err (error.Damaged at kind)) held = held ≡ Err (record { at = at; kind = kind })
ReportsHeld (Err error.DiskFault) held = Unit {0}
ReportsHeld (Err error.NoMemory) held = Unit {0}

-- the image begins as a log with these batches, and after the open gate that follows stands no batch with its gate: this is the first fault
pub record IsDamaged (header : Header) (catalogue : CatalogueState) (batches : List (List Txn)) (fault : LinkFault) (image : List ℕ) : Type 0 where
  pub log : AreBatches header catalogue batches
  pub rest : List ℕ
  pub split : image ≡ log_prefix header batches ++ (1 ∷ rest)
  pub first : at_gate catalogue image (length (log_prefix header batches)) ≡ Err fault

-- What an answer says of an image in which these batches stand before the old gate: that they are all, that one more
-- stands before the new gate, or that the damage at the old one is the first.
abbrev pub ReportsOfImage : Header → List (List Txn) → NextGate → NextGate → List ℕ → Result (Option Batch) LogError → Type 0
ReportsOfImage header batches old new image (Ok None) = HoldsLog header old.catalogue batches image
ReportsOfImage header batches old new image (Ok (Some batch)) = StandsAfter header (batches ++ batch.txns ∷ []) new image
ReportsOfImage header batches old new image (Err error.NoStore) = ⊥
ReportsOfImage header batches old new image (Err (error.Damaged at kind)) = IsDamaged header old.catalogue batches (record { at = at; kind = kind }) image
ReportsOfImage header batches old new image (Err error.DiskFault) = Unit {0}
ReportsOfImage header batches old new image (Err error.NoMemory) = Unit {0}

-- the batch runs on after the transactions before the old gate, is one of the catalogue, and the new gate is the one after it
pub record IsNextBatch (old new : NextGate) (batch : Batch) : Type 0 where
  pub first : batch.first ≡ old.txns + 1
  pub body : IsBody old.catalogue batch.txns
  pub gate : new ≡ gate_after (length batch.txns) (1 + length (body_bytes batch.txns)) old
