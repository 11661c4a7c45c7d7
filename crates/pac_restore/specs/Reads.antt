-- What is read of a segment, from gate to gate.
use Rattle.std.specs.Prelude.{◌≡◌, ◌+◌, ℕ, Bool, true, false, List, [], ◌∷◌, ◌++◌, length, Option, Some, None}
use Rattle.pac_ops.specs.declared.batch.Batch.{Batch}
use Rattle.pac_ops.specs.declared.transaction.Txn.{Txn}
use Rattle.pac_outside.specs.Disk.{DiskHistory, IfKnown}
use Rattle.pac_types.specs.Typing.{CatalogueState}
use Rattle.pac_log.specs.declared.damage.DamageKind.{DamageKind}
use Rattle.pac_log.specs.declared.header.Header.{Header}
use Rattle.pac_log.specs.declared.position.NextGate.{NextGate}
use Rattle.pac_log.specs.Logs.{log_prefix, number_after, HasGate, HoldsLog}
use Rattle.pac_log.specs.Places.{IsAfter}
use Rattle.pac_log.specs.Reading.{IsDamaged, StandsAfter}
use Rattle.pac_check.specs.declared.info.SlotInfo.{SlotInfo}
use Rattle.pac_restore.specs.Batches.{txns_by_batch, txns_in, FitBatches, RunOn}

-- from one gate to another these batches were read, on whatever device
pub record AreRead (old new : NextGate) (batches : List Batch) : Type 0 where
  pub catalogue : new.catalogue ≡ old.catalogue
  pub headed : new.header ≡ old.header
  pub runs : RunOn old.txns batches
  pub fit : FitBatches old.catalogue batches
  pub counted : new.txns ≡ old.txns + length (txns_in batches)

-- where some batches stand before the old gate in the image, these stand after them, before the new one
abbrev pub ReadsFurther : Header → List (List Txn) → NextGate → NextGate → List Batch → List ℕ → Type 0
ReadsFurther header before old new batches image = StandsAfter header before old image → StandsAfter header (before ++ txns_by_batch batches) new image

-- the gate is the one that the newest slot names, where one is open
abbrev pub IsAtNewest : Option SlotInfo → NextGate → Type 0
IsAtNewest None gate = Unit {0}
IsAtNewest (Some info) gate = (gate.place ≡ info.place) × (gate.txns ≡ info.txns)

-- the image is that of a log with these batches, and the gate is the one after them
abbrev pub HoldsTo : Header → CatalogueState → List (List Txn) → NextGate → List ℕ → Type 0
HoldsTo header catalogue batches gate image = HoldsLog header catalogue batches image × IsAfter header batches gate

-- a log that begins so has this first damage
abbrev pub IsDamagedAfter : Header → CatalogueState → ℕ → DamageKind → List ℕ → Type 0
IsDamagedAfter header catalogue at kind image = (batches : List (List Txn)) × IsDamaged header catalogue batches (record { at = at; kind = kind }) image

-- no gate that comes before one of these batches is the one that the newest slot names
abbrev pub NoneIs : SlotInfo → Header → List (List Txn) → Type 0
NoneIs info header batches = (before after : List (List Txn)) (txns : List Txn) → batches ≡ before ++ (txns ∷ after) → info.place ≡ length (log_prefix header before) → info.txns ≡ number_after header before → ⊥

-- Batches were read and forgotten, up to the gate that the newest slot names, or to the log's end.
pub record IsSought (known : Option DiskHistory) (newest : Option SlotInfo) (old new : NextGate) (met : Bool) : Type 0 where
  pub batches : List Batch
  pub read : AreRead old new batches
  pub there : met ≡ true → IsAtNewest newest new
  pub start : newest ≡ None → batches ≡ []
  pub reads : (header : Header) (before : List (List Txn)) → IfKnown (λ h. ReadsFurther header before old new batches h.now.seen) known
  pub missed : met ≡ false → (info : SlotInfo) × (newest ≡ Some info)
      × ((header : Header) → IfKnown (λ h. StandsAfter header [] old h.now.seen → HoldsLog header old.catalogue (txns_by_batch batches) h.now.seen × (HasGate header (txns_by_batch batches) info.place info.txns → ⊥)) known)

-- Batches were read to the log's end, and taken.
pub record IsHandedOn (known : Option DiskHistory) (old new : NextGate) (took : List Batch → Type 0) : Type 0 where
  pub batches : List Batch
  pub read : AreRead old new batches
  pub taken : took batches
  pub reads : (header : Header) (before : List (List Txn)) → IfKnown (λ h. StandsAfter header before old h.now.seen → HoldsTo header old.catalogue (before ++ txns_by_batch batches) new h.now.seen) known

-- A log was read from its first gate to its end, and the batches after the gate that the newest slot names were taken.
pub record IsReadFrom (known : Option DiskHistory) (newest : Option SlotInfo) (old new : NextGate) (took : List Batch → Type 0) : Type 0 where
  pub gate : NextGate
  pub before : List Batch
  pub after : List Batch
  pub first : AreRead old gate before
  pub rest : AreRead gate new after
  pub there : IsAtNewest newest gate
  pub start : newest ≡ None → before ≡ []
  pub taken : took after
  pub reads : (header : Header) → IfKnown (λ h. StandsAfter header [] old h.now.seen → IsAfter header (txns_by_batch before) gate × HoldsTo header old.catalogue (txns_by_batch before ++ txns_by_batch after) new h.now.seen) known

-- the newest slot names no gate of the log
abbrev pub IsMissed : Option DiskHistory → Option SlotInfo → NextGate → Type 0
IsMissed known newest old = (info : SlotInfo) × (newest ≡ Some info)
    × ((header : Header) → IfKnown (λ h. StandsAfter header [] old h.now.seen → (batches : List (List Txn)) × HoldsLog header old.catalogue batches h.now.seen × (HasGate header batches info.place info.txns → ⊥)) known)
