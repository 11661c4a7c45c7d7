-- What was passed over, and then what was taken.
use Rattle.std.proofs.Common.{◌≡◌, ◌++◌, ℕ, Bool, true, false, List, [], Option, Some, None, refl, subst}
use Rattle.pac_ops.specs.declared.batch.Batch.{Batch}
use Rattle.pac_ops.specs.declared.transaction.Txn.{Txn}
use Rattle.pac_outside.specs.Disk.{DiskHistory, IfKnown}
use Rattle.pac_types.specs.Typing.{CatalogueState}
use Rattle.pac_log.specs.declared.damage.DamageKind.{DamageKind}
use Rattle.pac_log.specs.declared.header.Header.{Header}
use Rattle.pac_log.specs.declared.position.NextGate.{NextGate}
use Rattle.pac_log.specs.Logs.{HasGate, HoldsLog}
use Rattle.pac_log.specs.Places.{IsAfter}
use Rattle.pac_log.specs.Reading.{StandsAfter}
use Rattle.pac_check.specs.declared.info.SlotInfo.{SlotInfo}
use Rattle.pac_restore.specs.Batches.{txns_by_batch}
use Rattle.pac_restore.specs.Reads.{HoldsTo, IsDamagedAfter, IsMissed, IsReadFrom, IsSought, IsHandedOn, ReadsFurther}

pub read-all : (newest : Option SlotInfo) (old mid new : NextGate) (took : List Batch → Type 0) (known now : Option DiskHistory) → now ≡ known → IsSought known newest old mid true → IsHandedOn now mid new took → IsReadFrom known newest old new took
read-all newest old mid new took known now same sought moved = record {
  gate = mid;
  before = sought.batches;
  after = taken.batches;
  first = sought.read;
  rest = taken.read;
  there = sought.there refl;
  start = sought.start;
  taken = taken.taken;
  reads = λ header. both header known (sought.reads header []) (taken.reads header (txns_by_batch sought.batches));
}
  where
    taken : IsHandedOn known mid new took
    taken = subst (λ (k : Option DiskHistory). IsHandedOn k mid new took) same moved

    both : (header : Header) (known : Option DiskHistory) → IfKnown (λ h. ReadsFurther header [] old mid sought.batches h.now.seen) known
        → IfKnown (λ h. StandsAfter header (txns_by_batch sought.batches) mid h.now.seen → HoldsTo header mid.catalogue (txns_by_batch sought.batches ++ txns_by_batch taken.batches) new h.now.seen) known
        → IfKnown (λ h. StandsAfter header [] old h.now.seen → IsAfter header (txns_by_batch sought.batches) mid × HoldsTo header old.catalogue (txns_by_batch sought.batches ++ txns_by_batch taken.batches) new h.now.seen) known
    both header None first rest = tt
    both header (Some h) first rest = λ stands.
        ((first stands).after, subst (λ (c : CatalogueState). HoldsTo header c (txns_by_batch sought.batches ++ txns_by_batch taken.batches) new h.now.seen) sought.read.catalogue (rest (first stands)))

pub missed-from : (known : Option DiskHistory) (newest : Option SlotInfo) (old new : NextGate) → IsSought known newest old new false → IsMissed known newest old
missed-from known newest old new sought = let missed = sought.missed refl in (missed.0, missed.1, λ header. some header missed.0 known (missed.2 header))
  where
    some : (header : Header) (info : SlotInfo) (known : Option DiskHistory)
        → IfKnown (λ h. StandsAfter header [] old h.now.seen → HoldsLog header old.catalogue (txns_by_batch sought.batches) h.now.seen × (HasGate header (txns_by_batch sought.batches) info.place info.txns → ⊥)) known
        → IfKnown (λ h. StandsAfter header [] old h.now.seen → (batches : List (List Txn)) × HoldsLog header old.catalogue batches h.now.seen × (HasGate header batches info.place info.txns → ⊥)) known
    some header info None holds = tt
    some header info (Some h) holds = λ stands. (txns_by_batch sought.batches, (holds stands).0, (holds stands).1)

pub damage-from : (header : Header) (newest : Option SlotInfo) (old mid : NextGate) (met : Bool) (at : ℕ) (kind : DamageKind) (known now : Option DiskHistory) → now ≡ known → IsSought known newest old mid met
    → ((before : List (List Txn)) → IfKnown (λ h. StandsAfter header before mid h.now.seen → IsDamagedAfter header mid.catalogue at kind h.now.seen) now) → IfKnown (λ h. StandsAfter header [] old h.now.seen → IsDamagedAfter header old.catalogue at kind h.now.seen) known
damage-from header newest old mid met at kind known now same sought damaged = go known (sought.reads header []) (subst (λ (k : Option DiskHistory). IfKnown (λ h. StandsAfter header (txns_by_batch sought.batches) mid h.now.seen → IsDamagedAfter header mid.catalogue at kind h.now.seen) k) same (damaged (txns_by_batch sought.batches)))
  where
    go : (known : Option DiskHistory) → IfKnown (λ h. ReadsFurther header [] old mid sought.batches h.now.seen) known → IfKnown (λ h. StandsAfter header (txns_by_batch sought.batches) mid h.now.seen → IsDamagedAfter header mid.catalogue at kind h.now.seen) known
        → IfKnown (λ h. StandsAfter header [] old h.now.seen → IsDamagedAfter header old.catalogue at kind h.now.seen) known
    go None reads damaged = tt
    go (Some h) reads damaged = λ stands. subst (λ (c : CatalogueState). IsDamagedAfter header c at kind h.now.seen) sought.read.catalogue (damaged (reads stands))
