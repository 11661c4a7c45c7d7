-- What is said of the bytes that were read is said of the input that a store is made of, and of the devices.
use Rattle.std.proofs.Common.{◌≡◌, ◌≤◌, ℕ, List, ◌++◌, length, Option, Some, None, Result, Err, IfSome, refl, sym, subst}
use Rattle.std.specs.Io.KnownBytes.{prepend_known}
use Rattle.pac_base.specs.declared.refusal.Refusal.{Refusal}
use Rattle.pac_base.specs.declared.refusal.Refusal.TheVariants as refusal
use Rattle.pac_outside.specs.Content.{Gave, IsAtEnd}
use Rattle.pac_outside.specs.Devices.{OneFaulted, OnceKnown, IfAllKnown, all_known}
use Rattle.pac_outside.specs.Disk.{DiskHistory}
use Rattle.pac_outside.specs.declared.failed.ReadError.{ReadError}
use Rattle.pac_outside.specs.declared.failed.ReadError.TheVariants as read
use Rattle.pac_outside.specs.declared.devices.Devices.{Devices}
use Rattle.pac_store.specs.Made.{IsInUse}
use Rattle.pac_store.specs.declared.device.DeviceName.{DeviceName}
use Rattle.pac_store.specs.declared.errors.MakeError.{MakeError}
use Rattle.pac_store.specs.declared.errors.MakeError.TheVariants.{NotEmpty, DiskFault, NoMemory}
use Rattle.pac_flat.specs.declared.acceptance.AcceptFault.{AcceptFault}
use Rattle.pac_flat.specs.Unaccepted.{IsUnaccepted}
use Rattle.pac_flat.proofs.OneAcceptance.{accepted_or_not}
use Rattle.pac_main.specs.Causes.{GivesNoText, InitStops}
use Rattle.pac_main.specs.Init.{AreUntouched, IsAcceptedInput, IsNoStoreFor, IsNoStoreText, IsStoreText}
use Rattle.pac_main.specs.Inputs.{IsAcceptedText, input_of_accept, input_of_read}
use Rattle.pac_main.specs.Stop.{stop_of_make}
use Rattle.pac_main.specs.Streams.{Observed, ObservedDevices, AnyFaulted}
use Rattle.pac_main.proofs.ExplainLemmas.{the_cause, unexplained_longer}
use Rattle.pac_main.proofs.InputLemmas.{whole-input}

-- ---- the text

with_store : (old : Option (List ℕ)) (items : List ℕ) → IfSome old (λ all. all ≡ items) → IsAcceptedText items → IsStoreText items old
with_store old items whole has = (has, whole)

-- a text that a store can be made of is all of the input
pub store-text : (old new : Option (List ℕ)) (items : List ℕ) → Gave old items new → (length items ≤ 65536 → IsAtEnd new) → IsAcceptedText items → IsStoreText items old
store-text old new items gave at_end has = with_store old items (whole-input old new items gave (at_end has.1.has.reads.short)) has

no_store : (text : List ℕ) (fault : AcceptFault) → IsUnaccepted text fault → IsNoStoreText text fault
no_store text fault h = let cause = the_cause text fault h in record { is = cause.is; only = cause.only; none = λ catalogue is. accepted_or_not text catalogue fault is h }

no_store_known : (items : List ℕ) (new : Option (List ℕ)) (fault : AcceptFault) → (length items ≤ 65536 → IsAtEnd new) → IsUnaccepted items fault → IsNoStoreFor (prepend_known items new) fault
no_store_known items None fault at_end is = tt
no_store_known items (Some rest) fault at_end is = no_store (items ++ rest) fault (unexplained_longer items rest fault at_end is)

-- an input that wasn't read has failed, or there was no memory for it
pub text-unread : {T : Type 0} (source : Observed) (error : ReadError) → (◌≡◌ {A = Result T ReadError} (Err error) (Err read.Failed) → AnyFaulted source) → GivesNoText source (input_of_read error)
text-unread source read.Failed faulted = faulted refl
text-unread source read.NoMemory faulted = tt

-- a text that is refused, is refused of the input
pub text-refused : {T : Type 0} (source : Observed) (new : Option (List ℕ)) (items : List ℕ) (error : Refusal AcceptFault) → Gave source.before items new → (length items ≤ 65536 → IsAtEnd new)
    → ((fault : AcceptFault) → ◌≡◌ {A = Result T (Refusal AcceptFault)} (Err error) (Err (refusal.Fault fault)) → IsUnaccepted items fault) → GivesNoText source (input_of_accept error)
text-refused source new items (refusal.Fault fault) gave at_end is = subst (λ (o : Option (List ℕ)). IsNoStoreFor o fault) (sym gave) (no_store_known items new fault at_end (is fault refl))
text-refused source new items refusal.NoMemory gave at_end is = tt

-- ---- the devices

same_reported : (reported : Option (Devices DiskHistory)) → OnceKnown (λ old new. new ≡ old) reported reported
same_reported None = tt
same_reported (Some histories) = refl

-- devices that are not called are untouched
pub not-called : (knowns : Devices (Option DiskHistory)) (faults : Devices ℕ) → AreUntouched (record { before = knowns; after = knowns; faults_before = faults; faults_after = faults })
not-called knowns faults = record { kept = same_reported (all_known knowns); quiet = refl }

-- why a store isn't made
pub not-made : {T : Type 0} (source : Observed) (devices : ObservedDevices) (error : MakeError) → IsAcceptedInput source.before
    → ((device : DeviceName) (length : ℕ) → ◌≡◌ {A = Result T MakeError} (Err error) (Err (NotEmpty device length)) → IfAllKnown (IsInUse device length) devices.before devices.after)
    → ((◌≡◌ {A = Result T MakeError} (Err error) (Err DiskFault) → ⊥) → IfAllKnown (λ old new. new ≡ old) devices.before devices.after)
    → (◌≡◌ {A = Result T MakeError} (Err error) (Err DiskFault) → OneFaulted devices.faults_before devices.faults_after)
    → ((◌≡◌ {A = Result T MakeError} (Err error) (Err DiskFault) → ⊥) → devices.faults_after ≡ devices.faults_before) → InitStops source devices (stop_of_make error)
not-made source devices (NotEmpty device length) accepted in_use kept counted quiet = (accepted, record { kept = kept (λ is. absurd cc); quiet = quiet (λ is. absurd cc) }, in_use device length refl)
not-made source devices DiskFault accepted in_use kept counted quiet = (accepted, counted refl)
not-made source devices NoMemory accepted in_use kept counted quiet = record { kept = kept (λ is. absurd cc); quiet = quiet (λ is. absurd cc) }
