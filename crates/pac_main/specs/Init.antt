-- How `init` ends.
use Rattle.std.specs.Prelude.{◌≡◌, ◌≢◌, ℕ, List, [], ◌∷◌, Option, IfSome, IsSomeAnd}
use Rattle.pac_outside.specs.Devices.{OneFaulted, IfAllKnown, all_known}
use Rattle.pac_types.specs.Typing.{CatalogueState}
use Rattle.pac_types.specs.Accepted.{IsAccepted}
use Rattle.pac_store.specs.Made.{AreEmpty, IsInUse, MakesStore}
use Rattle.pac_store.specs.declared.device.DeviceName.{DeviceName}
use Rattle.pac_flat.specs.declared.acceptance.AcceptFault.{AcceptFault}
use Rattle.pac_flat.specs.Unaccepted.{IsUnaccepted}
use Rattle.pac_main.specs.Inputs.{IsAcceptedText}
use Rattle.pac_main.specs.Streams.{Observed, ObservedDevices, AnyFaulted, IsFaultless, IsReported, IsOneOf}
use Rattle.pac_main.specs.Stop.{not_empty_line, unaccepted_line}

-- a store can be made of the text, and the input is this text where the source's bytes are known
abbrev pub IsStoreText : List ℕ → Option (List ℕ) → Type 0
IsStoreText text input = IsAcceptedText text × IfSome input (λ whole. whole ≡ text)

-- a store can be made of the input
abbrev pub IsAcceptedInput : Option (List ℕ) → Type 0
IsAcceptedInput input = (text : List ℕ) × IsStoreText text input

-- no store can be made of the text, for this cause and for no other
pub record IsNoStoreText (text : List ℕ) (fault : AcceptFault) : Type 0 where
  pub is : IsUnaccepted text fault
  pub only : (other : AcceptFault) → IsUnaccepted text other → other ≡ fault
  pub none : (catalogue : CatalogueState) → IsAccepted text catalogue → ⊥

-- none can be made of the input, for this cause, where the source's bytes are known
abbrev pub IsNoStoreFor : Option (List ℕ) → AcceptFault → Type 0
IsNoStoreFor input fault = IfSome input (λ text. IsNoStoreText text fault)

-- the input was such a text, and the devices have its store
abbrev pub IsStoreOf : Option (List ℕ) → ObservedDevices → Type 0
IsStoreOf input devices = (text : List ℕ) × IsStoreText text input × IfAllKnown (MakesStore text) devices.before devices.after

-- nothing was written to a device, and no call of one failed
pub record AreUntouched (devices : ObservedDevices) : Type 0 where
  pub kept : IfAllKnown (λ old new. new ≡ old) devices.before devices.after
  pub quiet : devices.faults_after ≡ devices.faults_before

-- how `init` ends: the statuses that it may have, and a line for each that has a cause
pub record InitEnds (status : ℕ) (input errors : Observed) (devices : ObservedDevices) : Type 0 where
  pub statuses : IsOneOf status (0 ∷ 2 ∷ 3 ∷ 6 ∷ 8 ∷ 9 ∷ [])
  -- a store can be made of the input, unless the status says otherwise
  pub accepted : IsOneOf status (0 ∷ 3 ∷ 8 ∷ []) → IsAcceptedInput input.before
  pub done : status ≡ 0 → IsStoreOf input.before devices
  pub refused : status ≡ 2 → (fault : AcceptFault) × IsNoStoreFor input.before fault × IsReported errors (unaccepted_line fault)
  pub not_empty : status ≡ 3 → (device : DeviceName) × (length : ℕ) × IfAllKnown (IsInUse device length) devices.before devices.after × IsReported errors (not_empty_line device length)
  pub input_fault : status ≡ 6 → AnyFaulted input
  pub disk_fault : status ≡ 8 → OneFaulted devices.faults_before devices.faults_after
  pub untouched : status ≢ 0 → status ≢ 8 → AreUntouched devices
  pub quiet : status ≡ 0 → devices.faults_after ≡ devices.faults_before
  -- a store is made of an accepted text on empty devices, where no fault was counted, or there was no memory
  pub complete : IsSomeAnd input.before IsAcceptedText → IsSomeAnd (all_known devices.before) AreEmpty → IsFaultless devices input → IsOneOf status (0 ∷ 9 ∷ [])
