-- The calls of a save, said of what is known of all devices.
use Rattle.std.proofs.Common.{◌≡◌, ℕ, List, [], Option, Some, None, Result, Ok, Err, OnOk, refl, sym, subst}
use Rattle.pac_value.specs.State.{Tables}
use Rattle.pac_ops.specs.declared.transaction.Txn.{Txn}
use Rattle.pac_outside.specs.Devices.{RunLeaves, WhileAllKnown, device_at, log_at, log_named, other_log, with_device}
use Rattle.pac_outside.specs.Devices.WhichDevice.{the_slot_a, the_slot_b}
use Rattle.pac_outside.specs.Disk.{BothKnown, DiskHistory, IfKnown, LeavesOnly, LeavesTorn}
use Rattle.pac_outside.specs.GateByte.{IsOpen, IsShut, OneImage}
use Rattle.pac_outside.specs.declared.devices.Devices.{Devices}
use Rattle.pac_outside.specs.declared.devices.LogName.{LogName}
use Rattle.pac_outside.specs.declared.devices.LogName.TheVariants.{Log, LogB}
use Rattle.pac_outside.proofs.Histories.{weaken}
use Rattle.pac_outside.proofs.KnownDevices.{one-known}
use Rattle.pac_outside.proofs.Runs.{four}
use Rattle.pac_types.specs.Typing.{CatalogueState}
use Rattle.pac_log.specs.declared.header.Header.{Header}
use Rattle.pac_log.specs.declared.header.HeaderForm.TheVariants.{Later}
use Rattle.pac_log.specs.Logs.{header_with, HoldsLog}
use Rattle.pac_check.specs.declared.info.SlotName.{SlotName}
use Rattle.pac_check.specs.declared.info.SlotName.TheVariants.{A, B}
use Rattle.pac_check.specs.declared.slots.Slots.{Slots}
use Rattle.pac_check.specs.declared.state.SlotState.{SlotState}
use Rattle.pac_check.specs.declared.state.SlotState.TheVariants.{Empty, Closed, Open}
use Rattle.pac_check.specs.Replacing.{BeginsAs, HasByte, IsOldOrShut, IsShutOrNew}
use Rattle.pac_check.specs.SlotStates.{by_slot, closed_slots, newest_of, spare_of}
use Rattle.pac_check.proofs.NewestLemmas.{closed_a, closed_b}
use Rattle.pac_store.specs.Saving.{IsReadyFor, KeepsBy, KnownStore, StandsStill, SwitchesByGate, active_by, closed_by, last_number, published_by, published_bytes, slot_named, spare_by}
use Rattle.pac_store.specs.Stands.{IsShutOrPrefix}
use Rattle.pac_store.proofs.SavingLemmas.{begun, beginning, closed, closing, published, publishing}
use Rattle.pac_store.specs.Writing.{StandsBegun}

-- a slot that is shut, or open with a prefix, has a byte
has-byte : (catalogue : CatalogueState) (history : List Txn) (most : ℕ) (state : SlotState) (image : List ℕ) → IsShutOrPrefix catalogue history most state image → HasByte state
has-byte catalogue history most Empty image is = absurd is
has-byte catalogue history most Closed image is = tt
has-byte catalogue history most (Open head) image is = tt

module _ (text : List ℕ) (c : CatalogueState) (h : List Txn) (known : KnownStore) where
  spare-has-byte : (slot : SlotName) (devices : Devices DiskHistory) → StandsStill text c h known devices → HasByte (by_slot slot known.a known.b)
  spare-has-byte A devices is = has-byte c h _ known.a devices.slot_a.now.seen is.slot_a.has
  spare-has-byte B devices is = has-byte c h _ known.b devices.slot_b.now.seen is.slot_b.has

  -- ---- the spare slot is called

  -- a relation of the spare slot's histories, while the other one stays, leads to one of all
  module _ (P : Devices DiskHistory → Type 0) (Q : DiskHistory → DiskHistory → Type 0) (R : Devices DiskHistory → Devices DiskHistory → Type 0) where
    one-slot : (slot : SlotName) → ((devices : Devices DiskHistory) (new : DiskHistory) → P devices → Q (device_at (slot_named slot) devices) new → R devices (with_device (slot_named slot) new devices)) → (l m a b a' b' : Option DiskHistory)
        → ((devices : Devices DiskHistory) → P devices → BothKnown Q (by_slot slot a b) (by_slot slot a' b')) → by_slot slot b' a' ≡ by_slot slot b a → WhileAllKnown P R (four l m a b) (four l m a' b')
    one-slot A step l m a b a' b' run same = subst (λ (y : Option DiskHistory). WhileAllKnown P R (four l m a b) (four l m a' y)) (sym same) (one-known P R Q the_slot_a step (four l m a b) a' run)
    one-slot B step l m a b a' b' run same = subst (λ (x : Option DiskHistory). WhileAllKnown P R (four l m a b) (four l m x b')) (sym same) (one-known P R Q the_slot_b step (four l m a b) b' run)

  -- ---- closing

  pub close-keeps : (l m a b a' b' : Option DiskHistory) → (HasByte (by_slot (spare_by known) known.a known.b) → BothKnown (λ o n. LeavesOnly (IsOldOrShut o.now.seen) o n) (by_slot (spare_by known) a b) (by_slot (spare_by known) a' b'))
      → by_slot (spare_by known) b' a' ≡ by_slot (spare_by known) b a → WhileAllKnown (StandsStill text c h known) (RunLeaves (KeepsBy (active_by known) text c h known)) (four l m a b) (four l m a' b')
  close-keeps l m a b a' b' run same = one-slot (StandsStill text c h known) (λ o n. LeavesOnly (IsOldOrShut o.now.seen) o n) (RunLeaves (KeepsBy (active_by known) text c h known)) (spare_by known)
      (λ devices n is leaves. closing text c h known devices is n leaves) l m a b a' b' (λ devices is. run (spare-has-byte (spare_by known) devices is)) same

  pub close-stands : (l m a b a' b' : Option DiskHistory) → BothKnown (λ o n. OneImage (IsShut []) n.now) (by_slot (spare_by known) a b) (by_slot (spare_by known) a' b') → by_slot (spare_by known) b' a' ≡ by_slot (spare_by known) b a
      → WhileAllKnown (StandsStill text c h known) (λ old new. StandsStill text c h (closed_by known) new) (four l m a b) (four l m a' b')
  close-stands l m a b a' b' run same = one-slot (StandsStill text c h known) (λ o n. OneImage (IsShut []) n.now) (λ old new. StandsStill text c h (closed_by known) new) (spare_by known)
      (λ devices n is shut. closed text c h known devices is n shut) l m a b a' b' (λ devices is. run) same

  -- ---- publishing

  module _ (held : Tables) (ready : IsReadyFor text c h known held) where
    abbrev bytes : List ℕ
    bytes = published_bytes text c held known

    pub publish-keeps : (l m a b a' b' : Option DiskHistory) → BothKnown (λ o n. LeavesOnly (IsShutOrNew bytes) o n) (by_slot (spare_by known) a b) (by_slot (spare_by known) a' b') → by_slot (spare_by known) b' a' ≡ by_slot (spare_by known) b a
        → WhileAllKnown (StandsBegun text c h known) (RunLeaves (SwitchesByGate text c h held known)) (four l m a b) (four l m a' b')
    publish-keeps l m a b a' b' run same = one-slot (StandsBegun text c h known) (λ o n. LeavesOnly (IsShutOrNew bytes) o n) (RunLeaves (SwitchesByGate text c h held known)) (spare_by known)
        (λ devices n is leaves. publishing text c h known devices is.0 held ready is.1 n leaves) l m a b a' b' (λ devices is. run) same

    pub publish-stands : (l m a b a' b' : Option DiskHistory) → BothKnown (λ o n. OneImage (IsOpen [] bytes) n.now) (by_slot (spare_by known) a b) (by_slot (spare_by known) a' b') → by_slot (spare_by known) b' a' ≡ by_slot (spare_by known) b a
        → WhileAllKnown (StandsBegun text c h known) (λ old new. StandsStill text c h (published_by text known) new) (four l m a b) (four l m a' b')
    publish-stands l m a b a' b' run same = one-slot (StandsBegun text c h known) (λ o n. OneImage (IsOpen [] bytes) n.now) (λ old new. StandsStill text c h (published_by text known) new) (spare_by known)
        (λ devices n is opens. published text c h known devices is.0 held ready is.1 n opens) l m a b a' b' (λ devices is. run) same

  -- ---- beginning

  abbrev BeginsKept : LogName → Type 0
  BeginsKept name = (piece : List ℕ) (devices : Devices (Option DiskHistory)) (n : Option DiskHistory) → BothKnown (LeavesTorn 0 piece) (log_at (other_log name) devices) n
      → WhileAllKnown (StandsStill text c h known) (RunLeaves (KeepsBy name text c h known)) devices (with_device (log_named (other_log name)) n devices)

  pub begin-keeps : (name : LogName) → active_by known ≡ name → BeginsKept name
  begin-keeps name is = subst BeginsKept is (λ piece devices n run. one-known (StandsStill text c h known) (RunLeaves (KeepsBy (active_by known) text c h known)) (LeavesTorn 0 piece) (log_named (other_log (active_by known)))
      (λ d new stands torn. beginning text c h known d stands new (weaken _ (λ image. Unit {0}) (log_at (other_log (active_by known)) d) new (λ image which. tt) torn)) devices n (λ d stands. run))

  -- the log that was begun has the header of the next segment
  module _ (header : Header) (catalogue : CatalogueState) (headed : header ≡ header_with (Later (last_number text known)) text) (same : catalogue ≡ c) where
    of-next : (state : DiskHistory) → OneImage (HoldsLog header catalogue []) state.now → OneImage (HoldsLog (header_with (Later (last_number text known)) text) c []) state.now
    of-next state holds = subst (λ (k : CatalogueState). OneImage (HoldsLog (header_with (Later (last_number text known)) text) k []) state.now) same (subst (λ (x : Header). OneImage (HoldsLog x catalogue []) state.now) headed holds)

    abbrev BeginsNext : LogName → Type 0
    BeginsNext name = (devices : Devices (Option DiskHistory)) (n : Option DiskHistory) → BothKnown (λ o n. OneImage (HoldsLog header catalogue []) n.now) (log_at (other_log name) devices) n
        → WhileAllKnown (StandsStill text c h known) (λ old new. StandsBegun text c h known new) devices (with_device (log_named (other_log name)) n devices)

    pub begin-stands : (name : LogName) → active_by known ≡ name → BeginsNext name
    begin-stands name is = subst BeginsNext is (λ devices n run. one-known (StandsStill text c h known) (λ old new. StandsBegun text c h known new) (λ o n. OneImage (HoldsLog header catalogue []) n.now) (log_named (other_log (active_by known)))
        (λ d new stands holds. (begun text c h known d stands new, subst (λ (there : DiskHistory). OneImage (HoldsLog (header_with (Later (last_number text known)) text) c []) there.now) (sym (put-log (other_log (active_by known)) d new)) (of-next new holds))) devices n (λ d stands. run))
      where
        put-log : (log : LogName) (d : Devices DiskHistory) (new : DiskHistory) → log_at log (with_device (log_named log) new d) ≡ new
        put-log Log d new = refl
        put-log LogB d new = refl

-- ---- how the slots begin after they were closed

pub closed-begins : (slots : Slots) (a b a' b' : Option DiskHistory) → IfKnown (λ o. OneImage (BeginsAs slots.a) o.now) a → IfKnown (λ o. OneImage (BeginsAs slots.b) o.now) b
    → BothKnown (λ o n. OneImage (IsShut []) n.now) (by_slot (spare_of slots) a b) (by_slot (spare_of slots) a' b') → by_slot (spare_of slots) b' a' ≡ by_slot (spare_of slots) b a
    → IfKnown (λ n. OneImage (BeginsAs (closed_slots slots).a) n.now) a' × IfKnown (λ n. OneImage (BeginsAs (closed_slots slots).b) n.now) b'
closed-begins slots a b a' b' begins_a begins_b shut other = go (spare_of slots) shut other
  where
    after : (old new : Option DiskHistory) → BothKnown (λ o n. OneImage (IsShut []) n.now) old new → IfKnown (λ n. OneImage (BeginsAs Closed) n.now) new
    after None None is = tt
    after None (Some n) is = absurd is
    after (Some o) None is = absurd is
    after (Some o) (Some n) is = is

    go : (slot : SlotName) → BothKnown (λ o n. OneImage (IsShut []) n.now) (by_slot slot a b) (by_slot slot a' b') → by_slot slot b' a' ≡ by_slot slot b a
        → IfKnown (λ n. OneImage (BeginsAs (by_slot slot (record slots { a = Closed }) (record slots { b = Closed })).a) n.now) a' × IfKnown (λ n. OneImage (BeginsAs (by_slot slot (record slots { a = Closed }) (record slots { b = Closed })).b) n.now) b'
    go A is same = (after a a' is, subst (λ (k : Option DiskHistory). IfKnown (λ n. OneImage (BeginsAs slots.b) n.now) k) (sym same) begins_b)
    go B is same = (subst (λ (k : Option DiskHistory). IfKnown (λ n. OneImage (BeginsAs slots.a) n.now) k) (sym same) begins_a, after b b' is)

-- two facts of one outcome
pub on_both : {T E : Type 0} (result : Result T E) {P Q R : Type 0} → (P → Q → R) → OnOk result P → OnOk result Q → OnOk result R
on_both (Ok x) step first second = step first second
on_both (Err e) step first second = tt

-- what holds afterwards alone
pub after-both : (P : DiskHistory → Type 0) (old new : Option DiskHistory) → BothKnown (λ o n. P n) old new → IfKnown P new
after-both P None None is = tt
after-both P None (Some n) is = absurd is
after-both P (Some o) None is = absurd is
after-both P (Some o) (Some n) is = is

-- closing the slot that isn't the newest leaves the newest, and what is ready
pub closed-newest-of : (slots : Slots) → newest_of (closed_slots slots) ≡ newest_of slots
closed-newest-of slots = go (spare_of slots) refl
  where
    go : (s : SlotName) → spare_of slots ≡ s → newest_of (by_slot s (record slots { a = Closed }) (record slots { b = Closed })) ≡ newest_of slots
    go A is = closed_a slots.a slots.b is
    go B is = closed_b slots.a slots.b is

pub closed-ready : (slots : Slots) → (closed_slots slots).ready ≡ slots.ready
closed-ready slots = go (spare_of slots)
  where
    go : (s : SlotName) → (by_slot s (record slots { a = Closed }) (record slots { b = Closed })).ready ≡ slots.ready
    go A = refl
    go B = refl
