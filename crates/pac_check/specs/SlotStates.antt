-- What stands in a slot, and which of two slots is the newest.
use Rattle.std.specs.Prelude.{◌≡◌, ◌<◌, ℕ, List, [], ◌∷◌, length, Option, Some, None, Result, Ok, nat_eq, nat_lt, IsSomeAnd, if◌then◌else◌}
use Rattle.pac_value.specs.State.{Tables}
use Rattle.pac_value.specs.Expressions.{◌>>=◌}
use Rattle.pac_outside.specs.Devices.{other_log}
use Rattle.pac_outside.specs.GateByte.{IsOpen}
use Rattle.pac_outside.specs.declared.devices.LogName.{LogName}
use Rattle.pac_outside.specs.declared.devices.LogName.TheVariants.{Log}
use Rattle.pac_types.specs.declared.table.Table.{Table}
use Rattle.pac_check.specs.declared.damage.SlotFault.{SlotFault}
use Rattle.pac_check.specs.declared.head.Head.{Head}
use Rattle.pac_check.specs.declared.state.SlotState.{SlotState}
use Rattle.pac_check.specs.declared.state.SlotState.TheVariants.{Empty, Closed, Open}
use Rattle.pac_check.specs.declared.info.SlotName.{SlotName}
use Rattle.pac_check.specs.declared.info.SlotName.TheVariants.{A, B}
use Rattle.pac_check.specs.declared.info.SlotInfo.{SlotInfo}
use Rattle.pac_check.specs.declared.head.SlotForm.{SlotForm}
use Rattle.pac_check.specs.declared.slots.Slots.{Slots}
use Rattle.pac_check.specs.Checkpoints.{Checkpoint, IsCheckpoint, checkpoint_bytes, head_with, segment_in}
use Rattle.pac_check.specs.CheckpointReading.{next_checkpoint, next_front, head_alone}
use Rattle.pac_check.specs.Saved.{checkpoint_of}

-- an open slot, by the head of its checkpoint
abbrev pub opened : Result Head SlotFault → Result SlotState SlotFault
opened read = read >>= λ head. Ok (Open head)

-- What stands in a slot of these tables: no byte, a gate byte that isn't 1, or an open gate and a checkpoint. Or the first
-- fault of what stands after an open gate.
abbrev pub slot_read : List Table → List ℕ → Result SlotState SlotFault
slot_read tables [] = Ok Empty
slot_read tables (gate ∷ bytes) = if nat_eq gate 1 then opened (head_alone (next_checkpoint tables (record { at = 1; bytes = bytes }))) else Ok Closed

-- the same by what stands before the number of tables, which no catalogue is needed for
abbrev pub front_read : List ℕ → Result SlotState SlotFault
front_read [] = Ok Empty
front_read (gate ∷ bytes) = if nat_eq gate 1 then (next_front (record { at = 1; bytes = bytes }) >>= λ front. Ok (Open front.0)) else Ok Closed

-- the image begins as that of a slot in this state
abbrev pub IsSlotFront : SlotState → List ℕ → Type 0
IsSlotFront state image = front_read image ≡ Ok state

-- the image is that of a slot in this state
abbrev pub IsSlot : List Table → SlotState → List ℕ → Type 0
IsSlot tables state image = slot_read tables image ≡ Ok state

-- the image is that of a slot with this checkpoint
pub record HoldsCheckpoint (tables : List Table) (checkpoint : Checkpoint) (image : List ℕ) : Type 0 where
  pub form : IsCheckpoint tables checkpoint
  pub opens : IsOpen [] (checkpoint_bytes checkpoint) image

-- the image is that of a slot with the checkpoint of these rows
abbrev pub HoldsRows : List Table → Head → Tables → List ℕ → Type 0
HoldsRows tables head held = HoldsCheckpoint tables (checkpoint_of (length tables) head held)

-- A slot in this state is open where a checkpoint stands in the image, with that one's head, and nowhere else.
pub record OpensExactly (tables : List Table) (state : SlotState) (image : List ℕ) : Type 0 where
  pub there : (head : Head) → state ≡ Open head → (checkpoint : Checkpoint) × HoldsCheckpoint tables checkpoint image × (checkpoint.head ≡ head)
  pub open_there : (checkpoint : Checkpoint) → HoldsCheckpoint tables checkpoint image → state ≡ Open checkpoint.head

-- one thing for each slot, by the slot's name
abbrev pub by_slot : {X : Type 0} → SlotName → X → X → X
by_slot A a b = a
by_slot B a b = b

-- what is known of a slot that is open with this head
abbrev pub info_with : SlotName → Head → SlotInfo
info_with slot head = record { slot = slot; txns = head.txns; place = head.place; segment = segment_in head.form }

-- what is known of an open slot
abbrev pub info_of : SlotName → SlotState → Option SlotInfo
info_of slot Empty = None
info_of slot Closed = None
info_of slot (Open head) = Some (info_with slot head)

-- how many transactions are in what is known of an open slot; 0 where none is open
abbrev pub saved_txns : Option SlotInfo → ℕ
saved_txns None = 0
saved_txns (Some info) = info.txns

-- the one with more transactions, and of two with as many the first
abbrev pub with_more : Option SlotInfo → Option SlotInfo → Option SlotInfo
with_more None b = b
with_more (Some a) None = Some a
with_more (Some a) (Some b) = if nat_lt a.txns b.txns then Some b else Some a

-- the open slot with the greater number of transactions, slot a where they are equal
abbrev pub newest_among : SlotState → SlotState → Option SlotInfo
newest_among a b = with_more (info_of A a) (info_of B b)

abbrev pub newest_of : Slots → Option SlotInfo
newest_of slots = newest_among slots.a slots.b

-- the segment that the newest slot names, and the log where none is open
abbrev pub active_in : Option SlotInfo → LogName
active_in None = Log
active_in (Some info) = info.segment

abbrev pub active_of : Slots → LogName
active_of slots = active_in (newest_of slots)

-- a slot has a checkpoint of these rows, with the numbers and the segment that are known of it
abbrev pub HoldsInfo : List Table → SlotInfo → Tables → List ℕ → Type 0
HoldsInfo tables info held image = (form : SlotForm) × (info.segment ≡ segment_in form) × HoldsRows tables (record { txns = info.txns; place = info.place; form = form }) held image

-- the slot that isn't the newest, slot a where none is open
abbrev pub spare_beside : Option SlotInfo → SlotName
spare_beside None = A
spare_beside (Some info) = by_slot info.slot B A

-- the slot that is written next
abbrev pub spare_of : Slots → SlotName
spare_of slots = spare_beside (newest_of slots)

-- the spare slot was closed
abbrev pub closed_slots : Slots → Slots
closed_slots slots = by_slot (spare_of slots) (record slots { a = Closed }) (record slots { b = Closed })

-- the number is above that of a slot, where there is one
abbrev pub IsAbove : Option SlotInfo → ℕ → Type 0
IsAbove None txns = Unit {0}
IsAbove (Some info) txns = info.txns < txns

-- the head of the checkpoint that comes next: it names the segment that isn't active
abbrev pub coming_head : Slots → ℕ → ℕ → Head
coming_head slots txns place = head_with txns place (other_log (active_of slots))

-- a checkpoint with this head and this text is ready
abbrev pub with_ready : Head → List ℕ → Slots → Slots
with_ready head text slots = record slots { ready = Some (record { head = head; text = text }) }

abbrev pub HasReadyText : Slots → Head → List ℕ → Type 0
HasReadyText slots head text = slots.ready ≡ Some (record { head = head; text = text })

abbrev pub HasAnyReady : Slots → Type 0
HasAnyReady slots = IsSomeAnd slots.ready (λ ready. Unit {0})

-- a checkpoint with this head was put into the spare slot, and none is ready
abbrev pub published_slots : Head → Slots → Slots
published_slots head slots = by_slot (spare_of slots) (record slots { a = Open head; ready = None }) (record slots { b = Open head; ready = None })
