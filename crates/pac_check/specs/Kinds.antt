-- The kinds of damage in a slot, and how they are printed; faults of fields and values as those of a slot.
use Rattle.std.specs.Prelude.{ℕ, List, codes}
use Rattle.pac_base.specs.declared.refusal.Refusal.{Refusal}
use Rattle.pac_base.specs.declared.refusal.Refusal.TheVariants.{Fault, NoMemory as NoRoom}
use Rattle.pac_outside.specs.declared.failed.ReadError.{ReadError as PieceError}
use Rattle.pac_outside.specs.declared.failed.ReadError.TheVariants as piece
use Rattle.pac_bytes.specs.declared.fault.Short.{Short as AShort}
use Rattle.pac_bytes.specs.declared.fault.TypedFault.{TypedFault}
use Rattle.pac_bytes.specs.declared.fault.TypedFault.TheVariants as typed
use Rattle.pac_check.specs.declared.damage.SlotDamageKind.{SlotDamageKind}
use Rattle.pac_check.specs.declared.damage.SlotDamageKind.TheVariants.{Magic, Short, Range, Tag, Row, Order, Place}
use Rattle.pac_check.specs.declared.damage.SlotFault.{SlotFault}
use Rattle.pac_check.specs.declared.damage.CheckpointError.{CheckpointError}
use Rattle.pac_check.specs.declared.damage.CheckpointError.TheVariants as stop
use Rattle.pac_check.specs.declared.info.SlotName.{SlotName}
use Rattle.pac_check.specs.declared.errors.SlotError.{SlotError}
use Rattle.pac_check.specs.declared.errors.SlotError.TheVariants as error

-- a kind as it is printed
abbrev pub slot_damage_name : SlotDamageKind → List ℕ
slot_damage_name Magic = codes "Magic"
slot_damage_name Short = codes "Short"
slot_damage_name Range = codes "Range"
slot_damage_name Tag = codes "Tag"
slot_damage_name Row = codes "Row"
slot_damage_name Order = codes "Order"
slot_damage_name Place = codes "Place"

-- a fault of this kind at this offset
abbrev pub slot_fault : SlotDamageKind → ℕ → SlotFault
slot_fault kind at = record { at = at; kind = kind }

-- a field that is cut short
abbrev pub as_slot_fault : AShort → SlotFault
as_slot_fault short = slot_fault Short short.at

-- a fault of a value, where one of some type is wanted
abbrev pub of_typed : TypedFault → SlotFault
of_typed (typed.Short at) = slot_fault Short at
of_typed (typed.Tag at) = slot_fault Tag at
of_typed (typed.Wrong at) = slot_fault Row at

-- the same of values, which may find no memory
abbrev pub of_values : Refusal TypedFault → Refusal SlotFault
of_values (Fault fault) = Fault (of_typed fault)
of_values NoRoom = NoRoom

-- why a piece isn't read, as why a slot isn't
abbrev pub as_slot_error : PieceError → SlotError
as_slot_error piece.Failed = error.DiskFault
as_slot_error piece.NoMemory = error.NoMemory

-- the same, as why no checkpoint is
abbrev pub as_checkpoint_error : PieceError → CheckpointError
as_checkpoint_error piece.Failed = stop.DiskFault
as_checkpoint_error piece.NoMemory = stop.NoMemory

-- why no checkpoint is read, as of this slot
abbrev pub in_slot : SlotName → CheckpointError → SlotError
in_slot slot (stop.Fault fault) = error.Damaged slot fault.at fault.kind
in_slot slot stop.DiskFault = error.DiskFault
in_slot slot stop.NoMemory = error.NoMemory
