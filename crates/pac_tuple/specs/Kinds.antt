-- The kinds of faults of after-images, and how they are printed; faults of records as those of after-images.
use Rattle.std.specs.Prelude.{ℕ, List, codes}
use Rattle.pac_bytes.specs.declared.fault.Short.{Short as AShort}
use Rattle.pac_entry.specs.declared.fault.EntryFault.{EntryFault}
use Rattle.pac_entry.specs.declared.fault.EntryFaultKind.{EntryFaultKind}
use Rattle.pac_entry.specs.declared.fault.EntryFaultKind.TheVariants as entry
use Rattle.pac_tuple.specs.declared.fault.ImageFault.{ImageFault}
use Rattle.pac_tuple.specs.declared.fault.ImageFaultKind.{ImageFaultKind}
use Rattle.pac_tuple.specs.declared.fault.ImageFaultKind.TheVariants.{Short, Tag, UnknownTable, WrongRow, TooMany, Order}

-- a kind as it is printed
abbrev pub image_kind_name : ImageFaultKind → List ℕ
image_kind_name Short = codes "Short"
image_kind_name Tag = codes "Tag"
image_kind_name UnknownTable = codes "UnknownTable"
image_kind_name WrongRow = codes "WrongRow"
image_kind_name TooMany = codes "TooMany"
image_kind_name Order = codes "Order"

-- a fault of this kind at this offset
abbrev pub image_fault_at : ImageFaultKind → ℕ → ImageFault
image_fault_at kind at = record { at = at; kind = kind }

-- a field that is cut short
abbrev pub as_short_image : AShort → ImageFault
as_short_image short = image_fault_at Short short.at

-- a kind of fault of a record; the kinds that are of calls and of their arguments are of no record
abbrev pub as_image_kind : EntryFaultKind → ImageFaultKind
as_image_kind entry.Short = Short
as_image_kind entry.Tag = Tag
as_image_kind entry.UnknownProc = UnknownTable
as_image_kind entry.WrongArgs = WrongRow
as_image_kind entry.UnknownTable = UnknownTable
as_image_kind entry.WrongRow = WrongRow
as_image_kind entry.TooMany = TooMany

-- a fault of a record
abbrev pub as_image_fault : EntryFault → ImageFault
as_image_fault fault = image_fault_at (as_image_kind fault.kind) fault.at
