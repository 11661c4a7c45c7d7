-- The kinds of faults of entries, and how they are printed; faults of fields and values as those of entries.
use Rattle.std.specs.Prelude.{ℕ, List, codes}
use Rattle.pac_base.specs.declared.refusal.Refusal.{Refusal}
use Rattle.pac_base.specs.declared.refusal.Refusal.TheVariants.{Fault, NoMemory}
use Rattle.pac_bytes.specs.declared.fault.Short.{Short as AShort}
use Rattle.pac_bytes.specs.declared.fault.TypedFault.{TypedFault}
use Rattle.pac_bytes.specs.declared.fault.TypedFault.TheVariants as typed
use Rattle.pac_entry.specs.declared.fault.EntryFault.{EntryFault}
use Rattle.pac_entry.specs.declared.fault.EntryFaultKind.{EntryFaultKind}
use Rattle.pac_entry.specs.declared.fault.EntryFaultKind.TheVariants.{Short, Tag, UnknownProc, WrongArgs, UnknownTable, WrongRow, TooMany}

-- a kind as it is printed
abbrev pub entry_kind_name : EntryFaultKind → List ℕ
entry_kind_name Short = codes "Short"
entry_kind_name Tag = codes "Tag"
entry_kind_name UnknownProc = codes "UnknownProc"
entry_kind_name WrongArgs = codes "WrongArgs"
entry_kind_name UnknownTable = codes "UnknownTable"
entry_kind_name WrongRow = codes "WrongRow"
entry_kind_name TooMany = codes "TooMany"

-- a fault of this kind at this offset
abbrev pub fault_at : EntryFaultKind → ℕ → EntryFault
fault_at kind at = record { at = at; kind = kind }

-- a field that is cut short
abbrev pub as_entry_fault : AShort → EntryFault
as_entry_fault short = fault_at Short short.at

-- a fault of a value; this kind where it is another value than the one that is wanted
abbrev pub as_fault_of : EntryFaultKind → TypedFault → EntryFault
as_fault_of wrong (typed.Short at) = fault_at Short at
as_fault_of wrong (typed.Tag at) = fault_at Tag at
as_fault_of wrong (typed.Wrong at) = fault_at wrong at

-- the same of values, which may find no memory
abbrev pub as_error_of : EntryFaultKind → Refusal TypedFault → Refusal EntryFault
as_error_of wrong (Fault fault) = Fault (as_fault_of wrong fault)
as_error_of wrong NoMemory = NoMemory
