-- The kinds of damage in a log, and how they are printed; faults of fields and entries as those of a log.
use Rattle.std.specs.Prelude.{ℕ, List, codes}
use Rattle.pac_bytes.specs.declared.fault.Short.{Short as AShort}
use Rattle.pac_entry.specs.declared.fault.EntryFault.{EntryFault}
use Rattle.pac_entry.specs.declared.fault.EntryFaultKind.TheVariants as entry
use Rattle.pac_entry.specs.Kinds.{entry_kind_name}
use Rattle.pac_log.specs.declared.damage.DamageKind.{DamageKind}
use Rattle.pac_log.specs.declared.damage.DamageKind.TheVariants.{Range, Entry}
use Rattle.pac_log.specs.declared.damage.LinkFault.{LinkFault}

-- a kind as it is printed
abbrev pub damage_name : DamageKind → List ℕ
damage_name Range = codes "Range"
damage_name (Entry kind) = entry_kind_name kind

-- the bytes end inside the field, or the entries, at this offset
abbrev pub short_from : ℕ → LinkFault
short_from at = record { at = at; kind = Entry entry.Short }

-- a number out of its range, or the first byte that is left after the entries
abbrev pub out_of_range : ℕ → LinkFault
out_of_range at = record { at = at; kind = Range }

-- a field that is cut short
abbrev pub as_link_fault : AShort → LinkFault
as_link_fault short = short_from short.at

-- a fault of an entry
abbrev pub of_entry : EntryFault → LinkFault
of_entry fault = record { at = fault.at; kind = Entry fault.kind }
