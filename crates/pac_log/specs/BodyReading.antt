-- How what stands after an open gate is read, up to the first fault.
use Rattle.std.specs.Prelude.{ℕ, ◌+◌, List, Result, Ok, Err, nat_eq, nat_lt, ◌||◌, if◌then◌else◌}
use Rattle.std.specs.Int.{w32}
use Rattle.pac_value.specs.Expressions.{◌>>=◌}
use Rattle.pac_ops.specs.declared.limits.TheConstants.{MAX_TXNS}
use Rattle.pac_ops.specs.declared.transaction.Txn.{Txn}
use Rattle.pac_types.specs.Typing.{CatalogueState}
use Rattle.pac_bytes.specs.Reading.{Rest, reported_as, next_byte, next_uint, times, within}
use Rattle.pac_entry.specs.EntryReading.{next_entry}
use Rattle.pac_log.specs.declared.damage.LinkFault.{LinkFault}
use Rattle.pac_log.specs.declared.limits.TheConstants.{MAX_ENTRIES_LEN}
use Rattle.pac_log.specs.declared.link.Link.{Link}
use Rattle.pac_log.specs.Damages.{short_from, out_of_range, as_link_fault, of_entry}

-- one of the two numbers before the entries
abbrev pub link_number : Rest → Result (ℕ × Rest) LinkFault
link_number s = reported_as as_link_fault (next_uint w32 s)

-- that many entries, which fill that many bytes
abbrev pub next_entries : CatalogueState → ℕ → ℕ → Rest → Result (List Txn × Rest) LinkFault
next_entries catalogue count len s = within short_from out_of_range len (λ t. reported_as of_entry (times (next_entry catalogue) count t)) s

-- that many entries, which fill that many bytes, and the next gate
abbrev pub entries_and_gate : CatalogueState → ℕ → ℕ → Rest → Result (Link × Rest) LinkFault
entries_and_gate catalogue count len s = next_entries catalogue count len s
    >>= λ txns. reported_as as_link_fault (next_byte txns.1)
    >>= λ gate. Ok (record { txns = txns.0; gate = gate.0 }, gate.1)

-- that many entries after their length, which isn't too large, and the next gate; all these bytes are there before an entry is looked at
unfoldable pub counted_link : CatalogueState → ℕ → Rest → Result (Link × Rest) LinkFault
counted_link catalogue count s = link_number s
    >>= λ len. if nat_lt MAX_ENTRIES_LEN len.0 then Err (out_of_range s.at) else within short_from out_of_range (len.0 + 1) (entries_and_gate catalogue count len.0) len.1

-- the number of transactions, which is no less than one and not too large, the length of their entries, these, and the next gate
unfoldable pub next_link : CatalogueState → Rest → Result (Link × Rest) LinkFault
next_link catalogue s = link_number s
    >>= λ count. if nat_eq count.0 0 || nat_lt MAX_TXNS count.0 then Err (out_of_range s.at) else counted_link catalogue count.0 count.1
