-- The entries so far, before what reading gives of the rest, are what reading gives.
use Rattle.std.proofs.Common.{◌≡◌, ◌-◌, length}
use Rattle.pac_bytes.specs.Reading.{from, times}
use Rattle.pac_bytes.proofs.Loops.{preceding}
use Rattle.pac_entry.specs.EntryReading.{next_entry}
use Rattle.pac_log.proofs.link.entries_at.Given as goal

abbrev pub invariant-loop : goal.invariant-loop
invariant-loop l = record {
  count : length l.txns.items ≡ l.counter;
  so_far : preceding l.txns.items (times (next_entry l.cat) (l.count - l.counter) (from l.bytes l.place)) ≡ times (next_entry l.cat) l.count (from l.bytes l.at);
}
