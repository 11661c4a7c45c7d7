-- The records so far, before what reading gives of the rest, are what reading gives.
use Rattle.std.proofs.Common.{◌≡◌, ◌-◌, length}
use Rattle.pac_bytes.specs.Reading.{from, times}
use Rattle.pac_bytes.proofs.Loops.{preceding}
use Rattle.pac_entry.specs.EntryReading.{next_change}
use Rattle.pac_entry.proofs.reading.changes_at.Given as goal

abbrev pub invariant-loop : goal.invariant-loop
invariant-loop l = record {
  count : length l.changes.items ≡ l.counter;
  so_far : preceding l.changes.items (times (next_change l.tables) (l.count - l.counter) (from l.bytes l.offset)) ≡ times (next_change l.tables) l.count (from l.bytes l.at);
}
