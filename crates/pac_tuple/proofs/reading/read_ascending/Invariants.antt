-- The images so far, before what reading gives of the rest, are what reading gives.
use Rattle.std.proofs.Common.{◌≡◌, ◌-◌}
use Rattle.std.specs.Prelude.{None}
use Rattle.pac_bytes.specs.Reading.{from}
use Rattle.pac_bytes.proofs.Loops.{preceding}
use Rattle.pac_tuple.specs.ImageReading.{next_ascending}
use Rattle.pac_tuple.proofs.reading.read_ascending.Given as goal

abbrev pub invariant-loop : goal.invariant-loop
invariant-loop l = record {
  so_far : preceding l.images.items (next_ascending l.cat.tables l.last (l.count - l.counter) (from l.bytes l.offset)) ≡ next_ascending l.cat.tables None l.count (from l.bytes l.at);
}
