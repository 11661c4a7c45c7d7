-- The values so far, before what reading gives of the rest, are what reading gives.
use Rattle.std.proofs.Common.{◌≡◌, drop}
use Rattle.pac_types.specs.WellFormed.{types}
use Rattle.pac_bytes.specs.Reading.{from}
use Rattle.pac_bytes.specs.Typed.{next_values}
use Rattle.pac_bytes.proofs.Loops.{preceding}
use Rattle.pac_entry.proofs.row.read_values.Given as goal

abbrev pub invariant-loop-column : goal.invariant-loop-column
invariant-loop-column l = preceding l.values.items (next_values (drop l.column-index (types l.columns)) (from l.bytes l.offset)) ≡ next_values (types l.columns) (from l.bytes l.at)
