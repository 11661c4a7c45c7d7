-- The types so far.
use Rattle.std.proofs.Common.{◌≡◌, take}
use Rattle.pac_types.specs.WellFormed.{types}
use Rattle.pac_flat.proofs.program.types.Given as goal

abbrev pub invariant-loop-column : goal.invariant-loop-column
invariant-loop-column l = l.tys.items ≡ types (take l.column-index l.columns)
