-- The types of the tables so far.
use Rattle.std.proofs.Common.{◌≡◌, map, take}
use Rattle.pac_types.specs.Fits.{shape}
use Rattle.pac_global.proofs.blocks.table_types.Given as goal

abbrev pub invariant-loop-table : goal.invariant-loop-table
invariant-loop-table l = l.types.items ≡ map shape (take l.table-index l.tables)
