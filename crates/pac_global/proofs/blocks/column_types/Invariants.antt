-- The types of the columns so far.
use Rattle.std.proofs.Common.{◌≡◌, map, take}
use Rattle.pac_global.proofs.blocks.column_types.Given as goal

abbrev pub invariant-loop-column : goal.invariant-loop-column
invariant-loop-column l = l.types.items ≡ map (λ column. column.ty) (take l.column-index l.columns)
