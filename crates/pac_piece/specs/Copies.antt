-- Copies of rows that fit their tables.
use Rattle.std.specs.Prelude.{List, IfSome}
use Rattle.pac_ops.specs.declared.shapes.TableTypes.{TableTypes}
use Rattle.pac_ops.specs.Shapes.{RowFits}
use Rattle.pac_tables.specs.declared.writes.Write.{Write}
use Rattle.pac_tables.specs.Written.{cell_written}

-- where there is a row, it fits its table
abbrev pub CopyFits : List TableTypes → Write → Type 0
CopyFits tables copy = IfSome copy.row (RowFits tables (cell_written copy))
