-- The values so far are those of the first expressions, and have the types of the first columns.
use Rattle.std.proofs.Common.{◌≡◌, ◌++◌, Ok, true, map, length, take, drop}
use Rattle.std.specs.List.{list_all}
use Rattle.pac_value.specs.Values.{type_of, is_stored}
use Rattle.pac_value.specs.Expressions.{◌>>=◌}
use Rattle.pac_types.specs.WellFormed.{column_types}
use Rattle.pac_ops.specs.Operations.{values}
use Rattle.pac_serial.proofs.operation.row_of.Given as goal

abbrev pub invariant-loop-expr : goal.invariant-loop-expr
invariant-loop-expr l = record {
  count : length l.row.items ≡ l.expr-index;
  types : map type_of l.row.items ≡ take l.expr-index (column_types l.tables l.table);
  stored : list_all is_stored l.row.items ≡ true;
  so_far : (values (drop l.expr-index l.exprs) l.env >>= λ vs. Ok (l.row.items ++ vs)) ≡ values l.exprs l.env;
}
