use Rattle.std.proofs.Common.{◌≡◌, take, drop, map}
use Rattle.pac_types.specs.Numbering.{table_of}
use Rattle.pac_types.specs.Checking.{checked_tables, names_of}
use Rattle.pac_types.proofs.checker.tables.Tables.of.Given as goal

-- the tables so far, and what is left gives what all give
abbrev pub invariant-loop-i : goal.invariant-loop-i
invariant-loop-i l = record {
  tables : l.tables.items ≡ map table_of (take l.i l.nodes);
  columns : l.columns.items ≡ map (λ node. names_of node.columns) (take l.i l.nodes);
  rest : checked_tables (map (λ node. node.name.name) l.nodes) 0 l.nodes ≡ checked_tables (map (λ node. node.name.name) l.nodes) l.i (drop l.i l.nodes);
}
