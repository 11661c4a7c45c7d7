-- Rows that fit the types of their tables, and transactions that fit these and the parameters of procedures.
use Rattle.std.specs.Prelude.{◌≡◌, List, map, slice_get, Some, IsSomeAnd}
use Rattle.std.specs.List.{AllByRecursion}
use Rattle.std.specs.FinMap.{get}
use Rattle.pac_value.specs.declared.values.Key.{Key}
use Rattle.pac_value.specs.declared.values.Ty.{Ty}
use Rattle.pac_value.specs.Values.{type_of, key_value}
use Rattle.pac_value.specs.State.{Cell, RowValues, Tables}
use Rattle.pac_ops.specs.declared.shapes.TableTypes.{TableTypes}
use Rattle.pac_ops.specs.declared.transaction.Change.{Change}
use Rattle.pac_ops.specs.declared.transaction.Change.TheVariants.{Put, Delete}
use Rattle.pac_ops.specs.declared.transaction.Txn.{Txn}
use Rattle.pac_ops.specs.declared.transaction.Txn.TheVariants.{Call as ACall, AdHoc}

-- a key is of the type that the keys of its table have
abbrev pub KeyFits : Key → TableTypes → Type 0
KeyFits key table = table.key ≡ type_of (key_value key)

-- a row has a value for each column of its table, of the column's type
abbrev pub ColumnsFit : RowValues → TableTypes → Type 0
ColumnsFit row table = map type_of row ≡ table.columns

-- a row at a cell: its table is there, and the key and the row have its types
abbrev pub RowFits : List TableTypes → Cell → RowValues → Type 0
RowFits tables cell row = IsSomeAnd (slice_get tables cell.0) (λ table. KeyFits cell.1 table × ColumnsFit row table)

-- each row fits
abbrev pub RowsFit : List TableTypes → Tables → Type 0
RowsFit tables rows = (cell : Cell) (row : RowValues) → get rows cell ≡ Some row → RowFits tables cell row

-- a row that is put fits, and what is deleted has a key of a table
abbrev pub ChangeFits : List TableTypes → Change → Type 0
ChangeFits tables (Put table key row) = RowFits tables (table, key) row
ChangeFits tables (Delete table key) = IsSomeAnd (slice_get tables table) (KeyFits key)

-- each change fits
abbrev pub RecordsFit : List TableTypes → List Change → Type 0
RecordsFit tables records = AllByRecursion (ChangeFits tables) records

-- over procedures with parameters of these types, and tables of these: a call is of one of the procedures and its arguments
-- have the types of the parameters, or each of the records fits
abbrev pub TxnFitsTypes : List (List Ty) → List TableTypes → Txn → Type 0
TxnFitsTypes params tables (ACall call) = IsSomeAnd (slice_get params call.proc) (λ types. map type_of call.args ≡ types)
TxnFitsTypes params tables (AdHoc records) = RecordsFit tables records
