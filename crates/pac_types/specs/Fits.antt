-- Which rows, arguments and transactions fit a catalogue.
use Rattle.std.specs.Prelude.{◌≡◌, ℕ, List, map, length, slice_get, IsSomeAnd}
use Rattle.pac_value.specs.declared.values.Value.{Value}
use Rattle.pac_value.specs.Values.{type_of}
use Rattle.pac_value.specs.State.{Tables}
use Rattle.pac_ops.specs.declared.shapes.TableTypes.{TableTypes}
use Rattle.pac_ops.specs.declared.transaction.Call.{Call}
use Rattle.pac_ops.specs.declared.transaction.Txn.{Txn}
use Rattle.pac_ops.specs.declared.transaction.Txn.TheVariants.{Call as ACall, AdHoc}
use Rattle.pac_ops.specs.Shapes.{RowsFit, RecordsFit}
use Rattle.pac_types.specs.declared.table.Column.{Column}
use Rattle.pac_types.specs.declared.table.Table.{Table}
use Rattle.pac_types.specs.declared.procedure.Proc.{Proc}
use Rattle.pac_types.specs.WellFormed.{types}
use Rattle.pac_types.specs.Typing.{CatalogueState}

-- the types of a table's key and columns
abbrev pub shape : Table → TableTypes
shape table = record { key = table.key; columns = types table.columns }

-- each row has its table's key and column types
abbrev pub FitTables : List Table → Tables → Type 0
FitTables tables rows = RowsFit (map shape tables) rows

-- there are as many tables, and each row has its table's key and column types
pub record FitsCatalogue (catalogue : CatalogueState) (tables : ℕ) (held : Tables) : Type 0 where
  pub count : tables ≡ length catalogue.tables
  pub rows : FitTables catalogue.tables held

-- arguments of the parameters' types, in order
abbrev pub FitParams : List Column → List Value → Type 0
FitParams params args = map type_of args ≡ types params

-- the number is that of one of the procedures, and the arguments have its parameters' types
abbrev pub FitsCall : List Proc → ℕ → List Value → Type 0
FitsCall procs number args = IsSomeAnd (slice_get procs number) (λ proc. FitParams proc.params args)

-- the same of a call
abbrev pub FitsProcs : List Proc → Call → Type 0
FitsProcs procs call = FitsCall procs call.proc call.args

-- the call is of one of the catalogue's procedures and its arguments fit, or each of the records fits its table
abbrev pub TxnFits : CatalogueState → Txn → Type 0
TxnFits catalogue (ACall call) = FitsProcs catalogue.procs call
TxnFits catalogue (AdHoc records) = RecordsFit (map shape catalogue.tables) records
