-- How entries are read, up to the first fault.
use Rattle.std.specs.Prelude.{ℕ, List, length, Result, Ok, Err, slice_get, ok_or, nat_eq, nat_lt, ◌||◌, if◌then◌else◌}
use Rattle.std.specs.Int.{w16}
use Rattle.pac_value.specs.declared.values.Value.{Value}
use Rattle.pac_value.specs.State.{Cell}
use Rattle.pac_value.specs.Expressions.{◌>>=◌}
use Rattle.pac_ops.specs.declared.limits.TheConstants.{MAX_RECORDS}
use Rattle.pac_ops.specs.declared.transaction.Call.{Call}
use Rattle.pac_ops.specs.declared.transaction.Change.{Change}
use Rattle.pac_ops.specs.declared.transaction.Change.TheVariants.{Put, Delete}
use Rattle.pac_ops.specs.declared.transaction.Txn.{Txn}
use Rattle.pac_ops.specs.declared.transaction.Txn.TheVariants.{Call as ACall, AdHoc}
use Rattle.pac_types.specs.declared.table.Column.{Column}
use Rattle.pac_types.specs.declared.table.Table.{Table}
use Rattle.pac_types.specs.declared.procedure.Proc.{Proc}
use Rattle.pac_types.specs.WellFormed.{types}
use Rattle.pac_types.specs.Typing.{CatalogueState}
use Rattle.pac_bytes.specs.Reading.{Rest, reported_as, next_byte, next_uint, times}
use Rattle.pac_bytes.specs.Typed.{next_key, next_values}
use Rattle.pac_entry.specs.declared.fault.EntryFault.{EntryFault}
use Rattle.pac_entry.specs.declared.fault.EntryFaultKind.{EntryFaultKind}
use Rattle.pac_entry.specs.declared.fault.EntryFaultKind.TheVariants.{Tag, UnknownProc, WrongArgs, UnknownTable, WrongRow, TooMany}
use Rattle.pac_entry.specs.Kinds.{fault_at, as_entry_fault, as_fault_of}

-- a tag or a number of items
abbrev pub entry_byte : Rest → Result (ℕ × Rest) EntryFault
entry_byte s = reported_as as_entry_fault (next_byte s)

-- the number of a procedure or of a table
abbrev pub entry_number : Rest → Result (ℕ × Rest) EntryFault
entry_number s = reported_as as_entry_fault (next_uint w16 s)

-- the number of values, which is that of the columns, and a value of each one's type; this kind of fault where they are others
unfoldable pub counted_values : EntryFaultKind → List Column → Rest → Result (List Value × Rest) EntryFault
counted_values wrong columns s = entry_byte s
    >>= λ n. if nat_eq n.0 (length columns) then reported_as (as_fault_of wrong) (next_values (types columns) n.1) else Err (fault_at wrong s.at)

-- a call after its tag: a procedure that is there, and arguments of its parameters' types
unfoldable pub next_call : List Proc → Rest → Result (Call × Rest) EntryFault
next_call procs s = entry_number s
    >>= λ n. ok_or (slice_get procs n.0) (fault_at UnknownProc s.at)
    >>= λ proc. counted_values WrongArgs proc.params n.1
    >>= λ args. Ok (record { proc = n.0; args = args.0 }, args.1)

-- a put after its tag: a table that is there, and a key and a row of its types
unfoldable pub next_put : List Table → Rest → Result (Change × Rest) EntryFault
next_put tables s = entry_number s
    >>= λ n. ok_or (slice_get tables n.0) (fault_at UnknownTable s.at)
    >>= λ table. reported_as (as_fault_of WrongRow) (next_key table.key n.1)
    >>= λ key. counted_values WrongRow table.columns key.1
    >>= λ row. Ok (Put n.0 key.0 row.0, row.1)

-- a delete after its tag: a table that is there, and a key of its type
unfoldable pub next_delete : List Table → Rest → Result (Change × Rest) EntryFault
next_delete tables s = entry_number s
    >>= λ n. ok_or (slice_get tables n.0) (fault_at UnknownTable s.at)
    >>= λ table. reported_as (as_fault_of WrongRow) (next_key table.key n.1)
    >>= λ key. Ok (Delete n.0 key.0, key.1)

-- a record: the tag 1 and a put, or the tag 2 and a delete
unfoldable pub next_change : List Table → Rest → Result (Change × Rest) EntryFault
next_change tables s = entry_byte s
    >>= λ tag. if nat_eq tag.0 1 then next_put tables tag.1 else (if nat_eq tag.0 2 then next_delete tables tag.1 else Err (fault_at Tag s.at))

-- where a record of one of the tables changes something, after its tag: the table's number, and a key of its type
unfoldable pub next_place : List Table → Rest → Result (Cell × Rest) EntryFault
next_place tables s = entry_number s
    >>= λ n. ok_or (slice_get tables n.0) (fault_at UnknownTable s.at)
    >>= λ table. reported_as (as_fault_of WrongRow) (next_key table.key n.1)
    >>= λ key. Ok ((n.0, key.0), key.1)

-- the cell that a record changes, read no further than its key
unfoldable pub next_cell : List Table → Rest → Result (Cell × Rest) EntryFault
next_cell tables s = entry_byte s >>= λ tag. if nat_eq tag.0 1 || nat_eq tag.0 2 then next_place tables tag.1 else Err (fault_at Tag s.at)

-- the number of records, which is no less than one and not too large, and the records
unfoldable pub next_records : List Table → Rest → Result (List Change × Rest) EntryFault
next_records tables s = entry_byte s
    >>= λ n. if nat_eq n.0 0 || nat_lt MAX_RECORDS n.0 then Err (fault_at TooMany s.at) else times (next_change tables) n.0 n.1

-- an entry that is a call, after its tag
abbrev pub called_entry : CatalogueState → Rest → Result (Txn × Rest) EntryFault
called_entry catalogue s = next_call catalogue.procs s >>= λ call. Ok (ACall call.0, call.1)

-- an entry of records, after its tag
abbrev pub ad_hoc_entry : CatalogueState → Rest → Result (Txn × Rest) EntryFault
ad_hoc_entry catalogue s = next_records catalogue.tables s >>= λ records. Ok (AdHoc records.0, records.1)

-- an entry: the tag 1 and a call, or the tag 2 and records
unfoldable pub next_entry : CatalogueState → Rest → Result (Txn × Rest) EntryFault
next_entry catalogue s = entry_byte s
    >>= λ tag. if nat_eq tag.0 1 then called_entry catalogue tag.1 else (if nat_eq tag.0 2 then ad_hoc_entry catalogue tag.1 else Err (fault_at Tag s.at))
