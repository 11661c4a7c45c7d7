-- What a line asks of a catalogue's procedures and tables, or its first fault from the left.
use Rattle.std.specs.Prelude.{ℕ, List, [], ◌∷◌, map, length, slice_get, Option, Some, None, Result, Ok, Err, ok_or, nat_eq, if◌then◌else◌}
use Rattle.pac_value.specs.declared.values.Ty.{Ty}
use Rattle.pac_value.specs.declared.values.Ty.TheVariants as ty
use Rattle.pac_value.specs.declared.values.Value.{Value}
use Rattle.pac_value.specs.declared.values.Value.TheVariants as value
use Rattle.pac_value.specs.declared.values.Key.{Key}
use Rattle.pac_value.specs.declared.values.Key.TheVariants as key
use Rattle.pac_value.specs.Expressions.{◌>>=◌}
use Rattle.pac_ops.specs.declared.transaction.Change.{Change}
use Rattle.pac_ops.specs.declared.transaction.Change.TheVariants.{Put, Delete}
use Rattle.pac_ops.specs.Sizes.{HasOneTo}
use Rattle.pac_ops.specs.declared.limits.TheConstants.{MAX_RECORDS}
use Rattle.pac_types.specs.declared.table.Table.{Table}
use Rattle.pac_types.specs.declared.procedure.Proc.{Proc}
use Rattle.pac_types.specs.WellFormed.{types}
use Rattle.pac_types.specs.Numbering.{number_of}
use Rattle.pac_types.specs.Typing.{CatalogueState}
use Rattle.pac_syntax.specs.declared.tree.NameNode.{NameNode}
use Rattle.pac_request.specs.declared.node.PlacedLiteral.{PlacedLiteral}
use Rattle.pac_request.specs.declared.node.RecordNode.{RecordNode}
use Rattle.pac_request.specs.declared.node.RecordNode.TheVariants as record_
use Rattle.pac_request.specs.declared.node.LineNode.{LineNode}
use Rattle.pac_request.specs.declared.node.LineNode.TheVariants as line
use Rattle.pac_request.specs.declared.fault.LineFault.{LineFault}
use Rattle.pac_request.specs.declared.fault.LineFaultKind.TheVariants.{UnknownName, WrongCount, WrongType}
use Rattle.pac_request.specs.declared.request.Request.{Request}
use Rattle.pac_request.specs.declared.request.Request.TheVariants as request
use Rattle.pac_request.specs.LineKinds.{line_fault}

-- an int or a text of this type; `true` and `false` never are
abbrev pub value_of : Ty → Value → Option Value
value_of ty.Int (value.Int z) = Some (value.Int z)
value_of ty.Text (value.Text text) = Some (value.Text text)
value_of _ _ = None

-- the same as a key
abbrev pub key_of : Ty → Value → Option Key
key_of ty.Int (value.Int z) = Some (key.Int z)
key_of ty.Text (value.Text text) = Some (key.Text text)
key_of _ _ = None

-- a literal where one of this type is wanted
abbrev pub asked_value : Ty → PlacedLiteral → Result Value LineFault
asked_value wanted l = ok_or (value_of wanted l.value) (line_fault WrongType l.at)

-- a literal where a key of this type is wanted
abbrev pub asked_key : Ty → PlacedLiteral → Result Key LineFault
asked_key wanted l = ok_or (key_of wanted l.value) (line_fault WrongType l.at)

-- a literal for each of these types
unfoldable pub asked_values : List Ty → List PlacedLiteral → Result (List Value) LineFault
asked_values (wanted ∷ more) (l ∷ ls) = asked_value wanted l >>= λ v. asked_values more ls >>= λ vs. Ok (v ∷ vs)
asked_values _ _ = Ok []

-- the literals, where they are as many as the types; if not, that is reported at the name before them
abbrev pub counted_literals : NameNode → List Ty → List PlacedLiteral → Result (List PlacedLiteral) LineFault
counted_literals name wanted ls = if nat_eq (length wanted) (length ls) then Ok ls else Err (line_fault WrongCount name.at)

-- the number of the procedure or of the table with this name
abbrev pub named_proc : List Proc → NameNode → Result ℕ LineFault
named_proc procs name = ok_or (number_of (map (λ proc. proc.name) procs) name.name) (line_fault UnknownName name.at)

-- the number of the table with this name
abbrev pub named_table : List Table → NameNode → Result ℕ LineFault
named_table tables name = ok_or (number_of (map (λ table. table.name) tables) name.name) (line_fault UnknownName name.at)

-- the procedure with this name
abbrev pub proc_at : List Proc → NameNode → Result (ℕ × Proc) LineFault
proc_at procs name = named_proc procs name >>= λ number. ok_or (slice_get procs number) (line_fault UnknownName name.at) >>= λ proc. Ok (number, proc)

-- the table with this name
abbrev pub table_at : List Table → NameNode → Result (ℕ × Table) LineFault
table_at tables name = named_table tables name >>= λ number. ok_or (slice_get tables number) (line_fault UnknownName name.at) >>= λ table. Ok (number, table)

-- a call: its procedure, the number of the arguments, and then each of its parameter's type
unfoldable pub asked_call : List Proc → NameNode → List PlacedLiteral → Result Request LineFault
asked_call procs name ls = proc_at procs name
    >>= λ p. counted_literals name (types p.1.params) ls
    >>= λ counted. asked_values (types p.1.params) counted
    >>= λ args. Ok (request.Call (record { proc = p.0; args = args }))

-- a put: its table, the number of values, the key, and then each value of its column's type
unfoldable pub asked_put : List Table → NameNode → PlacedLiteral → List PlacedLiteral → Result Change LineFault
asked_put tables name k ls = table_at tables name
    >>= λ t. counted_literals name (types t.1.columns) ls
    >>= λ counted. asked_key t.1.key k
    >>= λ found. asked_values (types t.1.columns) counted
    >>= λ row. Ok (Put t.0 found row)

-- a table and a key of it
unfoldable pub asked_cell : List Table → NameNode → PlacedLiteral → Result (ℕ × Key) LineFault
asked_cell tables name k = table_at tables name
    >>= λ t. asked_key t.1.key k
    >>= λ found. Ok (t.0, found)

-- a record: a put, or a delete
abbrev pub asked_change : List Table → RecordNode → Result Change LineFault
asked_change tables (record_.Put name k ls) = asked_put tables name k ls
asked_change tables (record_.Delete name k) = asked_cell tables name k >>= λ cell. Ok (Delete cell.0 cell.1)

-- records, from left to right
unfoldable pub asked_changes : List Table → List RecordNode → Result (List Change) LineFault
asked_changes tables [] = Ok []
asked_changes tables (r ∷ rs) = asked_change tables r >>= λ change. asked_changes tables rs >>= λ changes. Ok (change ∷ changes)

-- what a line asks; None for white space and comment
abbrev pub asked : CatalogueState → LineNode → Result (Option Request) LineFault
asked catalogue line.Empty = Ok None
asked catalogue (line.Call name ls) = asked_call catalogue.procs name ls >>= λ call. Ok (Some call)
asked catalogue (line.AdHoc rs) = asked_changes catalogue.tables rs >>= λ changes. Ok (Some (request.AdHoc changes))
asked catalogue (line.Show name k) = asked_cell catalogue.tables name k >>= λ cell. Ok (Some (request.Show cell.0 cell.1))
asked catalogue line.Flush = Ok (Some request.Flush)
asked catalogue line.Save = Ok (Some request.Save)
asked catalogue line.Stop = Ok (Some request.Stop)

-- an ad hoc line has 1 to 64 records
abbrev pub HoldsRecords : LineNode → Type 0
HoldsRecords (line.AdHoc rs) = HasOneTo MAX_RECORDS rs
HoldsRecords _ = Unit {0}

-- what the tokens of a line ask, or their fault where they are no line
abbrev pub request_of_tokens : CatalogueState → Result LineNode LineFault → Result (Option Request) LineFault
request_of_tokens catalogue said = said >>= λ node. asked catalogue node
