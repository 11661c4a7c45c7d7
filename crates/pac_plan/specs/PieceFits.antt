-- What a piece finds: its inputs where it may run, rows that keep fitting, and the records of an ad hoc one.
use Rattle.std.specs.Prelude.{◌≡◌, ℕ, true, false, List, map, slice_get, Some, ◌==◌, filter}
use Rattle.pac_value.specs.declared.values.Ty.{Ty}
use Rattle.pac_value.specs.declared.values.Value.{Value}
use Rattle.pac_value.specs.Values.{type_of}
use Rattle.pac_value.specs.Expressions.{Values}
use Rattle.pac_value.specs.State.{Tables}
use Rattle.pac_ops.specs.declared.program.Program.{Program}
use Rattle.pac_ops.specs.Shapes.{RowsFit}
use Rattle.pac_ops.specs.Uses.{op_uses, accessed_table}
use Rattle.pac_ops.specs.Operations.{State, opening}
use Rattle.pac_plan.specs.declared.parts.PlanParts.{PlanParts}
use Rattle.pac_plan.specs.Nodes.{Operation}
use Rattle.pac_plan.specs.Analysis.{IsPlan, block_in}
use Rattle.pac_base.specs.Members.{Mem}
use Rattle.pac_ops.specs.Effects.{NumberedOp, numbered_from, defined_in, numbered_meaning, record_op}
use Rattle.pac_plan.specs.Pieces.{part, may_pass, InputsAre}
use Rattle.pac_ops.specs.Flat.{flat_meaning}
use Rattle.pac_ops.specs.StaysFit.{HasTyped, IsFit, StaysFitAt}
use Rattle.pac_ops.specs.declared.transaction.Change.{Change}
use Rattle.pac_ops.specs.declared.transaction.Change.TheVariants.{Put as PutRow, Delete as DeleteRow}
use Rattle.pac_ops.specs.Transactions.{with_changes}
use Rattle.pac_plan.specs.Worlds.{home_in, home_or}

-- ---- pieces of a call

-- an operation of a part, where its conditions on variables from elsewhere hold, finds a value of its type for each variable
-- that it uses from elsewhere
abbrev pub FindsFromElsewhere : List Ty → List NumberedOp → Values → Type 0
FindsFromElsewhere vars os env = (o : NumberedOp) → Mem o os → may_pass os env o.1.conds ≡ true → (x : ℕ) → op_uses x o.1 ≡ true → defined_in os x ≡ false → HasTyped vars env x

-- of a part of a well-formed program in a block, over the values that the whole program leaves: an operation that may run has its
-- inputs, so each variable of its bounded key has a value of its type
abbrev pub InputsAreThere : Type 0
InputsAreThere = (parts : PlanParts) → IsPlan parts → (p : ℕ) (program : Program) → slice_get parts.programs p ≡ Some program
    → (args : List Value) (rows : Tables) → map type_of args ≡ program.params → RowsFit parts.tables rows → (block : ℕ)
    → FindsFromElsewhere program.vars (part (λ o. block_in parts (Operation p o.0)) block (numbered_from 0 program.ops)) (flat_meaning program.vars program.ops (opening args rows)).env

-- and in a state that fits and has the piece's inputs, each operation of the part finds what it uses, and the state stays fit
abbrev pub PiecesStayFit : Type 0
PiecesStayFit = (parts : PlanParts) → IsPlan parts → (p : ℕ) (program : Program) → slice_get parts.programs p ≡ Some program
    → (args : List Value) (rows : Tables) → map type_of args ≡ program.params → RowsFit parts.tables rows → (block : ℕ) (s : State)
    → IsFit parts.tables program.vars s
    → InputsAre (part (λ o. block_in parts (Operation p o.0)) block (numbered_from 0 program.ops)) (flat_meaning program.vars program.ops (opening args rows)).env s.env
    → StaysFitAt parts.tables program.vars (part (λ o. block_in parts (Operation p o.0)) block (numbered_from 0 program.ops)) s

-- ---- ad hoc pieces

-- the table of a record
abbrev pub change_table : Change → ℕ
change_table (PutRow table key row) = table
change_table (DeleteRow table key) = table

-- the records of tables whose home is the block
abbrev pub records_in : PlanParts → ℕ → List Change → List Change
records_in parts b records = filter (λ c. home_in parts (change_table c) == b) records

-- an ad hoc piece makes the changes of its records
abbrev pub AdHocPieces : Type 0
AdHocPieces = (parts : PlanParts) (vars : List Ty) (b n : ℕ) (records : List Change) (s : State)
    → numbered_meaning vars (part (λ o. home_or parts (accessed_table o.1.kind)) b (numbered_from n (map record_op records))) s
    ≡ record { env = s.env; tables = with_changes s.tables (records_in parts b records) }
