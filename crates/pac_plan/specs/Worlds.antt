-- The world of a plan and of transactions that are numbered one after another.
use Rattle.std.specs.Prelude.{◌≡◌, ℕ, ◌+◌, ◌-◌, Bool, if◌then◌else◌, ◌&&◌, ◌==◌, nat_lt, nat_le, List, [], ◌∷◌, map, length, slice_get, Option, Some, None}
use Rattle.std.specs.List.{list_any, range_with_len}
use Rattle.std.specs.FinMap.{empty}
use Rattle.pac_value.specs.declared.values.Ty.{Ty}
use Rattle.pac_value.specs.declared.values.Value.{Value}
use Rattle.pac_value.specs.Expressions.{Values}
use Rattle.pac_value.specs.State.{Tables}
use Rattle.pac_ops.specs.declared.batch.Batch.{Batch}
use Rattle.pac_ops.specs.declared.program.FlatOp.{FlatOp}
use Rattle.pac_ops.specs.declared.program.Program.{Program}
use Rattle.pac_ops.specs.declared.transaction.Txn.{Txn}
use Rattle.pac_ops.specs.declared.transaction.Txn.TheVariants.{Call as ACall, AdHoc}
use Rattle.pac_ops.specs.Shapes.{RecordsFit}
use Rattle.pac_ops.specs.Operations.{with_values}
use Rattle.pac_ops.specs.Uses.{accessed_table}
use Rattle.pac_ops.specs.Notes.{first_note}
use Rattle.pac_ops.specs.Transactions.{replayed}
use Rattle.pac_plan.specs.declared.parts.PlanParts.{PlanParts}
use Rattle.pac_plan.specs.Nodes.{Operation, VirtualWrite}
use Rattle.pac_plan.specs.Analysis.{block_in}
use Rattle.pac_ops.specs.Effects.{NumberedOp, numbered_from, record_op}
use Rattle.pac_plan.specs.Pieces.{Present, World, replayed_in}

-- an edge leads from a block to another
abbrev pub has_edge : PlanParts → ℕ → ℕ → Bool
has_edge parts b c = list_any (λ e. e.0 == b && e.1 == c) parts.edges

-- the block of the operations on a table
abbrev pub home_in : PlanParts → ℕ → ℕ
home_in parts t = block_in parts (VirtualWrite t)

-- the operations of a program, none where there is no program
abbrev pub ops_of : Option Program → List FlatOp
ops_of None = []
ops_of (Some program) = program.ops

-- the types of its variables
abbrev pub types_in : Option Program → List Ty
types_in None = []
types_in (Some program) = program.vars

-- what a transaction runs, numbered from 0 on; ad hoc records are operations with literals
abbrev pub txn_code : PlanParts → Option Txn → List NumberedOp
txn_code parts None = []
txn_code parts (Some (ACall call)) = numbered_from 0 (ops_of (slice_get parts.programs call.proc))
txn_code parts (Some (AdHoc records)) = numbered_from 0 (map record_op records)

-- the types of the variables of a transaction
abbrev pub txn_vars : PlanParts → Option Txn → List Ty
txn_vars parts None = []
txn_vars parts (Some (ACall call)) = types_in (slice_get parts.programs call.proc)
txn_vars parts (Some (AdHoc records)) = []

-- the home of a table, where there is one
abbrev pub home_or : PlanParts → Option ℕ → ℕ
home_or parts None = 0
home_or parts (Some t) = home_in parts t

-- the block of an operation: a call's by the plan, a record's is the home of its table
abbrev pub txn_block : PlanParts → Option Txn → NumberedOp → ℕ
txn_block parts None o = 0
txn_block parts (Some (ACall call)) o = block_in parts (Operation call.proc o.0)
txn_block parts (Some (AdHoc records)) o = home_or parts (accessed_table o.1.kind)

-- the arguments of a transaction
abbrev pub txn_args : Option Txn → List Value
txn_args None = []
txn_args (Some (ACall call)) = call.args
txn_args (Some (AdHoc records)) = []

-- the transaction with a number, where the first one has the number `first`
abbrev pub txn_at : ℕ → List Txn → ℕ → Option Txn
txn_at first txns t = if nat_lt t first then None else slice_get txns (t - first)

-- the world of a plan and of numbered transactions, each in a batch
abbrev pub world : PlanParts → ℕ → (ℕ → ℕ) → List Txn → World
world parts first batch txns = record {
  code = λ t. txn_code parts (txn_at first txns t);
  vars = λ t. txn_vars parts (txn_at first txns t);
  block = λ t. txn_block parts (txn_at first txns t);
  home = home_in parts;
  edge = has_edge parts;
  batch = batch;
}

-- before anything is replayed each transaction has its arguments
abbrev pub initial : ℕ → List Txn → Tables → Present
initial first txns tables = record { tables = tables; envs = λ t. with_values 0 (txn_args (txn_at first txns t)) empty; note = None }

-- the numbers of transactions
abbrev pub numbers : ℕ → List Txn → List ℕ
numbers first txns = range_with_len first (length txns)

-- the blocks of a plan
abbrev pub blocks_in : PlanParts → List ℕ
blocks_in parts = range_with_len 0 parts.blocks

-- ad hoc records fit tables of the plan
abbrev pub RecordsInTables : PlanParts → Txn → Type 0
RecordsInTables parts (ACall call) = Unit {0}
RecordsInTables parts (AdHoc records) = RecordsFit parts.tables records

-- how many batches begin at or before a transaction
abbrev pub batch_of : List Batch → ℕ → ℕ
batch_of [] t = 0
batch_of (batch ∷ batches) t = (if nat_le batch.first t then 1 else 0) + batch_of batches t

-- the whole replay in the world is the replay of the transactions
pub record IsWholeReplay (parts : PlanParts) (first : ℕ) (batch : ℕ → ℕ) (txns : List Txn) (tables : Tables) : Type 0 where
  pub tables_are : (replayed_in (world parts first batch txns) (numbers first txns) (initial first txns tables)).tables ≡ (replayed parts.programs first txns tables).tables
  pub note_is : (replayed_in (world parts first batch txns) (numbers first txns) (initial first txns tables)).note ≡ first_note (replayed parts.programs first txns tables).notes
  pub envs_are : (i : ℕ) (env : Values) → slice_get (replayed parts.programs first txns tables).envs i ≡ Some env
      → (replayed_in (world parts first batch txns) (numbers first txns) (initial first txns tables)).envs (first + i) ≡ env
