-- Keys that are arguments: a test of a program and a block, and the key of each of its pieces.
use Rattle.std.specs.Prelude.{◌≡◌, ℕ, Bool, true, false, ◌&&◌, ◌==◌, not, List, slice_get, Option, Some, None, Ok}
use Rattle.std.specs.List.{list_all}
use Rattle.pac_value.specs.declared.values.Value.{Value}
use Rattle.pac_value.specs.declared.expr.Expr.{Expr, Var as var}
use Rattle.pac_value.specs.declared.expr.Expr.TheOpen.{Expr-F, Lit, Var, Bin, Not}
use Rattle.pac_value.specs.declared.expr.Expr.TheFolds.{fold-Expr}
use Rattle.pac_value.specs.Values.{as_key}
use Rattle.pac_value.specs.State.{Tables}
use Rattle.pac_ops.specs.declared.batch.Batch.{Batch}
use Rattle.pac_ops.specs.declared.transaction.Call.{Call}
use Rattle.pac_ops.specs.declared.piece.PieceId.{PieceId}
use Rattle.pac_ops.specs.declared.program.Program.{Program}
use Rattle.pac_ops.specs.declared.transaction.Txn.TheVariants.{Call as ACall}
use Rattle.pac_ops.specs.Operations.{key_at}
use Rattle.pac_ops.specs.Effects.{NumberedOp, target_of, defined_in, numbered_from}
use Rattle.pac_plan.specs.declared.parts.PlanParts.{PlanParts}
use Rattle.pac_plan.specs.Nodes.{Operation}
use Rattle.pac_plan.specs.Analysis.{block_in}
use Rattle.pac_plan.specs.Pieces.{part, ops}
use Rattle.pac_plan.specs.Worlds.{txn_at, initial}
use Rattle.pac_commute.specs.Exchange.{env_after}
use Rattle.pac_commute.specs.PlanLaws.{txns_of, planned, numbers_of}
use Rattle.pac_lanes.specs.Stays.{KeysAre}

-- the expression is this variable
abbrev pub var_step : ℕ → Expr-F Bool → Bool
var_step x (Lit v) = false
var_step x (Var y) = y == x
var_step x (Bin op l r) = false
var_step x (Not e) = false

abbrev pub is_variable : ℕ → Expr → Bool
is_variable x = fold-Expr Bool (var_step x)

-- so is the key that is named, if one is
abbrev pub names_variable : ℕ → Option (ℕ × Expr) → Bool
names_variable x None = true
names_variable x (Some n) = is_variable x n.1

-- so is each key that the operations name, and none of them defines it
abbrev pub keys_are_variable : ℕ → List NumberedOp → Bool
keys_are_variable x os = list_all (λ o. names_variable x (target_of o.1.kind)) os && not (defined_in os x)

-- the test gives it
abbrev pub VariableKeys : Type 0
VariableKeys = (x : ℕ) (os : List NumberedOp) → keys_are_variable x os ≡ true → KeysAre os (var x)

-- of a call: where the operations of its program in the block pass, its piece there has this key
abbrev pub CallKeys : Type 0
CallKeys = (parts : PlanParts) (first : ℕ) (batches : List Batch) (p : PieceId) (call : Call) (program : Program) → txn_at first (txns_of batches) p.txn ≡ Some (ACall call) → slice_get parts.programs call.proc ≡ Some program
    → (x : ℕ) → keys_are_variable x (part (λ o. block_in parts (Operation call.proc o.0)) p.block (numbered_from 0 program.ops)) ≡ true → KeysAre (ops (planned parts first batches) p) (var x)

-- and where no operation of the program defines it, that is the argument, whatever the tables are
abbrev pub CallKey : Type 0
CallKey = (parts : PlanParts) (first : ℕ) (batches : List Batch) (t : ℕ) (call : Call) (program : Program) → txn_at first (txns_of batches) t ≡ Some (ACall call) → slice_get parts.programs call.proc ≡ Some program
    → (x : ℕ) → defined_in (numbered_from 0 program.ops) x ≡ false → (v : Value) → slice_get call.args x ≡ Some v → (tables : Tables)
    → key_at (var x) (env_after (planned parts first batches) (numbers_of first batches) (initial first (txns_of batches) tables) t) ≡ Ok (as_key v)
