-- The values that a piece finds, and those that it leaves for others.
use Rattle.std.specs.Prelude.{◌≡◌, ◌↔◌, ℕ, Bool, true, false, if◌then◌else◌, List, Contains, None}
use Rattle.std.specs.FinMap.{get}
use Rattle.pac_value.specs.Expressions.{Values}
use Rattle.pac_ops.specs.declared.transaction.Txn.{Txn}
use Rattle.pac_ops.specs.declared.transaction.Txn.TheVariants.{Call as ACall, AdHoc}
use Rattle.pac_plan.specs.declared.parts.PlanParts.{PlanParts}
use Rattle.pac_plan.specs.Codes.{piece_ops}
use Rattle.pac_keys.specs.Interfaces.{is_input, is_output}
use Rattle.pac_commute.specs.Works.{given_over}

-- a variable is an input of a transaction's piece in a block
abbrev pub is_found : PlanParts → ℕ → Txn → ℕ → Bool
is_found parts block txn x = is_input (piece_ops parts block txn) x

-- the piece finds the values of its inputs, and no others
abbrev pub FindsInputs : PlanParts → ℕ → Txn → Values → Values → Type 0
FindsInputs parts block txn kept env = (x : ℕ) → get env x ≡ (if is_found parts block txn x then get kept x else None)

-- a variable is an output of a transaction's piece in a block: another block has it as an input
abbrev pub is_passed_on : PlanParts → ℕ → Txn → ℕ → Bool
is_passed_on parts block (ACall call) x = is_output parts call.proc block x
is_passed_on parts block (AdHoc records) x = false

-- these are its outputs
abbrev pub PassesOn : PlanParts → ℕ → Txn → List ℕ → Type 0
PassesOn parts block txn vars = (x : ℕ) → Contains vars x ↔ (is_passed_on parts block txn x ≡ true)

-- what is kept once the piece gave values: those of its outputs, and of all others what was kept
abbrev pub LeavesValues : PlanParts → ℕ → Txn → Values → Values → Values → Type 0
LeavesValues parts block txn outs kept env = (x : ℕ) → get env x ≡ (if is_passed_on parts block txn x then given_over (get outs x) (get kept x) else get kept x)
