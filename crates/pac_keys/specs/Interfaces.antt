-- Which variables the pieces of a transaction need of each other: inputs, and outputs.
use Rattle.std.specs.Prelude.{◌≡◌, ◌⊎◌, ◌↔◌, ℕ, ◌<◌, Bool, true, ◌&&◌, not, ◌==◌, List, length, slice_get, Some, Contains}
use Rattle.std.specs.List.{list_any}
use Rattle.pac_ops.specs.Effects.{NumberedOp, used_in, defined_in}
use Rattle.pac_plan.specs.declared.parts.PlanParts.{PlanParts}
use Rattle.pac_plan.specs.Worlds.{blocks_in}
use Rattle.pac_plan.specs.Codes.{proc_ops}
use Rattle.pac_keys.specs.declared.interface.Interface.{Interface}

-- operations use the variable, and don't define it
abbrev pub is_input : List NumberedOp → ℕ → Bool
is_input os x = used_in os x && not (defined_in os x)

-- the procedure's operations in another block use the variable
abbrev pub is_used_outside : PlanParts → ℕ → ℕ → ℕ → Bool
is_used_outside parts proc block x = list_any (λ other. not (other == block) && used_in (proc_ops parts proc other) x) (blocks_in parts)

-- operations in the block define it, and one in another uses it
abbrev pub is_output : PlanParts → ℕ → ℕ → ℕ → Bool
is_output parts proc block x = defined_in (proc_ops parts proc block) x && is_used_outside parts proc block x

-- these are the inputs of operations
abbrev pub AreInputs : List NumberedOp → List ℕ → Type 0
AreInputs os vars = (x : ℕ) → Contains vars x ↔ (is_input os x ≡ true)

-- these are the outputs of a procedure's operations in a block
abbrev pub AreOutputs : PlanParts → ℕ → ℕ → List ℕ → Type 0
AreOutputs parts proc block vars = (x : ℕ) → Contains vars x ↔ (is_output parts proc block x ≡ true)

-- this is the interface of a procedure in a block
pub record IsInterfaceOf (parts : PlanParts) (proc block : ℕ) (interface : Interface) : Type 0 where
  pub inputs : AreInputs (proc_ops parts proc block) interface.inputs
  pub outputs : AreOutputs parts proc block interface.outputs

-- these are the interfaces of a procedure, block by block
abbrev pub AreInterfacesOf : PlanParts → ℕ → List Interface → Type 0
AreInterfacesOf parts proc interfaces = (block : ℕ) (interface : Interface) → slice_get interfaces block ≡ Some interface → IsInterfaceOf parts proc block interface

-- those of each procedure, block by block
pub record AreInterfaces (parts : PlanParts) (interfaces : List (List Interface)) : Type 0 where
  pub all : length interfaces ≡ length parts.programs
  pub size : (proc : ℕ) (of_proc : List Interface) → slice_get interfaces proc ≡ Some of_proc → length of_proc ≡ parts.blocks
  pub each : (proc : ℕ) (of_proc : List Interface) → slice_get interfaces proc ≡ Some of_proc → AreInterfacesOf parts proc of_proc

-- an input of a procedure in one block that its operations in another define is an output there
abbrev pub InputsAreOutputs : Type 0
InputsAreOutputs = (parts : PlanParts) (proc block other x : ℕ) → block < parts.blocks → is_input (proc_ops parts proc block) x ≡ true → defined_in (proc_ops parts proc other) x ≡ true → is_output parts proc other x ≡ true

-- these are the old variables and those that pass the test, and no others
abbrev pub AddsVars : (ℕ → Bool) → List ℕ → List ℕ → Type 0
AddsVars test old new = (x : ℕ) → Contains new x ↔ (Contains old x ⊎ (test x ≡ true))
