-- What the execution of operations and transactions gives, against what they mean.
use Rattle.std.specs.Prelude.{◌≡◌, ◌+◌, ◌-◌, ◌<◌, ℕ, Bool, false, List, length, take, Option, Some, None, Result, Ok, Err}
use Rattle.pac_value.specs.declared.values.Ty.{Ty}
use Rattle.pac_value.specs.declared.expr.Trap.{Trap}
use Rattle.pac_value.specs.Expressions.{Values, types_of}
use Rattle.pac_value.specs.Scopes.{Scope}
use Rattle.pac_value.specs.State.{Tables}
use Rattle.pac_ops.specs.declared.reason.Reason.{Reason}
use Rattle.pac_ops.specs.declared.transaction.Txn.{Txn}
use Rattle.pac_ops.specs.Reasons.{reason_of}
use Rattle.pac_types.specs.declared.procedure.Proc.{Proc}
use Rattle.pac_types.specs.Meaning.{Abort as AnAbort}
use Rattle.pac_types.specs.Execution.{first_over, serial}
use Rattle.pac_serial.specs.declared.operation.Halt.{Halt}
use Rattle.pac_serial.specs.declared.operation.Halt.TheVariants.{Abort, NoMemory}
use Rattle.pac_serial.specs.declared.execute.ExecError.{ExecError}
use Rattle.pac_serial.specs.declared.execute.ExecError.TheVariants.{Abort as AbortAt, Full, NoMemory as NoMemoryAtAll}
use Rattle.pac_serial.specs.declared.serial.AllError.{AllError}
use Rattle.pac_serial.specs.declared.serial.AllError.TheVariants.{Abort as AbortOf, NoMemory as NoMemoryForAll}

-- the tables, or the first table over the limit, where one was found
abbrev pub unless_over : Option (ℕ × ℕ) → Tables → Result Tables ExecError
unless_over None tables = Ok tables
unless_over (Some found) tables = Err (Full found.0)

-- what a transaction is to give under a limit of rows, if there is one: its tables; or its abort, or else the first of that
-- many tables that is over the limit
abbrev pub limited : Option ℕ → ℕ → Result Tables AnAbort → Result Tables ExecError
limited limit number (Err abort) = Err (AbortAt abort.0 abort.1)
limited None number (Ok tables) = Ok tables
limited (Some limit) number (Ok tables) = unless_over (first_over limit number tables) tables

-- the tables are those that a transaction was to give; or it is refused as it was to be, or finds no memory, and they
-- are as before
abbrev pub Executes : {A : Type 0} → Result Tables ExecError → Tables → Tables → Result A ExecError → Type 0
Executes meant old new (Ok x) = meant ≡ Ok new
Executes meant old new (Err (AbortAt op reason)) = (meant ≡ Err (AbortAt op reason)) × (new ≡ old)
Executes meant old new (Err (Full table)) = (meant ≡ Err (Full table)) × (new ≡ old)
Executes meant old new (Err NoMemoryAtAll) = new ≡ old

-- the tables are those that serial execution ends with; or it stops at this abort, or some transaction finds no memory,
-- and they are those that the transactions before it give
abbrev pub ExecutesAll : {A : Type 0} → List Proc → ℕ → List Txn → Tables → Tables → Result A AllError → Type 0
ExecutesAll procs first txns old new (Ok x) = serial procs first txns old ≡ Ok new
ExecutesAll procs first txns old new (Err (AbortOf note)) = (serial procs first txns old ≡ Err note) × (serial procs first (take (note.txn - first) txns) old ≡ Ok new)
ExecutesAll procs first txns old new (Err NoMemoryForAll) = (done : ℕ) × (done < length txns) × (serial procs first (take done txns) old ≡ Ok new)

-- ---- inside a transaction

-- the tables with the changes are those that a transaction means; or it aborts as it means to, or finds no memory
abbrev pub RunsAsMeant : {A : Type 0} → Result Tables AnAbort → Tables → Result A ExecError → Type 0
RunsAsMeant meant seen (Ok x) = meant ≡ Ok seen
RunsAsMeant meant seen (Err (AbortAt op reason)) = meant ≡ Err (op, reason)
RunsAsMeant meant seen (Err (Full table)) = ⊥
RunsAsMeant meant seen (Err NoMemoryAtAll) = Unit {0}

-- what refuses a transaction whose operations halt
abbrev pub error_of : Halt → ExecError
error_of (Abort op reason) = AbortAt op reason
error_of NoMemory = NoMemoryAtAll

-- an operation gives what it means, aborts as it means to, or finds no memory
abbrev pub Does : {A B : Type 0} → Result A Halt → Result B Reason → B → Type 0
Does (Ok x) meaning now = meaning ≡ Ok now
Does (Err (Abort op reason)) meaning now = (op ≡ 0) × (meaning ≡ Err reason)
Does (Err NoMemory) meaning now = Unit {0}

-- the same of a value that is given
abbrev pub DoesGive : {A : Type 0} → Result A Halt → Result A Reason → Type 0
DoesGive (Ok x) meaning = meaning ≡ Ok x
DoesGive (Err (Abort op reason)) meaning = (op ≡ 0) × (meaning ≡ Err reason)
DoesGive (Err NoMemory) meaning = Unit {0}

-- the same of operations that are numbered from n; a halt counts from the first of them
abbrev pub RunsFrom : {A B : Type 0} → ℕ → Result A Halt → Result B AnAbort → B → Type 0
RunsFrom n (Ok x) meaning now = meaning ≡ Ok now
RunsFrom n (Err (Abort op reason)) meaning now = meaning ≡ Err (n + op, reason)
RunsFrom n (Err NoMemory) meaning now = Unit {0}

-- the halt of an operation that traps so
abbrev pub IsTrapOf : {A : Type 0} → Halt → Result A Trap → Type 0
IsTrapOf halt (Ok x) = ⊥
IsTrapOf halt (Err trap) = halt ≡ Abort 0 (reason_of trap)

-- an abort is at one of that many operations
abbrev pub IsHaltWithin : ℕ → Halt → Type 0
IsHaltWithin count (Abort op reason) = op < count
IsHaltWithin count NoMemory = Unit {0}

-- a halt after that many operations
abbrev pub moved : ℕ → Halt → Halt
moved before (Abort op reason) = Abort (before + op) reason
moved before NoMemory = NoMemory

-- the variables of a scope have values of their types
abbrev pub Sees : Option Scope → Values → Type 0
Sees None env = ⊥
Sees (Some scope) env = (x : ℕ) (ty : Ty) → scope x ≡ Some ty → types_of env x ≡ Some ty

-- the variables but some have values of the types that they had
abbrev pub KeepsTypes : (ℕ → Bool) → Values → Values → Type 0
KeepsTypes some old new = (x : ℕ) → some x ≡ false → types_of new x ≡ types_of old x
