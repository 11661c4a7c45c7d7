-- The serial meaning of statements and procedures.
use Rattle.std.specs.Prelude.{◌+◌, ◌*◌, ℕ, true, List, [], ◌∷◌, map, Result, Ok, Err}
use Rattle.pac_value.specs.declared.values.Value.{Value}
use Rattle.pac_value.specs.declared.values.Value.TheVariants.{Bool as Truth}
use Rattle.pac_value.specs.Expressions.{value, ◌>>=◌}
use Rattle.pac_value.specs.State.{Tables}
use Rattle.pac_ops.specs.declared.reason.Reason.{Reason}
use Rattle.pac_ops.specs.Reasons.{or_abort}
use Rattle.pac_ops.specs.Operations.{State, define, done, opening}
use Rattle.pac_types.specs.declared.procedure.Proc.{Proc}
use Rattle.pac_types.specs.declared.statement.Stmt.{Stmt}
use Rattle.pac_types.specs.declared.statement.Stmt.TheOpen.{Stmt-F, If, For}
use Rattle.pac_types.specs.declared.statement.Stmt.TheFolds.{fold-Stmt}
use Rattle.pac_types.specs.Unrolled.{UnrolledSteps, End, Op, Branch, turns, unrolled}

-- an abort: the number of the operation, and the reason
abbrev pub Abort : Type 0
Abort = ℕ × Reason

-- an operation that aborts has this number
abbrev pub at_operation : {A : Type 0} → ℕ → Result A Reason → Result A Abort
at_operation n (Ok x) = Ok x
at_operation n (Err reason) = Err (n, reason)

-- ---- how many operations

-- how many operations together
abbrev pub together : List ℕ → ℕ
together [] = 0
together (n ∷ ns) = n + together ns

-- a conditional counts as one operation, its test, before the operations of both its blocks; a loop stands for its block
-- repeated once for each turn, and counts as none itself
abbrev pub count_step : Stmt-F ℕ → ℕ
count_step (If x e first second) = 1 + (together first + together second)
count_step (For x from to body) = turns from to * together body
count_step _ = 1

-- how many operations a statement is
abbrev pub stmt_operations : Stmt → ℕ
stmt_operations = fold-Stmt ℕ count_step

-- how many operations statements are
abbrev pub operations : List Stmt → ℕ
operations stmts = together (map stmt_operations stmts)

-- the same of steps
abbrev pub step_count : UnrolledSteps → ℕ
step_count End = 0
step_count (Op kind rest) = 1 + step_count rest
step_count (Branch x e first second rest) = 1 + (step_count first + step_count second) + step_count rest

-- ---- what they do

-- one of two blocks
abbrev pub branch : {A : Type 0} → Value → A → A → A
branch (Truth true) first second = first
branch v first second = second

-- what steps do, where the first operation has the number n
abbrev pub runs : UnrolledSteps → ℕ → State → Result State Abort
runs End n s = Ok s
runs (Op kind rest) n s = at_operation n (done kind s) >>= λ t. runs rest (n + 1) t
runs (Branch x e first second rest) n s = at_operation n (or_abort (value e s.env))
    >>= λ v. branch v (runs first (n + 1)) (runs second (n + 1 + step_count first)) (define x v s)
    >>= λ t. runs rest (n + 1 + step_count first + step_count second) t

-- what a procedure does
abbrev pub meaning : Proc → State → Result State Abort
meaning proc = runs (unrolled proc) 0

-- what a call makes of the tables, or its abort
abbrev pub called : Proc → List Value → Tables → Result Tables Abort
called proc args tables = meaning proc (opening args tables) >>= λ s. Ok s.tables
