-- What statements do over values by the numbers of the text, as they are executed: the variable of a loop gets the number
-- of each turn. That is the serial meaning, but for the numbers of variables (`proofs/SameMeaning.antt`).
use Rattle.std.specs.Prelude.{◌+◌, ◌*◌, ℕ, ℤ, List, [], ◌∷◌, ◌++◌, map, Result, Ok}
use Rattle.pac_value.specs.declared.values.Value.TheVariants.{Int}
use Rattle.pac_value.specs.declared.expr.Expr.{Expr}
use Rattle.pac_value.specs.Expressions.{value, ◌>>=◌}
use Rattle.pac_value.specs.State.{Cell}
use Rattle.pac_ops.specs.declared.program.OpKind.{OpKind}
use Rattle.pac_ops.specs.declared.program.OpKind.TheVariants as kind
use Rattle.pac_ops.specs.Reasons.{or_abort}
use Rattle.pac_ops.specs.Operations.{State, define, done}
use Rattle.pac_types.specs.declared.statement.Stmt.{Stmt}
use Rattle.pac_types.specs.declared.statement.Stmt.TheOpen.{Stmt-F, Let, Read, Has, Put, Set, Delete, AbortIf, If, For}
use Rattle.pac_types.specs.declared.statement.Stmt.TheFolds.{fold-Stmt}
use Rattle.pac_types.specs.Meaning.{Abort, at_operation, branch}
use Rattle.pac_types.specs.Unrolled.{turns, turn_numbers}
use Rattle.pac_serial.specs.Writes.{if_well, cells_put}

-- what statements are: how many operations, and what they do and which cells they write where the first has a given number
pub record Code : Type 0 where
  pub count : ℕ
  pub run : ℕ → State → Result State Abort
  pub cells : ℕ → State → List Cell

-- a statement that is one operation
abbrev pub one : OpKind → Code
one kind = record { count = 1; run = λ n s. at_operation n (done kind s); cells = λ n s. cells_put kind s }

-- how many operations
abbrev pub counts : List Code → ℕ
counts [] = 0
counts (code ∷ codes) = code.count + counts codes

-- one after another, numbered on
abbrev pub run_codes : List Code → ℕ → State → Result State Abort
run_codes [] n s = Ok s
run_codes (code ∷ codes) n s = code.run n s >>= λ t. run_codes codes (n + code.count) t

-- a block once for each number
abbrev pub run_turns : ℕ → List Code → List ℤ → ℕ → State → Result State Abort
run_turns x body [] n s = Ok s
run_turns x body (i ∷ is) n s = run_codes body n (define x (Int i) s) >>= λ t. run_turns x body is (n + counts body) t

-- the cells that they write one after another, up to an abort
abbrev pub code_cells : List Code → ℕ → State → List Cell
code_cells [] n s = []
code_cells (code ∷ codes) n s = if_well (λ t. code.cells n s ++ code_cells codes (n + code.count) t) (code.run n s)

-- the cells that a block writes once for each number
abbrev pub turn_cells : ℕ → List Code → List ℤ → ℕ → State → List Cell
turn_cells x body [] n s = []
turn_cells x body (i ∷ is) n s = if_well (λ t. code_cells body n (define x (Int i) s) ++ turn_cells x body is (n + counts body) t) (run_codes body n (define x (Int i) s))

-- a conditional: its test is an operation, whose value the variable gets, and then one of two blocks runs
abbrev pub conditional : ℕ → Expr → List Code → List Code → Code
conditional x e first second = record {
  count = 1 + (counts first + counts second);
  run = λ n s. at_operation n (or_abort (value e s.env)) >>= λ v. branch v (run_codes first (n + 1)) (run_codes second (n + 1 + counts first)) (define x v s);
  cells = λ n s. if_well (λ v. branch v (code_cells first (n + 1)) (code_cells second (n + 1 + counts first)) (define x v s)) (value e s.env);
}

-- a loop: its block once for each number of its range
abbrev pub repeated : ℕ → ℤ → ℤ → List Code → Code
repeated x from to body = record { count = turns from to * counts body; run = run_turns x body (turn_numbers from to); cells = turn_cells x body (turn_numbers from to) }

-- a statement, by the codes of those in its blocks
abbrev pub code_step : Stmt-F Code → Code
code_step (Let x e) = one (kind.Let x e)
code_step (Read x t k c d) = one (kind.Read x t k c d)
code_step (Has x t k) = one (kind.Has x t k)
code_step (Put t k es) = one (kind.Put t k es)
code_step (Set t k c e) = one (kind.SetCol t k c e)
code_step (Delete t k) = one (kind.Delete t k)
code_step (AbortIf e) = one (kind.AbortIf e)
code_step (If x e first second) = conditional x e first second
code_step (For x from to body) = repeated x from to body

-- what a statement is
abbrev pub code : Stmt → Code
code = fold-Stmt Code code_step

-- how many operations statements are
abbrev pub code_count : List Stmt → ℕ
code_count stmts = counts (map code stmts)

-- what statements do, where the first operation has the number n
abbrev pub text_meaning : List Stmt → ℕ → State → Result State Abort
text_meaning stmts = run_codes (map code stmts)

-- the cells that they write, up to an abort
abbrev pub text_cells : List Stmt → ℕ → State → List Cell
text_cells stmts = code_cells (map code stmts)
