-- Statements without loops: a turn of a loop is its block with the loop's variable replaced by its number, and the operations
-- and the variables of each turn have numbers of their own.
use Rattle.std.specs.Prelude.{ℕ, zero, suc, ◌+◌, ◌==◌, ℤ, pos, negsuc, ◌+ℤ◌, ◌-ℤ◌, if◌then◌else◌, List, [], ◌∷◌, map, length, Option, Some, None}
use Rattle.pac_value.specs.declared.values.Value.TheVariants.{Int}
use Rattle.pac_value.specs.declared.expr.Expr.{Expr}
use Rattle.pac_value.specs.declared.expr.Expr.TheVariants as expr
use Rattle.pac_value.specs.declared.expr.Expr.TheOpen.{Expr-F, Lit, Var, Bin, Not}
use Rattle.pac_value.specs.declared.expr.Expr.TheFolds.{fold-Expr}
use Rattle.pac_ops.specs.declared.program.OpKind.{OpKind}
use Rattle.pac_ops.specs.declared.program.OpKind.TheVariants as kind
use Rattle.pac_ops.specs.Uses.{defined_variable}
use Rattle.pac_types.specs.declared.procedure.Proc.{Proc}
use Rattle.pac_types.specs.declared.statement.Stmt.{Stmt}
use Rattle.pac_types.specs.declared.statement.Stmt.TheOpen.{Stmt-F, Let, Read, Has, Put, Set, Delete, AbortIf, If, For}
use Rattle.pac_types.specs.declared.statement.Stmt.TheFolds.{fold-Stmt}

-- operations one after another; a branch is a test that gives its variable a value, two blocks, and what comes after them
pub data UnrolledSteps : Type 0 where
  End : UnrolledSteps
  Op : OpKind → UnrolledSteps → UnrolledSteps
  Branch : ℕ → Expr → UnrolledSteps → UnrolledSteps → UnrolledSteps → UnrolledSteps

-- ---- numbers

-- a whole number that isn't negative, and 0 for a negative one
abbrev pub natural : ℤ → ℕ
natural (pos n) = n
natural (negsuc n) = 0

-- how many turns a loop has: none where the second number is at most the first
abbrev pub turns : ℤ → ℤ → ℕ
turns from to = natural (to -ℤ from)

-- that many numbers, ascending from one on
abbrev pub ascending : ℤ → ℕ → List ℤ
ascending i zero = []
ascending i (suc k) = i ∷ ascending (i +ℤ pos 1) k

-- the numbers of a loop's turns
abbrev pub turn_numbers : ℤ → ℤ → List ℤ
turn_numbers from to = ascending from (turns from to)

-- ---- names

-- what the variables of the text stand for: each for a variable with a number of its own, or for the number of a turn
abbrev pub Names : Type 0
Names = ℕ → Expr

-- an expression with what its variables stand for
abbrev pub renamed_step : Names → Expr-F Expr → Expr
renamed_step names (Lit v) = expr.Lit v
renamed_step names (Var x) = names x
renamed_step names (Bin op l r) = expr.Bin op l r
renamed_step names (Not e) = expr.Not e

-- an expression with what its variables stand for, all through
abbrev pub renamed : Names → Expr → Expr
renamed names = fold-Expr Expr (renamed_step names)

-- how far unrolling has come: what the variables of the text stand for, and the number of the next variable
pub record Point : Type 0 where
  pub names : Names
  pub next : ℕ

-- from now on a variable of the text stands for this
abbrev pub renaming : Names → ℕ → Expr → Names
renaming names x e y = if y == x then e else names y

-- from now on it stands for the next variable
abbrev pub with_next : ℕ → Point → Point
with_next x p = record { names = renaming p.names x (expr.Var p.next); next = p.next + 1 }

-- from now on it stands for the number of a turn
abbrev pub with_turn : ℕ → ℤ → Point → Point
with_turn x i p = record { names = renaming p.names x (expr.Lit (Int i)); next = p.next }

-- ---- statements

-- what a statement is to unrolling: how far this has come after it, and its steps, which stand before those after it
pub record Unrolling : Type 0 where
  pub after : Point → Point
  pub steps : Point → UnrolledSteps → UnrolledSteps

-- statements one after another
abbrev pub all_after : List Unrolling → Point → Point
all_after [] p = p
all_after (u ∷ us) p = all_after us (u.after p)

-- the steps of statements, before those after them
abbrev pub in_steps : List Unrolling → Point → UnrolledSteps → UnrolledSteps
in_steps [] p rest = rest
in_steps (u ∷ us) p rest = u.steps p (in_steps us (u.after p) rest)

-- the turns of a block with these numbers, one after another
abbrev pub after_turns : ℕ → List Unrolling → List ℤ → Point → Point
after_turns x body [] p = p
after_turns x body (i ∷ is) p = after_turns x body is (all_after body (with_turn x i p))

-- the steps of the turns, before those after them
abbrev pub in_turns : ℕ → List Unrolling → List ℤ → Point → UnrolledSteps → UnrolledSteps
in_turns x body [] p rest = rest
in_turns x body (i ∷ is) p rest = in_steps body (with_turn x i p) (in_turns x body is (all_after body (with_turn x i p)) rest)

-- an operation over what its variables stand for, which defines the next variable, if it defines one
abbrev pub renamed_kind : Point → OpKind → OpKind
renamed_kind p (kind.Let x e) = kind.Let p.next (renamed p.names e)
renamed_kind p (kind.Cond x e) = kind.Cond p.next (renamed p.names e)
renamed_kind p (kind.Read x t k c d) = kind.Read p.next t (renamed p.names k) c d
renamed_kind p (kind.Has x t k) = kind.Has p.next t (renamed p.names k)
renamed_kind p (kind.Put t k es) = kind.Put t (renamed p.names k) (map (renamed p.names) es)
renamed_kind p (kind.SetCol t k c e) = kind.SetCol t (renamed p.names k) c (renamed p.names e)
renamed_kind p (kind.Delete t k) = kind.Delete t (renamed p.names k)
renamed_kind p (kind.AbortIf e) = kind.AbortIf (renamed p.names e)

-- from now on the variable that is defined, if any, stands for the next
abbrev pub with_defined : Option ℕ → Point → Point
with_defined None p = p
with_defined (Some x) p = with_next x p

-- a statement that is one operation
abbrev pub unroll_one : OpKind → Unrolling
unroll_one kind = record { after = with_defined (defined_variable kind); steps = λ p rest. Op (renamed_kind p kind) rest }

-- a conditional's hidden variable comes before those of its blocks
abbrev pub unroll_conditional : ℕ → Expr → List Unrolling → List Unrolling → Unrolling
unroll_conditional x e first second = record {
  after = λ p. all_after second (all_after first (with_next x p));
  steps = λ p rest. Branch p.next (renamed p.names e) (in_steps first (with_next x p) End) (in_steps second (all_after first (with_next x p)) End) rest;
}

-- a loop stands for its block repeated once for each turn
abbrev pub unroll_loop : ℕ → List ℤ → List Unrolling → Unrolling
unroll_loop x turn_numbers body = record { after = after_turns x body turn_numbers; steps = in_turns x body turn_numbers }

-- a statement to unrolling, from those in its blocks
abbrev pub unroll_step : Stmt-F Unrolling → Unrolling
unroll_step (Let x e) = unroll_one (kind.Let x e)
unroll_step (Read x t k c d) = unroll_one (kind.Read x t k c d)
unroll_step (Has x t k) = unroll_one (kind.Has x t k)
unroll_step (Put t k es) = unroll_one (kind.Put t k es)
unroll_step (Set t k c e) = unroll_one (kind.SetCol t k c e)
unroll_step (Delete t k) = unroll_one (kind.Delete t k)
unroll_step (AbortIf e) = unroll_one (kind.AbortIf e)
unroll_step (If x e first second) = unroll_conditional x e first second
unroll_step (For x from to body) = unroll_loop x (turn_numbers from to) body

-- what a statement is
abbrev pub unrolling : Stmt → Unrolling
unrolling = fold-Stmt Unrolling unroll_step

-- at the beginning of a procedure its parameters are the variables, and stand for themselves
abbrev pub beginning : Proc → Point
beginning proc = record { names = expr.Var; next = length proc.params }

-- the steps of a procedure
abbrev pub unrolled : Proc → UnrolledSteps
unrolled proc = in_steps (map unrolling proc.body) (beginning proc) End
