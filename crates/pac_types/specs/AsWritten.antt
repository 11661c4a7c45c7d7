-- Statements without loops, as they are written: their operations have the numbers of the text.
use Rattle.std.specs.Prelude.{Bool, true, false, ◌&&◌, IsTrue, List, [], ◌∷◌, map}
use Rattle.pac_ops.specs.declared.program.OpKind.TheVariants as kind
use Rattle.pac_types.specs.declared.statement.Stmt.{Stmt}
use Rattle.pac_types.specs.declared.statement.Stmt.TheOpen.{Stmt-F, Let, Read, Has, Put, Set, Delete, AbortIf, If, For}
use Rattle.pac_types.specs.declared.statement.Stmt.TheFolds.{fold-Stmt}
use Rattle.pac_types.specs.Unrolled.{UnrolledSteps, End, Op, Branch}

-- of several statements none has a loop
abbrev pub none_loops : List Bool → Bool
none_loops [] = true
none_loops (b ∷ bs) = b && none_loops bs

-- a statement has no loop, from whether those in its blocks have none
abbrev pub loopless_step : Stmt-F Bool → Bool
loopless_step (If x e first second) = none_loops first && none_loops second
loopless_step (For x from to body) = false
loopless_step _ = true

-- a statement is no loop, and has none in its blocks
abbrev pub is_loopless : Stmt → Bool
is_loopless = fold-Stmt Bool loopless_step

-- no statement has a loop
abbrev pub HasNoLoop : List Stmt → Type 0
HasNoLoop stmts = IsTrue (none_loops (map is_loopless stmts))

-- one after another, before what comes after them
abbrev pub in_a_line : List (UnrolledSteps → UnrolledSteps) → UnrolledSteps → UnrolledSteps
in_a_line [] rest = rest
in_a_line (s ∷ ss) rest = s (in_a_line ss rest)

-- a loop, which is not asked for here, has no steps
abbrev pub written_step : Stmt-F (UnrolledSteps → UnrolledSteps) → UnrolledSteps → UnrolledSteps
written_step (Let x e) = Op (kind.Let x e)
written_step (Read x t k c d) = Op (kind.Read x t k c d)
written_step (Has x t k) = Op (kind.Has x t k)
written_step (Put t k es) = Op (kind.Put t k es)
written_step (Set t k c e) = Op (kind.SetCol t k c e)
written_step (Delete t k) = Op (kind.Delete t k)
written_step (AbortIf e) = Op (kind.AbortIf e)
written_step (If x e first second) = Branch x e (in_a_line first End) (in_a_line second End)
written_step (For x from to body) = λ rest. rest

-- the steps of a statement without loops as it is written, and of statements
abbrev pub stmt_as_written : Stmt → UnrolledSteps → UnrolledSteps
stmt_as_written = fold-Stmt (UnrolledSteps → UnrolledSteps) written_step

-- the steps of statements without loops as they are written
abbrev pub as_written : List Stmt → UnrolledSteps
as_written stmts = in_a_line (map stmt_as_written stmts) End
