-- Which variables statements define.
use Rattle.std.specs.Prelude.{ℕ, List, [], ◌∷◌, ◌++◌, map}
use Rattle.std.specs.List.{concat}
use Rattle.pac_types.specs.declared.statement.Stmt.{Stmt}
use Rattle.pac_types.specs.declared.statement.Stmt.TheOpen.{Stmt-F, Let, Read, Has, If, For}
use Rattle.pac_types.specs.declared.statement.Stmt.TheFolds.{fold-Stmt}

-- the variables of a statement, from those of the statements in its blocks: a conditional's hidden variable, then those of
-- the first block, then those of the second; a loop's variable, then those of its block
abbrev pub variables_step : Stmt-F (List ℕ) → List ℕ
variables_step (Let x e) = x ∷ []
variables_step (Read x t k c d) = x ∷ []
variables_step (Has x t k) = x ∷ []
variables_step (If x e first second) = x ∷ concat first ++ concat second
variables_step (For x from to body) = x ∷ concat body
variables_step _ = []

-- the variables that a statement defines, in the order of the text
abbrev pub stmt_variables : Stmt → List ℕ
stmt_variables = fold-Stmt (List ℕ) variables_step

-- the variables that statements define, in the order of the text
abbrev pub defined_variables : List Stmt → List ℕ
defined_variables stmts = concat (map stmt_variables stmts)
