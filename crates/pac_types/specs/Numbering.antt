-- Names give way to numbers.
use Rattle.std.specs.Prelude.{◌≢◌, ℕ, suc, ◌+◌, ℤ, List, [], ◌∷◌, ◌++◌, length, replicate, map, slice_get, Option, Some, None, bytes_eq, AllPairs}
use Rattle.std.specs.List.{position, flat_map}
use Rattle.std.specs.Option.{option_map, option_and_then}
use Rattle.pac_value.specs.declared.expr.Expr.{Expr, Lit, Var, Bin}
use Rattle.pac_value.specs.declared.expr.Expr as expr
use Rattle.pac_syntax.specs.declared.tree.ColumnNode.{ColumnNode}
use Rattle.pac_syntax.specs.declared.tree.ExprNode.{ExprNode}
use Rattle.pac_syntax.specs.declared.tree.ExprNode.TheOpen.{ExprNode-F, Literal, Name, Binary}
use Rattle.pac_syntax.specs.declared.tree.ExprNode.TheOpen as node
use Rattle.pac_syntax.specs.declared.tree.ExprNode.TheFolds.{fold-ExprNode}
use Rattle.pac_syntax.specs.declared.tree.StmtNode.{StmtNode}
use Rattle.pac_syntax.specs.declared.tree.StmtNode.TheOpen as form
use Rattle.pac_syntax.specs.declared.tree.StmtNode.TheOpen.{StmtNode-F}
use Rattle.pac_syntax.specs.declared.tree.StmtNode.TheFolds.{fold-StmtNode}
use Rattle.pac_syntax.specs.declared.tree.TableNode.{TableNode}
use Rattle.pac_syntax.specs.declared.tree.ProcNode.{ProcNode}
use Rattle.pac_types.specs.declared.table.Column.{Column}
use Rattle.pac_types.specs.declared.table.Table.{Table}
use Rattle.pac_types.specs.declared.procedure.Proc.{Proc}
use Rattle.pac_types.specs.declared.statement.Stmt.{Stmt, Let, Read, Has, Put, Set, Delete, AbortIf, If, For}

-- no name stands twice
abbrev pub AreDistinct : List (List ℕ) → Type 0
AreDistinct names = AllPairs (λ one other. one ≢ other) names

-- the number of a name: its index among the names; None where it is none of them
unfoldable pub number_of : List (List ℕ) → List ℕ → Option ℕ
number_of names name = position (bytes_eq name) names

-- ---- tables

-- the column or parameter of a node
abbrev pub column_of : ColumnNode → Column
column_of node = record { name = node.name.name; ty = node.ty }

-- the table of a node
abbrev pub table_of : TableNode → Table
table_of node = record { name = node.name.name; key = node.key; columns = map column_of node.columns }

-- the names of columns or of parameters
abbrev pub column_names : List Column → List (List ℕ)
column_names columns = map (λ column. column.name) columns

-- the names of tables
abbrev pub table_names : List Table → List (List ℕ)
table_names tables = map (λ table. table.name) tables

-- the number of the table with a name
abbrev pub table_number : List Table → List ℕ → Option ℕ
table_number tables name = number_of (table_names tables) name

-- the number of a table's column with a name
abbrev pub column_number : List Table → ℕ → List ℕ → Option ℕ
column_number tables t name = option_and_then (λ table. number_of (column_names table.columns) name) (slice_get tables t)

-- ---- variables

-- lists one after another
abbrev pub in_a_row : List (List (List ℕ)) → List (List ℕ)
in_a_row [] = []
in_a_row (names ∷ more) = names ++ in_a_row more

-- the names of the variables that a statement defines, in the order of the text
abbrev pub defined_step : StmtNode-F (List (List ℕ)) → List (List ℕ)
defined_step (form.Let name value) = name.name ∷ []
defined_step (form.Read name table key column default) = name.name ∷ []
defined_step (form.Has name table key) = name.name ∷ []
defined_step (form.If test first second) = in_a_row first ++ in_a_row second
defined_step (form.For name from to body) = name.name ∷ in_a_row body
defined_step _ = []

-- the names of the variables that a statement defines, those in its blocks among them
abbrev pub defined : StmtNode → List (List ℕ)
defined = fold-StmtNode (List (List ℕ)) defined_step

-- the names of a procedure: those of its parameters, and then those of the variables that its statements define
abbrev pub variables : ProcNode → List (List ℕ)
variables proc = map (λ param. param.name.name) proc.params ++ flat_map defined proc.body

-- for each name so far the number of its variable, where that is visible
abbrev pub Sight : Type 0
Sight = List (Option ℕ)

-- the number at an index, where there is one
abbrev pub number_at : Option (Option ℕ) → Option ℕ
number_at (Some number) = number
number_at None = None

-- the number of the visible variable with a name
abbrev pub seen_number : List (List ℕ) → Sight → List ℕ → Option ℕ
seen_number names sight name = option_and_then (λ index. number_at (slice_get sight index)) (number_of names name)

-- an expression over the visible variables, from its operands; None where it names another
abbrev pub resolve_step : List (List ℕ) → Sight → ExprNode-F (Option Expr) → Option Expr
resolve_step names sight (Literal literal) = Some (Lit literal.value)
resolve_step names sight (Name name) = option_map Var (seen_number names sight name.name)
resolve_step names sight (Binary at op l r) = option_and_then (λ a. option_map (λ b. Bin op a b) r) l
resolve_step names sight (node.Not at e) = option_map expr.Not e

-- an expression over the visible variables, None where it names another
abbrev pub resolved : List (List ℕ) → Sight → ExprNode → Option Expr
resolved names sight = fold-ExprNode (Option Expr) (resolve_step names sight)

-- the same of expressions
abbrev pub resolved_all : List (List ℕ) → Sight → List ExprNode → Option (List Expr)
resolved_all names sight [] = Some []
resolved_all names sight (e ∷ es) = option_and_then (λ a. option_map (λ as_. a ∷ as_) (resolved_all names sight es)) (resolved names sight e)

-- ---- statements

-- what a statement is to numbering: how many names and how many variables it defines, the hidden one of a conditional
-- among these; which of its names are visible after it, with their numbers, where its first variable has a given one;
-- and the statement by numbers, None where a name is none of those that are visible
pub record Numbered : Type 0 where
  pub names : ℕ
  pub count : ℕ
  pub shown : ℕ → Sight
  pub stmt : Sight → ℕ → Option Stmt

-- a statement that defines a variable, and one that defines none
abbrev pub naming : (Sight → ℕ → Option Stmt) → Numbered
naming stmt = record { names = 1; count = 1; shown = λ n. Some n ∷ []; stmt = stmt }

abbrev pub plain : (Sight → ℕ → Option Stmt) → Numbered
plain stmt = record { names = 0; count = 0; shown = λ n. []; stmt = stmt }

-- how many names statements define
abbrev pub all_names : List Numbered → ℕ
all_names [] = 0
all_names (s ∷ ss) = s.names + all_names ss

-- how many variables they define
abbrev pub variables_in : List Numbered → ℕ
variables_in [] = 0
variables_in (s ∷ ss) = s.count + variables_in ss

-- statements one after another; a variable is visible after its statement
abbrev pub in_turn : List Numbered → Sight → ℕ → Option (List Stmt)
in_turn [] sight n = Some []
in_turn (s ∷ ss) sight n = option_and_then (λ a. option_map (λ as_. a ∷ as_) (in_turn ss (sight ++ s.shown n) (n + s.count))) (s.stmt sight n)

-- names whose variables are not visible
abbrev pub unseen : ℕ → Sight
unseen k = replicate k None

-- a statement on a table and a key, where there are both
abbrev pub cell_by : Option ℕ → Option Expr → (ℕ → Expr → Option Stmt) → Option Stmt
cell_by table key stmt = option_and_then (λ t. option_and_then (λ k. stmt t k) key) table

-- a conditional's hidden variable comes before those of its blocks; what a block defines is not visible after it
abbrev pub branching : (Sight → Option Expr) → List Numbered → List Numbered → Numbered
branching test first second = record {
  names = all_names first + all_names second;
  count = 1 + (variables_in first + variables_in second);
  shown = λ n. unseen (all_names first) ++ unseen (all_names second);
  stmt = λ sight n. option_and_then (λ e. option_and_then (λ a. option_map (λ b. If n e a b)
      (in_turn second (sight ++ unseen (all_names first)) (n + 1 + variables_in first))) (in_turn first sight (n + 1))) (test sight);
}

-- a loop's variable comes before those of its block, in which it is visible; neither it nor they are visible after the loop
abbrev pub looping : ℤ → ℤ → List Numbered → Numbered
looping from to body = record {
  names = suc (all_names body);
  count = 1 + variables_in body;
  shown = λ n. unseen (suc (all_names body));
  stmt = λ sight n. option_map (λ b. For n from to b) (in_turn body (sight ++ Some n ∷ []) (n + 1));
}

-- a statement to numbering, from those in its blocks
abbrev pub number_step : List Table → List (List ℕ) → StmtNode-F Numbered → Numbered
number_step tables names (form.Let name value) = naming (λ sight n. option_map (λ e. Let n e) (resolved names sight value))
number_step tables names (form.Read name table key column default) = naming (λ sight n. cell_by (table_number tables table.name) (resolved names sight key)
    (λ t k. option_map (λ c. Read n t k c default.value) (column_number tables t column.name)))
number_step tables names (form.Has name table key) = naming (λ sight n. cell_by (table_number tables table.name) (resolved names sight key) (λ t k. Some (Has n t k)))
number_step tables names (form.Put table key values) = plain (λ sight n. cell_by (table_number tables table.name) (resolved names sight key)
    (λ t k. option_map (λ es. Put t k es) (resolved_all names sight values)))
number_step tables names (form.Set table key column value) = plain (λ sight n. cell_by (table_number tables table.name) (resolved names sight key)
    (λ t k. option_and_then (λ c. option_map (λ e. Set t k c e) (resolved names sight value)) (column_number tables t column.name)))
number_step tables names (form.Delete table key) = plain (λ sight n. cell_by (table_number tables table.name) (resolved names sight key) (λ t k. Some (Delete t k)))
number_step tables names (form.AbortIf test) = plain (λ sight n. option_map (λ e. AbortIf e) (resolved names sight test))
number_step tables names (form.If test first second) = branching (λ sight. resolved names sight test) first second
number_step tables names (form.For name from to body) = looping from to body

-- a statement to numbering
abbrev pub numbered : List Table → List (List ℕ) → StmtNode → Numbered
numbered tables names = fold-StmtNode Numbered (number_step tables names)

-- statements by numbers
abbrev pub body_of : List Table → List (List ℕ) → List StmtNode → Sight → ℕ → Option (List Stmt)
body_of tables names nodes = in_turn (map (numbered tables names) nodes)

-- the parameters are visible, and have the first numbers
abbrev pub numbers_from : ℕ → List ColumnNode → Sight
numbers_from n [] = []
numbers_from n (param ∷ params) = Some n ∷ numbers_from (n + 1) params

-- the procedure of a node, None where a name is none of those that are visible
abbrev pub proc_of : List Table → ProcNode → Option Proc
proc_of tables proc =
    option_map (λ body. record { name = proc.name.name; params = map column_of proc.params; body = body })
    (body_of tables (variables proc) proc.body (numbers_from 0 proc.params) (length proc.params))
