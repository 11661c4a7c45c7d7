-- The canonical text of a tree: lines of its own for each table, procedure and statement, and parentheses only where the levels of the
-- grammar need them.
use Rattle.std.specs.Prelude.{ℕ, suc, ℤ, List, [], ◌∷◌, ◌++◌, codes, flat_map, map, nat_le, if◌then◌else◌}
use Rattle.pac_value.specs.declared.values.Ty.{Ty}
use Rattle.pac_value.specs.declared.values.Ty.TheVariants as ty
use Rattle.pac_value.specs.declared.expr.BinOp.{BinOp}
use Rattle.pac_syntax.specs.declared.tree.NameNode.{NameNode}
use Rattle.pac_syntax.specs.declared.tree.ColumnNode.{ColumnNode}
use Rattle.pac_syntax.specs.declared.tree.ExprNode.{ExprNode}
use Rattle.pac_syntax.specs.declared.tree.ExprNode.TheOpen.{ExprNode-F, Literal, Name, Binary, Not}
use Rattle.pac_syntax.specs.declared.tree.ExprNode.TheFolds.{fold-ExprNode}
use Rattle.pac_syntax.specs.declared.tree.StmtNode.{StmtNode}
use Rattle.pac_syntax.specs.declared.tree.StmtNode.TheOpen.{StmtNode-F, Let, Read, Has, Put, Set, Delete, AbortIf, If, For}
use Rattle.pac_syntax.specs.declared.tree.StmtNode.TheFolds.{fold-StmtNode}
use Rattle.pac_syntax.specs.declared.tree.TableNode.{TableNode}
use Rattle.pac_syntax.specs.declared.tree.ProcNode.{ProcNode}
use Rattle.pac_syntax.specs.declared.tree.Tree.{Tree}
use Rattle.pac_tokens.specs.Spelling.{symbol_spelling}
use Rattle.pac_value.specs.declared.values.Value.TheVariants as value
use Rattle.pac_value.specs.Literals.{value_text}
use Rattle.pac_syntax.specs.Grammar.{operator_symbol, precedence, left_level}

-- ---- types

-- a type as it is written; no column, key or parameter of a tree that is read is a bool
abbrev pub type_text : Ty → List ℕ
type_text ty.Int = codes "int"
type_text ty.Text = codes "text"
type_text ty.Bool = codes "bool"

-- ---- expressions

-- an expression as it is spelled, and its level in the grammar
pub record Spelled : Type 0 where
  pub level : ℕ
  pub text : List ℕ

-- an operand where an expression of this level may stand: in parentheses, where its own is above
abbrev pub operand_text : ℕ → Spelled → List ℕ
operand_text most e = if nat_le e.level most then e.text else codes "(" ++ e.text ++ codes ")"

-- an operator between its operands
abbrev pub binary_text : BinOp → Spelled → Spelled → List ℕ
binary_text op left right =
    operand_text (left_level (precedence op)) left ++ codes " " ++ symbol_spelling (operator_symbol op) ++ codes " " ++ operand_text (precedence op) right

-- an expression, from its operands
abbrev pub expr_step : ExprNode-F Spelled → Spelled
expr_step (Literal literal) = record { level = 0; text = value_text literal.value }
expr_step (Name name) = record { level = 0; text = name.name }
expr_step (Binary at op left right) = record { level = suc (precedence op); text = binary_text op left right }
expr_step (Not at operand) = record { level = 0; text = codes "!" ++ operand_text 0 operand }

-- an expression as it is spelled, with its level
abbrev pub spelled : ExprNode → Spelled
spelled = fold-ExprNode Spelled expr_step

-- the text of a whole expression
abbrev pub expr_text : ExprNode → List ℕ
expr_text expr = (spelled expr).text

-- a comma before an expression that isn't the first
abbrev pub further_text : ExprNode → List ℕ
further_text expr = codes ", " ++ expr_text expr

-- expressions with a comma and a space between them
abbrev pub exprs_text : List ExprNode → List ℕ
exprs_text [] = []
exprs_text (expr ∷ exprs) = expr_text expr ++ flat_map further_text exprs

-- ---- statements

-- TABLE[KEY]
abbrev pub cell_text : NameNode → ExprNode → List ℕ
cell_text table key = table.name ++ codes "[" ++ expr_text key ++ codes "]"

-- TABLE[KEY].COLUMN
abbrev pub field_text : NameNode → ExprNode → NameNode → List ℕ
field_text table key column = cell_text table key ++ codes "." ++ column.name

-- Statements are texts by their indent: what stands before each of their lines but the first.
abbrev pub Indented : Type 0
Indented = List ℕ → List ℕ

-- two spaces more for each block
abbrev pub deeper : List ℕ → List ℕ
deeper indent = indent ++ codes "  "

-- each statement on lines of its own
abbrev pub statement_lines : List Indented → Indented
statement_lines [] indent = []
statement_lines (stmt ∷ stmts) indent = indent ++ stmt indent ++ codes "\n" ++ statement_lines stmts indent

-- nothing, where there are no statements
abbrev pub else_text : List Indented → Indented
else_text [] indent = []
else_text (stmt ∷ stmts) indent = indent ++ codes "} else {\n" ++ statement_lines (stmt ∷ stmts) (deeper indent)

-- FROM..TO
abbrev pub bounds_text : ℤ → ℤ → List ℕ
bounds_text from to = value_text (value.Int from) ++ codes ".." ++ value_text (value.Int to)

-- for NAME in FROM..TO, and the brace that opens the block
abbrev pub loop_head : NameNode → ℤ → ℤ → List ℕ
loop_head name from to = codes "for " ++ name.name ++ codes " in " ++ bounds_text from to ++ codes " {\n"

-- from its first word to its last symbol
abbrev pub stmt_step : StmtNode-F Indented → Indented
stmt_step (Let name expr) indent = codes "let " ++ name.name ++ codes " = " ++ expr_text expr ++ codes ";"
stmt_step (Read name table key column default) indent =
    codes "read " ++ name.name ++ codes " = " ++ field_text table key column ++ codes " default " ++ value_text default.value ++ codes ";"
stmt_step (Has name table key) indent = codes "has " ++ name.name ++ codes " = " ++ cell_text table key ++ codes ";"
stmt_step (Put table key exprs) indent = codes "put " ++ cell_text table key ++ codes " = (" ++ exprs_text exprs ++ codes ");"
stmt_step (Set table key column expr) indent = codes "set " ++ field_text table key column ++ codes " = " ++ expr_text expr ++ codes ";"
stmt_step (Delete table key) indent = codes "delete " ++ cell_text table key ++ codes ";"
stmt_step (AbortIf test) indent = codes "abort if " ++ expr_text test ++ codes ";"
stmt_step (If test first second) indent =
    codes "if " ++ expr_text test ++ codes " {\n" ++ statement_lines first (deeper indent) ++ else_text second indent ++ indent ++ codes "}"
stmt_step (For name from to body) indent = loop_head name from to ++ statement_lines body (deeper indent) ++ indent ++ codes "}"

-- a statement, by its indent
abbrev pub stmt_text : StmtNode → Indented
stmt_text = fold-StmtNode Indented stmt_step

-- the lines of statements after this indent
abbrev pub stmts_text : List ℕ → List StmtNode → List ℕ
stmts_text indent stmts = statement_lines (map stmt_text stmts) indent

-- ---- catalogues

-- NAME TYPE
abbrev pub column_text : ColumnNode → List ℕ
column_text column = column.name.name ++ codes " " ++ type_text column.ty

-- a comma before a column that isn't the first
abbrev pub further_column_text : ColumnNode → List ℕ
further_column_text column = codes ", " ++ column_text column

-- the key counts as a column before the others
abbrev pub table_text : TableNode → List ℕ
table_text table =
    codes "table " ++ table.name.name ++ codes "(key " ++ type_text table.key ++ flat_map further_column_text table.columns ++ codes ");\n"

-- parameters with a comma and a space between them
abbrev pub params_text : List ColumnNode → List ℕ
params_text [] = []
params_text (param ∷ params) = column_text param ++ flat_map further_column_text params

-- a procedure, with its statements indented once
abbrev pub proc_text : ProcNode → List ℕ
proc_text proc = codes "proc " ++ proc.name.name ++ codes "(" ++ params_text proc.params ++ codes ") {\n" ++ stmts_text (deeper []) proc.body ++ codes "}\n"

-- the tables, and then the procedures
abbrev pub canonical : Tree → List ℕ
canonical tree = flat_map table_text tree.tables ++ flat_map proc_text tree.procs
