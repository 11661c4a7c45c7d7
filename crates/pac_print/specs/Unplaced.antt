-- A tree without the offsets of its nodes: what is left of it in its canonical text.
use Rattle.std.specs.Prelude.{◌≡◌, ℕ, List, map}
use Rattle.pac_syntax.specs.declared.tree.NameNode.{NameNode}
use Rattle.pac_syntax.specs.declared.tree.LiteralNode.{LiteralNode}
use Rattle.pac_syntax.specs.declared.tree.ColumnNode.{ColumnNode}
use Rattle.pac_syntax.specs.declared.tree.ExprNode.{ExprNode}
use Rattle.pac_syntax.specs.declared.tree.ExprNode.{Literal as ALiteral, Name as AName, Binary as ABinary, Not as ANot}
use Rattle.pac_syntax.specs.declared.tree.ExprNode.TheOpen.{ExprNode-F, Literal, Name, Binary, Not}
use Rattle.pac_syntax.specs.declared.tree.ExprNode.TheFolds.{fold-ExprNode}
use Rattle.pac_syntax.specs.declared.tree.StmtNode.{StmtNode}
use Rattle.pac_syntax.specs.declared.tree.StmtNode.TheVariants as stmt
use Rattle.pac_syntax.specs.declared.tree.StmtNode.TheOpen.{StmtNode-F, Let, Read, Has, Put, Set, Delete, AbortIf, If, For}
use Rattle.pac_syntax.specs.declared.tree.StmtNode.TheFolds.{fold-StmtNode}
use Rattle.pac_syntax.specs.declared.tree.TableNode.{TableNode}
use Rattle.pac_syntax.specs.declared.tree.ProcNode.{ProcNode}
use Rattle.pac_syntax.specs.declared.tree.Tree.{Tree}
use Rattle.pac_syntax.specs.Reading.{Reads}

-- each offset is 0
abbrev pub unplaced_name : NameNode → NameNode
unplaced_name name = record { at = 0; name = name.name }

-- so of a literal
abbrev pub unplaced_literal : LiteralNode → LiteralNode
unplaced_literal literal = record { at = 0; value = literal.value }

-- of a column or a parameter
abbrev pub unplaced_column : ColumnNode → ColumnNode
unplaced_column column = record { name = unplaced_name column.name; ty = column.ty }

-- of an expression, from its operands
abbrev pub unplaced_expr_step : ExprNode-F ExprNode → ExprNode
unplaced_expr_step (Literal literal) = ALiteral (unplaced_literal literal)
unplaced_expr_step (Name name) = AName (unplaced_name name)
unplaced_expr_step (Binary at op left right) = ABinary 0 op left right
unplaced_expr_step (Not at operand) = ANot 0 operand

-- of an expression
abbrev pub unplaced_expr : ExprNode → ExprNode
unplaced_expr = fold-ExprNode ExprNode unplaced_expr_step

-- of a statement, from those in its blocks
abbrev pub unplaced_stmt_step : StmtNode-F StmtNode → StmtNode
unplaced_stmt_step (Let name expr) = stmt.Let (unplaced_name name) (unplaced_expr expr)
unplaced_stmt_step (Read name table key column default) =
    stmt.Read (unplaced_name name) (unplaced_name table) (unplaced_expr key) (unplaced_name column) (unplaced_literal default)
unplaced_stmt_step (Has name table key) = stmt.Has (unplaced_name name) (unplaced_name table) (unplaced_expr key)
unplaced_stmt_step (Put table key exprs) = stmt.Put (unplaced_name table) (unplaced_expr key) (map unplaced_expr exprs)
unplaced_stmt_step (Set table key column expr) = stmt.Set (unplaced_name table) (unplaced_expr key) (unplaced_name column) (unplaced_expr expr)
unplaced_stmt_step (Delete table key) = stmt.Delete (unplaced_name table) (unplaced_expr key)
unplaced_stmt_step (AbortIf test) = stmt.AbortIf (unplaced_expr test)
unplaced_stmt_step (If test first second) = stmt.If (unplaced_expr test) first second
unplaced_stmt_step (For name from to body) = stmt.For (unplaced_name name) from to body

-- of a statement
abbrev pub unplaced_stmt : StmtNode → StmtNode
unplaced_stmt = fold-StmtNode StmtNode unplaced_stmt_step

-- of a table
abbrev pub unplaced_table : TableNode → TableNode
unplaced_table table = record { name = unplaced_name table.name; key = table.key; columns = map unplaced_column table.columns }

-- of a procedure
abbrev pub unplaced_proc : ProcNode → ProcNode
unplaced_proc proc = record { name = unplaced_name proc.name; params = map unplaced_column proc.params; body = map unplaced_stmt proc.body }

-- a tree in which each offset is 0
abbrev pub without_offsets : Tree → Tree
without_offsets tree = record { tables = map unplaced_table tree.tables; procs = map unplaced_proc tree.procs }

-- the text reads as a tree that is the same but for offsets
abbrev pub ReadsButForOffsets : List ℕ → Tree → Type 0
ReadsButForOffsets text tree = (again : Tree) × Reads text again × (without_offsets again ≡ without_offsets tree)
