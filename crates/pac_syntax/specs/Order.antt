-- Where the nodes of a tree stand: their offsets in the order of the text.
use Rattle.std.specs.Prelude.{ℕ, ◌≤◌, suc, List, [], ◌∷◌, ◌++◌}
use Rattle.std.specs.List.{flat_map}
use Rattle.pac_syntax.specs.declared.tree.ColumnNode.{ColumnNode}
use Rattle.pac_syntax.specs.declared.tree.ExprNode.{ExprNode}
use Rattle.pac_syntax.specs.declared.tree.ExprNode.TheOpen.{ExprNode-F, Literal, Name, Binary, Not}
use Rattle.pac_syntax.specs.declared.tree.ExprNode.TheFolds.{fold-ExprNode}
use Rattle.pac_syntax.specs.declared.tree.StmtNode.{StmtNode}
use Rattle.pac_syntax.specs.declared.tree.StmtNode.TheOpen.{StmtNode-F, Let, Read, Has, Put, Set, Delete, AbortIf, If, For}
use Rattle.pac_syntax.specs.declared.tree.StmtNode.TheFolds.{fold-StmtNode}
use Rattle.pac_syntax.specs.declared.tree.TableNode.{TableNode}
use Rattle.pac_syntax.specs.declared.tree.ProcNode.{ProcNode}
use Rattle.pac_syntax.specs.declared.tree.Tree.{Tree}

-- Where a node stands: at a token of its own, or where its first operand begins, whose token this is.
pub data NodeOffset : Type 0 where
  Own : ℕ → NodeOffset
  Shared : ℕ → NodeOffset

-- a binary expression stands where its first operand does, parentheses round that included
abbrev pub expr_offsets_step : ExprNode-F (List NodeOffset) → List NodeOffset
expr_offsets_step (Literal literal) = Own literal.at ∷ []
expr_offsets_step (Name name) = Own name.at ∷ []
expr_offsets_step (Binary at op l r) = Shared at ∷ (l ++ r)
expr_offsets_step (Not at e) = Own at ∷ e

-- the offsets of an expression's nodes
abbrev pub expr_offsets : ExprNode → List NodeOffset
expr_offsets = fold-ExprNode (List NodeOffset) expr_offsets_step

abbrev pub all_offsets : List (List NodeOffset) → List NodeOffset
all_offsets [] = []
all_offsets (ps ∷ rest) = ps ++ all_offsets rest

abbrev pub stmt_offsets_step : StmtNode-F (List NodeOffset) → List NodeOffset
stmt_offsets_step (Let name value) = Own name.at ∷ expr_offsets value
stmt_offsets_step (Read name table key column default) = Own name.at ∷ Own table.at ∷ (expr_offsets key ++ (Own column.at ∷ Own default.at ∷ []))
stmt_offsets_step (Has name table key) = Own name.at ∷ Own table.at ∷ expr_offsets key
stmt_offsets_step (Put table key values) = Own table.at ∷ (expr_offsets key ++ flat_map expr_offsets values)
stmt_offsets_step (Set table key column value) = Own table.at ∷ (expr_offsets key ++ (Own column.at ∷ expr_offsets value))
stmt_offsets_step (Delete table key) = Own table.at ∷ expr_offsets key
stmt_offsets_step (AbortIf test) = expr_offsets test
stmt_offsets_step (If test first second) = expr_offsets test ++ (all_offsets first ++ all_offsets second)
stmt_offsets_step (For name from to body) = Own name.at ∷ all_offsets body

-- the offsets of a statement's nodes
abbrev pub stmt_offsets : StmtNode → List NodeOffset
stmt_offsets = fold-StmtNode (List NodeOffset) stmt_offsets_step

abbrev pub stmts_offsets : List StmtNode → List NodeOffset
stmts_offsets nodes = flat_map stmt_offsets nodes

abbrev pub columns_offsets : List ColumnNode → List NodeOffset
columns_offsets nodes = flat_map (λ node. Own node.name.at ∷ []) nodes

abbrev pub table_offsets : TableNode → List NodeOffset
table_offsets node = Own node.name.at ∷ columns_offsets node.columns

abbrev pub proc_offsets : ProcNode → List NodeOffset
proc_offsets node = Own node.name.at ∷ (columns_offsets node.params ++ stmts_offsets node.body)

abbrev pub tree_offsets : Tree → List NodeOffset
tree_offsets tree = flat_map table_offsets tree.tables ++ flat_map proc_offsets tree.procs

-- each offset stands after the one before it, and none before this one
abbrev pub Climbs : ℕ → List ℕ → Type 0
Climbs low [] = Unit {0}
Climbs low (p ∷ ps) = (low ≤ p) × Climbs (suc p) ps

-- none of the offsets stands before this one, and each stands after the tokens of those before it
abbrev pub Ascends : ℕ → List NodeOffset → Type 0
Ascends low [] = Unit {0}
Ascends low (Own p ∷ ps) = (low ≤ p) × Ascends (suc p) ps
Ascends low (Shared p ∷ ps) = (low ≤ p) × Ascends p ps

-- the nodes stand in the order of the text
abbrev pub IsOrdered : Tree → Type 0
IsOrdered tree = Ascends 0 (tree_offsets tree)
