-- How much a tree may hold.
use Rattle.std.specs.Prelude.{◌≤◌, ℕ, ◌+◌, suc, Bool, true, false, List, [], ◌∷◌, length, map, All, IsTrue}
use Rattle.pac_value.specs.declared.limits.TheConstants.{MAX_COLUMNS, MAX_PARAMS, MAX_TABLES, MAX_PROCS}
use Rattle.pac_value.specs.declared.values.Ty.{Ty}
use Rattle.pac_value.specs.declared.values.Ty.TheVariants.{Int, Text, Bool as BoolTy}
use Rattle.pac_syntax.specs.declared.tree.ColumnNode.{ColumnNode}
use Rattle.pac_syntax.specs.declared.tree.StmtNode.{StmtNode}
use Rattle.pac_syntax.specs.declared.tree.StmtNode.TheOpen.{StmtNode-F, If, For}
use Rattle.pac_syntax.specs.declared.tree.StmtNode.TheFolds.{fold-StmtNode}
use Rattle.pac_syntax.specs.declared.tree.TableNode.{TableNode}
use Rattle.pac_syntax.specs.declared.tree.ProcNode.{ProcNode}
use Rattle.pac_syntax.specs.declared.tree.Tree.{Tree}

-- a type that keys, columns and parameters have
abbrev pub is_stored_type : Ty → Bool
is_stored_type Int = true
is_stored_type Text = true
is_stored_type BoolTy = false

-- a column or a parameter is an int or a text
abbrev pub HasStoredType : ColumnNode → Type 0
HasStoredType node = IsTrue (is_stored_type node.ty)

-- 1 to 8 columns, which are ints or texts as the key is
pub record IsTableWithinLimits (node : TableNode) : Type 0 where
  pub some : 1 ≤ length node.columns
  pub few : length node.columns ≤ MAX_COLUMNS
  pub key : IsTrue (is_stored_type node.key)
  pub columns : All HasStoredType node.columns

-- the sum of numbers
abbrev pub total : List ℕ → ℕ
total [] = 0
total (n ∷ ns) = n + total ns

-- how many statements a statement is: itself, and those in its blocks
abbrev pub size_step : StmtNode-F ℕ → ℕ
size_step (If test first second) = suc (total first + total second)
size_step (For name from to body) = suc (total body)
size_step _ = 1

-- how many statements a statement is
abbrev pub size : StmtNode → ℕ
size = fold-StmtNode ℕ size_step

-- how many statements these are together
abbrev pub sizes : List StmtNode → ℕ
sizes nodes = total (map size nodes)

-- at most 16 parameters, which are ints or texts, and so few statements, those in blocks included, that all variables
-- have numbers of 16 bits
pub record IsProcWithinLimits (node : ProcNode) : Type 0 where
  pub few : length node.params ≤ MAX_PARAMS
  pub params : All HasStoredType node.params
  pub short : length node.params + sizes node.body ≤ 65535

-- at most 64 tables and 64 procedures, each within its limits
pub record IsWithinLimits (tree : Tree) : Type 0 where
  pub few_tables : length tree.tables ≤ MAX_TABLES
  pub few_procs : length tree.procs ≤ MAX_PROCS
  pub tables : All IsTableWithinLimits tree.tables
  pub procs : All IsProcWithinLimits tree.procs
