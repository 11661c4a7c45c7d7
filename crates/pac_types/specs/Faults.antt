-- The faults that stand in a tree, each at its offset. The lists stand for sets: their order means nothing.
use Rattle.std.specs.Prelude.{◌≡◌, ◌≤◌, ◌⊎◌, ℕ, suc, ◌+◌, Bool, true, false, nat_lt, nat_eq, not, if◌then◌else◌, List, [], ◌∷◌, ◌++◌, length, replicate, map, slice_get, Option, Some, None}
use Rattle.std.specs.Option.{option_and_then}
use Rattle.pac_value.specs.declared.values.Ty.{Ty}
use Rattle.pac_value.specs.declared.values.Ty.TheVariants.{Int as IntTy, Text as TextTy, Bool as BoolTy}
use Rattle.pac_value.specs.declared.expr.BinOp.{BinOp}
use Rattle.pac_value.specs.declared.expr.BinOp.TheVariants.{Add, Sub, Mul, Div, Rem, Eq, Ne, Lt, Le, Gt, Ge, And, Or}
use Rattle.pac_value.specs.Values.{type_of}
use Rattle.pac_value.specs.Expressions.{operator_type, negated_type}
use Rattle.pac_syntax.specs.declared.tree.NameNode.{NameNode}
use Rattle.pac_syntax.specs.declared.tree.ColumnNode.{ColumnNode}
use Rattle.pac_syntax.specs.declared.tree.TableNode.{TableNode}
use Rattle.pac_syntax.specs.declared.tree.ProcNode.{ProcNode}
use Rattle.pac_syntax.specs.declared.tree.Tree.{Tree}
use Rattle.pac_syntax.specs.declared.tree.ExprNode.{ExprNode}
use Rattle.pac_syntax.specs.declared.tree.ExprNode.TheOpen as node
use Rattle.pac_syntax.specs.declared.tree.ExprNode.TheOpen.{ExprNode-F}
use Rattle.pac_syntax.specs.declared.tree.ExprNode.TheFolds.{fold-ExprNode}
use Rattle.pac_syntax.specs.declared.tree.StmtNode.{StmtNode}
use Rattle.pac_syntax.specs.declared.tree.StmtNode.TheOpen as form
use Rattle.pac_syntax.specs.declared.tree.StmtNode.TheOpen.{StmtNode-F}
use Rattle.pac_syntax.specs.declared.tree.StmtNode.TheFolds.{fold-StmtNode}
use Rattle.pac_types.specs.declared.table.Table.{Table}
use Rattle.pac_types.specs.declared.type_error.TypeFault.{TypeFault}
use Rattle.pac_types.specs.declared.type_error.TypeFaultKind.{TypeFaultKind}
use Rattle.pac_types.specs.declared.type_error.TypeFaultKind.TheVariants.{UnknownName, Twice, WrongType, WrongCount, OutOfScope}
use Rattle.pac_types.specs.Numbering.{number_of, variables, table_number, column_number, table_of}
use Rattle.pac_types.specs.WellFormed.{key_type, column_type, column_types}
use Rattle.pac_value.specs.Scopes.{is_wanted}

-- one fault, of this kind at this offset
abbrev pub fault : ℕ → TypeFaultKind → List TypeFault
fault at kind = record { at = at; kind = kind } ∷ []

-- one fault where the test holds, and else none
abbrev pub fault_if : Bool → ℕ → TypeFaultKind → List TypeFault
fault_if true at kind = fault at kind
fault_if false at kind = []

-- ---- names

-- there is a number, and it is less than the index
abbrev pub is_before : Option ℕ → ℕ → Bool
is_before None index = false
is_before (Some number) index = nat_lt number index

-- the name at an index among these stands at one before it too
abbrev pub twice : List (List ℕ) → ℕ → NameNode → List TypeFault
twice names index name = fault_if (is_before (number_of names name.name) index) name.at Twice

-- what is known of the names of a procedure that stand before: whether the variable is visible, and its type then,
-- None where it has none
abbrev pub Known : Type 0
Known = List (Option (Option Ty))

-- that many names whose variables aren't visible
abbrev pub out_of_sight : ℕ → Known
out_of_sight k = replicate k None

-- the visible variable at an index among the names
abbrev pub seen : Known → Option ℕ → Option (Option Ty)
seen known None = None
seen known (Some index) = option_and_then (λ v. v) (slice_get known index)

-- a name that is none of the procedure's is unknown, one whose variable isn't visible is out of scope
abbrev pub name_faults : ℕ → Option ℕ → Option (Option Ty) → List TypeFault
name_faults at None ty = fault at UnknownName
name_faults at (Some index) None = fault at OutOfScope
name_faults at (Some index) (Some ty) = []

-- ---- expressions

-- the two are one type
abbrev pub same_ty : Ty → Ty → Bool
same_ty IntTy IntTy = true
same_ty TextTy TextTy = true
same_ty BoolTy BoolTy = true
same_ty _ _ = false

-- ints and texts are ordered
abbrev pub is_ordered : Ty → Bool
is_ordered IntTy = true
is_ordered TextTy = true
is_ordered BoolTy = false

-- an operator takes a left operand of this type
abbrev pub is_left : BinOp → Ty → Bool
is_left Add ty = same_ty ty IntTy
is_left Sub ty = same_ty ty IntTy
is_left Mul ty = same_ty ty IntTy
is_left Div ty = same_ty ty IntTy
is_left Rem ty = same_ty ty IntTy
is_left Eq ty = true
is_left Ne ty = true
is_left Lt ty = is_ordered ty
is_left Le ty = is_ordered ty
is_left Gt ty = is_ordered ty
is_left Ge ty = is_ordered ty
is_left And ty = same_ty ty BoolTy
is_left Or ty = same_ty ty BoolTy

-- the type that an operator wants at its right, where its left operand has this type
abbrev pub wanted_right : BinOp → Option Ty → Option Ty
wanted_right Add left = Some IntTy
wanted_right Sub left = Some IntTy
wanted_right Mul left = Some IntTy
wanted_right Div left = Some IntTy
wanted_right Rem left = Some IntTy
wanted_right And left = Some BoolTy
wanted_right Or left = Some BoolTy
wanted_right _ left = left

-- the type is the one that is wanted, where one is
abbrev pub is_same : Option Ty → Ty → Bool
is_same None ty = true
is_same (Some wanted) ty = same_ty ty wanted

-- a key's or a column's type is wanted, where there is one
abbrev pub is_fitting : Option Ty → Ty → Bool
is_fitting None ty = true
is_fitting (Some wanted) ty = is_wanted (Some ty) (Some wanted)

-- a test is a bool
abbrev pub is_test : Ty → Bool
is_test ty = same_ty ty BoolTy

-- an expression: where it stands, its type, None where a fault stands in it, and the faults that stand in it
pub record Judged : Type 0 where
  pub at : ℕ
  pub ty : Option Ty
  pub faults : List TypeFault

-- a fault where there is a type and it isn't taken
abbrev pub wrong_type : (Ty → Bool) → ℕ → Option Ty → List TypeFault
wrong_type takes at None = []
wrong_type takes at (Some ty) = fault_if (not (takes ty)) at WrongType

-- an expression at a position that takes some types
abbrev pub placed : (Ty → Bool) → Judged → List TypeFault
placed takes e = wrong_type takes e.at e.ty ++ e.faults

-- an expression, from its operands
abbrev pub judge_step : List (List ℕ) → Known → ExprNode-F Judged → Judged
judge_step names known (node.Literal literal) = record { at = literal.at; ty = Some (type_of literal.value); faults = [] }
judge_step names known (node.Name name) = record {
  at = name.at;
  ty = option_and_then (λ ty. ty) (seen known (number_of names name.name));
  faults = name_faults name.at (number_of names name.name) (seen known (number_of names name.name));
}
judge_step names known (node.Binary at op left right) = record {
  at = at;
  ty = option_and_then (λ a. option_and_then (λ b. operator_type op a b) right.ty) left.ty;
  faults = placed (is_left op) left ++ placed (is_same (wanted_right op left.ty)) right;
}
judge_step names known (node.Not at operand) = record { at = at; ty = option_and_then negated_type operand.ty; faults = placed is_test operand }

-- an expression, over a procedure's names and what is known of them
abbrev pub judged : List (List ℕ) → Known → ExprNode → Judged
judged names known = fold-ExprNode Judged (judge_step names known)

-- ---- statements

-- a fault where a name has no number
abbrev pub unknown : Option ℕ → ℕ → List TypeFault
unknown None at = fault at UnknownName
unknown (Some n) at = []

-- a key of a table, and a column of one, where there is such a table
abbrev pub key_wanted : List Table → Option ℕ → Option Ty
key_wanted tables table = option_and_then (λ t. key_type tables t) table

-- the type of a table's column, where there are both
abbrev pub column_wanted : List Table → Option ℕ → List ℕ → Option Ty
column_wanted tables table name = option_and_then (λ t. option_and_then (λ c. column_type tables t c) (column_number tables t name)) table

-- an unknown column of a known table
abbrev pub column_faults : List Table → Option ℕ → NameNode → List TypeFault
column_faults tables None column = []
column_faults tables (Some t) column = unknown (column_number tables t column.name) column.at

-- a fault where values are not as many as columns
abbrev pub count_faults : ℕ → ℕ → ℕ → List TypeFault
count_faults at values columns = fault_if (not (nat_eq values columns)) at WrongCount

-- the same over a table, where it is known
abbrev pub wrong_count : List Table → Option ℕ → ℕ → ℕ → List TypeFault
wrong_count tables None at values = []
wrong_count tables (Some t) at values = count_faults at values (length (column_types tables t))

-- the types that the values of a `put` want: none where their number is wrong
abbrev pub values_wanted : List Table → Option ℕ → ℕ → List Ty
values_wanted tables None values = []
values_wanted tables (Some t) values = if nat_eq values (length (column_types tables t)) then column_types tables t else []

-- the faults of values, over the types that they want
abbrev pub values_faults : (ExprNode → Judged) → List ExprNode → List Ty → List TypeFault
values_faults judge [] tys = []
values_faults judge (e ∷ es) [] = (judge e).faults ++ values_faults judge es []
values_faults judge (e ∷ es) (ty ∷ tys) = placed (is_fitting (Some ty)) (judge e) ++ values_faults judge es tys

-- a statement to the rules: how many names it defines, what is known of these after it, and the faults that stand in it
pub record Ruled : Type 0 where
  pub names : ℕ
  pub shown : Known → Known
  pub faults : Known → List TypeFault

-- how many names statements define
abbrev pub ruled_names : List Ruled → ℕ
ruled_names [] = 0
ruled_names (s ∷ ss) = s.names + ruled_names ss

-- a variable is visible after its statement
abbrev pub all_faults : List Ruled → Known → List TypeFault
all_faults [] known = []
all_faults (s ∷ ss) known = s.faults known ++ all_faults ss (known ++ s.shown known)

-- a statement that defines one name
abbrev pub ruled_naming : (Known → Option Ty) → (Known → List TypeFault) → Ruled
ruled_naming ty faults = record { names = 1; shown = λ known. Some (ty known) ∷ []; faults = faults }

-- a statement that defines none
abbrev pub ruled_plain : (Known → List TypeFault) → Ruled
ruled_plain faults = record { names = 0; shown = λ known. []; faults = faults }

-- what a block defines is not visible after it
abbrev pub ruled_branching : (Known → List TypeFault) → List Ruled → List Ruled → Ruled
ruled_branching test first second = record {
  names = ruled_names first + ruled_names second;
  shown = λ known. out_of_sight (ruled_names first) ++ out_of_sight (ruled_names second);
  faults = λ known. test known ++ (all_faults first known ++ all_faults second (known ++ out_of_sight (ruled_names first)));
}

-- a loop's name is an int in its block; neither it nor what the block defines is visible after the loop
abbrev pub ruled_looping : (Known → List TypeFault) → List Ruled → Ruled
ruled_looping name body = record {
  names = suc (ruled_names body);
  shown = λ known. out_of_sight (suc (ruled_names body));
  faults = λ known. name known ++ all_faults body (known ++ Some (Some IntTy) ∷ []);
}

-- the faults of TABLE[KEY]
abbrev pub cell_faults : List Table → (ExprNode → Judged) → NameNode → ExprNode → List TypeFault
cell_faults tables judge table key = unknown (table_number tables table.name) table.at ++ placed (is_fitting (key_wanted tables (table_number tables table.name))) (judge key)

-- a statement, from those in its blocks
abbrev pub rule_step : List Table → List (List ℕ) → StmtNode-F Ruled → Ruled
rule_step tables names (form.Let name value) = ruled_naming (λ known. (judged names known value).ty) (λ known. twice names (length known) name ++ (judged names known value).faults)
rule_step tables names (form.Read name table key column default) = ruled_naming (λ known. column_wanted tables (table_number tables table.name) column.name) (λ known.
    twice names (length known) name ++ (cell_faults tables (judged names known) table key ++ (column_faults tables (table_number tables table.name) column
    ++ wrong_type (is_fitting (column_wanted tables (table_number tables table.name) column.name)) default.at (Some (type_of default.value)))))
rule_step tables names (form.Has name table key) = ruled_naming (λ known. Some BoolTy) (λ known. twice names (length known) name ++ cell_faults tables (judged names known) table key)
rule_step tables names (form.Put table key values) = ruled_plain (λ known.
    unknown (table_number tables table.name) table.at ++ (wrong_count tables (table_number tables table.name) table.at (length values)
    ++ (placed (is_fitting (key_wanted tables (table_number tables table.name))) (judged names known key)
    ++ values_faults (judged names known) values (values_wanted tables (table_number tables table.name) (length values)))))
rule_step tables names (form.Set table key column value) = ruled_plain (λ known.
    cell_faults tables (judged names known) table key ++ (column_faults tables (table_number tables table.name) column
    ++ placed (is_fitting (column_wanted tables (table_number tables table.name) column.name)) (judged names known value)))
rule_step tables names (form.Delete table key) = ruled_plain (λ known. cell_faults tables (judged names known) table key)
rule_step tables names (form.AbortIf test) = ruled_plain (λ known. placed is_test (judged names known test))
rule_step tables names (form.If test first second) = ruled_branching (λ known. placed is_test (judged names known test)) first second
rule_step tables names (form.For name from to body) = ruled_looping (λ known. twice names (length known) name) body

-- a statement to the rules, over the tables and the names of its procedure
abbrev pub ruled : List Table → List (List ℕ) → StmtNode → Ruled
ruled tables names = fold-StmtNode Ruled (rule_step tables names)

-- ---- tables, procedures and trees

-- each of these names from an index on that stands before too
abbrev pub names_faults : List (List ℕ) → ℕ → List ColumnNode → List TypeFault
names_faults names index [] = []
names_faults names index (node ∷ nodes) = twice names index node.name ++ names_faults names (index + 1) nodes

-- the faults of tables, from an index on
abbrev pub tables_faults : List (List ℕ) → ℕ → List TableNode → List TypeFault
tables_faults names index [] = []
tables_faults names index (node ∷ nodes) =
    (twice names index node.name ++ names_faults (map (λ column. column.name.name) node.columns) 0 node.columns) ++ tables_faults names (index + 1) nodes

-- parameters are visible in the whole procedure
abbrev pub params_known : List ColumnNode → Known
params_known nodes = map (λ node. Some (Some node.ty)) nodes

-- the faults of a procedure
abbrev pub proc_faults : List Table → ProcNode → List TypeFault
proc_faults tables node = names_faults (variables node) 0 node.params ++ all_faults (map (ruled tables (variables node)) node.body) (params_known node.params)

-- the faults of procedures, from an index on
abbrev pub procs_faults : List Table → List (List ℕ) → ℕ → List ProcNode → List TypeFault
procs_faults tables names index [] = []
procs_faults tables names index (node ∷ nodes) = (twice names index node.name ++ proc_faults tables node) ++ procs_faults tables names (index + 1) nodes

-- the faults of a tree
abbrev pub tree_faults : Tree → List TypeFault
tree_faults tree =
    tables_faults (map (λ node. node.name.name) tree.tables) 0 tree.tables ++ procs_faults (map table_of tree.tables) (map (λ node. node.name.name) tree.procs) 0 tree.procs

-- the fault is one of these
abbrev pub IsAmong : List TypeFault → TypeFault → Type 0
IsAmong [] fault = ⊥
IsAmong (f ∷ fs) fault = (f ≡ fault) ⊎ IsAmong fs fault

-- the fault stands in the tree
abbrev pub Stands : Tree → TypeFault → Type 0
Stands tree fault = IsAmong (tree_faults tree) fault

-- the tree's first fault: it stands in the tree, none that does has a lesser offset, and no other has the same offset
pub record IsFirstTypeFault (tree : Tree) (fault : TypeFault) : Type 0 where
  pub stands : Stands tree fault
  pub least : (other : TypeFault) → Stands tree other → fault.at ≤ other.at
  pub alone : (other : TypeFault) → Stands tree other → other.at ≡ fault.at → other ≡ fault
