-- Checking from left to right: what the checker does, statement by statement, up to the first fault that it meets.
use Rattle.std.specs.Prelude.{ℕ, ◌+◌, ◌-◌, Bool, true, false, nat_eq, not, List, [], ◌∷◌, ◌++◌, length, take, replicate, map, slice_get, Option, Some, None, Result, Ok, Err}
use Rattle.pac_value.specs.declared.values.Ty.{Ty}
use Rattle.pac_value.specs.declared.values.Ty.TheVariants.{Int as IntTy, Bool as BoolTy}
use Rattle.pac_value.specs.declared.expr.BinOp.{BinOp}
use Rattle.pac_value.specs.declared.expr.BinOp.TheVariants.{Add, Sub, Mul, Div, Rem, And, Or}
use Rattle.pac_value.specs.declared.expr.Expr.{Expr, Lit, Var, Bin}
use Rattle.pac_value.specs.declared.expr.Expr as expr
use Rattle.pac_value.specs.Values.{type_of}
use Rattle.pac_value.specs.Expressions.{◌>>=◌}
use Rattle.pac_syntax.specs.declared.tree.NameNode.{NameNode}
use Rattle.pac_syntax.specs.declared.tree.LiteralNode.{LiteralNode}
use Rattle.pac_syntax.specs.declared.tree.ColumnNode.{ColumnNode}
use Rattle.pac_syntax.specs.declared.tree.TableNode.{TableNode}
use Rattle.pac_syntax.specs.declared.tree.ProcNode.{ProcNode}
use Rattle.pac_syntax.specs.declared.tree.ExprNode.{ExprNode}
use Rattle.pac_syntax.specs.declared.tree.ExprNode.TheOpen as node
use Rattle.pac_syntax.specs.declared.tree.ExprNode.TheOpen.{ExprNode-F}
use Rattle.pac_syntax.specs.declared.tree.ExprNode.TheFolds.{fold-ExprNode}
use Rattle.pac_syntax.specs.declared.tree.StmtNode.{StmtNode}
use Rattle.pac_syntax.specs.declared.tree.StmtNode.TheOpen as form
use Rattle.pac_syntax.specs.declared.tree.StmtNode.TheOpen.{StmtNode-F}
use Rattle.pac_syntax.specs.declared.tree.StmtNode.TheFolds.{fold-StmtNode}
use Rattle.pac_types.specs.declared.table.Table.{Table}
use Rattle.pac_types.specs.declared.procedure.Proc.{Proc}
use Rattle.pac_types.specs.declared.statement.Stmt.{Stmt, Let, Read, Has, Put, Set, Delete, AbortIf, If, For}
use Rattle.pac_types.specs.declared.type_error.TypeFault.{TypeFault}
use Rattle.pac_types.specs.declared.type_error.TypeFaultKind.{TypeFaultKind}
use Rattle.pac_types.specs.declared.type_error.TypeFaultKind.TheVariants.{UnknownName, Twice, WrongType, WrongCount, OutOfScope}
use Rattle.pac_types.specs.declared.checker.scope.Variable.{Variable}
use Rattle.pac_types.specs.declared.checker.expressions.Typed.{Typed}
use Rattle.pac_types.specs.declared.checker.statements.Cell.{Cell}
use Rattle.pac_types.specs.declared.checker.statements.Field.{Field}
use Rattle.pac_types.specs.Numbering.{number_of, variables, table_number, column_number, column_of}
use Rattle.pac_types.specs.Faults.{is_before, same_ty, is_left}
use Rattle.pac_types.specs.WellFormed.{key_type, column_type, column_types}
use Rattle.pac_value.specs.Scopes.{is_wanted}

abbrev pub refuse : {A : Type 0} → ℕ → TypeFaultKind → Result A TypeFault
refuse at kind = Err (record { at = at; kind = kind })

-- ---- names

abbrev pub unless : {A : Type 0} → Bool → A → ℕ → TypeFaultKind → Result A TypeFault
unless true x at kind = refuse at kind
unless false x at kind = Ok x

-- the name at an index among these stands at none before it
abbrev pub once : List (List ℕ) → ℕ → NameNode → Result (Unit {0}) TypeFault
once names index name = unless (is_before (number_of names name.name) index) tt name.at Twice

-- the names of a procedure, those that stand before with their variables where these are visible, and the number that
-- the next variable gets
pub record ScopeState : Type 0 where
  pub names : List (List ℕ)
  pub known : List (Option Variable)
  pub next : ℕ

abbrev pub seen_at : ℕ → Option (Option Variable) → Result Variable TypeFault
seen_at at (Some (Some variable)) = Ok variable
seen_at at _ = refuse at OutOfScope

abbrev pub found_at : ℕ → List (Option Variable) → Option ℕ → Result Variable TypeFault
found_at at known None = refuse at UnknownName
found_at at known (Some index) = seen_at at (slice_get known index)

-- the visible variable with a name
abbrev pub found : ScopeState → NameNode → Result Variable TypeFault
found scope name = found_at name.at scope.known (number_of scope.names name.name)

abbrev pub with_variable : Ty → ScopeState → ScopeState
with_variable ty scope = record { names = scope.names; known = scope.known ++ Some (record { number = scope.next; ty = ty }) ∷ []; next = scope.next + 1 }

abbrev pub hidden_in : ScopeState → ScopeState
hidden_in scope = record { names = scope.names; known = scope.known; next = scope.next + 1 }

abbrev pub left_at : ℕ → ScopeState → ScopeState
left_at index scope = record { names = scope.names; known = take index scope.known ++ replicate (length scope.known - index) None; next = scope.next }

-- ---- expressions

abbrev pub taken : ℕ → Bool → Result (Unit {0}) TypeFault
taken at true = Ok tt
taken at false = refuse at WrongType

-- an operator takes a right operand of this type after a left one of that
abbrev pub is_right : BinOp → Ty → Ty → Bool
is_right Add left right = same_ty right IntTy
is_right Sub left right = same_ty right IntTy
is_right Mul left right = same_ty right IntTy
is_right Div left right = same_ty right IntTy
is_right Rem left right = same_ty right IntTy
is_right And left right = same_ty right BoolTy
is_right Or left right = same_ty right BoolTy
is_right _ left right = same_ty right left

-- the type of what an operator gives
abbrev pub result_ty : BinOp → Ty
result_ty Add = IntTy
result_ty Sub = IntTy
result_ty Mul = IntTy
result_ty Div = IntTy
result_ty Rem = IntTy
result_ty _ = BoolTy

abbrev pub operands : ℕ → BinOp → Result Typed TypeFault → Result Typed TypeFault → Result Typed TypeFault
operands at op left right =
    left >>= λ a. taken a.at (is_left op a.ty) >>= λ _. right >>= λ b. taken b.at (is_right op a.ty b.ty) >>= λ _. Ok (record { at = at; expr = Bin op a.expr b.expr; ty = result_ty op })

abbrev pub checked_step : ScopeState → ExprNode-F (Result Typed TypeFault) → Result Typed TypeFault
checked_step scope (node.Literal literal) = Ok (record { at = literal.at; expr = Lit literal.value; ty = type_of literal.value })
checked_step scope (node.Name name) = found scope name >>= λ v. Ok (record { at = name.at; expr = Var v.number; ty = v.ty })
checked_step scope (node.Binary at op left right) = operands at op left right
checked_step scope (node.Not at operand) = operand >>= λ a. taken a.at (same_ty a.ty BoolTy) >>= λ _. Ok (record { at = at; expr = expr.Not a.expr; ty = BoolTy })

abbrev pub checked_expr : ScopeState → ExprNode → Result Typed TypeFault
checked_expr scope = fold-ExprNode (Result Typed TypeFault) (checked_step scope)

-- where a key or a column wants the type
abbrev pub checked_wanted : ScopeState → ExprNode → Option Ty → Result Expr TypeFault
checked_wanted scope e by = checked_expr scope e >>= λ v. taken v.at (is_wanted (Some v.ty) by) >>= λ _. Ok v.expr

-- a condition
abbrev pub checked_test : ScopeState → ExprNode → Result Expr TypeFault
checked_test scope e = checked_expr scope e >>= λ v. taken v.at (same_ty v.ty BoolTy) >>= λ _. Ok v.expr

-- ---- statements

abbrev pub known_at : {A : Type 0} → ℕ → Option A → Result A TypeFault
known_at at None = refuse at UnknownName
known_at at (Some x) = Ok x

abbrev pub Cells : Type 0
Cells = ℕ × Expr

abbrev pub Fields : Type 0
Fields = ℕ × Expr × ℕ

abbrev pub cell_of : Cell → Cells
cell_of cell = (cell.table, cell.key)

abbrev pub field_of : Field → Fields
field_of field = (field.table, field.key, field.column)

abbrev pub checked_cell : List Table → ScopeState → NameNode → ExprNode → Result Cells TypeFault
checked_cell tables scope table key = known_at table.at (table_number tables table.name) >>= λ t. checked_wanted scope key (key_type tables t) >>= λ k. Ok (t, k)

abbrev pub checked_field : List Table → ScopeState → NameNode → ExprNode → NameNode → Result Fields TypeFault
checked_field tables scope table key column = checked_cell tables scope table key >>= λ a. known_at column.at (column_number tables a.0 column.name) >>= λ c. Ok (a.0, a.1, c)

abbrev pub same_count : ℕ → ℕ → ℕ → Result (Unit {0}) TypeFault
same_count at values columns = unless (not (nat_eq values columns)) tt at WrongCount

abbrev pub checked_values : ScopeState → List ExprNode → List Ty → Result (List Expr) TypeFault
checked_values scope [] tys = Ok []
checked_values scope (e ∷ es) [] = Ok []
checked_values scope (e ∷ es) (ty ∷ tys) = checked_wanted scope e (Some ty) >>= λ x. checked_values scope es tys >>= λ xs. Ok (x ∷ xs)

abbrev pub checked_put : List Table → ScopeState → NameNode → ExprNode → List ExprNode → Result Stmt TypeFault
checked_put tables scope table key values =
    known_at table.at (table_number tables table.name) >>= λ t. same_count table.at (length values) (length (column_types tables t)) >>= λ _.
    checked_wanted scope key (key_type tables t) >>= λ k. checked_values scope values (column_types tables t) >>= λ es. Ok (Put t k es)

abbrev pub Reported : Type 0
Reported = Result (Stmt × ScopeState) TypeFault

abbrev pub checked_read : List Table → ScopeState → Fields → LiteralNode → Reported
checked_read tables scope field default =
    taken default.at (is_wanted (Some (type_of default.value)) (column_type tables field.0 field.2)) >>= λ _. Ok (Read scope.next field.0 field.1 field.2 default.value, with_variable (type_of default.value) scope)

abbrev pub run_all : List (ScopeState → Reported) → ScopeState → Result (List Stmt × ScopeState) TypeFault
run_all [] scope = Ok ([], scope)
run_all (s ∷ ss) scope = s scope >>= λ a. run_all ss a.1 >>= λ b. Ok (a.0 ∷ b.0, b.1)

-- the statements of a block; none of its variables is visible after it
abbrev pub block : List (ScopeState → Reported) → ScopeState → Result (List Stmt × ScopeState) TypeFault
block ss scope = run_all ss scope >>= λ b. Ok (b.0, left_at (length scope.known) b.1)

abbrev pub first_time : ScopeState → NameNode → Result (Unit {0}) TypeFault
first_time scope name = once scope.names (length scope.known) name

abbrev pub checked_stmt_step : List Table → StmtNode-F (ScopeState → Reported) → ScopeState → Reported
checked_stmt_step tables (form.Let name value) scope = first_time scope name >>= λ _. checked_expr scope value >>= λ v. Ok (Let scope.next v.expr, with_variable v.ty scope)
checked_stmt_step tables (form.Read name table key column default) scope = first_time scope name >>= λ _. checked_field tables scope table key column >>= λ f. checked_read tables scope f default
checked_stmt_step tables (form.Has name table key) scope = first_time scope name >>= λ _. checked_cell tables scope table key >>= λ c. Ok (Has scope.next c.0 c.1, with_variable BoolTy scope)
checked_stmt_step tables (form.Put table key values) scope = checked_put tables scope table key values >>= λ s. Ok (s, scope)
checked_stmt_step tables (form.Set table key column value) scope = checked_field tables scope table key column >>= λ f. checked_wanted scope value (column_type tables f.0 f.2) >>= λ e. Ok (Set f.0 f.1 f.2 e, scope)
checked_stmt_step tables (form.Delete table key) scope = checked_cell tables scope table key >>= λ c. Ok (Delete c.0 c.1, scope)
checked_stmt_step tables (form.AbortIf test) scope = checked_test scope test >>= λ e. Ok (AbortIf e, scope)
checked_stmt_step tables (form.If test first second) scope = checked_test scope test >>= λ e. block first (hidden_in scope) >>= λ a. block second a.1 >>= λ b. Ok (If scope.next e a.0 b.0, b.1)
checked_stmt_step tables (form.For name from to body) scope =
    first_time scope name >>= λ _. block body (with_variable IntTy scope) >>= λ b. Ok (For scope.next from to b.0, left_at (length scope.known) b.1)

abbrev pub checked_stmt : List Table → StmtNode → ScopeState → Reported
checked_stmt tables = fold-StmtNode (ScopeState → Reported) (checked_stmt_step tables)

abbrev pub checked_run : List Table → List StmtNode → ScopeState → Result (List Stmt × ScopeState) TypeFault
checked_run tables nodes = run_all (map (checked_stmt tables) nodes)

abbrev pub checked_block : List Table → List StmtNode → ScopeState → Result (List Stmt × ScopeState) TypeFault
checked_block tables nodes = block (map (checked_stmt tables) nodes)

-- ---- tables and procedures

-- each name from an index on stands at none before it
abbrev pub all_once : List (List ℕ) → ℕ → List ColumnNode → Result (Unit {0}) TypeFault
all_once names index [] = Ok tt
all_once names index (node ∷ nodes) = once names index node.name >>= λ _. all_once names (index + 1) nodes

abbrev pub names_of : List ColumnNode → List (List ℕ)
names_of nodes = map (λ node. node.name.name) nodes

abbrev pub checked_table : List (List ℕ) → ℕ → TableNode → Result (Unit {0}) TypeFault
checked_table names index node = once names index node.name >>= λ _. all_once (names_of node.columns) 0 node.columns

abbrev pub checked_tables : List (List ℕ) → ℕ → List TableNode → Result (Unit {0}) TypeFault
checked_tables names index [] = Ok tt
checked_tables names index (node ∷ nodes) = checked_table names index node >>= λ _. checked_tables names (index + 1) nodes

-- the parameters, which are visible in the whole procedure
abbrev pub checked_params : List ColumnNode → ScopeState → Result ScopeState TypeFault
checked_params [] scope = Ok scope
checked_params (node ∷ nodes) scope = first_time scope node.name >>= λ _. checked_params nodes (with_variable node.ty scope)

abbrev pub opening_scope : ProcNode → ScopeState
opening_scope node = record { names = variables node; known = []; next = 0 }

abbrev pub checked_proc : List Table → ProcNode → Result Proc TypeFault
checked_proc tables node =
    checked_params node.params (opening_scope node) >>= λ scope. checked_block tables node.body scope >>= λ b.
    Ok (record { name = node.name.name; params = map column_of node.params; body = b.0 })

abbrev pub checked_procs : List Table → List (List ℕ) → ℕ → List ProcNode → Result (List Proc) TypeFault
checked_procs tables names index [] = Ok []
checked_procs tables names index (node ∷ nodes) =
    once names index node.name >>= λ _. checked_proc tables node >>= λ p. checked_procs tables names (index + 1) nodes >>= λ ps. Ok (p ∷ ps)
