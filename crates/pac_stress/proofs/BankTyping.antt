-- The bank's tree is typed, and has the bank's catalogue; its operations are few.
use Rattle.std.proofs.Common.{◌≡◌, ◌≤◌, ℕ, ◌+◌, List, [], ◌∷◌, length, map, Some, Result, Ok, Err, refl, sym, ap, subst, ◌∙◌, arith}
use Rattle.std.specs.Prelude.{codes}
use Rattle.std.proofs.lemmas.List.Elements.{All-from_recursion}
use Rattle.pac_base.specs.Refusals.{Only}
use Rattle.pac_base.specs.declared.refusal.Refusal.{Refusal}
use Rattle.pac_base.specs.declared.refusal.Refusal.TheVariants as refusal
use Rattle.pac_value.specs.declared.values.Ty.TheVariants.{Int as IntTy, Bool as BoolTy}
use Rattle.pac_value.specs.declared.values.Value.{Value}
use Rattle.pac_value.specs.declared.expr.BinOp.{BinOp}
use Rattle.pac_value.specs.declared.expr.BinOp.TheVariants.{Add, Sub, Div, Ne, Gt}
use Rattle.pac_value.specs.Expressions.{◌>>=◌}
use Rattle.pac_value.specs.Scopes.{is_wanted}
use Rattle.pac_value.specs.declared.expr.Expr.{Expr}
use Rattle.pac_value.specs.declared.expr.Expr.{Lit, Var, Bin}
use Rattle.pac_syntax.specs.declared.tree.NameNode.{NameNode}
use Rattle.pac_syntax.specs.declared.tree.LiteralNode.{LiteralNode}
use Rattle.pac_syntax.specs.declared.tree.ExprNode.{ExprNode, Literal, Name, Binary}
use Rattle.pac_syntax.specs.declared.tree.ExprNode.TheOpen as form
use Rattle.pac_syntax.specs.declared.tree.StmtNode.{StmtNode, Read, Put, If}
use Rattle.pac_syntax.specs.declared.tree.ProcNode.{ProcNode}
use Rattle.pac_script.specs.Stress.{number}
use Rattle.pac_syntax.proofs.NodeForms.{fold-Literal, fold-Name, fold-Binary}
use Rattle.pac_syntax.proofs.NodeForms.{fold-Read as node-Read, fold-Put as node-Put, fold-If as node-If}
use Rattle.pac_syntax.proofs.Trees.{tree-within}
use Rattle.pac_types.specs.declared.procedure.Proc.{Proc}
use Rattle.pac_types.specs.declared.text.CatalogueFault.{CatalogueFault}
use Rattle.pac_types.specs.declared.type_error.TypeFault.{TypeFault}
use Rattle.pac_types.specs.declared.statement.Stmt.{Stmt}
use Rattle.pac_types.specs.declared.statement.Stmt as stmt
use Rattle.pac_types.specs.CatalogueText.{HasCatalogue}
use Rattle.pac_types.specs.Checking.{Cells, Fields, Reported, ScopeState, block, checked_block, checked_params, checked_proc, checked_procs, checked_read, checked_run, checked_step, checked_stmt, checked_stmt_step, checked_tables, checked_test, checked_values, checked_wanted, first_time, hidden_in, known_at, left_at, operands, same_count, taken, with_variable}
use Rattle.pac_types.specs.Faults.{same_ty}
use Rattle.pac_types.specs.WellFormed.{column_types, key_type}
use Rattle.pac_types.specs.Meaning.{count_step, operations, stmt_operations}
use Rattle.pac_types.specs.Numbering.{column_number, column_of, number_of, table_number, variables}
use Rattle.pac_types.specs.OperationLimits.{HasFewOperations}
use Rattle.pac_types.specs.Typing.{CatalogueState}
use Rattle.pac_types.proofs.StmtForms.{at-Read, at-Put, at-If}
use Rattle.pac_types.proofs.TypingLemmas.{tree_typed}
use Rattle.pac_script.specs.BankText.{bank_text}
use Rattle.pac_stress.specs.BankCatalogue.{bank_catalogue, bank_tables, deposit_proc, transfer_proc}
use Rattle.pac_stress.proofs.BankReading.{bank_reads, bank_tree, deposit_node, literal_of, name_at, named, number_at, transfer_node}

-- the catalogue as it is written out
abbrev pub written : CatalogueState
written = record { tables = bank_tables; procs = transfer_proc ∷ deposit_proc ∷ [] }

pub is-written : bank_catalogue ≡ written
unfolding bank_catalogue
is-written = refl

-- ---- its types

names_once : checked_tables (map (λ node. node.name.name) bank_tree.tables) 0 bank_tree.tables ≡ Ok tt
unfolding number_of
names_once = refl

abbrev as_cell : ℕ → Expr → Result Cells TypeFault
as_cell t k = Ok (t, k)

abbrev as_field : Cells → ℕ → Result Fields TypeFault
as_field a c = Ok (a.0, a.1, c)

abbrev as_block : ScopeState → List Stmt × ScopeState → Result (List Stmt × ScopeState) TypeFault
as_block scope b = Ok (b.0, left_at (length scope.known) b.1)

abbrev as_more : Stmt → List Stmt × ScopeState → Result (List Stmt × ScopeState) TypeFault
as_more s b = Ok (s ∷ b.0, b.1)

-- an expression is read as an int of this
abbrev Known : ScopeState → ExprNode → Expr → Type 0
Known scope e x = checked_wanted scope e (Some IntTy) ≡ Ok x

module _ (scope : ScopeState) where
  by_name : (n : NameNode) → checked_wanted scope (Name n) (Some IntTy) ≡ (checked_step scope (form.Name n) >>= λ v. taken v.at (is_wanted (Some v.ty) (Some IntTy)) >>= λ _. Ok v.expr)
  by_name n = λ i. fold-Name _ (checked_step scope) n i >>= λ v. taken v.at (is_wanted (Some v.ty) (Some IntTy)) >>= λ _. Ok v.expr

  by_names : (at : ℕ) (op : BinOp) (n m : NameNode) → checked_wanted scope (Binary at op (Name n) (Name m)) (Some IntTy)
      ≡ (operands at op (checked_step scope (form.Name n)) (checked_step scope (form.Name m)) >>= λ v. taken v.at (is_wanted (Some v.ty) (Some IntTy)) >>= λ _. Ok v.expr)
  by_names at op n m = λ i. (fold-Binary _ (checked_step scope) at op (Name n) (Name m) ∙ (λ j. operands at op (fold-Name _ (checked_step scope) n j) (fold-Name _ (checked_step scope) m j))) i
      >>= λ v. taken v.at (is_wanted (Some v.ty) (Some IntTy)) >>= λ _. Ok v.expr

  by_literal : (at : ℕ) (op : BinOp) (n : NameNode) (l : LiteralNode) → checked_wanted scope (Binary at op (Name n) (Literal l)) (Some IntTy)
      ≡ (operands at op (checked_step scope (form.Name n)) (checked_step scope (form.Literal l)) >>= λ v. taken v.at (is_wanted (Some v.ty) (Some IntTy)) >>= λ _. Ok v.expr)
  by_literal at op n l = λ i. (fold-Binary _ (checked_step scope) at op (Name n) (Literal l) ∙ (λ j. operands at op (fold-Name _ (checked_step scope) n j) (fold-Literal _ (checked_step scope) l j))) i
      >>= λ v. taken v.at (is_wanted (Some v.ty) (Some IntTy)) >>= λ _. Ok v.expr

  by_quotient : (at at2 : ℕ) (op op2 : BinOp) (n m : NameNode) (l : LiteralNode) → checked_wanted scope (Binary at op (Name n) (Binary at2 op2 (Name m) (Literal l))) (Some IntTy)
      ≡ (operands at op (checked_step scope (form.Name n)) (operands at2 op2 (checked_step scope (form.Name m)) (checked_step scope (form.Literal l))) >>= λ v. taken v.at (is_wanted (Some v.ty) (Some IntTy)) >>= λ _. Ok v.expr)
  by_quotient at at2 op op2 n m l = λ i. (fold-Binary _ (checked_step scope) at op (Name n) (Binary at2 op2 (Name m) (Literal l))
      ∙ (λ j. operands at op (fold-Name _ (checked_step scope) n j) ((fold-Binary _ (checked_step scope) at2 op2 (Name m) (Literal l) ∙ (λ k. operands at2 op2 (fold-Name _ (checked_step scope) m k) (fold-Literal _ (checked_step scope) l k))) j))) i
      >>= λ v. taken v.at (is_wanted (Some v.ty) (Some IntTy)) >>= λ _. Ok v.expr

  test_literal : (at : ℕ) (op : BinOp) (n : NameNode) (l : LiteralNode) → checked_test scope (Binary at op (Name n) (Literal l))
      ≡ (operands at op (checked_step scope (form.Name n)) (checked_step scope (form.Literal l)) >>= λ v. taken v.at (same_ty v.ty BoolTy) >>= λ _. Ok v.expr)
  test_literal at op n l = λ i. (fold-Binary _ (checked_step scope) at op (Name n) (Literal l) ∙ (λ j. operands at op (fold-Name _ (checked_step scope) n j) (fold-Literal _ (checked_step scope) l j))) i
      >>= λ v. taken v.at (same_ty v.ty BoolTy) >>= λ _. Ok v.expr

  test_sum : (at at2 : ℕ) (op op2 : BinOp) (n m : NameNode) (l : LiteralNode) → checked_test scope (Binary at op (Binary at2 op2 (Name n) (Name m)) (Literal l))
      ≡ (operands at op (operands at2 op2 (checked_step scope (form.Name n)) (checked_step scope (form.Name m))) (checked_step scope (form.Literal l)) >>= λ v. taken v.at (same_ty v.ty BoolTy) >>= λ _. Ok v.expr)
  test_sum at at2 op op2 n m l = λ i. (fold-Binary _ (checked_step scope) at op (Binary at2 op2 (Name n) (Name m)) (Literal l)
      ∙ (λ j. operands at op ((fold-Binary _ (checked_step scope) at2 op2 (Name n) (Name m) ∙ (λ k. operands at2 op2 (fold-Name _ (checked_step scope) n k) (fold-Name _ (checked_step scope) m k))) j) (fold-Literal _ (checked_step scope) l j))) i
      >>= λ v. taken v.at (same_ty v.ty BoolTy) >>= λ _. Ok v.expr

  -- a `put` of one int by an int
  of_put_stmt : (table : NameNode) (key e : ExprNode) (t : ℕ) (k x : Expr) → table_number bank_tables table.name ≡ Some t → key_type bank_tables t ≡ Some IntTy → column_types bank_tables t ≡ IntTy ∷ []
      → Known scope key k → Known scope e x → checked_stmt bank_tables (Put table key (e ∷ [])) scope ≡ Ok (stmt.Put t k (x ∷ []), scope)
  of_put_stmt table key e t k x number keys columns key_is e_is =
      ap (λ (f : ScopeState → Reported). f scope) (node-Put (ScopeState → Reported) (checked_stmt_step bank_tables) table key (e ∷ []))
      ∙ (λ i. (known_at table.at (number i) >>= λ t. same_count table.at 1 (length (column_types bank_tables t)) >>= λ _. checked_wanted scope key (key_type bank_tables t) >>= λ k. checked_values scope (e ∷ []) (column_types bank_tables t) >>= λ es. Ok (stmt.Put t k es)) >>= λ s. Ok (s, scope))
      ∙ (λ i. (same_count table.at 1 (length (columns i)) >>= λ _. checked_wanted scope key (keys i) >>= λ k. checked_values scope (e ∷ []) (columns i) >>= λ es. Ok (stmt.Put t k es)) >>= λ s. Ok (s, scope))
      ∙ (λ i. (key_is i >>= λ k. (e_is i >>= λ x. Ok (x ∷ [])) >>= λ es. Ok (stmt.Put t k es)) >>= λ s. Ok (s, scope))

  -- a `read` of an int by an int
  of_read_stmt : (name table column : NameNode) (key : ExprNode) (l : LiteralNode) (t : ℕ) (k : Expr) → first_time scope name ≡ Ok tt → table_number bank_tables table.name ≡ Some t → key_type bank_tables t ≡ Some IntTy
      → column_number bank_tables t column.name ≡ Some 0 → Known scope key k → checked_read bank_tables scope (t, k, 0) l ≡ Ok (stmt.Read scope.next t k 0 l.value, with_variable IntTy scope)
      → checked_stmt bank_tables (Read name table key column l) scope ≡ Ok (stmt.Read scope.next t k 0 l.value, with_variable IntTy scope)
  of_read_stmt name table column key l t k once_is number keys column_is key_is end =
      ap (λ (f : ScopeState → Reported). f scope) (node-Read (ScopeState → Reported) (checked_stmt_step bank_tables) name table key column l)
      ∙ (λ i. once_is i >>= λ _. ((known_at table.at (number i) >>= λ t. checked_wanted scope key (key_type bank_tables t) >>= λ k. as_cell t k) >>= λ a. known_at column.at (column_number bank_tables a.0 column.name) >>= λ c. as_field a c) >>= λ f. checked_read bank_tables scope f l)
      ∙ (λ i. ((checked_wanted scope key (keys i) >>= λ k. as_cell t k) >>= λ a. known_at column.at (column_number bank_tables a.0 column.name) >>= λ c. as_field a c) >>= λ f. checked_read bank_tables scope f l)
      ∙ (λ i. ((key_is i >>= λ k. as_cell t k) >>= λ a. known_at column.at (column_number bank_tables a.0 column.name) >>= λ c. as_field a c) >>= λ f. checked_read bank_tables scope f l)
      ∙ (λ i. (known_at column.at (column_is i) >>= λ c. as_field (t, k) c) >>= λ f. checked_read bank_tables scope f l)
      ∙ end

  -- an `if` without an `else`
  of_if_stmt : (end : ScopeState) (test : ExprNode) (first : List StmtNode) (e : Expr) (ss : List Stmt) → checked_test scope test ≡ Ok e → checked_run bank_tables first (hidden_in scope) ≡ Ok (ss, end)
      → checked_stmt bank_tables (If test first []) scope ≡ (block [] (left_at (length scope.known) end) >>= λ b. Ok (stmt.If scope.next e ss b.0, b.1))
  of_if_stmt end test first e ss test_is run_is =
      ap (λ (f : ScopeState → Reported). f scope) (node-If (ScopeState → Reported) (checked_stmt_step bank_tables) test first [])
      ∙ (λ i. test_is i >>= λ e. block (map (checked_stmt bank_tables) first) (hidden_in scope) >>= λ a. block [] a.1 >>= λ b. Ok (stmt.If scope.next e a.0 b.0, b.1))
      ∙ (λ i. (run_is i >>= λ b. as_block (hidden_in scope) b) >>= λ a. block [] a.1 >>= λ b. Ok (stmt.If scope.next e a.0 b.0, b.1))

  -- one statement, and those after it
  of_more : (node : StmtNode) (nodes : List StmtNode) (mid end : ScopeState) (s : Stmt) (ss : List Stmt) → checked_stmt bank_tables node scope ≡ Ok (s, mid) → checked_run bank_tables nodes mid ≡ Ok (ss, end) → checked_run bank_tables (node ∷ nodes) scope ≡ Ok (s ∷ ss, end)
  of_more node nodes mid end s ss one more = (λ i. one i >>= λ a. checked_run bank_tables nodes a.1 >>= λ b. as_more a.0 b) ∙ (λ i. more i >>= λ b. as_more s b)

  -- a procedure whose parameters are visible here
  of_proc : (node : ProcNode) (names : List (List ℕ)) (end : ScopeState) (body : List Stmt) → variables node ≡ names → checked_params node.params (record { names = names; known = []; next = 0 }) ≡ Ok scope → checked_run bank_tables node.body scope ≡ Ok (body, end)
      → checked_proc bank_tables node ≡ Ok (record { name = node.name.name; params = map column_of node.params; body = body })
  of_proc node names end body names_are params run =
      (λ i. checked_params node.params (record { names = names_are i; known = []; next = 0 }) >>= λ scope. checked_block bank_tables node.body scope >>= λ b. Ok (record { name = node.name.name; params = map column_of node.params; body = b.0 }))
      ∙ (λ i. params i >>= λ scope. checked_block bank_tables node.body scope >>= λ b. Ok (record { name = node.name.name; params = map column_of node.params; body = b.0 }))
      ∙ (λ i. (run i >>= λ b. as_block scope b) >>= λ b. Ok (record { name = node.name.name; params = map column_of node.params; body = b.0 }))

abbrev transfer_names : List (List ℕ)
transfer_names = codes "src" ∷ codes "amount" ∷ codes "dst" ∷ codes "a" ∷ codes "b" ∷ codes "s" ∷ []

transfer_names_are : variables transfer_node ≡ transfer_names
transfer_names_are = simp (node-Read, node-Put, node-If)

abbrev transfer_scope_1 : ScopeState
transfer_scope_1 = (with_variable IntTy (with_variable IntTy (record { names = transfer_names; known = []; next = 0 })))

abbrev transfer_scope_2 : ScopeState
transfer_scope_2 = with_variable IntTy transfer_scope_1

transfer_stmt_1 : checked_stmt bank_tables (Read (named 181 (codes "dst")) (named 187 (codes "Family")) (name_at 194 (codes "src")) (named 199 (codes "spouse")) (literal_of 214 0)) transfer_scope_1 ≡ Ok ((stmt.Read 2 0 (Var 0) 0 (number 0)), transfer_scope_2)
unfolding number_of
transfer_stmt_1 = of_read_stmt transfer_scope_1 (named 181 (codes "dst")) (named 187 (codes "Family")) (named 199 (codes "spouse")) (name_at 194 (codes "src")) (literal_of 214 0) 0 (Var 0) refl refl refl refl (by_name transfer_scope_1 (named 194 (codes "src"))) refl

abbrev transfer_scope_3 : ScopeState
transfer_scope_3 = hidden_in transfer_scope_2

abbrev transfer_scope_4 : ScopeState
transfer_scope_4 = with_variable IntTy transfer_scope_3

transfer_stmt_3 : checked_stmt bank_tables (Read (named 242 (codes "a")) (named 246 (codes "Current")) (name_at 254 (codes "src")) (named 259 (codes "value")) (literal_of 273 0)) transfer_scope_3 ≡ Ok ((stmt.Read 4 1 (Var 0) 0 (number 0)), transfer_scope_4)
unfolding number_of
transfer_stmt_3 = of_read_stmt transfer_scope_3 (named 242 (codes "a")) (named 246 (codes "Current")) (named 259 (codes "value")) (name_at 254 (codes "src")) (literal_of 273 0) 1 (Var 0) refl refl refl refl (by_name transfer_scope_3 (named 254 (codes "src"))) refl

transfer_stmt_4 : checked_stmt bank_tables (Put (named 284 (codes "Current")) (name_at 292 (codes "src")) ((Binary 300 Sub (name_at 300 (codes "a")) (name_at 304 (codes "amount"))) ∷ [])) transfer_scope_4 ≡ Ok ((stmt.Put 1 (Var 0) ((Bin Sub (Var 4) (Var 1)) ∷ [])), transfer_scope_4)
unfolding number_of
transfer_stmt_4 = of_put_stmt transfer_scope_4 (named 284 (codes "Current")) (name_at 292 (codes "src")) (Binary 300 Sub (name_at 300 (codes "a")) (name_at 304 (codes "amount"))) 1 (Var 0) (Bin Sub (Var 4) (Var 1)) refl refl refl (by_name transfer_scope_4 (named 292 (codes "src"))) (by_names transfer_scope_4 300 Sub (named 300 (codes "a")) (named 304 (codes "amount")))

abbrev transfer_scope_5 : ScopeState
transfer_scope_5 = with_variable IntTy transfer_scope_4

transfer_stmt_5 : checked_stmt bank_tables (Read (named 322 (codes "b")) (named 326 (codes "Current")) (name_at 334 (codes "dst")) (named 339 (codes "value")) (literal_of 353 0)) transfer_scope_4 ≡ Ok ((stmt.Read 5 1 (Var 2) 0 (number 0)), transfer_scope_5)
unfolding number_of
transfer_stmt_5 = of_read_stmt transfer_scope_4 (named 322 (codes "b")) (named 326 (codes "Current")) (named 339 (codes "value")) (name_at 334 (codes "dst")) (literal_of 353 0) 1 (Var 2) refl refl refl refl (by_name transfer_scope_4 (named 334 (codes "dst"))) refl

transfer_stmt_6 : checked_stmt bank_tables (Put (named 364 (codes "Current")) (name_at 372 (codes "dst")) ((Binary 380 Add (name_at 380 (codes "b")) (name_at 384 (codes "amount"))) ∷ [])) transfer_scope_5 ≡ Ok ((stmt.Put 1 (Var 2) ((Bin Add (Var 5) (Var 1)) ∷ [])), transfer_scope_5)
unfolding number_of
transfer_stmt_6 = of_put_stmt transfer_scope_5 (named 364 (codes "Current")) (name_at 372 (codes "dst")) (Binary 380 Add (name_at 380 (codes "b")) (name_at 384 (codes "amount"))) 1 (Var 2) (Bin Add (Var 5) (Var 1)) refl refl refl (by_name transfer_scope_5 (named 372 (codes "dst"))) (by_names transfer_scope_5 380 Add (named 380 (codes "b")) (named 384 (codes "amount")))

abbrev transfer_scope_6 : ScopeState
transfer_scope_6 = with_variable IntTy transfer_scope_5

transfer_stmt_7 : checked_stmt bank_tables (Read (named 402 (codes "s")) (named 406 (codes "Saving")) (name_at 413 (codes "src")) (named 418 (codes "value")) (literal_of 432 0)) transfer_scope_5 ≡ Ok ((stmt.Read 6 2 (Var 0) 0 (number 0)), transfer_scope_6)
unfolding number_of
transfer_stmt_7 = of_read_stmt transfer_scope_5 (named 402 (codes "s")) (named 406 (codes "Saving")) (named 418 (codes "value")) (name_at 413 (codes "src")) (literal_of 432 0) 2 (Var 0) refl refl refl refl (by_name transfer_scope_5 (named 413 (codes "src"))) refl

transfer_stmt_8 : checked_stmt bank_tables (Put (named 443 (codes "Saving")) (name_at 450 (codes "src")) ((Binary 458 Add (name_at 458 (codes "s")) (number_at 462 1)) ∷ [])) transfer_scope_6 ≡ Ok ((stmt.Put 2 (Var 0) ((Bin Add (Var 6) (Lit (number 1))) ∷ [])), transfer_scope_6)
unfolding number_of
transfer_stmt_8 = of_put_stmt transfer_scope_6 (named 443 (codes "Saving")) (name_at 450 (codes "src")) (Binary 458 Add (name_at 458 (codes "s")) (number_at 462 1)) 2 (Var 0) (Bin Add (Var 6) (Lit (number 1))) refl refl refl (by_name transfer_scope_6 (named 450 (codes "src"))) (by_literal transfer_scope_6 458 Add (named 458 (codes "s")) (literal_of 462 1))

transfer_run_9 : checked_run bank_tables ((Read (named 242 (codes "a")) (named 246 (codes "Current")) (name_at 254 (codes "src")) (named 259 (codes "value")) (literal_of 273 0)) ∷ (Put (named 284 (codes "Current")) (name_at 292 (codes "src")) ((Binary 300 Sub (name_at 300 (codes "a")) (name_at 304 (codes "amount"))) ∷ [])) ∷ (Read (named 322 (codes "b")) (named 326 (codes "Current")) (name_at 334 (codes "dst")) (named 339 (codes "value")) (literal_of 353 0)) ∷ (Put (named 364 (codes "Current")) (name_at 372 (codes "dst")) ((Binary 380 Add (name_at 380 (codes "b")) (name_at 384 (codes "amount"))) ∷ [])) ∷ (Read (named 402 (codes "s")) (named 406 (codes "Saving")) (name_at 413 (codes "src")) (named 418 (codes "value")) (literal_of 432 0)) ∷ (Put (named 443 (codes "Saving")) (name_at 450 (codes "src")) ((Binary 458 Add (name_at 458 (codes "s")) (number_at 462 1)) ∷ [])) ∷ []) transfer_scope_3 ≡ Ok (((stmt.Read 4 1 (Var 0) 0 (number 0)) ∷ (stmt.Put 1 (Var 0) ((Bin Sub (Var 4) (Var 1)) ∷ [])) ∷ (stmt.Read 5 1 (Var 2) 0 (number 0)) ∷ (stmt.Put 1 (Var 2) ((Bin Add (Var 5) (Var 1)) ∷ [])) ∷ (stmt.Read 6 2 (Var 0) 0 (number 0)) ∷ (stmt.Put 2 (Var 0) ((Bin Add (Var 6) (Lit (number 1))) ∷ [])) ∷ []), transfer_scope_6)
transfer_run_9 =
    (of_more transfer_scope_3 (Read (named 242 (codes "a")) (named 246 (codes "Current")) (name_at 254 (codes "src")) (named 259 (codes "value")) (literal_of 273 0)) ((Put (named 284 (codes "Current")) (name_at 292 (codes "src")) ((Binary 300 Sub (name_at 300 (codes "a")) (name_at 304 (codes "amount"))) ∷ [])) ∷ (Read (named 322 (codes "b")) (named 326 (codes "Current")) (name_at 334 (codes "dst")) (named 339 (codes "value")) (literal_of 353 0)) ∷ (Put (named 364 (codes "Current")) (name_at 372 (codes "dst")) ((Binary 380 Add (name_at 380 (codes "b")) (name_at 384 (codes "amount"))) ∷ [])) ∷ (Read (named 402 (codes "s")) (named 406 (codes "Saving")) (name_at 413 (codes "src")) (named 418 (codes "value")) (literal_of 432 0)) ∷ (Put (named 443 (codes "Saving")) (name_at 450 (codes "src")) ((Binary 458 Add (name_at 458 (codes "s")) (number_at 462 1)) ∷ [])) ∷ []) transfer_scope_4 transfer_scope_6 (stmt.Read 4 1 (Var 0) 0 (number 0)) ((stmt.Put 1 (Var 0) ((Bin Sub (Var 4) (Var 1)) ∷ [])) ∷ (stmt.Read 5 1 (Var 2) 0 (number 0)) ∷ (stmt.Put 1 (Var 2) ((Bin Add (Var 5) (Var 1)) ∷ [])) ∷ (stmt.Read 6 2 (Var 0) 0 (number 0)) ∷ (stmt.Put 2 (Var 0) ((Bin Add (Var 6) (Lit (number 1))) ∷ [])) ∷ []) transfer_stmt_3
    (of_more transfer_scope_4 (Put (named 284 (codes "Current")) (name_at 292 (codes "src")) ((Binary 300 Sub (name_at 300 (codes "a")) (name_at 304 (codes "amount"))) ∷ [])) ((Read (named 322 (codes "b")) (named 326 (codes "Current")) (name_at 334 (codes "dst")) (named 339 (codes "value")) (literal_of 353 0)) ∷ (Put (named 364 (codes "Current")) (name_at 372 (codes "dst")) ((Binary 380 Add (name_at 380 (codes "b")) (name_at 384 (codes "amount"))) ∷ [])) ∷ (Read (named 402 (codes "s")) (named 406 (codes "Saving")) (name_at 413 (codes "src")) (named 418 (codes "value")) (literal_of 432 0)) ∷ (Put (named 443 (codes "Saving")) (name_at 450 (codes "src")) ((Binary 458 Add (name_at 458 (codes "s")) (number_at 462 1)) ∷ [])) ∷ []) transfer_scope_4 transfer_scope_6 (stmt.Put 1 (Var 0) ((Bin Sub (Var 4) (Var 1)) ∷ [])) ((stmt.Read 5 1 (Var 2) 0 (number 0)) ∷ (stmt.Put 1 (Var 2) ((Bin Add (Var 5) (Var 1)) ∷ [])) ∷ (stmt.Read 6 2 (Var 0) 0 (number 0)) ∷ (stmt.Put 2 (Var 0) ((Bin Add (Var 6) (Lit (number 1))) ∷ [])) ∷ []) transfer_stmt_4
    (of_more transfer_scope_4 (Read (named 322 (codes "b")) (named 326 (codes "Current")) (name_at 334 (codes "dst")) (named 339 (codes "value")) (literal_of 353 0)) ((Put (named 364 (codes "Current")) (name_at 372 (codes "dst")) ((Binary 380 Add (name_at 380 (codes "b")) (name_at 384 (codes "amount"))) ∷ [])) ∷ (Read (named 402 (codes "s")) (named 406 (codes "Saving")) (name_at 413 (codes "src")) (named 418 (codes "value")) (literal_of 432 0)) ∷ (Put (named 443 (codes "Saving")) (name_at 450 (codes "src")) ((Binary 458 Add (name_at 458 (codes "s")) (number_at 462 1)) ∷ [])) ∷ []) transfer_scope_5 transfer_scope_6 (stmt.Read 5 1 (Var 2) 0 (number 0)) ((stmt.Put 1 (Var 2) ((Bin Add (Var 5) (Var 1)) ∷ [])) ∷ (stmt.Read 6 2 (Var 0) 0 (number 0)) ∷ (stmt.Put 2 (Var 0) ((Bin Add (Var 6) (Lit (number 1))) ∷ [])) ∷ []) transfer_stmt_5
    (of_more transfer_scope_5 (Put (named 364 (codes "Current")) (name_at 372 (codes "dst")) ((Binary 380 Add (name_at 380 (codes "b")) (name_at 384 (codes "amount"))) ∷ [])) ((Read (named 402 (codes "s")) (named 406 (codes "Saving")) (name_at 413 (codes "src")) (named 418 (codes "value")) (literal_of 432 0)) ∷ (Put (named 443 (codes "Saving")) (name_at 450 (codes "src")) ((Binary 458 Add (name_at 458 (codes "s")) (number_at 462 1)) ∷ [])) ∷ []) transfer_scope_5 transfer_scope_6 (stmt.Put 1 (Var 2) ((Bin Add (Var 5) (Var 1)) ∷ [])) ((stmt.Read 6 2 (Var 0) 0 (number 0)) ∷ (stmt.Put 2 (Var 0) ((Bin Add (Var 6) (Lit (number 1))) ∷ [])) ∷ []) transfer_stmt_6
    (of_more transfer_scope_5 (Read (named 402 (codes "s")) (named 406 (codes "Saving")) (name_at 413 (codes "src")) (named 418 (codes "value")) (literal_of 432 0)) ((Put (named 443 (codes "Saving")) (name_at 450 (codes "src")) ((Binary 458 Add (name_at 458 (codes "s")) (number_at 462 1)) ∷ [])) ∷ []) transfer_scope_6 transfer_scope_6 (stmt.Read 6 2 (Var 0) 0 (number 0)) ((stmt.Put 2 (Var 0) ((Bin Add (Var 6) (Lit (number 1))) ∷ [])) ∷ []) transfer_stmt_7
    (of_more transfer_scope_6 (Put (named 443 (codes "Saving")) (name_at 450 (codes "src")) ((Binary 458 Add (name_at 458 (codes "s")) (number_at 462 1)) ∷ [])) ([]) transfer_scope_6 transfer_scope_6 (stmt.Put 2 (Var 0) ((Bin Add (Var 6) (Lit (number 1))) ∷ [])) ([]) transfer_stmt_8
    refl))))))

abbrev transfer_scope_7 : ScopeState
transfer_scope_7 = left_at (length transfer_scope_2.known) (left_at (length transfer_scope_2.known) transfer_scope_6)

transfer_stmt_2 : checked_stmt bank_tables (If (Binary 222 Ne (name_at 222 (codes "dst")) (number_at 229 0)) ((Read (named 242 (codes "a")) (named 246 (codes "Current")) (name_at 254 (codes "src")) (named 259 (codes "value")) (literal_of 273 0)) ∷ (Put (named 284 (codes "Current")) (name_at 292 (codes "src")) ((Binary 300 Sub (name_at 300 (codes "a")) (name_at 304 (codes "amount"))) ∷ [])) ∷ (Read (named 322 (codes "b")) (named 326 (codes "Current")) (name_at 334 (codes "dst")) (named 339 (codes "value")) (literal_of 353 0)) ∷ (Put (named 364 (codes "Current")) (name_at 372 (codes "dst")) ((Binary 380 Add (name_at 380 (codes "b")) (name_at 384 (codes "amount"))) ∷ [])) ∷ (Read (named 402 (codes "s")) (named 406 (codes "Saving")) (name_at 413 (codes "src")) (named 418 (codes "value")) (literal_of 432 0)) ∷ (Put (named 443 (codes "Saving")) (name_at 450 (codes "src")) ((Binary 458 Add (name_at 458 (codes "s")) (number_at 462 1)) ∷ [])) ∷ []) []) transfer_scope_2 ≡ Ok ((stmt.If 3 (Bin Ne (Var 2) (Lit (number 0))) ((stmt.Read 4 1 (Var 0) 0 (number 0)) ∷ (stmt.Put 1 (Var 0) ((Bin Sub (Var 4) (Var 1)) ∷ [])) ∷ (stmt.Read 5 1 (Var 2) 0 (number 0)) ∷ (stmt.Put 1 (Var 2) ((Bin Add (Var 5) (Var 1)) ∷ [])) ∷ (stmt.Read 6 2 (Var 0) 0 (number 0)) ∷ (stmt.Put 2 (Var 0) ((Bin Add (Var 6) (Lit (number 1))) ∷ [])) ∷ []) []), transfer_scope_7)
unfolding number_of
transfer_stmt_2 = of_if_stmt transfer_scope_2 transfer_scope_6 (Binary 222 Ne (name_at 222 (codes "dst")) (number_at 229 0)) ((Read (named 242 (codes "a")) (named 246 (codes "Current")) (name_at 254 (codes "src")) (named 259 (codes "value")) (literal_of 273 0)) ∷ (Put (named 284 (codes "Current")) (name_at 292 (codes "src")) ((Binary 300 Sub (name_at 300 (codes "a")) (name_at 304 (codes "amount"))) ∷ [])) ∷ (Read (named 322 (codes "b")) (named 326 (codes "Current")) (name_at 334 (codes "dst")) (named 339 (codes "value")) (literal_of 353 0)) ∷ (Put (named 364 (codes "Current")) (name_at 372 (codes "dst")) ((Binary 380 Add (name_at 380 (codes "b")) (name_at 384 (codes "amount"))) ∷ [])) ∷ (Read (named 402 (codes "s")) (named 406 (codes "Saving")) (name_at 413 (codes "src")) (named 418 (codes "value")) (literal_of 432 0)) ∷ (Put (named 443 (codes "Saving")) (name_at 450 (codes "src")) ((Binary 458 Add (name_at 458 (codes "s")) (number_at 462 1)) ∷ [])) ∷ []) (Bin Ne (Var 2) (Lit (number 0))) ((stmt.Read 4 1 (Var 0) 0 (number 0)) ∷ (stmt.Put 1 (Var 0) ((Bin Sub (Var 4) (Var 1)) ∷ [])) ∷ (stmt.Read 5 1 (Var 2) 0 (number 0)) ∷ (stmt.Put 1 (Var 2) ((Bin Add (Var 5) (Var 1)) ∷ [])) ∷ (stmt.Read 6 2 (Var 0) 0 (number 0)) ∷ (stmt.Put 2 (Var 0) ((Bin Add (Var 6) (Lit (number 1))) ∷ [])) ∷ []) (test_literal transfer_scope_2 222 Ne (named 222 (codes "dst")) (literal_of 229 0)) transfer_run_9

transfer_run_10 : checked_run bank_tables ((Read (named 181 (codes "dst")) (named 187 (codes "Family")) (name_at 194 (codes "src")) (named 199 (codes "spouse")) (literal_of 214 0)) ∷ (If (Binary 222 Ne (name_at 222 (codes "dst")) (number_at 229 0)) ((Read (named 242 (codes "a")) (named 246 (codes "Current")) (name_at 254 (codes "src")) (named 259 (codes "value")) (literal_of 273 0)) ∷ (Put (named 284 (codes "Current")) (name_at 292 (codes "src")) ((Binary 300 Sub (name_at 300 (codes "a")) (name_at 304 (codes "amount"))) ∷ [])) ∷ (Read (named 322 (codes "b")) (named 326 (codes "Current")) (name_at 334 (codes "dst")) (named 339 (codes "value")) (literal_of 353 0)) ∷ (Put (named 364 (codes "Current")) (name_at 372 (codes "dst")) ((Binary 380 Add (name_at 380 (codes "b")) (name_at 384 (codes "amount"))) ∷ [])) ∷ (Read (named 402 (codes "s")) (named 406 (codes "Saving")) (name_at 413 (codes "src")) (named 418 (codes "value")) (literal_of 432 0)) ∷ (Put (named 443 (codes "Saving")) (name_at 450 (codes "src")) ((Binary 458 Add (name_at 458 (codes "s")) (number_at 462 1)) ∷ [])) ∷ []) []) ∷ []) transfer_scope_1 ≡ Ok (((stmt.Read 2 0 (Var 0) 0 (number 0)) ∷ (stmt.If 3 (Bin Ne (Var 2) (Lit (number 0))) ((stmt.Read 4 1 (Var 0) 0 (number 0)) ∷ (stmt.Put 1 (Var 0) ((Bin Sub (Var 4) (Var 1)) ∷ [])) ∷ (stmt.Read 5 1 (Var 2) 0 (number 0)) ∷ (stmt.Put 1 (Var 2) ((Bin Add (Var 5) (Var 1)) ∷ [])) ∷ (stmt.Read 6 2 (Var 0) 0 (number 0)) ∷ (stmt.Put 2 (Var 0) ((Bin Add (Var 6) (Lit (number 1))) ∷ [])) ∷ []) []) ∷ []), transfer_scope_7)
transfer_run_10 =
    (of_more transfer_scope_1 (Read (named 181 (codes "dst")) (named 187 (codes "Family")) (name_at 194 (codes "src")) (named 199 (codes "spouse")) (literal_of 214 0)) ((If (Binary 222 Ne (name_at 222 (codes "dst")) (number_at 229 0)) ((Read (named 242 (codes "a")) (named 246 (codes "Current")) (name_at 254 (codes "src")) (named 259 (codes "value")) (literal_of 273 0)) ∷ (Put (named 284 (codes "Current")) (name_at 292 (codes "src")) ((Binary 300 Sub (name_at 300 (codes "a")) (name_at 304 (codes "amount"))) ∷ [])) ∷ (Read (named 322 (codes "b")) (named 326 (codes "Current")) (name_at 334 (codes "dst")) (named 339 (codes "value")) (literal_of 353 0)) ∷ (Put (named 364 (codes "Current")) (name_at 372 (codes "dst")) ((Binary 380 Add (name_at 380 (codes "b")) (name_at 384 (codes "amount"))) ∷ [])) ∷ (Read (named 402 (codes "s")) (named 406 (codes "Saving")) (name_at 413 (codes "src")) (named 418 (codes "value")) (literal_of 432 0)) ∷ (Put (named 443 (codes "Saving")) (name_at 450 (codes "src")) ((Binary 458 Add (name_at 458 (codes "s")) (number_at 462 1)) ∷ [])) ∷ []) []) ∷ []) transfer_scope_2 transfer_scope_7 (stmt.Read 2 0 (Var 0) 0 (number 0)) ((stmt.If 3 (Bin Ne (Var 2) (Lit (number 0))) ((stmt.Read 4 1 (Var 0) 0 (number 0)) ∷ (stmt.Put 1 (Var 0) ((Bin Sub (Var 4) (Var 1)) ∷ [])) ∷ (stmt.Read 5 1 (Var 2) 0 (number 0)) ∷ (stmt.Put 1 (Var 2) ((Bin Add (Var 5) (Var 1)) ∷ [])) ∷ (stmt.Read 6 2 (Var 0) 0 (number 0)) ∷ (stmt.Put 2 (Var 0) ((Bin Add (Var 6) (Lit (number 1))) ∷ [])) ∷ []) []) ∷ []) transfer_stmt_1
    (of_more transfer_scope_2 (If (Binary 222 Ne (name_at 222 (codes "dst")) (number_at 229 0)) ((Read (named 242 (codes "a")) (named 246 (codes "Current")) (name_at 254 (codes "src")) (named 259 (codes "value")) (literal_of 273 0)) ∷ (Put (named 284 (codes "Current")) (name_at 292 (codes "src")) ((Binary 300 Sub (name_at 300 (codes "a")) (name_at 304 (codes "amount"))) ∷ [])) ∷ (Read (named 322 (codes "b")) (named 326 (codes "Current")) (name_at 334 (codes "dst")) (named 339 (codes "value")) (literal_of 353 0)) ∷ (Put (named 364 (codes "Current")) (name_at 372 (codes "dst")) ((Binary 380 Add (name_at 380 (codes "b")) (name_at 384 (codes "amount"))) ∷ [])) ∷ (Read (named 402 (codes "s")) (named 406 (codes "Saving")) (name_at 413 (codes "src")) (named 418 (codes "value")) (literal_of 432 0)) ∷ (Put (named 443 (codes "Saving")) (name_at 450 (codes "src")) ((Binary 458 Add (name_at 458 (codes "s")) (number_at 462 1)) ∷ [])) ∷ []) []) ([]) transfer_scope_7 transfer_scope_7 (stmt.If 3 (Bin Ne (Var 2) (Lit (number 0))) ((stmt.Read 4 1 (Var 0) 0 (number 0)) ∷ (stmt.Put 1 (Var 0) ((Bin Sub (Var 4) (Var 1)) ∷ [])) ∷ (stmt.Read 5 1 (Var 2) 0 (number 0)) ∷ (stmt.Put 1 (Var 2) ((Bin Add (Var 5) (Var 1)) ∷ [])) ∷ (stmt.Read 6 2 (Var 0) 0 (number 0)) ∷ (stmt.Put 2 (Var 0) ((Bin Add (Var 6) (Lit (number 1))) ∷ [])) ∷ []) []) ([]) transfer_stmt_2
    refl))

transfer_checked : checked_proc bank_tables transfer_node ≡ Ok transfer_proc
unfolding number_of
transfer_checked = of_proc transfer_scope_1 transfer_node transfer_names transfer_scope_7 transfer_proc.body transfer_names_are refl transfer_run_10

abbrev deposit_names : List (List ℕ)
deposit_names = codes "name" ∷ codes "amount" ∷ codes "nation" ∷ codes "v" ∷ codes "s" ∷ codes "n" ∷ []

deposit_names_are : variables deposit_node ≡ deposit_names
deposit_names_are = simp (node-Read, node-Put, node-If)

abbrev deposit_scope_1 : ScopeState
deposit_scope_1 = (with_variable IntTy (with_variable IntTy (with_variable IntTy (record { names = deposit_names; known = []; next = 0 }))))

abbrev deposit_scope_2 : ScopeState
deposit_scope_2 = with_variable IntTy deposit_scope_1

deposit_stmt_1 : checked_stmt bank_tables (Read (named 528 (codes "v")) (named 532 (codes "Current")) (name_at 540 (codes "name")) (named 546 (codes "value")) (literal_of 560 0)) deposit_scope_1 ≡ Ok ((stmt.Read 3 1 (Var 0) 0 (number 0)), deposit_scope_2)
unfolding number_of
deposit_stmt_1 = of_read_stmt deposit_scope_1 (named 528 (codes "v")) (named 532 (codes "Current")) (named 546 (codes "value")) (name_at 540 (codes "name")) (literal_of 560 0) 1 (Var 0) refl refl refl refl (by_name deposit_scope_1 (named 540 (codes "name"))) refl

deposit_stmt_2 : checked_stmt bank_tables (Put (named 569 (codes "Current")) (name_at 577 (codes "name")) ((Binary 586 Add (name_at 586 (codes "v")) (name_at 590 (codes "amount"))) ∷ [])) deposit_scope_2 ≡ Ok ((stmt.Put 1 (Var 0) ((Bin Add (Var 3) (Var 1)) ∷ [])), deposit_scope_2)
unfolding number_of
deposit_stmt_2 = of_put_stmt deposit_scope_2 (named 569 (codes "Current")) (name_at 577 (codes "name")) (Binary 586 Add (name_at 586 (codes "v")) (name_at 590 (codes "amount"))) 1 (Var 0) (Bin Add (Var 3) (Var 1)) refl refl refl (by_name deposit_scope_2 (named 577 (codes "name"))) (by_names deposit_scope_2 586 Add (named 586 (codes "v")) (named 590 (codes "amount")))

abbrev deposit_scope_3 : ScopeState
deposit_scope_3 = hidden_in deposit_scope_2

abbrev deposit_scope_4 : ScopeState
deposit_scope_4 = with_variable IntTy deposit_scope_3

deposit_stmt_4 : checked_stmt bank_tables (Read (named 634 (codes "s")) (named 638 (codes "Saving")) (name_at 645 (codes "name")) (named 651 (codes "value")) (literal_of 665 0)) deposit_scope_3 ≡ Ok ((stmt.Read 5 2 (Var 0) 0 (number 0)), deposit_scope_4)
unfolding number_of
deposit_stmt_4 = of_read_stmt deposit_scope_3 (named 634 (codes "s")) (named 638 (codes "Saving")) (named 651 (codes "value")) (name_at 645 (codes "name")) (literal_of 665 0) 2 (Var 0) refl refl refl refl (by_name deposit_scope_3 (named 645 (codes "name"))) refl

deposit_stmt_5 : checked_stmt bank_tables (Put (named 676 (codes "Saving")) (name_at 683 (codes "name")) ((Binary 692 Add (name_at 692 (codes "s")) (Binary 696 Div (name_at 696 (codes "v")) (number_at 700 50))) ∷ [])) deposit_scope_4 ≡ Ok ((stmt.Put 2 (Var 0) ((Bin Add (Var 5) (Bin Div (Var 3) (Lit (number 50)))) ∷ [])), deposit_scope_4)
unfolding number_of
deposit_stmt_5 = of_put_stmt deposit_scope_4 (named 676 (codes "Saving")) (name_at 683 (codes "name")) (Binary 692 Add (name_at 692 (codes "s")) (Binary 696 Div (name_at 696 (codes "v")) (number_at 700 50))) 2 (Var 0) (Bin Add (Var 5) (Bin Div (Var 3) (Lit (number 50)))) refl refl refl (by_name deposit_scope_4 (named 683 (codes "name"))) (by_quotient deposit_scope_4 692 696 Add Div (named 692 (codes "s")) (named 696 (codes "v")) (literal_of 700 50))

deposit_run_6 : checked_run bank_tables ((Read (named 634 (codes "s")) (named 638 (codes "Saving")) (name_at 645 (codes "name")) (named 651 (codes "value")) (literal_of 665 0)) ∷ (Put (named 676 (codes "Saving")) (name_at 683 (codes "name")) ((Binary 692 Add (name_at 692 (codes "s")) (Binary 696 Div (name_at 696 (codes "v")) (number_at 700 50))) ∷ [])) ∷ []) deposit_scope_3 ≡ Ok (((stmt.Read 5 2 (Var 0) 0 (number 0)) ∷ (stmt.Put 2 (Var 0) ((Bin Add (Var 5) (Bin Div (Var 3) (Lit (number 50)))) ∷ [])) ∷ []), deposit_scope_4)
deposit_run_6 =
    (of_more deposit_scope_3 (Read (named 634 (codes "s")) (named 638 (codes "Saving")) (name_at 645 (codes "name")) (named 651 (codes "value")) (literal_of 665 0)) ((Put (named 676 (codes "Saving")) (name_at 683 (codes "name")) ((Binary 692 Add (name_at 692 (codes "s")) (Binary 696 Div (name_at 696 (codes "v")) (number_at 700 50))) ∷ [])) ∷ []) deposit_scope_4 deposit_scope_4 (stmt.Read 5 2 (Var 0) 0 (number 0)) ((stmt.Put 2 (Var 0) ((Bin Add (Var 5) (Bin Div (Var 3) (Lit (number 50)))) ∷ [])) ∷ []) deposit_stmt_4
    (of_more deposit_scope_4 (Put (named 676 (codes "Saving")) (name_at 683 (codes "name")) ((Binary 692 Add (name_at 692 (codes "s")) (Binary 696 Div (name_at 696 (codes "v")) (number_at 700 50))) ∷ [])) ([]) deposit_scope_4 deposit_scope_4 (stmt.Put 2 (Var 0) ((Bin Add (Var 5) (Bin Div (Var 3) (Lit (number 50)))) ∷ [])) ([]) deposit_stmt_5
    refl))

abbrev deposit_scope_5 : ScopeState
deposit_scope_5 = left_at (length deposit_scope_2.known) (left_at (length deposit_scope_2.known) deposit_scope_4)

deposit_stmt_3 : checked_stmt bank_tables (If (Binary 604 Gt (Binary 604 Add (name_at 604 (codes "v")) (name_at 608 (codes "amount"))) (number_at 617 10000)) ((Read (named 634 (codes "s")) (named 638 (codes "Saving")) (name_at 645 (codes "name")) (named 651 (codes "value")) (literal_of 665 0)) ∷ (Put (named 676 (codes "Saving")) (name_at 683 (codes "name")) ((Binary 692 Add (name_at 692 (codes "s")) (Binary 696 Div (name_at 696 (codes "v")) (number_at 700 50))) ∷ [])) ∷ []) []) deposit_scope_2 ≡ Ok ((stmt.If 4 (Bin Gt (Bin Add (Var 3) (Var 1)) (Lit (number 10000))) ((stmt.Read 5 2 (Var 0) 0 (number 0)) ∷ (stmt.Put 2 (Var 0) ((Bin Add (Var 5) (Bin Div (Var 3) (Lit (number 50)))) ∷ [])) ∷ []) []), deposit_scope_5)
unfolding number_of
deposit_stmt_3 = of_if_stmt deposit_scope_2 deposit_scope_4 (Binary 604 Gt (Binary 604 Add (name_at 604 (codes "v")) (name_at 608 (codes "amount"))) (number_at 617 10000)) ((Read (named 634 (codes "s")) (named 638 (codes "Saving")) (name_at 645 (codes "name")) (named 651 (codes "value")) (literal_of 665 0)) ∷ (Put (named 676 (codes "Saving")) (name_at 683 (codes "name")) ((Binary 692 Add (name_at 692 (codes "s")) (Binary 696 Div (name_at 696 (codes "v")) (number_at 700 50))) ∷ [])) ∷ []) (Bin Gt (Bin Add (Var 3) (Var 1)) (Lit (number 10000))) ((stmt.Read 5 2 (Var 0) 0 (number 0)) ∷ (stmt.Put 2 (Var 0) ((Bin Add (Var 5) (Bin Div (Var 3) (Lit (number 50)))) ∷ [])) ∷ []) (test_sum deposit_scope_2 604 604 Gt Add (named 604 (codes "v")) (named 608 (codes "amount")) (literal_of 617 10000)) deposit_run_6

abbrev deposit_scope_6 : ScopeState
deposit_scope_6 = with_variable IntTy deposit_scope_5

deposit_stmt_7 : checked_stmt bank_tables (Read (named 716 (codes "n")) (named 720 (codes "Stats")) (name_at 726 (codes "nation")) (named 734 (codes "count")) (literal_of 748 0)) deposit_scope_5 ≡ Ok ((stmt.Read 6 3 (Var 2) 0 (number 0)), deposit_scope_6)
unfolding number_of
deposit_stmt_7 = of_read_stmt deposit_scope_5 (named 716 (codes "n")) (named 720 (codes "Stats")) (named 734 (codes "count")) (name_at 726 (codes "nation")) (literal_of 748 0) 3 (Var 2) refl refl refl refl (by_name deposit_scope_5 (named 726 (codes "nation"))) refl

deposit_stmt_8 : checked_stmt bank_tables (Put (named 757 (codes "Stats")) (name_at 763 (codes "nation")) ((Binary 774 Add (name_at 774 (codes "n")) (number_at 778 1)) ∷ [])) deposit_scope_6 ≡ Ok ((stmt.Put 3 (Var 2) ((Bin Add (Var 6) (Lit (number 1))) ∷ [])), deposit_scope_6)
unfolding number_of
deposit_stmt_8 = of_put_stmt deposit_scope_6 (named 757 (codes "Stats")) (name_at 763 (codes "nation")) (Binary 774 Add (name_at 774 (codes "n")) (number_at 778 1)) 3 (Var 2) (Bin Add (Var 6) (Lit (number 1))) refl refl refl (by_name deposit_scope_6 (named 763 (codes "nation"))) (by_literal deposit_scope_6 774 Add (named 774 (codes "n")) (literal_of 778 1))

deposit_run_9 : checked_run bank_tables ((Read (named 528 (codes "v")) (named 532 (codes "Current")) (name_at 540 (codes "name")) (named 546 (codes "value")) (literal_of 560 0)) ∷ (Put (named 569 (codes "Current")) (name_at 577 (codes "name")) ((Binary 586 Add (name_at 586 (codes "v")) (name_at 590 (codes "amount"))) ∷ [])) ∷ (If (Binary 604 Gt (Binary 604 Add (name_at 604 (codes "v")) (name_at 608 (codes "amount"))) (number_at 617 10000)) ((Read (named 634 (codes "s")) (named 638 (codes "Saving")) (name_at 645 (codes "name")) (named 651 (codes "value")) (literal_of 665 0)) ∷ (Put (named 676 (codes "Saving")) (name_at 683 (codes "name")) ((Binary 692 Add (name_at 692 (codes "s")) (Binary 696 Div (name_at 696 (codes "v")) (number_at 700 50))) ∷ [])) ∷ []) []) ∷ (Read (named 716 (codes "n")) (named 720 (codes "Stats")) (name_at 726 (codes "nation")) (named 734 (codes "count")) (literal_of 748 0)) ∷ (Put (named 757 (codes "Stats")) (name_at 763 (codes "nation")) ((Binary 774 Add (name_at 774 (codes "n")) (number_at 778 1)) ∷ [])) ∷ []) deposit_scope_1 ≡ Ok (((stmt.Read 3 1 (Var 0) 0 (number 0)) ∷ (stmt.Put 1 (Var 0) ((Bin Add (Var 3) (Var 1)) ∷ [])) ∷ (stmt.If 4 (Bin Gt (Bin Add (Var 3) (Var 1)) (Lit (number 10000))) ((stmt.Read 5 2 (Var 0) 0 (number 0)) ∷ (stmt.Put 2 (Var 0) ((Bin Add (Var 5) (Bin Div (Var 3) (Lit (number 50)))) ∷ [])) ∷ []) []) ∷ (stmt.Read 6 3 (Var 2) 0 (number 0)) ∷ (stmt.Put 3 (Var 2) ((Bin Add (Var 6) (Lit (number 1))) ∷ [])) ∷ []), deposit_scope_6)
deposit_run_9 =
    (of_more deposit_scope_1 (Read (named 528 (codes "v")) (named 532 (codes "Current")) (name_at 540 (codes "name")) (named 546 (codes "value")) (literal_of 560 0)) ((Put (named 569 (codes "Current")) (name_at 577 (codes "name")) ((Binary 586 Add (name_at 586 (codes "v")) (name_at 590 (codes "amount"))) ∷ [])) ∷ (If (Binary 604 Gt (Binary 604 Add (name_at 604 (codes "v")) (name_at 608 (codes "amount"))) (number_at 617 10000)) ((Read (named 634 (codes "s")) (named 638 (codes "Saving")) (name_at 645 (codes "name")) (named 651 (codes "value")) (literal_of 665 0)) ∷ (Put (named 676 (codes "Saving")) (name_at 683 (codes "name")) ((Binary 692 Add (name_at 692 (codes "s")) (Binary 696 Div (name_at 696 (codes "v")) (number_at 700 50))) ∷ [])) ∷ []) []) ∷ (Read (named 716 (codes "n")) (named 720 (codes "Stats")) (name_at 726 (codes "nation")) (named 734 (codes "count")) (literal_of 748 0)) ∷ (Put (named 757 (codes "Stats")) (name_at 763 (codes "nation")) ((Binary 774 Add (name_at 774 (codes "n")) (number_at 778 1)) ∷ [])) ∷ []) deposit_scope_2 deposit_scope_6 (stmt.Read 3 1 (Var 0) 0 (number 0)) ((stmt.Put 1 (Var 0) ((Bin Add (Var 3) (Var 1)) ∷ [])) ∷ (stmt.If 4 (Bin Gt (Bin Add (Var 3) (Var 1)) (Lit (number 10000))) ((stmt.Read 5 2 (Var 0) 0 (number 0)) ∷ (stmt.Put 2 (Var 0) ((Bin Add (Var 5) (Bin Div (Var 3) (Lit (number 50)))) ∷ [])) ∷ []) []) ∷ (stmt.Read 6 3 (Var 2) 0 (number 0)) ∷ (stmt.Put 3 (Var 2) ((Bin Add (Var 6) (Lit (number 1))) ∷ [])) ∷ []) deposit_stmt_1
    (of_more deposit_scope_2 (Put (named 569 (codes "Current")) (name_at 577 (codes "name")) ((Binary 586 Add (name_at 586 (codes "v")) (name_at 590 (codes "amount"))) ∷ [])) ((If (Binary 604 Gt (Binary 604 Add (name_at 604 (codes "v")) (name_at 608 (codes "amount"))) (number_at 617 10000)) ((Read (named 634 (codes "s")) (named 638 (codes "Saving")) (name_at 645 (codes "name")) (named 651 (codes "value")) (literal_of 665 0)) ∷ (Put (named 676 (codes "Saving")) (name_at 683 (codes "name")) ((Binary 692 Add (name_at 692 (codes "s")) (Binary 696 Div (name_at 696 (codes "v")) (number_at 700 50))) ∷ [])) ∷ []) []) ∷ (Read (named 716 (codes "n")) (named 720 (codes "Stats")) (name_at 726 (codes "nation")) (named 734 (codes "count")) (literal_of 748 0)) ∷ (Put (named 757 (codes "Stats")) (name_at 763 (codes "nation")) ((Binary 774 Add (name_at 774 (codes "n")) (number_at 778 1)) ∷ [])) ∷ []) deposit_scope_2 deposit_scope_6 (stmt.Put 1 (Var 0) ((Bin Add (Var 3) (Var 1)) ∷ [])) ((stmt.If 4 (Bin Gt (Bin Add (Var 3) (Var 1)) (Lit (number 10000))) ((stmt.Read 5 2 (Var 0) 0 (number 0)) ∷ (stmt.Put 2 (Var 0) ((Bin Add (Var 5) (Bin Div (Var 3) (Lit (number 50)))) ∷ [])) ∷ []) []) ∷ (stmt.Read 6 3 (Var 2) 0 (number 0)) ∷ (stmt.Put 3 (Var 2) ((Bin Add (Var 6) (Lit (number 1))) ∷ [])) ∷ []) deposit_stmt_2
    (of_more deposit_scope_2 (If (Binary 604 Gt (Binary 604 Add (name_at 604 (codes "v")) (name_at 608 (codes "amount"))) (number_at 617 10000)) ((Read (named 634 (codes "s")) (named 638 (codes "Saving")) (name_at 645 (codes "name")) (named 651 (codes "value")) (literal_of 665 0)) ∷ (Put (named 676 (codes "Saving")) (name_at 683 (codes "name")) ((Binary 692 Add (name_at 692 (codes "s")) (Binary 696 Div (name_at 696 (codes "v")) (number_at 700 50))) ∷ [])) ∷ []) []) ((Read (named 716 (codes "n")) (named 720 (codes "Stats")) (name_at 726 (codes "nation")) (named 734 (codes "count")) (literal_of 748 0)) ∷ (Put (named 757 (codes "Stats")) (name_at 763 (codes "nation")) ((Binary 774 Add (name_at 774 (codes "n")) (number_at 778 1)) ∷ [])) ∷ []) deposit_scope_5 deposit_scope_6 (stmt.If 4 (Bin Gt (Bin Add (Var 3) (Var 1)) (Lit (number 10000))) ((stmt.Read 5 2 (Var 0) 0 (number 0)) ∷ (stmt.Put 2 (Var 0) ((Bin Add (Var 5) (Bin Div (Var 3) (Lit (number 50)))) ∷ [])) ∷ []) []) ((stmt.Read 6 3 (Var 2) 0 (number 0)) ∷ (stmt.Put 3 (Var 2) ((Bin Add (Var 6) (Lit (number 1))) ∷ [])) ∷ []) deposit_stmt_3
    (of_more deposit_scope_5 (Read (named 716 (codes "n")) (named 720 (codes "Stats")) (name_at 726 (codes "nation")) (named 734 (codes "count")) (literal_of 748 0)) ((Put (named 757 (codes "Stats")) (name_at 763 (codes "nation")) ((Binary 774 Add (name_at 774 (codes "n")) (number_at 778 1)) ∷ [])) ∷ []) deposit_scope_6 deposit_scope_6 (stmt.Read 6 3 (Var 2) 0 (number 0)) ((stmt.Put 3 (Var 2) ((Bin Add (Var 6) (Lit (number 1))) ∷ [])) ∷ []) deposit_stmt_7
    (of_more deposit_scope_6 (Put (named 757 (codes "Stats")) (name_at 763 (codes "nation")) ((Binary 774 Add (name_at 774 (codes "n")) (number_at 778 1)) ∷ [])) ([]) deposit_scope_6 deposit_scope_6 (stmt.Put 3 (Var 2) ((Bin Add (Var 6) (Lit (number 1))) ∷ [])) ([]) deposit_stmt_8
    refl)))))

deposit_checked : checked_proc bank_tables deposit_node ≡ Ok deposit_proc
unfolding number_of
deposit_checked = of_proc deposit_scope_1 deposit_node deposit_names deposit_scope_6 deposit_proc.body deposit_names_are refl deposit_run_9

procs_are : checked_procs bank_tables (map (λ node. node.name.name) bank_tree.procs) 0 bank_tree.procs ≡ Ok (transfer_proc ∷ deposit_proc ∷ [])
unfolding number_of
procs_are = (λ i. transfer_checked i >>= λ p. (deposit_checked i >>= λ q. Ok (q ∷ [])) >>= λ ps. Ok (p ∷ ps))

has_written : HasCatalogue bank_text written
has_written = record {
  tree = bank_tree;
  reads = bank_reads;
  typed = tree_typed bank_tree (tree-within bank_tree (bank_text, bank_reads)) bank_tables (transfer_proc ∷ deposit_proc ∷ []) refl names_once procs_are;
}

pub bank-has : HasCatalogue bank_text bank_catalogue
bank-has = subst (HasCatalogue bank_text) (sym is-written) has_written

-- ---- its operations

of_read : (x t : ℕ) (k : Expr) (c : ℕ) (d : Value) → stmt_operations (stmt.Read x t k c d) ≡ 1
of_read x t k c d = at-Read ℕ count_step (stmt.Read x t k c d) x t k c d refl

of_put : (t : ℕ) (k : Expr) (es : List Expr) → stmt_operations (stmt.Put t k es) ≡ 1
of_put t k es = at-Put ℕ count_step (stmt.Put t k es) t k es refl

of_if : (x : ℕ) (e : Expr) (first second : List Stmt) → stmt_operations (stmt.If x e first second) ≡ 1 + (operations first + operations second)
of_if x e first second = at-If ℕ count_step (stmt.If x e first second) x e first second refl

transfer_operations : operations transfer_proc.body ≡ 8
transfer_operations = simp (of_read, of_put, of_if)

deposit_operations : operations deposit_proc.body ≡ 7
deposit_operations = simp (of_read, of_put, of_if)

few_written : HasFewOperations written.procs
few_written = record {
  each = All-from_recursion (λ (proc : Proc). operations proc.body ≤ 256) (transfer_proc ∷ deposit_proc ∷ []) (omega (arith, transfer_operations), (omega (arith, deposit_operations), tt));
  all = omega (arith, transfer_operations, deposit_operations);
}

pub bank-few : HasFewOperations bank_catalogue.procs
bank-few = subst (λ (c : CatalogueState). HasFewOperations c.procs) (sym is-written) few_written

-- ---- what a reader of the text answers

pub no-other : (r : Result CatalogueState (Refusal CatalogueFault)) (c : CatalogueState) → Only r bank_catalogue → r ≡ Ok c → c ≡ bank_catalogue
no-other r c only is = subst (λ (q : Result CatalogueState (Refusal CatalogueFault)). Only q bank_catalogue) is only

pub none-refused : (r : Result CatalogueState (Refusal CatalogueFault)) (error : Refusal CatalogueFault) (fault : CatalogueFault) → Only r bank_catalogue → r ≡ Err error → error ≡ refusal.Fault fault → ⊥
none-refused r error fault only is is_fault =
    let memory : error ≡ refusal.NoMemory = subst (λ (q : Result CatalogueState (Refusal CatalogueFault)). Only q bank_catalogue) is only in
    let both : refusal.Fault fault ≡ refusal.NoMemory = sym is_fault ∙ memory in
    absurd cc
