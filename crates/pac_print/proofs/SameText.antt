-- The canonical text of a tree doesn't look at offsets.
use Rattle.std.proofs.Common.{◌≡◌, ℕ, List, [], ◌∷◌, ◌++◌, map, flat_map, refl, sym, ap, subst, ◌∙◌, ◌≤◌, drop, length, append-nil}
use Rattle.std.proofs.lemmas.List.{drop_all}
use Rattle.std.specs.Prelude.{codes}
use Rattle.pac_syntax.specs.declared.tree.NameNode.{NameNode}
use Rattle.pac_syntax.specs.declared.tree.LiteralNode.{LiteralNode}
use Rattle.pac_syntax.specs.declared.tree.ColumnNode.{ColumnNode}
use Rattle.pac_syntax.specs.declared.tree.ExprNode.{ExprNode}
use Rattle.pac_syntax.specs.declared.tree.ExprNode.TheOpen as expr_form
use Rattle.pac_syntax.specs.declared.tree.StmtNode.{StmtNode}
use Rattle.pac_syntax.specs.declared.tree.StmtNode.TheOpen as form
use Rattle.pac_syntax.specs.declared.tree.StmtNode.TheOpen.{StmtNode-F}
use Rattle.pac_syntax.specs.declared.tree.StmtNode.TheViews.{roll-StmtNode}
use Rattle.pac_syntax.specs.declared.tree.StmtNode.TheVariants.{rolls-Let, rolls-Read, rolls-Has, rolls-Put, rolls-Set, rolls-Delete, rolls-AbortIf, rolls-If, rolls-For}
use Rattle.pac_syntax.specs.declared.tree.StmtNode.TheFolds.{ind-StmtNode, map-StmtNode}
use Rattle.pac_syntax.specs.declared.tree.TableNode.{TableNode}
use Rattle.pac_syntax.specs.declared.tree.ProcNode.{ProcNode}
use Rattle.pac_syntax.specs.declared.tree.Tree.{Tree}
use Rattle.pac_print.specs.Canonical.{Spelled, expr_step, spelled, expr_text, further_text, exprs_text, Indented, deeper, statement_lines, else_text, stmt_step, stmt_text, column_text, further_column_text, params_text, table_text, proc_text, canonical}
use Rattle.pac_value.specs.Literals.{value_text}
use Rattle.pac_print.specs.Unplaced.{unplaced_name, unplaced_literal, unplaced_column, unplaced_expr, unplaced_expr_step, unplaced_stmt, unplaced_stmt_step, unplaced_table, unplaced_proc, without_offsets}
use Rattle.pac_syntax.proofs.NodeForms.{by_nodes, fold-Literal, fold-Name, fold-Binary, fold-Not, fold-Let, fold-Read, fold-Has, fold-Put, fold-Set, fold-Delete, fold-AbortIf, fold-If, fold-For}

-- ---- expressions

same_spelled : (e : ExprNode) → spelled (unplaced_expr e) ≡ spelled e
same_spelled = by_nodes (λ e. spelled (unplaced_expr e) ≡ spelled e)
    (λ l. ap spelled (fold-Literal ExprNode unplaced_expr_step l) ∙ fold-Literal Spelled expr_step (unplaced_literal l) ∙ sym (fold-Literal Spelled expr_step l))
    (λ n. ap spelled (fold-Name ExprNode unplaced_expr_step n) ∙ fold-Name Spelled expr_step (unplaced_name n) ∙ sym (fold-Name Spelled expr_step n))
    (λ at op l r p q.
    ap spelled (fold-Binary ExprNode unplaced_expr_step at op l r) ∙ fold-Binary Spelled expr_step 0 op (unplaced_expr l) (unplaced_expr r)
    ∙ ap (λ x. expr_step (expr_form.Binary 0 op x (spelled (unplaced_expr r)))) p ∙ ap (λ x. expr_step (expr_form.Binary 0 op (spelled l) x)) q
    ∙ sym (fold-Binary Spelled expr_step at op l r))
    (λ at e p.
    ap spelled (fold-Not ExprNode unplaced_expr_step at e) ∙ fold-Not Spelled expr_step 0 (unplaced_expr e) ∙ ap (λ x. expr_step (expr_form.Not 0 x)) p ∙ sym (fold-Not Spelled expr_step at e))

same_expr : (e : ExprNode) → expr_text (unplaced_expr e) ≡ expr_text e
same_expr e = ap (λ x. x.text) (same_spelled e)

same_further : (es : List ExprNode) → flat_map further_text (map unplaced_expr es) ≡ flat_map further_text es
same_further [] = refl
same_further (e ∷ es) = ap (λ x. (codes ", " ++ x) ++ flat_map further_text (map unplaced_expr es)) (same_expr e) ∙ ap (λ x. (codes ", " ++ expr_text e) ++ x) (same_further es)

same_exprs : (es : List ExprNode) → exprs_text (map unplaced_expr es) ≡ exprs_text es
same_exprs [] = refl
same_exprs (e ∷ es) = ap (λ x. x ++ flat_map further_text (map unplaced_expr es)) (same_expr e) ∙ ap (λ x. expr_text e ++ x) (same_further es)

-- ---- statements

-- the same text after any indent
abbrev SameLines : StmtNode → Type 0
SameLines s = stmt_text (unplaced_stmt s) ≡ stmt_text s

same_list : (ss : List ((s : StmtNode) × SameLines s)) → map stmt_text (map unplaced_stmt (map (λ s. s.0) ss)) ≡ map stmt_text (map (λ s. s.0) ss)
same_list [] = refl
same_list (s ∷ ss) = ap (λ x. x ∷ map stmt_text (map unplaced_stmt (map (λ s. s.0) ss))) s.1 ∙ ap (λ x. stmt_text s.0 ∷ x) (same_list ss)

by_stmt : (y : StmtNode-F ((s : StmtNode) × SameLines s)) → SameLines (roll-StmtNode (map-StmtNode ((s : StmtNode) × SameLines s) StmtNode (λ s. s.0) y))
by_stmt (form.Let name e) = subst SameLines (sym (rolls-Let name e))
    (ap stmt_text (fold-Let StmtNode unplaced_stmt_step name e) ∙ fold-Let Indented stmt_step (unplaced_name name) (unplaced_expr e)
    ∙ ap (λ x indent. codes "let " ++ name.name ++ codes " = " ++ x ++ codes ";") (same_expr e) ∙ sym (fold-Let Indented stmt_step name e))
by_stmt (form.Read name table key column default) = subst SameLines (sym (rolls-Read name table key column default))
    (ap stmt_text (fold-Read StmtNode unplaced_stmt_step name table key column default) ∙ fold-Read Indented stmt_step (unplaced_name name) (unplaced_name table) (unplaced_expr key) (unplaced_name column) (unplaced_literal default)
    ∙ ap (λ x. read_with name table x column default) (same_expr key) ∙ sym (fold-Read Indented stmt_step name table key column default))
  where
    read_with : NameNode → NameNode → List ℕ → NameNode → LiteralNode → Indented
    read_with name table key column default indent = codes "read " ++ name.name ++ codes " = " ++ ((table.name ++ codes "[" ++ key ++ codes "]") ++ codes "." ++ column.name) ++ codes " default " ++ value_text default.value ++ codes ";"
by_stmt (form.Has name table key) = subst SameLines (sym (rolls-Has name table key))
    (ap stmt_text (fold-Has StmtNode unplaced_stmt_step name table key) ∙ fold-Has Indented stmt_step (unplaced_name name) (unplaced_name table) (unplaced_expr key)
    ∙ ap (λ x indent. codes "has " ++ name.name ++ codes " = " ++ (table.name ++ codes "[" ++ x ++ codes "]") ++ codes ";") (same_expr key) ∙ sym (fold-Has Indented stmt_step name table key))
by_stmt (form.Put table key es) = subst SameLines (sym (rolls-Put table key es))
    (ap stmt_text (fold-Put StmtNode unplaced_stmt_step table key es) ∙ fold-Put Indented stmt_step (unplaced_name table) (unplaced_expr key) (map unplaced_expr es)
    ∙ ap (λ x indent. codes "put " ++ (table.name ++ codes "[" ++ x ++ codes "]") ++ codes " = (" ++ exprs_text (map unplaced_expr es) ++ codes ");") (same_expr key)
    ∙ ap (λ x indent. codes "put " ++ (table.name ++ codes "[" ++ expr_text key ++ codes "]") ++ codes " = (" ++ x ++ codes ");") (same_exprs es)
    ∙ sym (fold-Put Indented stmt_step table key es))
by_stmt (form.Set table key column e) = subst SameLines (sym (rolls-Set table key column e))
    (ap stmt_text (fold-Set StmtNode unplaced_stmt_step table key column e) ∙ fold-Set Indented stmt_step (unplaced_name table) (unplaced_expr key) (unplaced_name column) (unplaced_expr e)
    ∙ ap (λ x indent. codes "set " ++ ((table.name ++ codes "[" ++ x ++ codes "]") ++ codes "." ++ column.name) ++ codes " = " ++ expr_text (unplaced_expr e) ++ codes ";") (same_expr key)
    ∙ ap (λ x indent. codes "set " ++ ((table.name ++ codes "[" ++ expr_text key ++ codes "]") ++ codes "." ++ column.name) ++ codes " = " ++ x ++ codes ";") (same_expr e)
    ∙ sym (fold-Set Indented stmt_step table key column e))
by_stmt (form.Delete table key) = subst SameLines (sym (rolls-Delete table key))
    (ap stmt_text (fold-Delete StmtNode unplaced_stmt_step table key) ∙ fold-Delete Indented stmt_step (unplaced_name table) (unplaced_expr key)
    ∙ ap (λ x indent. codes "delete " ++ (table.name ++ codes "[" ++ x ++ codes "]") ++ codes ";") (same_expr key) ∙ sym (fold-Delete Indented stmt_step table key))
by_stmt (form.AbortIf test) = subst SameLines (sym (rolls-AbortIf test))
    (ap stmt_text (fold-AbortIf StmtNode unplaced_stmt_step test) ∙ fold-AbortIf Indented stmt_step (unplaced_expr test)
    ∙ ap (λ x indent. codes "abort if " ++ x ++ codes ";") (same_expr test) ∙ sym (fold-AbortIf Indented stmt_step test))
by_stmt (form.If test first second) =
    let a = map (λ s. s.0) first in
    let b = map (λ s. s.0) second in
    subst SameLines (sym (rolls-If test a b))
    (ap stmt_text (fold-If StmtNode unplaced_stmt_step test a b) ∙ fold-If Indented stmt_step (unplaced_expr test) (map unplaced_stmt a) (map unplaced_stmt b)
    ∙ ap (λ x indent. codes "if " ++ x ++ codes " {\n" ++ statement_lines (map stmt_text (map unplaced_stmt a)) (deeper indent) ++ else_text (map stmt_text (map unplaced_stmt b)) indent ++ indent ++ codes "}") (same_expr test)
    ∙ ap (λ x indent. codes "if " ++ expr_text test ++ codes " {\n" ++ statement_lines x (deeper indent) ++ else_text (map stmt_text (map unplaced_stmt b)) indent ++ indent ++ codes "}") (same_list first)
    ∙ ap (λ x indent. codes "if " ++ expr_text test ++ codes " {\n" ++ statement_lines (map stmt_text a) (deeper indent) ++ else_text x indent ++ indent ++ codes "}") (same_list second)
    ∙ sym (fold-If Indented stmt_step test a b))
by_stmt (form.For name from to body) =
    let b = map (λ s. s.0) body in
    subst SameLines (sym (rolls-For name from to b))
    (ap stmt_text (fold-For StmtNode unplaced_stmt_step name from to b) ∙ fold-For Indented stmt_step (unplaced_name name) from to (map unplaced_stmt b)
    ∙ ap (λ x. stmt_step (form.For name from to x)) (same_list body) ∙ sym (fold-For Indented stmt_step name from to b))

same_stmt : (s : StmtNode) → SameLines s
same_stmt = ind-StmtNode SameLines (λ x y is. subst (λ z. SameLines (roll-StmtNode z)) is (by_stmt y))

same_stmts : (ss : List StmtNode) → map stmt_text (map unplaced_stmt ss) ≡ map stmt_text ss
same_stmts [] = refl
same_stmts (s ∷ ss) = ap (λ x. x ∷ map stmt_text (map unplaced_stmt ss)) (same_stmt s) ∙ ap (λ x. stmt_text s ∷ x) (same_stmts ss)

-- ---- catalogues

same_columns : (cs : List ColumnNode) → flat_map further_column_text (map unplaced_column cs) ≡ flat_map further_column_text cs
same_columns [] = refl
same_columns (c ∷ cs) = ap (λ x. further_column_text c ++ x) (same_columns cs)

same_params : (cs : List ColumnNode) → params_text (map unplaced_column cs) ≡ params_text cs
same_params [] = refl
same_params (c ∷ cs) = ap (λ x. column_text c ++ x) (same_columns cs)

same_table : (t : TableNode) → table_text (unplaced_table t) ≡ table_text t
same_table t = rw (same_columns t.columns) refl

same_proc : (p : ProcNode) → proc_text (unplaced_proc p) ≡ proc_text p
same_proc p = rw (same_params p.params, same_stmts p.body) refl

same_tables : (ts : List TableNode) → flat_map table_text (map unplaced_table ts) ≡ flat_map table_text ts
same_tables [] = refl
same_tables (t ∷ ts) = ap (λ x. x ++ flat_map table_text (map unplaced_table ts)) (same_table t) ∙ ap (λ x. table_text t ++ x) (same_tables ts)

same_procs : (ps : List ProcNode) → flat_map proc_text (map unplaced_proc ps) ≡ flat_map proc_text ps
same_procs [] = refl
same_procs (p ∷ ps) = ap (λ x. x ++ flat_map proc_text (map unplaced_proc ps)) (same_proc p) ∙ ap (λ x. proc_text p ++ x) (same_procs ps)

same_tree : (tree : Tree) → canonical (without_offsets tree) ≡ canonical tree
same_tree tree = ap (λ x. x ++ flat_map proc_text (map unplaced_proc tree.procs)) (same_tables tree.tables) ∙ ap (λ x. flat_map table_text tree.tables ++ x) (same_procs tree.procs)

-- trees that are the same but for offsets have the same text
pub same_text : (a b : Tree) → without_offsets a ≡ without_offsets b → canonical a ≡ canonical b
same_text a b is = sym (same_tree a) ∙ ap canonical is ∙ same_tree b

-- where all procedures are written
pub all_written : (out : List ℕ) (i : ℕ) (procs : List ProcNode) (tree : Tree) → length procs ≤ i → out ++ flat_map proc_text (drop i procs) ≡ canonical tree → out ≡ canonical tree
all_written out i procs tree past is = sym (append-nil out) ∙ ap (λ x. out ++ flat_map proc_text x) (sym (drop_all i procs past)) ∙ is
