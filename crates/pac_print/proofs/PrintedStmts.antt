-- The canonical lines of statements are spelled by a derivation of them.
use Rattle.std.proofs.Common.{◌≡◌, ◌+◌, ℕ, List, ◌∷◌, ◌++◌, map, flat_map, length, refl, sym, ap, subst, ◌∙◌, append_assoc}
use Rattle.pac_tokens.specs.declared.token.Keyword.TheVariants as keyword
use Rattle.pac_tokens.specs.declared.token.Symbol.TheVariants as symbol
use Rattle.pac_tokens.specs.declared.lexer.Before.TheVariants.{Value, Other}
use Rattle.pac_syntax.specs.declared.tree.NameNode.{NameNode}
use Rattle.pac_syntax.specs.declared.tree.LiteralNode.{LiteralNode}
use Rattle.pac_syntax.specs.declared.tree.ExprNode.{ExprNode}
use Rattle.pac_syntax.specs.declared.tree.StmtNode.{StmtNode}
use Rattle.pac_syntax.specs.declared.tree.StmtNode.TheVariants as stmt
use Rattle.pac_syntax.specs.declared.tree.StmtNode.TheOpen as form
use Rattle.pac_tokens.specs.Tokens.{is_name}
use Rattle.pac_syntax.specs.declared.limits.Around.{Around}
use Rattle.pac_syntax.specs.Grammar.{LiteralForm, ExprForm, ValuesForm, NoValue, AValue, StmtsForm, ALet, ARead, AHas, APut, ASet, ADelete, AnAbort, literal_node, expr_node, value_nodes, stmt_nodes, Plain, Marked, keyword_mark, symbol_mark, name_mark, literal_before, whole_before, values_before, stmts_before}
use Rattle.pac_print.specs.Canonical.{expr_text, further_text, cell_text, field_text, Indented, stmt_step, stmt_text}
use Rattle.pac_value.specs.Literals.{value_text}
use Rattle.pac_print.specs.Unplaced.{unplaced_name, unplaced_literal, unplaced_expr, unplaced_stmt_step, unplaced_stmt}
use Rattle.pac_print.proofs.Prefixes.{Stops}
use Rattle.pac_syntax.proofs.NodeForms.{fold-Let, fold-Read, fold-Has, fold-Put, fold-Set, fold-Delete, fold-AbortIf}
use Rattle.pac_print.proofs.Pieces.{Piece, joined, nothing, space, sign, name, placed, word_space, spaced_symbol, as_text}
use Rattle.pac_print.proofs.PrintedExprs.{goes_on, word_no_dot, PrintedLiteral, literal, PrintedWhole, whole}
use Rattle.pac_print.proofs.Proper.{IsProperLiteral, IsProperWhole, AreProperValues, AreProperStmts}
use Rattle.pac_print.proofs.SymbolPrefixes.{is_equals, is_dot}
use Rattle.pac_print.proofs.TokenFacts.{IsNameToken}

-- ---- parts of statements

pub expr_piece : {e : ExprForm} {at : ℕ} → (w : PrintedWhole e at) → Piece Other Value at w.next (expr_text (expr_node e)) (whole_before w.form) (Stops goes_on)
expr_piece w = record { lexes = w.lexes }

literal_piece : {l : LiteralForm} {at : ℕ} → (w : PrintedLiteral l at (value_text (literal_node l).value)) → Piece Other Value at w.next (value_text (literal_node l).value) (literal_before w.form) (Stops goes_on)
literal_piece w = record { lexes = w.lexes }

-- TABLE[KEY]
abbrev row_marks : NameNode → ℕ → ExprForm → ℕ → List Marked → List Marked
row_marks t at e close ms = name_mark (placed t at) Plain ∷ symbol_mark symbol.OpenBracket (at + length t.name) Plain ∷ whole_before e (symbol_mark symbol.CloseBracket close Plain ∷ ms)

row : (t : NameNode) (e : ExprForm) (at : ℕ) → IsNameToken t.name → (w : PrintedWhole e (at + length t.name + 1)) → Piece Other Other at (w.next + 1) (cell_text t (expr_node e)) (row_marks t at w.form w.next) (Stops is_equals)
row t e at is w = joined (joined (joined (name Other at t Plain is) (sign Value (at + length t.name) symbol.OpenBracket refl) (λ rest k. refl)) (expr_piece w) (λ rest k. w.opens rest)) (sign Value w.next symbol.CloseBracket refl) (λ rest k. refl)

-- TABLE[KEY].COLUMN
abbrev cell_marks : NameNode → ℕ → ExprForm → ℕ → NameNode → List Marked → List Marked
cell_marks t at e close c ms = row_marks t at e close (symbol_mark symbol.Dot (close + 1) Plain ∷ name_mark (placed c (close + 1 + 1)) Plain ∷ ms)

name_open : (x : NameNode) → IsNameToken x.name → (rest : List ℕ) → Stops is_dot (x.name ++ rest)
name_open x is rest = word_no_dot x.name rest is.0

cell : (t : NameNode) (e : ExprForm) (c : NameNode) (at : ℕ) → IsNameToken t.name → IsNameToken c.name → (w : PrintedWhole e (at + length t.name + 1)) → Piece Other Value at (w.next + 1 + 1 + length c.name) (field_text t (expr_node e) c) (cell_marks t at w.form w.next c) (Stops is_name)
cell t e c at is column w = joined (joined (row t e at is w) (sign Other (w.next + 1) symbol.Dot refl) (λ rest k. refl)) (name Other (w.next + 1 + 1) c Plain column) (λ rest k. name_open c column rest)

-- values after the first
record PrintedValues (vs : ValuesForm) (at : ℕ) : Type 0 where
  form : ValuesForm
  proper : AreProperValues form
  same : map unplaced_expr (value_nodes form) ≡ map unplaced_expr (value_nodes vs)
  next : ℕ
  piece : Piece Value Value at next (flat_map further_text (value_nodes vs)) (values_before form) (Stops goes_on)

values_end : (vs : ValuesForm) (rest : List ℕ) → Stops goes_on rest → Stops goes_on (flat_map further_text (value_nodes vs) ++ rest)
values_end NoValue rest h = h
values_end (AValue comma e vs) rest h = refl

values : (vs : ValuesForm) (at : ℕ) → AreProperValues vs → PrintedValues vs at
values NoValue at p = record { form = NoValue; proper = tt; same = refl; next = at; piece = nothing Value at (Stops goes_on) }
values (AValue comma e vs) at p =
    let w = whole e p.0 (at + 1 + 1) in
    let more = values vs w.next p.1 in
    record {
      form = AValue at w.form more.form;
      proper = (w.proper, more.proper);
      same = ap (λ (x : ExprNode). x ∷ map unplaced_expr (value_nodes more.form)) w.same ∙ ap (λ (xs : List ExprNode). unplaced_expr (expr_node e) ∷ xs) more.same;
      next = more.next;
      piece = joined (joined (joined (sign Value at symbol.Comma refl) (space Other (at + 1)) (λ rest k. refl)) (expr_piece w) (λ rest k. tt)) more.piece (λ rest k. values_end vs rest k);
    }

-- ---- a statement

-- The same statement at this offset, before others, spelled by its canonical text after this indent.
pub record PrintedStmt (node : StmtNode) (d : Around) (indent : List ℕ) (at : ℕ) : Type 0 where
  pub add : StmtsForm → StmtsForm
  pub again : StmtNode
  pub nodes : (s : StmtsForm) → stmt_nodes (add s) ≡ again ∷ stmt_nodes s
  pub same : unplaced_stmt again ≡ unplaced_stmt node
  pub proper : (s : StmtsForm) → AreProperStmts d s → AreProperStmts d (add s)
  pub next : ℕ
  pub marks : Around → List Marked → List Marked
  pub before : (c : Around) (s : StmtsForm) (ms : List Marked) → stmts_before c (add s) ms ≡ marks c (stmts_before c s ms)
  pub piece : (c : Around) → Piece Other Other at next (stmt_text node indent) (marks c) (Stops is_equals)

pub at_indent : (indent : List ℕ) (f g : Indented) → f ≡ g → f indent ≡ g indent
at_indent indent f g e = ap (λ (h : Indented). h indent) e

pub let_stmt : (x : NameNode) (e : ExprForm) (d : Around) (indent : List ℕ) (at : ℕ) → IsNameToken x.name → IsProperWhole e → PrintedStmt (stmt.Let x (expr_node e)) d indent at
let_stmt x e d indent at is p =
    let at_x : ℕ = at + 3 + 1 in
    let at_symbol : ℕ = at_x + length x.name in
    let w = whole e p (at_symbol + 1 + 1 + 1) in
    record {
      add = λ s. ALet at (placed x at_x) (at_symbol + 1) w.form w.next s;
      again = stmt.Let (placed x at_x) (expr_node w.form);
      nodes = λ s. refl;
      same = fold-Let StmtNode unplaced_stmt_step (placed x at_x) (expr_node w.form) ∙ ap (λ (y : ExprNode). stmt.Let (unplaced_name x) y) w.same ∙ sym (fold-Let StmtNode unplaced_stmt_step x (expr_node e));
      proper = λ s h. (is, w.proper, h);
      next = w.next + 1;
      marks = λ c ms. keyword_mark keyword.Let at Plain ∷ name_mark (placed x at_x) Plain ∷ symbol_mark symbol.Assign (at_symbol + 1) Plain ∷ whole_before w.form (symbol_mark symbol.Semicolon w.next Plain ∷ ms);
      before = λ c s ms. refl;
      piece = λ c. as_text (stmt_text (stmt.Let x (expr_node e)) indent) (stmt_step (form.Let x (expr_node e)) indent) (at_indent indent _ _ (fold-Let Indented stmt_step x (expr_node e)))
          (joined (joined (joined (joined (word_space Other at keyword.Let Plain) (name Other at_x x Plain is) (λ rest k. tt)) (spaced_symbol Value at_symbol symbol.Assign refl refl) (λ rest k. refl)) (expr_piece w) (λ rest k. tt)) (sign Value w.next symbol.Semicolon refl) (λ rest k. refl));
    }

pub read_stmt : (x t : NameNode) (e : ExprForm) (column : NameNode) (l : LiteralForm) (d : Around) (indent : List ℕ) (at : ℕ)
    → IsNameToken x.name → IsNameToken t.name → IsProperWhole e → IsNameToken column.name → IsProperLiteral l → PrintedStmt (stmt.Read x t (expr_node e) column (literal_node l)) d indent at
read_stmt x t e column l d indent at is is_t p is_column is_l =
    let at_x : ℕ = at + 4 + 1 in
    let at_symbol : ℕ = at_x + length x.name in
    let at_t : ℕ = at_symbol + 1 + 1 + 1 in
    let w = whole e p (at_t + length t.name + 1) in
    let at_default : ℕ = w.next + 1 + 1 + length column.name + 1 in
    let v = literal l is_l (at_default + 7 + 1) in
    record {
      add = λ s. ARead at (placed x at_x) (at_symbol + 1) (placed t at_t) (at_t + length t.name) w.form w.next (w.next + 1) (placed column (w.next + 1 + 1)) at_default v.form v.next s;
      again = stmt.Read (placed x at_x) (placed t at_t) (expr_node w.form) (placed column (w.next + 1 + 1)) (literal_node v.form);
      nodes = λ s. refl;
      same = fold-Read StmtNode unplaced_stmt_step (placed x at_x) (placed t at_t) (expr_node w.form) (placed column (w.next + 1 + 1)) (literal_node v.form)
          ∙ ap (λ (y : ExprNode). stmt.Read (unplaced_name x) (unplaced_name t) y (unplaced_name column) (unplaced_literal (literal_node v.form))) w.same
          ∙ ap (λ (y : LiteralNode). stmt.Read (unplaced_name x) (unplaced_name t) (unplaced_expr (expr_node e)) (unplaced_name column) y) v.same
          ∙ sym (fold-Read StmtNode unplaced_stmt_step x t (expr_node e) column (literal_node l));
      proper = λ s h. (is, is_t, w.proper, is_column, v.proper, h);
      next = v.next + 1;
      marks = λ c ms. keyword_mark keyword.Read at Plain ∷ name_mark (placed x at_x) Plain ∷ symbol_mark symbol.Assign (at_symbol + 1) Plain
          ∷ cell_marks t at_t w.form w.next column (keyword_mark keyword.Default at_default Plain ∷ literal_before v.form (symbol_mark symbol.Semicolon v.next Plain ∷ ms));
      before = λ c s ms. refl;
      piece = λ c. as_text (stmt_text (stmt.Read x t (expr_node e) column (literal_node l)) indent) (stmt_step (form.Read x t (expr_node e) column (literal_node l)) indent) (at_indent indent _ _ (fold-Read Indented stmt_step x t (expr_node e) column (literal_node l)))
          (joined (joined (joined (joined (joined (joined (word_space Other at keyword.Read Plain) (name Other at_x x Plain is) (λ rest k. tt)) (spaced_symbol Value at_symbol symbol.Assign refl refl) (λ rest k. refl))
          (cell t e column at_t is_t is_column w) (λ rest k. tt)) (joined (space Value (w.next + 1 + 1 + length column.name)) (word_space Value at_default keyword.Default Plain) (λ rest k. tt)) (λ rest k. refl)) (literal_piece v) (λ rest k. tt)) (sign Value v.next symbol.Semicolon refl) (λ rest k. refl));
    }

pub has_stmt : (x t : NameNode) (e : ExprForm) (d : Around) (indent : List ℕ) (at : ℕ) → IsNameToken x.name → IsNameToken t.name → IsProperWhole e → PrintedStmt (stmt.Has x t (expr_node e)) d indent at
has_stmt x t e d indent at is is_t p =
    let at_x : ℕ = at + 3 + 1 in
    let at_symbol : ℕ = at_x + length x.name in
    let at_t : ℕ = at_symbol + 1 + 1 + 1 in
    let w = whole e p (at_t + length t.name + 1) in
    record {
      add = λ s. AHas at (placed x at_x) (at_symbol + 1) (placed t at_t) (at_t + length t.name) w.form w.next (w.next + 1) s;
      again = stmt.Has (placed x at_x) (placed t at_t) (expr_node w.form);
      nodes = λ s. refl;
      same = fold-Has StmtNode unplaced_stmt_step (placed x at_x) (placed t at_t) (expr_node w.form) ∙ ap (λ (y : ExprNode). stmt.Has (unplaced_name x) (unplaced_name t) y) w.same ∙ sym (fold-Has StmtNode unplaced_stmt_step x t (expr_node e));
      proper = λ s h. (is, is_t, w.proper, h);
      next = w.next + 1 + 1;
      marks = λ c ms. keyword_mark keyword.Has at Plain ∷ name_mark (placed x at_x) Plain ∷ symbol_mark symbol.Assign (at_symbol + 1) Plain ∷ row_marks t at_t w.form w.next (symbol_mark symbol.Semicolon (w.next + 1) Plain ∷ ms);
      before = λ c s ms. refl;
      piece = λ c. as_text (stmt_text (stmt.Has x t (expr_node e)) indent) (stmt_step (form.Has x t (expr_node e)) indent) (at_indent indent _ _ (fold-Has Indented stmt_step x t (expr_node e)))
          (joined (joined (joined (joined (word_space Other at keyword.Has Plain) (name Other at_x x Plain is) (λ rest k. tt)) (spaced_symbol Value at_symbol symbol.Assign refl refl) (λ rest k. refl)) (row t e at_t is_t w) (λ rest k. tt)) (sign Other (w.next + 1) symbol.Semicolon refl) (λ rest k. refl));
    }

pub put_stmt : (t : NameNode) (e v : ExprForm) (vs : ValuesForm) (d : Around) (indent : List ℕ) (at : ℕ) → IsNameToken t.name → IsProperWhole e → IsProperWhole v → AreProperValues vs → PrintedStmt (stmt.Put t (expr_node e) (expr_node v ∷ value_nodes vs)) d indent at
put_stmt t e v vs d indent at is p p_v p_vs =
    let at_t : ℕ = at + 3 + 1 in
    let w = whole e p (at_t + length t.name + 1) in
    let at_symbol : ℕ = w.next + 1 in
    let first = whole v p_v (at_symbol + 1 + 1 + 1 + 1) in
    let more = values vs first.next p_vs in
    record {
      add = λ s. APut at (placed t at_t) (at_t + length t.name) w.form w.next (at_symbol + 1) (at_symbol + 1 + 1 + 1) first.form more.form more.next (more.next + 1) s;
      again = stmt.Put (placed t at_t) (expr_node w.form) (expr_node first.form ∷ value_nodes more.form);
      nodes = λ s. refl;
      same = fold-Put StmtNode unplaced_stmt_step (placed t at_t) (expr_node w.form) (expr_node first.form ∷ value_nodes more.form)
          ∙ ap (λ (y : ExprNode). stmt.Put (unplaced_name t) y (unplaced_expr (expr_node first.form) ∷ map unplaced_expr (value_nodes more.form))) w.same
          ∙ ap (λ (y : ExprNode). stmt.Put (unplaced_name t) (unplaced_expr (expr_node e)) (y ∷ map unplaced_expr (value_nodes more.form))) first.same
          ∙ ap (λ (ys : List ExprNode). stmt.Put (unplaced_name t) (unplaced_expr (expr_node e)) (unplaced_expr (expr_node v) ∷ ys)) more.same
          ∙ sym (fold-Put StmtNode unplaced_stmt_step t (expr_node e) (expr_node v ∷ value_nodes vs));
      proper = λ s h. (is, w.proper, first.proper, more.proper, h);
      next = more.next + 1 + 1;
      marks = λ c ms. keyword_mark keyword.Put at Plain ∷ row_marks t at_t w.form w.next (symbol_mark symbol.Assign (at_symbol + 1) Plain ∷ symbol_mark symbol.OpenParen (at_symbol + 1 + 1 + 1) Plain
          ∷ whole_before first.form (values_before more.form (symbol_mark symbol.CloseParen more.next Plain ∷ symbol_mark symbol.Semicolon (more.next + 1) Plain ∷ ms)));
      before = λ c s ms. refl;
      piece = λ c. as_text (stmt_text (stmt.Put t (expr_node e) (expr_node v ∷ value_nodes vs)) indent) (stmt_step (form.Put t (expr_node e) (expr_node v ∷ value_nodes vs)) indent) (at_indent indent _ _ (fold-Put Indented stmt_step t (expr_node e) (expr_node v ∷ value_nodes vs)))
          (joined (joined (joined (joined (word_space Other at keyword.Put Plain) (row t e at_t is w) (λ rest k. tt)) (joined (spaced_symbol Other at_symbol symbol.Assign refl refl) (sign Other (at_symbol + 1 + 1 + 1) symbol.OpenParen refl) (λ rest k. tt)) (λ rest k. refl))
          (joined (expr_piece first) more.piece (λ rest k. values_end vs rest k)) (λ rest k. subst (λ (x : List ℕ). Stops is_equals x) (sym (append_assoc (expr_text (expr_node v)) (flat_map further_text (value_nodes vs)) rest)) (first.opens (flat_map further_text (value_nodes vs) ++ rest))))
          (joined (sign Value more.next symbol.CloseParen refl) (sign Value (more.next + 1) symbol.Semicolon refl) (λ rest k. refl)) (λ rest k. refl));
    }

pub set_stmt : (t : NameNode) (e : ExprForm) (column : NameNode) (v : ExprForm) (d : Around) (indent : List ℕ) (at : ℕ) → IsNameToken t.name → IsProperWhole e → IsNameToken column.name → IsProperWhole v → PrintedStmt (stmt.Set t (expr_node e) column (expr_node v)) d indent at
set_stmt t e column v d indent at is p is_column p_v =
    let at_t : ℕ = at + 3 + 1 in
    let w = whole e p (at_t + length t.name + 1) in
    let at_symbol : ℕ = w.next + 1 + 1 + length column.name in
    let value = whole v p_v (at_symbol + 1 + 1 + 1) in
    record {
      add = λ s. ASet at (placed t at_t) (at_t + length t.name) w.form w.next (w.next + 1) (placed column (w.next + 1 + 1)) (at_symbol + 1) value.form value.next s;
      again = stmt.Set (placed t at_t) (expr_node w.form) (placed column (w.next + 1 + 1)) (expr_node value.form);
      nodes = λ s. refl;
      same = fold-Set StmtNode unplaced_stmt_step (placed t at_t) (expr_node w.form) (placed column (w.next + 1 + 1)) (expr_node value.form)
          ∙ ap (λ (y : ExprNode). stmt.Set (unplaced_name t) y (unplaced_name column) (unplaced_expr (expr_node value.form))) w.same
          ∙ ap (λ (y : ExprNode). stmt.Set (unplaced_name t) (unplaced_expr (expr_node e)) (unplaced_name column) y) value.same
          ∙ sym (fold-Set StmtNode unplaced_stmt_step t (expr_node e) column (expr_node v));
      proper = λ s h. (is, w.proper, is_column, value.proper, h);
      next = value.next + 1;
      marks = λ c ms. keyword_mark keyword.Set at Plain ∷ cell_marks t at_t w.form w.next column (symbol_mark symbol.Assign (at_symbol + 1) Plain ∷ whole_before value.form (symbol_mark symbol.Semicolon value.next Plain ∷ ms));
      before = λ c s ms. refl;
      piece = λ c. as_text (stmt_text (stmt.Set t (expr_node e) column (expr_node v)) indent) (stmt_step (form.Set t (expr_node e) column (expr_node v)) indent) (at_indent indent _ _ (fold-Set Indented stmt_step t (expr_node e) column (expr_node v)))
          (joined (joined (joined (joined (word_space Other at keyword.Set Plain) (cell t e column at_t is is_column w) (λ rest k. tt)) (spaced_symbol Value at_symbol symbol.Assign refl refl) (λ rest k. refl)) (expr_piece value) (λ rest k. tt)) (sign Value value.next symbol.Semicolon refl) (λ rest k. refl));
    }

pub delete_stmt : (t : NameNode) (e : ExprForm) (d : Around) (indent : List ℕ) (at : ℕ) → IsNameToken t.name → IsProperWhole e → PrintedStmt (stmt.Delete t (expr_node e)) d indent at
delete_stmt t e d indent at is p =
    let at_t : ℕ = at + 6 + 1 in
    let w = whole e p (at_t + length t.name + 1) in
    record {
      add = λ s. ADelete at (placed t at_t) (at_t + length t.name) w.form w.next (w.next + 1) s;
      again = stmt.Delete (placed t at_t) (expr_node w.form);
      nodes = λ s. refl;
      same = fold-Delete StmtNode unplaced_stmt_step (placed t at_t) (expr_node w.form) ∙ ap (λ (y : ExprNode). stmt.Delete (unplaced_name t) y) w.same ∙ sym (fold-Delete StmtNode unplaced_stmt_step t (expr_node e));
      proper = λ s h. (is, w.proper, h);
      next = w.next + 1 + 1;
      marks = λ c ms. keyword_mark keyword.Delete at Plain ∷ row_marks t at_t w.form w.next (symbol_mark symbol.Semicolon (w.next + 1) Plain ∷ ms);
      before = λ c s ms. refl;
      piece = λ c. as_text (stmt_text (stmt.Delete t (expr_node e)) indent) (stmt_step (form.Delete t (expr_node e)) indent) (at_indent indent _ _ (fold-Delete Indented stmt_step t (expr_node e)))
          (joined (joined (word_space Other at keyword.Delete Plain) (row t e at_t is w) (λ rest k. tt)) (sign Other (w.next + 1) symbol.Semicolon refl) (λ rest k. refl));
    }

pub abort_stmt : (e : ExprForm) (d : Around) (indent : List ℕ) (at : ℕ) → IsProperWhole e → PrintedStmt (stmt.AbortIf (expr_node e)) d indent at
abort_stmt e d indent at p =
    let at_if : ℕ = at + 5 + 1 in
    let w = whole e p (at_if + 2 + 1) in
    record {
      add = λ s. AnAbort at at_if w.form w.next s;
      again = stmt.AbortIf (expr_node w.form);
      nodes = λ s. refl;
      same = fold-AbortIf StmtNode unplaced_stmt_step (expr_node w.form) ∙ ap (λ (y : ExprNode). stmt.AbortIf y) w.same ∙ sym (fold-AbortIf StmtNode unplaced_stmt_step (expr_node e));
      proper = λ s h. (w.proper, h);
      next = w.next + 1;
      marks = λ c ms. keyword_mark keyword.Abort at Plain ∷ keyword_mark keyword.If at_if Plain ∷ whole_before w.form (symbol_mark symbol.Semicolon w.next Plain ∷ ms);
      before = λ c s ms. refl;
      piece = λ c. as_text (stmt_text (stmt.AbortIf (expr_node e)) indent) (stmt_step (form.AbortIf (expr_node e)) indent) (at_indent indent _ _ (fold-AbortIf Indented stmt_step (expr_node e)))
          (joined (joined (joined (word_space Other at keyword.Abort Plain) (word_space Other at_if keyword.If Plain) (λ rest k. tt)) (expr_piece w) (λ rest k. tt)) (sign Value w.next symbol.Semicolon refl) (λ rest k. refl));
    }
