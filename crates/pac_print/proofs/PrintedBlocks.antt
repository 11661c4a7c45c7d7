-- The canonical lines of statements, with those of their blocks, are spelled by a derivation of them.
use Rattle.std.proofs.Common.{◌≡◌, ◌≤◌, ◌+◌, ℕ, suc, List, [], ◌∷◌, ◌++◌, map, length, codes, refl, sym, ap, ◌∙◌}
use Rattle.pac_tokens.specs.declared.token.Keyword.TheVariants as keyword
use Rattle.pac_tokens.specs.declared.token.Symbol.TheVariants as symbol
use Rattle.pac_tokens.specs.declared.lexer.Before.TheVariants.{Value, Other}
use Rattle.pac_syntax.specs.declared.tree.NameNode.{NameNode}
use Rattle.pac_syntax.specs.declared.tree.ExprNode.{ExprNode}
use Rattle.pac_syntax.specs.declared.tree.StmtNode.{StmtNode}
use Rattle.pac_syntax.specs.declared.tree.StmtNode.TheVariants as stmt
use Rattle.pac_syntax.specs.declared.tree.StmtNode.TheOpen as form
use Rattle.pac_syntax.specs.declared.limits.Around.{Around}
use Rattle.pac_syntax.specs.Grammar.{BoundForm, ALoop, bound_value, inside_block, in_loop, loop_turns, last_bound, bound_before, Role, name_mark, Marked, ExprForm, StmtsForm, NoStmt, ALet, ARead, AHas, APut, ASet, ADelete, AnAbort, AnIf, AnIfElse, expr_node, stmt_nodes, Plain, Nested, keyword_mark, symbol_mark, whole_before, stmts_before}
use Rattle.pac_print.specs.Canonical.{expr_text, loop_head, Indented, deeper, stmt_step, stmt_text, stmts_text}
use Rattle.pac_print.specs.Unplaced.{unplaced_name, unplaced_expr, unplaced_stmt_step, unplaced_stmt}
use Rattle.pac_print.proofs.Prefixes.{Stops, AreSpaces}
use Rattle.pac_syntax.proofs.NodeForms.{fold-If, fold-For}
use Rattle.pac_print.proofs.Pieces.{Piece, Free, joined, nothing, spaces, space, line, sign, name, placed, word_space, as_text, as_marks}
use Rattle.pac_print.proofs.PrintedExprs.{PrintedWhole, whole, PrintedBound, bound}
use Rattle.pac_print.proofs.PrintedStmts.{expr_piece, PrintedStmt, at_indent, let_stmt, read_stmt, has_stmt, put_stmt, set_stmt, delete_stmt, abort_stmt}
use Rattle.pac_print.proofs.Proper.{AreProperStmts}
use Rattle.pac_print.proofs.TokenFacts.{IsNameToken}
use Rattle.pac_value.specs.declared.values.Value.TheVariants as value
use Rattle.pac_value.specs.Literals.{value_text}
use Rattle.pac_tokens.specs.Tokens.{is_name}

-- The same statements at this offset, spelled by their canonical lines after this indent.
pub record PrintedStmts (nodes : List StmtNode) (d : Around) (indent : List ℕ) (at : ℕ) : Type 0 where
  pub form : StmtsForm
  pub proper : AreProperStmts d form
  pub same : map unplaced_stmt (stmt_nodes form) ≡ map unplaced_stmt nodes
  pub next : ℕ
  pub piece : (c : Around) → Piece Other Other at next (stmts_text indent nodes) (stmts_before c form) Free

pub spaces_deeper : (indent : List ℕ) → AreSpaces indent → AreSpaces (deeper indent)
spaces_deeper [] all = (refl, (refl, tt))
spaces_deeper (b ∷ indent) all = (all.0, spaces_deeper indent all.1)

-- ---- conditionals

-- the `{` of a block, up to its first line
block_start : (at : ℕ) → Piece Value Other at (at + 1 + 1 + 1) (codes " {\n") (λ ms. symbol_mark symbol.OpenBrace (at + 1) Plain ∷ ms) Free
block_start at = joined (joined (space Value at) (sign Value (at + 1) symbol.OpenBrace refl) (λ rest k. tt)) (line Other (at + 1 + 1)) (λ rest k. refl)

-- `if TEST {`
if_start : (e : ExprForm) (at : ℕ) (c : Around) → (w : PrintedWhole e (at + 2 + 1)) → Piece Other Other at (w.next + 1 + 1 + 1) (codes "if " ++ expr_text (expr_node e) ++ codes " {\n") (λ ms. keyword_mark keyword.If at (Nested (suc c.nested)) ∷ whole_before w.form (symbol_mark symbol.OpenBrace (w.next + 1) Plain ∷ ms)) Free
if_start e at c w = joined (joined (word_space Other at keyword.If (Nested (suc c.nested))) (expr_piece w) (λ rest k. tt)) (block_start w.next) (λ rest k. refl)

one_branch : (e : ExprForm) (first : List StmtNode) (d : Around) (indent : List ℕ) (at : ℕ) → suc d.nested ≤ 16 → AreSpaces indent → (w : PrintedWhole e (at + 2 + 1)) → PrintedStmts first (inside_block d) (deeper indent) (w.next + 1 + 1 + 1) → PrintedStmt (stmt.If (expr_node e) first []) d indent at
one_branch e first d indent at le all w one = record {
  add = λ s. AnIf at w.form (w.next + 1) one.form (one.next + length indent) s;
  again = stmt.If (expr_node w.form) (stmt_nodes one.form) [];
  nodes = λ s. refl;
  same = fold-If StmtNode unplaced_stmt_step (expr_node w.form) (stmt_nodes one.form) []
      ∙ ap (λ (x : ExprNode). stmt.If x (map unplaced_stmt (stmt_nodes one.form)) []) w.same ∙ ap (λ (xs : List StmtNode). stmt.If (unplaced_expr (expr_node e)) xs []) one.same
      ∙ sym (fold-If StmtNode unplaced_stmt_step (expr_node e) first []);
  proper = λ s h. (le, w.proper, one.proper, h);
  next = one.next + length indent + 1;
  marks = λ c ms. keyword_mark keyword.If at (Nested (suc c.nested)) ∷ whole_before w.form (symbol_mark symbol.OpenBrace (w.next + 1) Plain ∷ stmts_before (inside_block c) one.form (symbol_mark symbol.CloseBrace (one.next + length indent) Plain ∷ ms));
  before = λ c s ms. refl;
  piece = λ c. as_text (stmt_text (stmt.If (expr_node e) first []) indent) (stmt_step (form.If (expr_node e) (map stmt_text first) []) indent) (at_indent indent _ _ (fold-If Indented stmt_step (expr_node e) first []))
      (joined (joined (joined (joined (if_start e at c w) (one.piece (inside_block c)) (λ rest k. tt)) (nothing Other one.next Free) (λ rest k. tt)) (spaces Other one.next indent all) (λ rest k. tt)) (sign Other (one.next + length indent) symbol.CloseBrace refl) (λ rest k. tt));
}

-- `} else {`
else_start : (indent : List ℕ) (at : ℕ) → AreSpaces indent → Piece Other Other at (at + length indent + 1 + 1 + 4 + 1 + 1 + 1) (indent ++ codes "} else {\n")
    (λ ms. symbol_mark symbol.CloseBrace (at + length indent) Plain ∷ keyword_mark keyword.Else (at + length indent + 1 + 1) Plain ∷ symbol_mark symbol.OpenBrace (at + length indent + 1 + 1 + 4 + 1) Plain ∷ ms) Free
else_start indent at all =
    let brace : ℕ = at + length indent in
    joined (spaces Other at indent all)
    (joined (joined (joined (joined (sign Other brace symbol.CloseBrace refl) (space Other (brace + 1)) (λ rest k. refl)) (word_space Other (brace + 1 + 1) keyword.Else Plain) (λ rest k. tt)) (sign Other (brace + 1 + 1 + 4 + 1) symbol.OpenBrace refl) (λ rest k. tt))
    (line Other (brace + 1 + 1 + 4 + 1 + 1)) (λ rest k. refl)) (λ rest k. tt)

abbrev after_else : ℕ → List ℕ → ℕ
after_else at indent = at + length indent + 1 + 1 + 4 + 1 + 1 + 1

two_branches : (e : ExprForm) (first : List StmtNode) (s2 : StmtNode) (more : List StmtNode) (d : Around) (indent : List ℕ) (at : ℕ) → suc d.nested ≤ 16 → AreSpaces indent → (w : PrintedWhole e (at + 2 + 1)) → (one : PrintedStmts first (inside_block d) (deeper indent) (w.next + 1 + 1 + 1))
    → PrintedStmts (s2 ∷ more) (inside_block d) (deeper indent) (after_else one.next indent) → PrintedStmt (stmt.If (expr_node e) first (s2 ∷ more)) d indent at
two_branches e first s2 more d indent at le all w one two =
    let brace : ℕ = one.next + length indent in
    record {
      add = λ s. AnIfElse at w.form (w.next + 1) one.form brace (brace + 1 + 1) (brace + 1 + 1 + 4 + 1) two.form (two.next + length indent) s;
      again = stmt.If (expr_node w.form) (stmt_nodes one.form) (stmt_nodes two.form);
      nodes = λ s. refl;
      same = fold-If StmtNode unplaced_stmt_step (expr_node w.form) (stmt_nodes one.form) (stmt_nodes two.form)
          ∙ ap (λ (x : ExprNode). stmt.If x (map unplaced_stmt (stmt_nodes one.form)) (map unplaced_stmt (stmt_nodes two.form))) w.same
          ∙ ap (λ (xs : List StmtNode). stmt.If (unplaced_expr (expr_node e)) xs (map unplaced_stmt (stmt_nodes two.form))) one.same
          ∙ ap (λ (xs : List StmtNode). stmt.If (unplaced_expr (expr_node e)) (map unplaced_stmt first) xs) two.same
          ∙ sym (fold-If StmtNode unplaced_stmt_step (expr_node e) first (s2 ∷ more));
      proper = λ s h. (le, w.proper, one.proper, two.proper, h);
      next = two.next + length indent + 1;
      marks = λ c ms. keyword_mark keyword.If at (Nested (suc c.nested)) ∷ whole_before w.form (symbol_mark symbol.OpenBrace (w.next + 1) Plain ∷ stmts_before (inside_block c) one.form (symbol_mark symbol.CloseBrace brace Plain
          ∷ keyword_mark keyword.Else (brace + 1 + 1) Plain ∷ symbol_mark symbol.OpenBrace (brace + 1 + 1 + 4 + 1) Plain ∷ stmts_before (inside_block c) two.form (symbol_mark symbol.CloseBrace (two.next + length indent) Plain ∷ ms)));
      before = λ c s ms. refl;
      piece = λ c. as_text (stmt_text (stmt.If (expr_node e) first (s2 ∷ more)) indent) (stmt_step (form.If (expr_node e) (map stmt_text first) (map stmt_text (s2 ∷ more))) indent) (at_indent indent _ _ (fold-If Indented stmt_step (expr_node e) first (s2 ∷ more)))
          (joined (joined (joined (joined (if_start e at c w) (one.piece (inside_block c)) (λ rest k. tt)) (joined (else_start indent one.next all) (two.piece (inside_block c)) (λ rest k. tt)) (λ rest k. tt)) (spaces Other two.next indent all) (λ rest k. tt)) (sign Other (two.next + length indent) symbol.CloseBrace refl) (λ rest k. tt));
    }

-- an `else` with no statements is left out
if_else : (e : ExprForm) (first second : List StmtNode) (d : Around) (indent : List ℕ) (at : ℕ) → suc d.nested ≤ 16 → AreSpaces indent → (w : PrintedWhole e (at + 2 + 1)) → (one : PrintedStmts first (inside_block d) (deeper indent) (w.next + 1 + 1 + 1))
    → PrintedStmts second (inside_block d) (deeper indent) (after_else one.next indent) → PrintedStmt (stmt.If (expr_node e) first second) d indent at
if_else e first [] d indent at le all w one two = one_branch e first d indent at le all w one
if_else e first (s ∷ more) d indent at le all w one two = two_branches e first s more d indent at le all w one two

-- ---- loops

bound_piece : {b : BoundForm} {at : ℕ} → (w : PrintedBound b at) → (role : Role) → Piece Other Value at w.next (value_text (value.Int (bound_value b))) (bound_before w.form role) (Stops is_name)
bound_piece w role = record { lexes = λ ms rest e h. w.lexes role ms rest e h }

-- the offsets of a loop's name, of its `in` and of its first bound
abbrev loop_name : ℕ → ℕ
loop_name at = at + 3 + 1

abbrev loop_in : NameNode → ℕ → ℕ
loop_in x at = loop_name at + length x.name + 1

abbrev loop_first : NameNode → ℕ → ℕ
loop_first x at = loop_in x at + 2 + 1

-- the tokens of a loop before its block
abbrev loop_marks : NameNode → ℕ → BoundForm → ℕ → BoundForm → ℕ → Around → List Marked → List Marked
loop_marks x at a dots b brace c ms =
    keyword_mark keyword.For at (Nested (suc c.nested)) ∷ name_mark (placed x (loop_name at)) Plain ∷ keyword_mark keyword.In (loop_in x at) Plain
    ∷ bound_before a Plain (symbol_mark symbol.Range dots Plain ∷ bound_before b (last_bound c at (bound_value a) (bound_value b)) (symbol_mark symbol.OpenBrace brace Plain ∷ ms))

-- `for NAME in FROM..TO {`
loop_start : (x : NameNode) (a b : BoundForm) (at : ℕ) (c : Around) → IsNameToken x.name → (v : PrintedBound a (loop_first x at)) → (w : PrintedBound b (v.next + 2))
    → Piece Other Other at (w.next + 1 + 1 + 1) (loop_head x (bound_value a) (bound_value b)) (loop_marks x at v.form v.next w.form (w.next + 1) c) Free
loop_start x a b at c is v w =
    joined (joined (joined (joined (word_space Other at keyword.For (Nested (suc c.nested))) (name Other (loop_name at) x Plain is) (λ rest k. tt))
    (joined (space Value (loop_name at + length x.name)) (word_space Value (loop_in x at) keyword.In Plain) (λ rest k. tt)) (λ rest k. refl))
    (joined (joined (bound_piece v Plain) (sign Value v.next symbol.Range refl) (λ rest k. refl)) (bound_piece w (last_bound c at (bound_value v.form) (bound_value w.form))) (λ rest k. w.opens rest)) (λ rest k. tt)) (block_start w.next) (λ rest k. refl)

loop : (x : NameNode) (a b : BoundForm) (body : List StmtNode) (d : Around) (indent : List ℕ) (at : ℕ) → suc d.nested ≤ 16 → IsNameToken x.name → AreSpaces indent
    → (v : PrintedBound a (loop_first x at)) → (w : PrintedBound b (v.next + 2)) → loop_turns d (bound_value v.form) (bound_value w.form) ≤ 256
    → PrintedStmts body (in_loop d (bound_value v.form) (bound_value w.form)) (deeper indent) (w.next + 1 + 1 + 1) → PrintedStmt (stmt.For x (bound_value a) (bound_value b) body) d indent at
loop x a b body d indent at le is all v w few one =
    let low = bound_value v.form in
    let high = bound_value w.form in
    let brace : ℕ = one.next + length indent in
    record {
      add = λ s. ALoop at (placed x (loop_name at)) (loop_in x at) v.form v.next w.form (w.next + 1) one.form brace s;
      again = stmt.For (placed x (loop_name at)) low high (stmt_nodes one.form);
      nodes = λ s. refl;
      same = fold-For StmtNode unplaced_stmt_step (placed x (loop_name at)) low high (stmt_nodes one.form)
          ∙ (λ i. stmt.For (unplaced_name x) (v.same i) (w.same i) (one.same i))
          ∙ sym (fold-For StmtNode unplaced_stmt_step x (bound_value a) (bound_value b) body);
      proper = λ s h. (le, is, v.proper, w.proper, few, one.proper, h);
      next = brace + 1;
      marks = λ c ms. loop_marks x at v.form v.next w.form (w.next + 1) c (stmts_before (in_loop c low high) one.form (symbol_mark symbol.CloseBrace brace Plain ∷ ms));
      before = λ c s ms. refl;
      piece = λ c. as_text (stmt_text (stmt.For x (bound_value a) (bound_value b) body) indent) (stmt_step (form.For x (bound_value a) (bound_value b) (map stmt_text body)) indent) (at_indent indent _ _ (fold-For Indented stmt_step x (bound_value a) (bound_value b) body))
          (joined (joined (joined (loop_start x a b at c is v w) (one.piece (in_loop c low high)) (λ rest k. tt)) (spaces Other one.next indent all) (λ rest k. tt)) (sign Other brace symbol.CloseBrace refl) (λ rest k. tt));
    }

-- ---- statements

no_stmts : (d : Around) (indent : List ℕ) (at : ℕ) → PrintedStmts [] d indent at
no_stmts d indent at = record { form = NoStmt; proper = tt; same = refl; next = at; piece = λ c. nothing Other at Free }

-- a statement on its line, before others
and_more : (node : StmtNode) (nodes : List StmtNode) (d : Around) (indent : List ℕ) (at : ℕ) → AreSpaces indent → (w : PrintedStmt node d indent (at + length indent)) → PrintedStmts nodes d indent (w.next + 1) → PrintedStmts (node ∷ nodes) d indent at
and_more node nodes d indent at all w more = record {
  form = w.add more.form;
  proper = w.proper more.form more.proper;
  same = ap (map unplaced_stmt) (w.nodes more.form) ∙ ap (λ (x : StmtNode). x ∷ map unplaced_stmt (stmt_nodes more.form)) w.same ∙ ap (λ (xs : List StmtNode). unplaced_stmt node ∷ xs) more.same;
  next = more.next;
  piece = λ c. as_marks (λ ms. w.marks c (stmts_before c more.form ms)) (stmts_before c (w.add more.form)) (λ ms. sym (w.before c more.form ms))
      (joined (joined (joined (spaces Other at indent all) (w.piece c) (λ rest k. tt)) (line Other w.next) (λ rest k. refl)) (more.piece c) (λ rest k. tt));
}

pub stmts : (s : StmtsForm) (d : Around) (indent : List ℕ) (at : ℕ) → AreSpaces indent → AreProperStmts d s → PrintedStmts (stmt_nodes s) d indent at
stmts NoStmt d indent at all p = no_stmts d indent at
stmts (ALet p0 x p1 e p2 s) d indent at all p =
    let w = let_stmt x e d indent (at + length indent) p.0 p.1 in
    and_more _ (stmt_nodes s) d indent at all w (stmts s d indent (w.next + 1) all p.2)
stmts (ARead p0 x p1 t p2 e p3 p4 c p5 l p6 s) d indent at all p =
    let w = read_stmt x t e c l d indent (at + length indent) p.0 p.1 p.2 p.3 p.4 in
    and_more _ (stmt_nodes s) d indent at all w (stmts s d indent (w.next + 1) all p.5)
stmts (AHas p0 x p1 t p2 e p3 p4 s) d indent at all p =
    let w = has_stmt x t e d indent (at + length indent) p.0 p.1 p.2 in
    and_more _ (stmt_nodes s) d indent at all w (stmts s d indent (w.next + 1) all p.3)
stmts (APut p0 t p1 e p2 p3 p4 v vs p5 p6 s) d indent at all p =
    let w = put_stmt t e v vs d indent (at + length indent) p.0 p.1 p.2 p.3 in
    and_more _ (stmt_nodes s) d indent at all w (stmts s d indent (w.next + 1) all p.4)
stmts (ASet p0 t p1 e p2 p3 c p4 v p5 s) d indent at all p =
    let w = set_stmt t e c v d indent (at + length indent) p.0 p.1 p.2 p.3 in
    and_more _ (stmt_nodes s) d indent at all w (stmts s d indent (w.next + 1) all p.4)
stmts (ADelete p0 t p1 e p2 p3 s) d indent at all p =
    let w = delete_stmt t e d indent (at + length indent) p.0 p.1 in
    and_more _ (stmt_nodes s) d indent at all w (stmts s d indent (w.next + 1) all p.2)
stmts (AnAbort p0 p1 e p2 s) d indent at all p =
    let w = abort_stmt e d indent (at + length indent) p.0 in
    and_more _ (stmt_nodes s) d indent at all w (stmts s d indent (w.next + 1) all p.1)
stmts (AnIf p0 e p1 first p2 s) d indent at all p =
    let test = whole e p.1 (at + length indent + 2 + 1) in
    let one = stmts first (inside_block d) (deeper indent) (test.next + 1 + 1 + 1) (spaces_deeper indent all) p.2 in
    let w = one_branch e (stmt_nodes first) d indent (at + length indent) p.0 all test one in
    and_more _ (stmt_nodes s) d indent at all w (stmts s d indent (w.next + 1) all p.3)
stmts (AnIfElse p0 e p1 first p2 p3 p4 second p5 s) d indent at all p =
    let test = whole e p.1 (at + length indent + 2 + 1) in
    let one = stmts first (inside_block d) (deeper indent) (test.next + 1 + 1 + 1) (spaces_deeper indent all) p.2 in
    let two = stmts second (inside_block d) (deeper indent) (after_else one.next indent) (spaces_deeper indent all) p.3 in
    let w = if_else e (stmt_nodes first) (stmt_nodes second) d indent (at + length indent) p.0 all test one two in
    and_more _ (stmt_nodes s) d indent at all w (stmts s d indent (w.next + 1) all p.4)
stmts (ALoop p0 x p1 a p2 b p3 body p4 s) d indent at all p =
    let v = bound a p.2 (loop_first x (at + length indent)) in
    let last = bound b p.3 (v.next + 2) in
    let few : loop_turns d (bound_value v.form) (bound_value last.form) ≤ 256 = rw (v.same, last.same) p.4 in
    let block : AreProperStmts (in_loop d (bound_value a) (bound_value b)) body = p.5 in
    let proper : AreProperStmts (in_loop d (bound_value v.form) (bound_value last.form)) body = rw (v.same, last.same) block in
    let one = stmts body (in_loop d (bound_value v.form) (bound_value last.form)) (deeper indent) (last.next + 1 + 1 + 1) (spaces_deeper indent all) proper in
    let w = loop x a b (stmt_nodes body) d indent (at + length indent) p.0 p.1 all v last few one in
    and_more _ (stmt_nodes s) d indent at all w (stmts s d indent (w.next + 1) all p.6)
