-- A text that was a catalogue before there were loops is one still, with the same tree.
use Rattle.std.proofs.Common.{◌≡◌, ◌≢◌, ℕ, suc, ◌+◌, ◌≤◌, Bool, true, true≢false, List, [], ◌∷◌, ◌++◌, length, drop, None, refl, sym, ap, subst, ◌∙◌, arith, inl, inr, ◌⊎◌}
use Rattle.pac_tokens.specs.declared.token.Symbol.{Symbol}
use Rattle.pac_tokens.specs.declared.token.Symbol.TheVariants as symbol
use Rattle.pac_tokens.specs.declared.token.Token.{Token}
use Rattle.pac_tokens.specs.declared.token.Token.TheVariants as token
use Rattle.pac_tokens.specs.declared.token.Spanned.{Spanned}
use Rattle.pac_tokens.specs.declared.lexer.Before.{Before}
use Rattle.pac_tokens.specs.declared.lexer.Before.TheVariants.{Other}
use Rattle.pac_tokens.specs.Spelling.{symbol_spelling}
use Rattle.pac_tokens.specs.Tokens.{Spells, IsNext, Lexed, EndsAt, gap, after}
use Rattle.pac_tokens.proofs.Spelled.{first, class, spells_class, spells_some}
use Rattle.pac_syntax.specs.declared.limits.Around.{Around}
use Rattle.pac_syntax.specs.declared.tree.StmtNode.TheVariants as stmt
use Rattle.pac_syntax.specs.declared.tree.Tree.{Tree}
use Rattle.pac_syntax.specs.Grammar.{StmtsForm, NoStmt, ALet, ARead, AHas, APut, ASet, ADelete, AnAbort, AnIf, AnIfElse, ProcsForm, NoProc, AProc, CatalogueForm, AreStmts, AreProcs, stmt_nodes, proc_nodes, expr_node, value_nodes, literal_node, param_nodes, table_nodes, Marked, stmts_before, procs_before, tables_before, marks_of, tokens_of, tree_of}
use Rattle.pac_syntax.specs.Reading.{Reads}
use Rattle.pac_syntax.specs.WithoutLoops as old
use Rattle.pac_syntax.proofs.DotsApart.{is_dot, is_range, NoDot, DotsApart, dots_apart}

-- ---- derivations

abbrev pub stmts : old.LooplessStmts → StmtsForm
stmts old.NoStmt = NoStmt
stmts (old.ALet p0 x p1 e p2 s) = ALet p0 x p1 e p2 (stmts s)
stmts (old.ARead p0 x p1 t p2 e p3 p4 c p5 l p6 s) = ARead p0 x p1 t p2 e p3 p4 c p5 l p6 (stmts s)
stmts (old.AHas p0 x p1 t p2 e p3 p4 s) = AHas p0 x p1 t p2 e p3 p4 (stmts s)
stmts (old.APut p0 t p1 e p2 p3 p4 v vs p5 p6 s) = APut p0 t p1 e p2 p3 p4 v vs p5 p6 (stmts s)
stmts (old.ASet p0 t p1 e p2 p3 c p4 v p5 s) = ASet p0 t p1 e p2 p3 c p4 v p5 (stmts s)
stmts (old.ADelete p0 t p1 e p2 p3 s) = ADelete p0 t p1 e p2 p3 (stmts s)
stmts (old.AnAbort p0 p1 e p2 s) = AnAbort p0 p1 e p2 (stmts s)
stmts (old.AnIf p0 e p1 first p2 s) = AnIf p0 e p1 (stmts first) p2 (stmts s)
stmts (old.AnIfElse p0 e p1 first p2 p3 p4 second p5 s) = AnIfElse p0 e p1 (stmts first) p2 p3 p4 (stmts second) p5 (stmts s)

abbrev pub procs : old.LooplessProcs → ProcsForm
procs old.NoProc = NoProc
procs (old.AProc p0 n p1 ps p2 p3 s p4 f) = AProc p0 n p1 ps p2 p3 (stmts s) p4 (procs f)

are_stmts : (s : old.LooplessStmts) → old.AreLooplessStmts s → AreStmts (stmts s)
are_stmts old.NoStmt h = tt
are_stmts (old.ALet p0 x p1 e p2 s) h = (h.0, are_stmts s h.1)
are_stmts (old.ARead p0 x p1 t p2 e p3 p4 c p5 l p6 s) h = (h.0, are_stmts s h.1)
are_stmts (old.AHas p0 x p1 t p2 e p3 p4 s) h = (h.0, are_stmts s h.1)
are_stmts (old.APut p0 t p1 e p2 p3 p4 v vs p5 p6 s) h = (h.0, h.1, h.2, are_stmts s h.3)
are_stmts (old.ASet p0 t p1 e p2 p3 c p4 v p5 s) h = (h.0, h.1, are_stmts s h.2)
are_stmts (old.ADelete p0 t p1 e p2 p3 s) h = (h.0, are_stmts s h.1)
are_stmts (old.AnAbort p0 p1 e p2 s) h = (h.0, are_stmts s h.1)
are_stmts (old.AnIf p0 e p1 first p2 s) h = (h.0, are_stmts first h.1, are_stmts s h.2)
are_stmts (old.AnIfElse p0 e p1 first p2 p3 p4 second p5 s) h = (h.0, are_stmts first h.1, are_stmts second h.2, are_stmts s h.3)

are_procs : (f : old.LooplessProcs) → old.AreLooplessProcs f → AreProcs (procs f)
are_procs old.NoProc h = tt
are_procs (old.AProc p0 n p1 ps p2 p3 s p4 f) h = (are_stmts s h.0, are_procs f h.1)

-- the same trees
pub same_stmts : (s : old.LooplessStmts) → stmt_nodes (stmts s) ≡ old.loopless_stmts s
same_stmts old.NoStmt = refl
same_stmts (old.ALet p0 x p1 e p2 s) = ap (λ q. stmt.Let x (expr_node e) ∷ q) (same_stmts s)
same_stmts (old.ARead p0 x p1 t p2 e p3 p4 c p5 l p6 s) = ap (λ q. stmt.Read x t (expr_node e) c (literal_node l) ∷ q) (same_stmts s)
same_stmts (old.AHas p0 x p1 t p2 e p3 p4 s) = ap (λ q. stmt.Has x t (expr_node e) ∷ q) (same_stmts s)
same_stmts (old.APut p0 t p1 e p2 p3 p4 v vs p5 p6 s) = ap (λ q. stmt.Put t (expr_node e) (expr_node v ∷ value_nodes vs) ∷ q) (same_stmts s)
same_stmts (old.ASet p0 t p1 e p2 p3 c p4 v p5 s) = ap (λ q. stmt.Set t (expr_node e) c (expr_node v) ∷ q) (same_stmts s)
same_stmts (old.ADelete p0 t p1 e p2 p3 s) = ap (λ q. stmt.Delete t (expr_node e) ∷ q) (same_stmts s)
same_stmts (old.AnAbort p0 p1 e p2 s) = ap (λ q. stmt.AbortIf (expr_node e) ∷ q) (same_stmts s)
same_stmts (old.AnIf p0 e p1 first p2 s) = λ i. stmt.If (expr_node e) (same_stmts first i) [] ∷ same_stmts s i
same_stmts (old.AnIfElse p0 e p1 first p2 p3 p4 second p5 s) = λ i. stmt.If (expr_node e) (same_stmts first i) (same_stmts second i) ∷ same_stmts s i

pub same_procs : (f : old.LooplessProcs) → proc_nodes (procs f) ≡ old.loopless_procs f
same_procs old.NoProc = refl
same_procs (old.AProc p0 n p1 ps p2 p3 s p4 f) = λ i. record { name = n; params = param_nodes ps; body = same_stmts s i } ∷ same_procs f i

-- in no loop
abbrev in_ifs : ℕ → Around
in_ifs d = record { nested = d; turns = 1 }

-- the same tokens in the same roles
same_marks : (s : old.LooplessStmts) (d : ℕ) (rest : List Marked) → stmts_before (in_ifs d) (stmts s) rest ≡ old.loopless_stmts_before d s rest
same_marks old.NoStmt d rest = refl
same_marks (old.ALet p0 x p1 e p2 s) d rest = rw (same_marks s d rest) refl
same_marks (old.ARead p0 x p1 t p2 e p3 p4 c p5 l p6 s) d rest = rw (same_marks s d rest) refl
same_marks (old.AHas p0 x p1 t p2 e p3 p4 s) d rest = rw (same_marks s d rest) refl
same_marks (old.APut p0 t p1 e p2 p3 p4 v vs p5 p6 s) d rest = rw (same_marks s d rest) refl
same_marks (old.ASet p0 t p1 e p2 p3 c p4 v p5 s) d rest = rw (same_marks s d rest) refl
same_marks (old.ADelete p0 t p1 e p2 p3 s) d rest = rw (same_marks s d rest) refl
same_marks (old.AnAbort p0 p1 e p2 s) d rest = rw (same_marks s d rest) refl
same_marks (old.AnIf p0 e p1 first p2 s) d rest = rw (same_marks s d rest, same_marks first (suc d) (_ ∷ old.loopless_stmts_before d s rest)) refl
same_marks (old.AnIfElse p0 e p1 first p2 p3 p4 second p5 s) d rest =
    rw (same_marks s d rest, same_marks second (suc d) (_ ∷ old.loopless_stmts_before d s rest), same_marks first (suc d) (_ ∷ _ ∷ _ ∷ old.loopless_stmts_before (suc d) second (_ ∷ old.loopless_stmts_before d s rest))) refl

pub same_proc_marks : (f : old.LooplessProcs) (i : ℕ) (rest : List Marked) → procs_before i (procs f) rest ≡ old.loopless_procs_before i f rest
same_proc_marks old.NoProc i rest = refl
same_proc_marks (old.AProc p0 n p1 ps p2 p3 s p4 f) i rest = rw (same_proc_marks f (suc i) rest, same_marks s 0 (_ ∷ old.loopless_procs_before (suc i) f rest)) refl

-- ---- tokens

symbol_is : (s : Symbol) → first (symbol_spelling s) ≡ 46 → s ≢ symbol.Range → s ≡ symbol.Dot
unfolding first
symbol_is symbol.Dot e other = refl
symbol_is symbol.Range e other = absurd (other refl)
symbol_is symbol.OpenParen e other = absurd (omega (arith, e))
symbol_is symbol.CloseParen e other = absurd (omega (arith, e))
symbol_is symbol.OpenBrace e other = absurd (omega (arith, e))
symbol_is symbol.CloseBrace e other = absurd (omega (arith, e))
symbol_is symbol.OpenBracket e other = absurd (omega (arith, e))
symbol_is symbol.CloseBracket e other = absurd (omega (arith, e))
symbol_is symbol.Comma e other = absurd (omega (arith, e))
symbol_is symbol.Semicolon e other = absurd (omega (arith, e))
symbol_is symbol.Assign e other = absurd (omega (arith, e))
symbol_is symbol.Plus e other = absurd (omega (arith, e))
symbol_is symbol.Minus e other = absurd (omega (arith, e))
symbol_is symbol.Star e other = absurd (omega (arith, e))
symbol_is symbol.Slash e other = absurd (omega (arith, e))
symbol_is symbol.Percent e other = absurd (omega (arith, e))
symbol_is symbol.Not e other = absurd (omega (arith, e))
symbol_is symbol.Less e other = absurd (omega (arith, e))
symbol_is symbol.Greater e other = absurd (omega (arith, e))
symbol_is symbol.Equal e other = absurd (omega (arith, e))
symbol_is symbol.NotEqual e other = absurd (omega (arith, e))
symbol_is symbol.LessEqual e other = absurd (omega (arith, e))
symbol_is symbol.GreaterEqual e other = absurd (omega (arith, e))
symbol_is symbol.And e other = absurd (omega (arith, e))
symbol_is symbol.Or e other = absurd (omega (arith, e))

-- a token that begins with a dot, and isn't `..`, is a dot
dot_is : (before : Before) (t : Token) (w : List ℕ) → Spells before t w → first w ≡ 46 → t ≢ old.range → t ≡ token.Symbol symbol.Dot
dot_is before (token.Symbol s) w h e other = ap (λ s. token.Symbol s) (symbol_is s (sym (ap first h) ∙ e) (λ same. other (ap (λ s. token.Symbol s) same)))
dot_is before (token.Keyword k) w h e other = absurd (omega (arith, sym (spells_class before (token.Keyword k) w h) ∙ ap class e))
dot_is before (token.Name n) w h e other = absurd (omega (arith, sym (spells_class before (token.Name n) w h) ∙ ap class e))
dot_is before (token.Int z) w h e other = absurd (omega (arith, sym (spells_class before (token.Int z) w h) ∙ ap class e))
dot_is before (token.Negative z) w h e other = absurd (omega (arith, sym (spells_class before (token.Negative z) w h) ∙ ap class e))
dot_is before (token.Text x) w h e other = absurd (omega (arith, sym (spells_class before (token.Text x) w h) ∙ ap class e))

-- what spells a token begins as the bytes do
first_is : (w rest bytes : List ℕ) → bytes ≡ w ++ rest → 1 ≤ length w → first w ≡ first bytes
unfolding first
first_is [] rest bytes e some = absurd (omega (arith, some))
first_is (b ∷ w) rest bytes e some = sym (ap first e)

-- a dot before a dot is followed by one
dot_again : (before : Before) (at : ℕ) (behind : List ℕ) (ts : List Spanned) → old.LexedDotless before at (46 ∷ behind) ts → NoDot true ts → ⊥
unfolding first
dot_again before at behind [] h k = absurd cc
dot_again before at behind (u ∷ us) h k =
    let n = h.1 in
    let e : first n.prefix ≡ 46 = first_is n.prefix n.rest (46 ∷ behind) n.longest.parts (spells_some before u.token n.prefix n.longest.spells) in
    let dot : is_dot u.token ≡ true = ap is_dot (dot_is before u.token n.prefix n.longest.spells e n.longest.other) in
    true≢false (sym dot ∙ k)

range_or : (u : Token) → (u ≡ old.range) ⊎ (u ≢ old.range)
range_or (token.Symbol symbol.Range) = inl refl
range_or (token.Symbol s) = inr (λ e. true≢false (sym (ap is_range e)))
range_or u = inr (λ e. true≢false (sym (ap is_range e)))

-- where `..` spells no token, the bytes of a dot and a dot are two of them
two_dots : (before : Before) (bytes : List ℕ) (t : Token) (len at : ℕ) (ts : List Spanned) → old.IsNextDotless before bytes t len → old.LexedDotless (after before t) at (drop len bytes) ts → NoDot (is_dot t) ts
    → (v behind : List ℕ) → bytes ≡ v ++ behind → Spells before old.range v → ⊥
unfolding first
two_dots before bytes t len at ts n h k v behind e spells =
    let l = n.longest in
    let text : bytes ≡ 46 ∷ 46 ∷ behind = e ∙ ap (λ x. x ++ behind) spells in
    let begins : first n.prefix ≡ 46 = first_is n.prefix n.rest bytes l.parts (spells_some before t n.prefix l.spells) ∙ ap first text in
    let dot : t ≡ token.Symbol symbol.Dot = dot_is before t n.prefix l.spells begins l.other in
    let one : n.prefix ≡ 46 ∷ [] = subst (λ (x : Token). Spells before x n.prefix) dot l.spells in
    let next : drop len bytes ≡ 46 ∷ behind = ap (λ m. drop m bytes) (n.counted ∙ ap length one) ∙ ap (λ x. drop 1 x) text in
    dot_again (after before t) at behind ts (subst (λ (x : List ℕ). old.LexedDotless (after before t) at x ts) next h) (subst (λ (b : Bool). NoDot b ts) (ap is_dot dot) k)

next_same : (before : Before) (bytes : List ℕ) (t : Token) (len at : ℕ) (ts : List Spanned) → old.IsNextDotless before bytes t len → old.LexedDotless (after before t) at (drop len bytes) ts → NoDot (is_dot t) ts → IsNext before bytes t len
next_same before bytes t len at ts n h k = record {
  prefix = n.prefix;
  rest = n.rest;
  longest = record { parts = n.longest.parts; spells = n.longest.spells; longest = λ v behind u e s. by v behind u e s (range_or u) };
  short = n.short;
  counted = n.counted;
}
  where
    by : (v behind : List ℕ) (u : Token) → bytes ≡ v ++ behind → Spells before u v → (u ≡ old.range) ⊎ (u ≢ old.range) → length v ≤ length n.prefix
    by v behind u e s (inl is) = absurd (two_dots before bytes t len at ts n h k v behind e (subst (λ (x : Token). Spells before x v) is s))
    by v behind u e s (inr other) = n.longest.longest v behind u other e s

-- bytes with these tokens before have them still, where no dot follows a dot
lexed_same : (before : Before) (at : ℕ) (bytes : List ℕ) (ts : List Spanned) → old.LexedDotless before at bytes ts → DotsApart ts → Lexed before at bytes ts None
lexed_same before at bytes [] h k = subst (λ (x : List ℕ). EndsAt before (at + gap bytes) x None) (sym h) refl
lexed_same before at bytes (t ∷ ts) h k =
    (h.0, next_same before (drop (gap bytes) bytes) t.token h.0 (at + gap bytes + h.0) ts h.1 h.3 k.0.0, h.2, lexed_same (after before t.token) (at + gap bytes + h.0) (drop h.0 (drop (gap bytes) bytes)) ts h.3 k.1)

-- ---- texts

pub stays : (text : List ℕ) (tree : Tree) → old.ReadsWithoutLoops text tree → Reads text tree
stays text tree h =
    let form : CatalogueForm = record { tables = h.form.tables; procs = procs h.form.procs } in
    let marks : marks_of form ≡ old.loopless_marks h.form = ap (tables_before 0 h.form.tables) (same_proc_marks h.form.procs 0 []) in
    let trees : tree_of form ≡ tree = (λ i. record { tables = table_nodes h.form.tables; procs = same_procs h.form.procs i }) ∙ h.is_tree in
    record {
      short = h.short;
      tokens = tokens_of (old.loopless_marks h.form);
      lexed = lexed_same Other 0 text (tokens_of (old.loopless_marks h.form)) h.lexed (dots_apart h.form);
      parsed = (old.loopless_marks h.form, record { form = form; levels = are_procs h.form.procs h.levels; spells = marks; is_tree = trees }, refl, h.within);
    }
