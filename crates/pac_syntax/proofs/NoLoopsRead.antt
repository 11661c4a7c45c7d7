-- A text whose tree has no loop was a catalogue before there were loops.
use Rattle.std.proofs.Common.{◌≡◌, ℕ, ◌+◌, Bool, true, false, true≢false, ◌&&◌, List, [], ◌∷◌, drop, None, refl, sym, ap, subst, ◌∙◌}
use Rattle.std.specs.Cmp.{first_so, second_so}
use Rattle.std.specs.List.{AllByRecursion}
use Rattle.pac_tokens.specs.declared.token.Token.{Token}
use Rattle.pac_tokens.specs.declared.token.Spanned.{Spanned}
use Rattle.pac_tokens.specs.declared.lexer.Before.{Before}
use Rattle.pac_tokens.specs.declared.lexer.Before.TheVariants.{Other}
use Rattle.pac_tokens.specs.Tokens.{IsNext, Lexed, EndsAt, gap, after}
use Rattle.pac_syntax.specs.declared.tree.StmtNode.{StmtNode}
use Rattle.pac_syntax.specs.declared.tree.StmtNode.TheVariants as stmt
use Rattle.pac_syntax.specs.declared.tree.Tree.{Tree}
use Rattle.pac_syntax.specs.Grammar.{StmtsForm, NoStmt, ALet, ARead, AHas, APut, ASet, ADelete, AnAbort, AnIf, AnIfElse, ALoop, ProcsForm, NoProc, AProc, AreStmts, AreProcs, bound_value, stmt_nodes, proc_nodes, expr_node, value_nodes, literal_node, table_nodes, Marked, procs_before, tables_before, tokens_of}
use Rattle.pac_syntax.specs.Faults.{IsWithin}
use Rattle.pac_syntax.specs.Reading.{Reads}
use Rattle.pac_syntax.specs.WithoutLoops as old
use Rattle.pac_syntax.specs.WithoutLoops.{no_loop_step, is_no_loop, are_no_loops, IsLooplessTree}
use Rattle.pac_syntax.proofs.NodeForms.{fold-Let, fold-Read, fold-Has, fold-Put, fold-Set, fold-Delete, fold-AbortIf, fold-If, fold-For}
use Rattle.pac_syntax.proofs.DotsApart.{is_range, DotsApart, dots_apart}
use Rattle.pac_syntax.proofs.NoLoopsNeeded.{stmts, procs, same_procs, same_proc_marks}

-- ---- trees of derivations without loops have none

both : (a b : Bool) → a ≡ true → b ≡ true → (a && b) ≡ true
both a b p q = ap (λ c. c && b) p ∙ q

plain_stmts : (s : old.LooplessStmts) → are_no_loops (old.loopless_stmts s) ≡ true
plain_stmts old.NoStmt = refl
plain_stmts (old.ALet p0 x p1 e p2 s) = both _ _ (fold-Let Bool no_loop_step x (expr_node e)) (plain_stmts s)
plain_stmts (old.ARead p0 x p1 t p2 e p3 p4 c p5 l p6 s) = both _ _ (fold-Read Bool no_loop_step x t (expr_node e) c (literal_node l)) (plain_stmts s)
plain_stmts (old.AHas p0 x p1 t p2 e p3 p4 s) = both _ _ (fold-Has Bool no_loop_step x t (expr_node e)) (plain_stmts s)
plain_stmts (old.APut p0 t p1 e p2 p3 p4 v vs p5 p6 s) = both _ _ (fold-Put Bool no_loop_step t (expr_node e) (expr_node v ∷ value_nodes vs)) (plain_stmts s)
plain_stmts (old.ASet p0 t p1 e p2 p3 c p4 v p5 s) = both _ _ (fold-Set Bool no_loop_step t (expr_node e) c (expr_node v)) (plain_stmts s)
plain_stmts (old.ADelete p0 t p1 e p2 p3 s) = both _ _ (fold-Delete Bool no_loop_step t (expr_node e)) (plain_stmts s)
plain_stmts (old.AnAbort p0 p1 e p2 s) = both _ _ (fold-AbortIf Bool no_loop_step (expr_node e)) (plain_stmts s)
plain_stmts (old.AnIf p0 e p1 first p2 s) =
    both _ _ (fold-If Bool no_loop_step (expr_node e) (old.loopless_stmts first) [] ∙ both (are_no_loops (old.loopless_stmts first)) true (plain_stmts first) refl) (plain_stmts s)
plain_stmts (old.AnIfElse p0 e p1 first p2 p3 p4 second p5 s) =
    both _ _ (fold-If Bool no_loop_step (expr_node e) (old.loopless_stmts first) (old.loopless_stmts second) ∙ both (are_no_loops (old.loopless_stmts first)) (are_no_loops (old.loopless_stmts second)) (plain_stmts first) (plain_stmts second)) (plain_stmts s)

plain_procs : (f : old.LooplessProcs) → AllByRecursion (λ proc. are_no_loops proc.body ≡ true) (old.loopless_procs f)
plain_procs old.NoProc = tt
plain_procs (old.AProc p0 n p1 ps p2 p3 s p4 f) = (plain_stmts s, plain_procs f)

pub plain : (text : List ℕ) (tree : Tree) → old.ReadsWithoutLoops text tree → IsLooplessTree tree
plain text tree h = subst (λ (t : Tree). IsLooplessTree t) h.is_tree (plain_procs h.form.procs)

-- ---- a derivation of a tree without loops is one of before

record FromStmts (s : StmtsForm) : Type 0 where
  form : old.LooplessStmts
  is : stmts form ≡ s

-- the nodes after the first
others : (node : StmtNode) (nodes : List StmtNode) → are_no_loops (node ∷ nodes) ≡ true → are_no_loops nodes ≡ true
others node nodes h = second_so (is_no_loop node) (are_no_loops nodes) h

-- the blocks of a conditional
blocks : (node : StmtNode) (nodes first second : List StmtNode) → is_no_loop node ≡ (are_no_loops first && are_no_loops second) → are_no_loops (node ∷ nodes) ≡ true → (are_no_loops first && are_no_loops second) ≡ true
blocks node nodes first second is h = sym is ∙ first_so (is_no_loop node) (are_no_loops nodes) h

from_stmts : (s : StmtsForm) → are_no_loops (stmt_nodes s) ≡ true → FromStmts s
from_stmts NoStmt h = record { form = old.NoStmt; is = refl }
from_stmts (ALet p0 x p1 e p2 s) h =
    let r = from_stmts s (others _ (stmt_nodes s) h) in record { form = old.ALet p0 x p1 e p2 r.form; is = ap (λ q. ALet p0 x p1 e p2 q) r.is }
from_stmts (ARead p0 x p1 t p2 e p3 p4 c p5 l p6 s) h =
    let r = from_stmts s (others _ (stmt_nodes s) h) in record { form = old.ARead p0 x p1 t p2 e p3 p4 c p5 l p6 r.form; is = ap (λ q. ARead p0 x p1 t p2 e p3 p4 c p5 l p6 q) r.is }
from_stmts (AHas p0 x p1 t p2 e p3 p4 s) h =
    let r = from_stmts s (others _ (stmt_nodes s) h) in record { form = old.AHas p0 x p1 t p2 e p3 p4 r.form; is = ap (λ q. AHas p0 x p1 t p2 e p3 p4 q) r.is }
from_stmts (APut p0 t p1 e p2 p3 p4 v vs p5 p6 s) h =
    let r = from_stmts s (others _ (stmt_nodes s) h) in record { form = old.APut p0 t p1 e p2 p3 p4 v vs p5 p6 r.form; is = ap (λ q. APut p0 t p1 e p2 p3 p4 v vs p5 p6 q) r.is }
from_stmts (ASet p0 t p1 e p2 p3 c p4 v p5 s) h =
    let r = from_stmts s (others _ (stmt_nodes s) h) in record { form = old.ASet p0 t p1 e p2 p3 c p4 v p5 r.form; is = ap (λ q. ASet p0 t p1 e p2 p3 c p4 v p5 q) r.is }
from_stmts (ADelete p0 t p1 e p2 p3 s) h =
    let r = from_stmts s (others _ (stmt_nodes s) h) in record { form = old.ADelete p0 t p1 e p2 p3 r.form; is = ap (λ q. ADelete p0 t p1 e p2 p3 q) r.is }
from_stmts (AnAbort p0 p1 e p2 s) h =
    let r = from_stmts s (others _ (stmt_nodes s) h) in record { form = old.AnAbort p0 p1 e p2 r.form; is = ap (λ q. AnAbort p0 p1 e p2 q) r.is }
from_stmts (AnIf p0 e p1 first p2 s) h =
    let r = from_stmts s (others _ (stmt_nodes s) h) in
    let b = blocks _ (stmt_nodes s) (stmt_nodes first) [] (fold-If Bool no_loop_step (expr_node e) (stmt_nodes first) []) h in
    let one = from_stmts first (first_so (are_no_loops (stmt_nodes first)) true b) in
    record { form = old.AnIf p0 e p1 one.form p2 r.form; is = λ i. AnIf p0 e p1 (one.is i) p2 (r.is i) }
from_stmts (AnIfElse p0 e p1 first p2 p3 p4 second p5 s) h =
    let r = from_stmts s (others _ (stmt_nodes s) h) in
    let b = blocks _ (stmt_nodes s) (stmt_nodes first) (stmt_nodes second) (fold-If Bool no_loop_step (expr_node e) (stmt_nodes first) (stmt_nodes second)) h in
    let one = from_stmts first (first_so (are_no_loops (stmt_nodes first)) (are_no_loops (stmt_nodes second)) b) in
    let two = from_stmts second (second_so (are_no_loops (stmt_nodes first)) (are_no_loops (stmt_nodes second)) b) in
    record { form = old.AnIfElse p0 e p1 one.form p2 p3 p4 two.form p5 r.form; is = λ i. AnIfElse p0 e p1 (one.is i) p2 p3 p4 (two.is i) p5 (r.is i) }
from_stmts (ALoop p0 x p1 a p2 b p3 body p4 s) h =
    let node = stmt.For x (bound_value a) (bound_value b) (stmt_nodes body) in
    absurd (true≢false (sym (first_so (is_no_loop node) (are_no_loops (stmt_nodes s)) h) ∙ fold-For Bool no_loop_step x (bound_value a) (bound_value b) (stmt_nodes body)))

record FromProcs (f : ProcsForm) : Type 0 where
  form : old.LooplessProcs
  is : procs form ≡ f

from_procs : (f : ProcsForm) → AllByRecursion (λ proc. are_no_loops proc.body ≡ true) (proc_nodes f) → FromProcs f
from_procs NoProc h = record { form = old.NoProc; is = refl }
from_procs (AProc p0 n p1 ps p2 p3 s p4 f) h =
    let one = from_stmts s h.0 in
    let more = from_procs f h.1 in
    record { form = old.AProc p0 n p1 ps p2 p3 one.form p4 more.form; is = λ i. AProc p0 n p1 ps p2 p3 (one.is i) p4 (more.is i) }

were_stmts : (s : old.LooplessStmts) → AreStmts (stmts s) → old.AreLooplessStmts s
were_stmts old.NoStmt h = tt
were_stmts (old.ALet p0 x p1 e p2 s) h = (h.0, were_stmts s h.1)
were_stmts (old.ARead p0 x p1 t p2 e p3 p4 c p5 l p6 s) h = (h.0, were_stmts s h.1)
were_stmts (old.AHas p0 x p1 t p2 e p3 p4 s) h = (h.0, were_stmts s h.1)
were_stmts (old.APut p0 t p1 e p2 p3 p4 v vs p5 p6 s) h = (h.0, h.1, h.2, were_stmts s h.3)
were_stmts (old.ASet p0 t p1 e p2 p3 c p4 v p5 s) h = (h.0, h.1, were_stmts s h.2)
were_stmts (old.ADelete p0 t p1 e p2 p3 s) h = (h.0, were_stmts s h.1)
were_stmts (old.AnAbort p0 p1 e p2 s) h = (h.0, were_stmts s h.1)
were_stmts (old.AnIf p0 e p1 first p2 s) h = (h.0, were_stmts first h.1, were_stmts s h.2)
were_stmts (old.AnIfElse p0 e p1 first p2 p3 p4 second p5 s) h = (h.0, were_stmts first h.1, were_stmts second h.2, were_stmts s h.3)

were_procs : (f : old.LooplessProcs) → AreProcs (procs f) → old.AreLooplessProcs f
were_procs old.NoProc h = tt
were_procs (old.AProc p0 n p1 ps p2 p3 s p4 f) h = (were_stmts s h.0, were_procs f h.1)

-- ---- tokens

next_before : (before : Before) (bytes : List ℕ) (t : Token) (len : ℕ) → is_range t ≡ false → IsNext before bytes t len → old.IsNextDotless before bytes t len
next_before before bytes t len other n = record {
  prefix = n.prefix;
  rest = n.rest;
  longest = record {
    parts = n.longest.parts;
    spells = n.longest.spells;
    other = λ e. true≢false (sym (ap is_range e) ∙ other);
    longest = λ v behind u range e s. n.longest.longest v behind u e s;
  };
  short = n.short;
  counted = n.counted;
}

nothing_left : (before : Before) (at : ℕ) (bytes : List ℕ) → EndsAt before at bytes None → bytes ≡ []
nothing_left before at [] h = refl
nothing_left before at (b ∷ bs) h = let never = h.2 in absurd cc

lexed_before : (before : Before) (at : ℕ) (bytes : List ℕ) (ts : List Spanned) → Lexed before at bytes ts None → DotsApart ts → old.LexedDotless before at bytes ts
lexed_before before at bytes [] h k = nothing_left before (at + gap bytes) (drop (gap bytes) bytes) h
lexed_before before at bytes (t ∷ ts) h k =
    (h.0, next_before before (drop (gap bytes) bytes) t.token h.0 k.0.1 h.1, h.2, lexed_before (after before t.token) (at + gap bytes + h.0) (drop h.0 (drop (gap bytes) bytes)) ts h.3 k.1)

-- ---- texts

pub was_read : (text : List ℕ) (tree : Tree) → Reads text tree → IsLooplessTree tree → old.ReadsWithoutLoops text tree
was_read text tree reads loopless =
    let whole = reads.parsed.1 in
    let f = whole.form in
    let back = from_procs f.procs (subst (λ (t : Tree). IsLooplessTree t) (sym whole.is_tree) loopless) in
    let form : old.LooplessCatalogue = record { tables = f.tables; procs = back.form } in
    let again : procs_before 0 f.procs [] ≡ old.loopless_procs_before 0 back.form [] = ap (λ (q : ProcsForm). procs_before 0 q []) (sym back.is) ∙ same_proc_marks back.form 0 [] in
    let marks : reads.parsed.0 ≡ old.loopless_marks form = sym whole.spells ∙ ap (tables_before 0 f.tables) again in
    let nodes : old.loopless_procs back.form ≡ proc_nodes f.procs = sym (same_procs back.form) ∙ ap proc_nodes back.is in
    let tokens : reads.tokens ≡ tokens_of (old.loopless_marks form) = sym reads.parsed.2 ∙ ap tokens_of marks in
    record {
      short = reads.short;
      form = form;
      levels = were_procs back.form (subst (λ (q : ProcsForm). AreProcs q) (sym back.is) whole.levels);
      lexed = lexed_before Other 0 text (tokens_of (old.loopless_marks form)) (subst (λ (ts : List Spanned). Lexed Other 0 text ts None) tokens reads.lexed) (dots_apart form);
      within = subst (λ (ms : List Marked). AllByRecursion IsWithin ms) marks reads.parsed.3;
      is_tree = (λ i. record { tables = table_nodes f.tables; procs = nodes i }) ∙ whole.is_tree;
    }
