-- The nodes of a tree that is read stand in the order of the text.
use Rattle.std.proofs.Common.{◌≡◌, ℕ, suc, ◌+◌, ◌≤◌, List, [], ◌∷◌, ◌++◌, map, drop, Option, refl, sym, ap, subst, ◌∙◌, append_assoc, arith}
use Rattle.std.specs.List.{flat_map}
use Rattle.pac_tokens.specs.declared.lexer.Before.{Before}
use Rattle.pac_tokens.specs.declared.fault.Fault.{Fault}
use Rattle.pac_tokens.specs.declared.token.Spanned.{Spanned}
use Rattle.pac_syntax.specs.declared.limits.Around.{Around}
use Rattle.pac_syntax.specs.declared.tree.StmtNode.{StmtNode}
use Rattle.pac_syntax.specs.declared.tree.StmtNode.TheVariants as stmt
use Rattle.pac_syntax.specs.declared.tree.Tree.{Tree}
use Rattle.pac_syntax.specs.Grammar.{LiteralForm, AnInt, ANegative, AText, ATrue, AFalse, ExprForm, ALiteral, AName, ANot, AParen, ABinary, ValuesForm, NoValue, AValue, StmtsForm, NoStmt, ALet, ARead, AHas, APut, ASet, ADelete, AnAbort, AnIf, AnIfElse, ALoop, BoundForm, ABound, ANegativeBound, TypeForm, ColumnsForm, NoColumn, AColumn, ParamsForm, NoParam, AParam, TablesForm, NoTable, ATable, ProcsForm, NoProc, AProc, literal_node, bound_value, outermost, inside_block, in_loop, expr_offset, expr_node, value_nodes, stmt_nodes, column_nodes, param_nodes, table_nodes, proc_nodes, Role, Plain, ColumnName, ParamName, Marked, type_mark, counted, literal_before, bound_before, last_bound, expr_before, whole_before, values_before, stmts_before, columns_before, params_before, tables_before, procs_before, marks_of, tokens_of}
use Rattle.pac_syntax.specs.Faults.{ReadsTokens}
use Rattle.pac_tokens.specs.Tokens.{Lexed, IsLexed, gap, after}
use Rattle.pac_syntax.specs.Order.{NodeOffset, Own, Shared, expr_offsets, expr_offsets_step, all_offsets, stmt_offsets, stmt_offsets_step, stmts_offsets, columns_offsets, table_offsets, proc_offsets, Climbs, Ascends, IsOrdered}
use Rattle.pac_tokens.proofs.Spelled.{spells_some}
use Rattle.pac_syntax.proofs.NodeForms.{fold-Literal, fold-Name, fold-Binary, fold-Not, fold-Let, fold-Read, fold-Has, fold-Put, fold-Set, fold-Delete, fold-AbortIf, fold-If, fold-For}

-- the offsets of tokens
abbrev offsets : List Marked → List ℕ
offsets [] = []
offsets (m ∷ ms) = m.token.at ∷ offsets ms

earlier : (low at : ℕ) (ps : List NodeOffset) → low ≤ at → Ascends at ps → Ascends low ps
earlier low at [] le h = tt
earlier low at (Own p ∷ ps) le h = (omega (arith, h.0), h.1)
earlier low at (Shared p ∷ ps) le h = (omega (arith, h.0), h.1)

-- these offsets ascend from wherever those of the tokens do
record Follow (ms : List Marked) (ps : List NodeOffset) : Type 0 where
  go : (low : ℕ) → Climbs low (offsets ms) → Ascends low ps

-- one token that has no node
skip : (m : Marked) (ms : List Marked) (ps : List NodeOffset) → Follow ms ps → Follow (m ∷ ms) ps
skip m ms ps f = record { go = λ low h. earlier low (suc m.token.at) ps (omega (arith, h.0)) (f.go (suc m.token.at) h.1) }

-- one token with a node of its own
stands : (m : Marked) (ms : List Marked) (ps : List NodeOffset) → Follow ms ps → Follow (m ∷ ms) (Own m.token.at ∷ ps)
stands m ms ps f = record { go = λ low h. (h.0, f.go (suc m.token.at) h.1) }

same_offsets : (ms : List Marked) (ps qs : List NodeOffset) → ps ≡ qs → Follow ms qs → Follow ms ps
same_offsets ms ps qs e f = subst (λ (x : List NodeOffset). Follow ms x) (sym e) f

-- ---- expressions

literal : (l : LiteralForm) (ms : List Marked) (ps : List NodeOffset) → Follow ms ps → Follow (literal_before l ms) (Own (literal_node l).at ∷ ps)
literal (AnInt at z) ms ps f = stands _ ms ps f
literal (ANegative minus at z) ms ps f = stands _ (_ ∷ ms) ps (skip _ ms ps f)
literal (AText at text) ms ps f = stands _ ms ps f
literal (ATrue at) ms ps f = stands _ ms ps f
literal (AFalse at) ms ps f = stands _ ms ps f

bound : (b : BoundForm) (role : Role) (ms : List Marked) (ps : List NodeOffset) → Follow ms ps → Follow (bound_before b role ms) ps
bound (ABound at z) role ms ps f = skip _ ms ps f
bound (ANegativeBound minus at z) role ms ps f = skip _ (_ ∷ ms) ps (skip _ ms ps f)

-- the first token of an expression stands at its offset
record Begins (ms : List Marked) (at : ℕ) : Type 0 where
  rest : List ℕ
  is : offsets ms ≡ at ∷ rest

literal_begins : (l : LiteralForm) (ms : List Marked) → Begins (literal_before l ms) (literal_node l).at
literal_begins (AnInt at z) ms = record { rest = offsets ms; is = refl }
literal_begins (ANegative minus at z) ms = record { rest = at ∷ offsets ms; is = refl }
literal_begins (AText at text) ms = record { rest = offsets ms; is = refl }
literal_begins (ATrue at) ms = record { rest = offsets ms; is = refl }
literal_begins (AFalse at) ms = record { rest = offsets ms; is = refl }

begins : (e : ExprForm) (d o : ℕ) (ms : List Marked) → Begins (expr_before d o e ms) (expr_offset e)
begins (ALiteral l) d o ms = literal_begins l ms
begins (AName n) d o ms = record { rest = offsets ms; is = refl }
begins (ANot at e) d o ms = record { rest = offsets (expr_before d (suc o) e ms); is = refl }
begins (AParen opening e closing) d o ms = record { rest = offsets (expr_before (suc d) o e (_ ∷ ms)); is = refl }
begins (ABinary op at l r) d o ms = begins l d o (_ ∷ expr_before d (suc (counted o l)) r ms)

from_first : (ms : List Marked) (at : ℕ) (ps : List NodeOffset) → Begins ms at → Follow ms ps → Follow ms (Shared at ∷ ps)
from_first ms at ps b f = record {
  go = λ low h.
      let k : Climbs low (at ∷ b.rest) = subst (λ (x : List ℕ). Climbs low x) b.is h in
      let again : Climbs at (at ∷ b.rest) = (omega arith, k.1) in
      (k.0, f.go at (subst (λ (x : List ℕ). Climbs at x) (sym b.is) again));
}

expr : (e : ExprForm) (d o : ℕ) (ms : List Marked) (ps : List NodeOffset) → Follow ms ps → Follow (expr_before d o e ms) (expr_offsets (expr_node e) ++ ps)
expr (ALiteral l) d o ms ps f =
    same_offsets (literal_before l ms) _ (Own (literal_node l).at ∷ ps) (ap (λ q. q ++ ps) (fold-Literal (List NodeOffset) expr_offsets_step (literal_node l))) (literal l ms ps f)
expr (AName n) d o ms ps f = same_offsets (expr_before d o (AName n) ms) _ (Own n.at ∷ ps) (ap (λ q. q ++ ps) (fold-Name (List NodeOffset) expr_offsets_step n)) (stands _ ms ps f)
expr (ANot at e) d o ms ps f =
    same_offsets (expr_before d o (ANot at e) ms) _ (Own at ∷ (expr_offsets (expr_node e) ++ ps)) (ap (λ q. q ++ ps) (fold-Not (List NodeOffset) expr_offsets_step at (expr_node e)))
    (stands _ (expr_before d (suc o) e ms) _ (expr e d (suc o) ms ps f))
expr (AParen opening e closing) d o ms ps f = skip _ (expr_before (suc d) o e (_ ∷ ms)) _ (expr e (suc d) o (_ ∷ ms) ps (skip _ ms ps f))
expr (ABinary op at l r) d o ms ps f =
    let right = expr r d (suc (counted o l)) ms ps f in
    let left = expr l d o (_ ∷ expr_before d (suc (counted o l)) r ms) _ (skip _ (expr_before d (suc (counted o l)) r ms) _ right) in
    same_offsets (expr_before d o (ABinary op at l r) ms) _ (Shared (expr_offset l) ∷ (expr_offsets (expr_node l) ++ (expr_offsets (expr_node r) ++ ps)))
    (ap (λ q. q ++ ps) (fold-Binary (List NodeOffset) expr_offsets_step (expr_offset l) op (expr_node l) (expr_node r)) ∙ ap (λ q. Shared (expr_offset l) ∷ q) (append_assoc (expr_offsets (expr_node l)) (expr_offsets (expr_node r)) ps))
    (from_first (expr_before d o (ABinary op at l r) ms) (expr_offset l) _ (begins (ABinary op at l r) d o ms) left)

whole : (e : ExprForm) (ms : List Marked) (ps : List NodeOffset) → Follow ms ps → Follow (whole_before e ms) (expr_offsets (expr_node e) ++ ps)
whole e ms ps f = expr e 0 0 ms ps f

values : (vs : ValuesForm) (ms : List Marked) (ps : List NodeOffset) → Follow ms ps → Follow (values_before vs ms) (flat_map expr_offsets (value_nodes vs) ++ ps)
values NoValue ms ps f = f
values (AValue comma e vs) ms ps f =
    same_offsets (values_before (AValue comma e vs) ms) _ (expr_offsets (expr_node e) ++ (flat_map expr_offsets (value_nodes vs) ++ ps)) (append_assoc (expr_offsets (expr_node e)) (flat_map expr_offsets (value_nodes vs)) ps)
    (skip _ (whole_before e (values_before vs ms)) _ (whole e (values_before vs ms) _ (values vs ms ps f)))

-- ---- statements

all_flat : (nodes : List StmtNode) → all_offsets (map stmt_offsets nodes) ≡ stmts_offsets nodes
all_flat [] = refl
all_flat (n ∷ ns) = ap (λ q. stmt_offsets n ++ q) (all_flat ns)

-- the offsets of a statement and of those after it
node_then : (node : StmtNode) (nodes : List StmtNode) (ps qs : List NodeOffset) → stmt_offsets node ≡ qs → stmts_offsets (node ∷ nodes) ++ ps ≡ qs ++ (stmts_offsets nodes ++ ps)
node_then node nodes ps qs e = ap (λ q. (q ++ stmts_offsets nodes) ++ ps) e ∙ append_assoc qs (stmts_offsets nodes) ps

stmts : (s : StmtsForm) (d : Around) (ms : List Marked) (ps : List NodeOffset) → Follow ms ps → Follow (stmts_before d s ms) (stmts_offsets (stmt_nodes s) ++ ps)
stmts NoStmt d ms ps f = f
stmts (ALet p0 x p1 e p2 s) d ms ps f =
    let node = stmt.Let x (expr_node e) in
    let z = stmts_offsets (stmt_nodes s) ++ ps in
    same_offsets (stmts_before d (ALet p0 x p1 e p2 s) ms) _ _
    (node_then node (stmt_nodes s) ps (Own x.at ∷ expr_offsets (expr_node e)) (fold-Let (List NodeOffset) stmt_offsets_step x (expr_node e)))
    (skip _ (_ ∷ _ ∷ whole_before e (_ ∷ stmts_before d s ms)) _ (stands _ (_ ∷ whole_before e (_ ∷ stmts_before d s ms)) _ (skip _ (whole_before e (_ ∷ stmts_before d s ms)) _ (whole e (_ ∷ stmts_before d s ms) _ (skip _ (stmts_before d s ms) _ (stmts s d ms ps f))))))
stmts (ARead p0 x p1 t p2 e p3 p4 c p5 l p6 s) d ms ps f =
    let node = stmt.Read x t (expr_node e) c (literal_node l) in
    let z = stmts_offsets (stmt_nodes s) ++ ps in
    same_offsets (stmts_before d (ARead p0 x p1 t p2 e p3 p4 c p5 l p6 s) ms) _ _
    (node_then node (stmt_nodes s) ps (Own x.at ∷ Own t.at ∷ (expr_offsets (expr_node e) ++ (Own c.at ∷ Own (literal_node l).at ∷ []))) (fold-Read (List NodeOffset) stmt_offsets_step x t (expr_node e) c (literal_node l)) ∙ ap (λ q. Own x.at ∷ Own t.at ∷ q) (append_assoc (expr_offsets (expr_node e)) (Own c.at ∷ Own (literal_node l).at ∷ []) z))
    (skip _ (_ ∷ _ ∷ _ ∷ _ ∷ whole_before e (_ ∷ _ ∷ _ ∷ _ ∷ literal_before l (_ ∷ stmts_before d s ms))) _ (stands _ (_ ∷ _ ∷ _ ∷ whole_before e (_ ∷ _ ∷ _ ∷ _ ∷ literal_before l (_ ∷ stmts_before d s ms))) _ (skip _ (_ ∷ _ ∷ whole_before e (_ ∷ _ ∷ _ ∷ _ ∷ literal_before l (_ ∷ stmts_before d s ms))) _ (stands _ (_ ∷ whole_before e (_ ∷ _ ∷ _ ∷ _ ∷ literal_before l (_ ∷ stmts_before d s ms))) _ (skip _ (whole_before e (_ ∷ _ ∷ _ ∷ _ ∷ literal_before l (_ ∷ stmts_before d s ms))) _ (whole e (_ ∷ _ ∷ _ ∷ _ ∷ literal_before l (_ ∷ stmts_before d s ms)) _ (skip _ (_ ∷ _ ∷ _ ∷ literal_before l (_ ∷ stmts_before d s ms)) _ (skip _ (_ ∷ _ ∷ literal_before l (_ ∷ stmts_before d s ms)) _ (stands _ (_ ∷ literal_before l (_ ∷ stmts_before d s ms)) _ (skip _ (literal_before l (_ ∷ stmts_before d s ms)) _ (literal l (_ ∷ stmts_before d s ms) _ (skip _ (stmts_before d s ms) _ (stmts s d ms ps f)))))))))))))
stmts (AHas p0 x p1 t p2 e p3 p4 s) d ms ps f =
    let node = stmt.Has x t (expr_node e) in
    let z = stmts_offsets (stmt_nodes s) ++ ps in
    same_offsets (stmts_before d (AHas p0 x p1 t p2 e p3 p4 s) ms) _ _
    (node_then node (stmt_nodes s) ps (Own x.at ∷ Own t.at ∷ expr_offsets (expr_node e)) (fold-Has (List NodeOffset) stmt_offsets_step x t (expr_node e)))
    (skip _ (_ ∷ _ ∷ _ ∷ _ ∷ whole_before e (_ ∷ _ ∷ stmts_before d s ms)) _ (stands _ (_ ∷ _ ∷ _ ∷ whole_before e (_ ∷ _ ∷ stmts_before d s ms)) _ (skip _ (_ ∷ _ ∷ whole_before e (_ ∷ _ ∷ stmts_before d s ms)) _ (stands _ (_ ∷ whole_before e (_ ∷ _ ∷ stmts_before d s ms)) _ (skip _ (whole_before e (_ ∷ _ ∷ stmts_before d s ms)) _ (whole e (_ ∷ _ ∷ stmts_before d s ms) _ (skip _ (_ ∷ stmts_before d s ms) _ (skip _ (stmts_before d s ms) _ (stmts s d ms ps f)))))))))
stmts (APut p0 t p1 e p2 p3 p4 v vs p5 p6 s) d ms ps f =
    let node = stmt.Put t (expr_node e) (expr_node v ∷ value_nodes vs) in
    let z = stmts_offsets (stmt_nodes s) ++ ps in
    same_offsets (stmts_before d (APut p0 t p1 e p2 p3 p4 v vs p5 p6 s) ms) _ _
    (node_then node (stmt_nodes s) ps (Own t.at ∷ (expr_offsets (expr_node e) ++ (expr_offsets (expr_node v) ++ flat_map expr_offsets (value_nodes vs)))) (fold-Put (List NodeOffset) stmt_offsets_step t (expr_node e) (expr_node v ∷ value_nodes vs)) ∙ ap (λ q. Own t.at ∷ q) (append_assoc (expr_offsets (expr_node e)) (expr_offsets (expr_node v) ++ flat_map expr_offsets (value_nodes vs)) z ∙ ap (λ q. expr_offsets (expr_node e) ++ q) (append_assoc (expr_offsets (expr_node v)) (flat_map expr_offsets (value_nodes vs)) z)))
    (skip _ (_ ∷ _ ∷ whole_before e (_ ∷ _ ∷ _ ∷ whole_before v (values_before vs (_ ∷ _ ∷ stmts_before d s ms)))) _ (stands _ (_ ∷ whole_before e (_ ∷ _ ∷ _ ∷ whole_before v (values_before vs (_ ∷ _ ∷ stmts_before d s ms)))) _ (skip _ (whole_before e (_ ∷ _ ∷ _ ∷ whole_before v (values_before vs (_ ∷ _ ∷ stmts_before d s ms)))) _ (whole e (_ ∷ _ ∷ _ ∷ whole_before v (values_before vs (_ ∷ _ ∷ stmts_before d s ms))) _ (skip _ (_ ∷ _ ∷ whole_before v (values_before vs (_ ∷ _ ∷ stmts_before d s ms))) _ (skip _ (_ ∷ whole_before v (values_before vs (_ ∷ _ ∷ stmts_before d s ms))) _ (skip _ (whole_before v (values_before vs (_ ∷ _ ∷ stmts_before d s ms))) _ (whole v (values_before vs (_ ∷ _ ∷ stmts_before d s ms)) _ (values vs (_ ∷ _ ∷ stmts_before d s ms) _ (skip _ (_ ∷ stmts_before d s ms) _ (skip _ (stmts_before d s ms) _ (stmts s d ms ps f))))))))))))
stmts (ASet p0 t p1 e p2 p3 c p4 v p5 s) d ms ps f =
    let node = stmt.Set t (expr_node e) c (expr_node v) in
    let z = stmts_offsets (stmt_nodes s) ++ ps in
    same_offsets (stmts_before d (ASet p0 t p1 e p2 p3 c p4 v p5 s) ms) _ _
    (node_then node (stmt_nodes s) ps (Own t.at ∷ (expr_offsets (expr_node e) ++ (Own c.at ∷ expr_offsets (expr_node v)))) (fold-Set (List NodeOffset) stmt_offsets_step t (expr_node e) c (expr_node v)) ∙ ap (λ q. Own t.at ∷ q) (append_assoc (expr_offsets (expr_node e)) (Own c.at ∷ expr_offsets (expr_node v)) z))
    (skip _ (_ ∷ _ ∷ whole_before e (_ ∷ _ ∷ _ ∷ _ ∷ whole_before v (_ ∷ stmts_before d s ms))) _ (stands _ (_ ∷ whole_before e (_ ∷ _ ∷ _ ∷ _ ∷ whole_before v (_ ∷ stmts_before d s ms))) _ (skip _ (whole_before e (_ ∷ _ ∷ _ ∷ _ ∷ whole_before v (_ ∷ stmts_before d s ms))) _ (whole e (_ ∷ _ ∷ _ ∷ _ ∷ whole_before v (_ ∷ stmts_before d s ms)) _ (skip _ (_ ∷ _ ∷ _ ∷ whole_before v (_ ∷ stmts_before d s ms)) _ (skip _ (_ ∷ _ ∷ whole_before v (_ ∷ stmts_before d s ms)) _ (stands _ (_ ∷ whole_before v (_ ∷ stmts_before d s ms)) _ (skip _ (whole_before v (_ ∷ stmts_before d s ms)) _ (whole v (_ ∷ stmts_before d s ms) _ (skip _ (stmts_before d s ms) _ (stmts s d ms ps f)))))))))))
stmts (ADelete p0 t p1 e p2 p3 s) d ms ps f =
    let node = stmt.Delete t (expr_node e) in
    let z = stmts_offsets (stmt_nodes s) ++ ps in
    same_offsets (stmts_before d (ADelete p0 t p1 e p2 p3 s) ms) _ _
    (node_then node (stmt_nodes s) ps (Own t.at ∷ expr_offsets (expr_node e)) (fold-Delete (List NodeOffset) stmt_offsets_step t (expr_node e)))
    (skip _ (_ ∷ _ ∷ whole_before e (_ ∷ _ ∷ stmts_before d s ms)) _ (stands _ (_ ∷ whole_before e (_ ∷ _ ∷ stmts_before d s ms)) _ (skip _ (whole_before e (_ ∷ _ ∷ stmts_before d s ms)) _ (whole e (_ ∷ _ ∷ stmts_before d s ms) _ (skip _ (_ ∷ stmts_before d s ms) _ (skip _ (stmts_before d s ms) _ (stmts s d ms ps f)))))))
stmts (AnAbort p0 p1 e p2 s) d ms ps f =
    let node = stmt.AbortIf (expr_node e) in
    let z = stmts_offsets (stmt_nodes s) ++ ps in
    same_offsets (stmts_before d (AnAbort p0 p1 e p2 s) ms) _ _
    (node_then node (stmt_nodes s) ps (expr_offsets (expr_node e)) (fold-AbortIf (List NodeOffset) stmt_offsets_step (expr_node e)))
    (skip _ (_ ∷ whole_before e (_ ∷ stmts_before d s ms)) _ (skip _ (whole_before e (_ ∷ stmts_before d s ms)) _ (whole e (_ ∷ stmts_before d s ms) _ (skip _ (stmts_before d s ms) _ (stmts s d ms ps f)))))
stmts (AnIf p0 e p1 first p2 s) d ms ps f =
    let node = stmt.If (expr_node e) (stmt_nodes first) [] in
    let z = stmts_offsets (stmt_nodes s) ++ ps in
    same_offsets (stmts_before d (AnIf p0 e p1 first p2 s) ms) _ _
    (node_then node (stmt_nodes s) ps (expr_offsets (expr_node e) ++ (stmts_offsets (stmt_nodes first) ++ [])) (fold-If (List NodeOffset) stmt_offsets_step (expr_node e) (stmt_nodes first) [] ∙ ap (λ q. expr_offsets (expr_node e) ++ (q ++ [])) (all_flat (stmt_nodes first))) ∙ append_assoc (expr_offsets (expr_node e)) (stmts_offsets (stmt_nodes first) ++ []) z ∙ ap (λ q. expr_offsets (expr_node e) ++ q) (append_assoc (stmts_offsets (stmt_nodes first)) [] z))
    (skip _ (whole_before e (_ ∷ stmts_before (inside_block d) first (_ ∷ stmts_before d s ms))) _ (whole e (_ ∷ stmts_before (inside_block d) first (_ ∷ stmts_before d s ms)) _ (skip _ (stmts_before (inside_block d) first (_ ∷ stmts_before d s ms)) _ (stmts first (inside_block d) (_ ∷ stmts_before d s ms) _ (skip _ (stmts_before d s ms) _ (stmts s d ms ps f))))))
stmts (AnIfElse p0 e p1 first p2 p3 p4 second p5 s) d ms ps f =
    let node = stmt.If (expr_node e) (stmt_nodes first) (stmt_nodes second) in
    let z = stmts_offsets (stmt_nodes s) ++ ps in
    same_offsets (stmts_before d (AnIfElse p0 e p1 first p2 p3 p4 second p5 s) ms) _ _
    (node_then node (stmt_nodes s) ps (expr_offsets (expr_node e) ++ (stmts_offsets (stmt_nodes first) ++ stmts_offsets (stmt_nodes second))) (fold-If (List NodeOffset) stmt_offsets_step (expr_node e) (stmt_nodes first) (stmt_nodes second) ∙ ap (λ q. expr_offsets (expr_node e) ++ (q ++ all_offsets (map stmt_offsets (stmt_nodes second)))) (all_flat (stmt_nodes first)) ∙ ap (λ q. expr_offsets (expr_node e) ++ (stmts_offsets (stmt_nodes first) ++ q)) (all_flat (stmt_nodes second))) ∙ append_assoc (expr_offsets (expr_node e)) (stmts_offsets (stmt_nodes first) ++ stmts_offsets (stmt_nodes second)) z ∙ ap (λ q. expr_offsets (expr_node e) ++ q) (append_assoc (stmts_offsets (stmt_nodes first)) (stmts_offsets (stmt_nodes second)) z))
    (skip _ (whole_before e (_ ∷ stmts_before (inside_block d) first (_ ∷ _ ∷ _ ∷ stmts_before (inside_block d) second (_ ∷ stmts_before d s ms)))) _ (whole e (_ ∷ stmts_before (inside_block d) first (_ ∷ _ ∷ _ ∷ stmts_before (inside_block d) second (_ ∷ stmts_before d s ms))) _ (skip _ (stmts_before (inside_block d) first (_ ∷ _ ∷ _ ∷ stmts_before (inside_block d) second (_ ∷ stmts_before d s ms))) _ (stmts first (inside_block d) (_ ∷ _ ∷ _ ∷ stmts_before (inside_block d) second (_ ∷ stmts_before d s ms)) _ (skip _ (_ ∷ _ ∷ stmts_before (inside_block d) second (_ ∷ stmts_before d s ms)) _ (skip _ (_ ∷ stmts_before (inside_block d) second (_ ∷ stmts_before d s ms)) _ (skip _ (stmts_before (inside_block d) second (_ ∷ stmts_before d s ms)) _ (stmts second (inside_block d) (_ ∷ stmts_before d s ms) _ (skip _ (stmts_before d s ms) _ (stmts s d ms ps f))))))))))
stmts (ALoop p0 x p1 a p2 b p3 body p4 s) d ms ps f =
    let node = stmt.For x (bound_value a) (bound_value b) (stmt_nodes body) in
    let inner = in_loop d (bound_value a) (bound_value b) in
    let role = last_bound d p0 (bound_value a) (bound_value b) in
    let after = stmts_before d s ms in
    let block = stmts_before inner body (_ ∷ after) in
    let bounds = bound_before b role (_ ∷ block) in
    same_offsets (stmts_before d (ALoop p0 x p1 a p2 b p3 body p4 s) ms) _ _
    (node_then node (stmt_nodes s) ps (Own x.at ∷ stmts_offsets (stmt_nodes body)) (fold-For (List NodeOffset) stmt_offsets_step x (bound_value a) (bound_value b) (stmt_nodes body) ∙ ap (λ q. Own x.at ∷ q) (all_flat (stmt_nodes body))))
    (skip _ (_ ∷ _ ∷ bound_before a Plain (_ ∷ bounds)) _ (stands _ (_ ∷ bound_before a Plain (_ ∷ bounds)) _ (skip _ (bound_before a Plain (_ ∷ bounds)) _ (bound a Plain (_ ∷ bounds) _ (skip _ bounds _ (bound b role (_ ∷ block) _ (skip _ block _ (stmts body inner (_ ∷ after) _ (skip _ after _ (stmts s d ms ps f))))))))))

-- ---- columns, tables and procedures

type_of : (t : TypeForm) (ms : List Marked) (ps : List NodeOffset) → Follow ms ps → Follow (type_mark t ∷ ms) ps
type_of t ms ps f = skip (type_mark t) ms ps f

columns : (c : ColumnsForm) (role : ℕ → Role) (i : ℕ) (ms : List Marked) (ps : List NodeOffset) → Follow ms ps → Follow (columns_before role i c ms) (columns_offsets (column_nodes c) ++ ps)
columns NoColumn role i ms ps f = f
columns (AColumn comma n t c) role i ms ps f = skip _ _ _ (stands _ _ _ (type_of t (columns_before role (suc i) c ms) _ (columns c role (suc i) ms ps f)))

params : (c : ParamsForm) (ms : List Marked) (ps : List NodeOffset) → Follow ms ps → Follow (params_before c ms) (columns_offsets (param_nodes c) ++ ps)
params NoParam ms ps f = f
params (AParam n t c) ms ps f = stands _ _ _ (type_of t (columns_before ParamName 1 c ms) _ (columns c ParamName 1 ms ps f))

tables : (f : TablesForm) (i : ℕ) (ms : List Marked) (ps : List NodeOffset) → Follow ms ps → Follow (tables_before i f ms) (flat_map table_offsets (table_nodes f) ++ ps)
tables NoTable i ms ps f = f
tables (ATable p0 n p1 p2 key p3 c t cs p4 p5 fs) i ms ps f =
    let z = flat_map table_offsets (table_nodes fs) ++ ps in
    let more = tables fs (suc i) ms ps f in
    let close = skip _ _ _ (skip _ (tables_before (suc i) fs ms) z more) in
    let list = columns cs ColumnName 1 (_ ∷ _ ∷ tables_before (suc i) fs ms) z close in
    let column = stands _ _ _ (type_of t _ _ list) in
    same_offsets (tables_before i (ATable p0 n p1 p2 key p3 c t cs p4 p5 fs) ms) _ (Own n.at ∷ Own c.at ∷ (columns_offsets (column_nodes cs) ++ z))
    (append_assoc (Own n.at ∷ Own c.at ∷ columns_offsets (column_nodes cs)) (flat_map table_offsets (table_nodes fs)) ps)
    (skip _ _ _ (stands _ _ _ (skip _ _ _ (skip _ _ _ (type_of key _ _ (skip _ _ _ column))))))

procs : (f : ProcsForm) (i : ℕ) → Follow (procs_before i f []) (flat_map proc_offsets (proc_nodes f))
procs NoProc i = record { go = λ low h. tt }
procs (AProc p0 n p1 c p2 p3 s p4 f) i =
    let more = procs f (suc i) in
    let z = flat_map proc_offsets (proc_nodes f) in
    let body = stmts s outermost (_ ∷ procs_before (suc i) f []) z (skip _ (procs_before (suc i) f []) z more) in
    let list = params c (_ ∷ _ ∷ stmts_before outermost s (_ ∷ procs_before (suc i) f [])) _ (skip _ _ _ (skip _ _ _ body)) in
    same_offsets (procs_before i (AProc p0 n p1 c p2 p3 s p4 f) []) _ (Own n.at ∷ (columns_offsets (param_nodes c) ++ (stmts_offsets (stmt_nodes s) ++ z)))
    (ap (λ q. Own n.at ∷ q) (append_assoc (columns_offsets (param_nodes c)) (stmts_offsets (stmt_nodes s)) z))
    (skip _ _ _ (stands _ _ _ (skip _ _ _ list)))

-- ---- each token stands after the one before it

abbrev token_offsets : List Spanned → List ℕ
token_offsets [] = []
token_offsets (t ∷ ts) = t.at ∷ token_offsets ts

before_all : (low at : ℕ) (ps : List ℕ) → low ≤ at → Climbs at ps → Climbs low ps
before_all low at [] le h = tt
before_all low at (p ∷ ps) le h = (omega (arith, h.0), h.1)

lexed_climbs : (before : Before) (at : ℕ) (bytes : List ℕ) (ts : List Spanned) (f : Option Fault) → Lexed before at bytes ts f → Climbs at (token_offsets ts)
lexed_climbs before at bytes [] f h = tt
lexed_climbs before at bytes (t ∷ ts) f h =
    let next = h.1 in
    let some = spells_some before t.token next.prefix next.longest.spells in
    let more = lexed_climbs (after before t.token) (at + gap bytes + h.0) (drop h.0 (drop (gap bytes) bytes)) ts f h.3 in
    (omega (arith, h.2), before_all (suc t.at) (at + gap bytes + h.0) (token_offsets ts) (omega (arith, h.2, some, next.counted)) more)

marks_offsets : (ms : List Marked) → token_offsets (tokens_of ms) ≡ offsets ms
marks_offsets [] = refl
marks_offsets (m ∷ ms) = ap (λ q. m.token.at ∷ q) (marks_offsets ms)

-- a tree that is read stands in the order of the text
pub reads-ordered : (text : List ℕ) (ts : List Spanned) (f : Option Fault) (tree : Tree) → IsLexed text ts f → ReadsTokens ts tree → IsOrdered tree
reads-ordered text ts f tree lexed reads =
    let whole_is = reads.1 in
    let form = whole_is.form in
    let same : token_offsets ts ≡ offsets (marks_of form) = ap token_offsets (sym reads.2) ∙ marks_offsets reads.0 ∙ ap offsets (sym whole_is.spells) in
    let climbs : Climbs 0 (offsets (marks_of form)) = subst (λ (x : List ℕ). Climbs 0 x) same (lexed_climbs _ 0 text ts f lexed) in
    subst (λ (t : Tree). IsOrdered t) whole_is.is_tree ((tables form.tables 0 (procs_before 0 form.procs []) (flat_map proc_offsets (proc_nodes form.procs)) (procs form.procs 0)).go 0 climbs)
