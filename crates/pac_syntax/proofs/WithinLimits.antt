-- A tree that is read is within the limits.
use Rattle.std.proofs.Common.{◌≡◌, ℕ, suc, ◌+◌, ◌*◌, ◌≤◌, Bool, true, false, cond, ltb, List, [], ◌∷◌, length, Option, Some, None, refl, sym, ap, subst, ◌∙◌, arith}
use Rattle.std.specs.Prelude.{All}
use Rattle.std.specs.List.{AllByRecursion}
use Rattle.std.proofs.lemmas.List.Elements.{All-from_recursion}
use Rattle.std.proofs.lemmas.Bool.{ltb-false}
use Rattle.pac_tokens.specs.declared.fault.FaultKind.TheVariants.{TooMany}
use Rattle.pac_tokens.specs.declared.fault.Fault.{Fault}
use Rattle.pac_syntax.specs.declared.limits.Around.{Around}
use Rattle.pac_syntax.specs.declared.tree.ColumnNode.{ColumnNode}
use Rattle.pac_syntax.specs.declared.tree.StmtNode.{StmtNode}
use Rattle.pac_syntax.specs.declared.tree.StmtNode.TheVariants as stmt
use Rattle.pac_syntax.specs.declared.tree.Tree.{Tree}
use Rattle.pac_tokens.specs.declared.token.Spanned.{Spanned}
use Rattle.pac_syntax.specs.Grammar.{LiteralForm, AnInt, ANegative, AText, ATrue, AFalse, ExprForm, ALiteral, AName, ANot, AParen, ABinary, ValuesForm, NoValue, AValue, StmtsForm, NoStmt, ALet, ARead, AHas, APut, ASet, ADelete, AnAbort, AnIf, AnIfElse, ALoop, BoundForm, ABound, ANegativeBound, TypeForm, AnIntType, ATextType, ColumnsForm, NoColumn, AColumn, ParamsForm, NoParam, AParam, TablesForm, NoTable, ATable, ProcsForm, NoProc, AProc, literal_node, bound_value, outermost, inside_block, in_loop, expr_node, value_nodes, stmt_nodes, type_of_form, column_node, column_nodes, param_nodes, table_nodes, proc_nodes, Role, Plain, ColumnName, ParamName, Marked, counted, literal_before, bound_before, last_bound, expr_before, whole_before, values_before, stmts_before, columns_before, params_before, tables_before, procs_before, marks_of, tokens_of}
use Rattle.pac_syntax.specs.Faults.{fault_of, past, over_role, IsWithin, ReadsTokens}
use Rattle.pac_syntax.specs.Limits.{size, size_step, sizes, is_stored_type, IsTableWithinLimits, IsProcWithinLimits, IsWithinLimits, HasStoredType}
use Rattle.pac_syntax.proofs.NodeForms.{fold-Let, fold-Read, fold-Has, fold-Put, fold-Set, fold-Delete, fold-AbortIf, fold-If, fold-For}

-- each token is within its limit
abbrev pub AllWithin : List Marked → Type 0
AllWithin ms = AllByRecursion IsWithin ms

within_test : (b : Bool) (fault : Fault) → ◌≡◌ {A = Option Fault} (cond b (Some fault) None) None → b ≡ false
within_test true fault e = absurd cc
within_test false fault e = refl

-- a number within its limit
pub at_most : (limit n : ℕ) (fault : Fault) → past limit n fault ≡ None → n ≤ limit
at_most limit n fault e = ltb-false limit n (within_test (ltb limit n) fault e)

-- ---- what stands before the rest keeps it within, and has tokens of its own

record After (ms rest : List Marked) : Type 0 where
  within : AllWithin ms → AllWithin rest
  longer : length rest ≤ length ms

after_literal : (l : LiteralForm) (rest : List Marked) → After (literal_before l rest) rest
after_literal (AnInt at z) rest = record { within = λ h. h.1; longer = omega arith }
after_literal (ANegative minus at z) rest = record { within = λ h. h.1.1; longer = omega arith }
after_literal (AText at text) rest = record { within = λ h. h.1; longer = omega arith }
after_literal (ATrue at) rest = record { within = λ h. h.1; longer = omega arith }
after_literal (AFalse at) rest = record { within = λ h. h.1; longer = omega arith }

after_bound : (b : BoundForm) (role : Role) (rest : List Marked) → After (bound_before b role rest) rest
after_bound (ABound at z) role rest = record { within = λ h. h.1; longer = omega arith }
after_bound (ANegativeBound minus at z) role rest = record { within = λ h. h.1.1; longer = omega arith }

after_expr : (e : ExprForm) (d o : ℕ) (rest : List Marked) → After (expr_before d o e rest) rest
after_expr (ALiteral l) d o rest = after_literal l rest
after_expr (AName n) d o rest = record { within = λ h. h.1; longer = omega arith }
after_expr (ANot at e) d o rest = let b = after_expr e d (suc o) rest in record { within = λ h. b.within h.1; longer = omega (arith, b.longer) }
after_expr (AParen opening e closing) d o rest = let b = after_expr e (suc d) o (_ ∷ rest) in record { within = λ h. (b.within h.1).1; longer = omega (arith, b.longer) }
after_expr (ABinary op at l r) d o rest =
    let right = after_expr r d (suc (counted o l)) rest in
    let left = after_expr l d o (_ ∷ expr_before d (suc (counted o l)) r rest) in
    record { within = λ h. right.within (left.within h).1; longer = omega (arith, right.longer, left.longer) }

after_whole : (e : ExprForm) (rest : List Marked) → After (whole_before e rest) rest
after_whole e rest = after_expr e 0 0 rest

after_values : (vs : ValuesForm) (rest : List Marked) → After (values_before vs rest) rest
after_values NoValue rest = record { within = λ h. h; longer = omega arith }
after_values (AValue comma e vs) rest =
    let o = after_values vs rest in
    let b = after_whole e (values_before vs rest) in
    record { within = λ h. o.within (b.within h.1); longer = omega (arith, o.longer, b.longer) }

-- ---- statements

-- one statement more
one_more : (node : StmtNode) (nodes : List StmtNode) (n : ℕ) → size node ≡ n → sizes (node ∷ nodes) ≡ n + sizes nodes
one_more node nodes n e = let h : sizes (node ∷ nodes) ≡ size node + sizes nodes = refl in omega (arith, e, h)

-- each statement has two tokens at least
record Statements (s : StmtsForm) (ms rest : List Marked) : Type 0 where
  within : AllWithin ms → AllWithin rest
  few : length rest + 2 * sizes (stmt_nodes s) ≤ length ms

statements : (s : StmtsForm) (d : Around) (rest : List Marked) → Statements s (stmts_before d s rest) rest
statements NoStmt d rest = record { within = λ h. h; few = omega arith }
statements (ALet p0 x p1 e p2 s) d rest =
    let n : sizes (stmt_nodes (ALet p0 x p1 e p2 s)) ≡ 1 + sizes (stmt_nodes s) = one_more (stmt.Let x (expr_node e)) (stmt_nodes s) 1 (fold-Let ℕ size_step x (expr_node e)) in
    let more = statements s d rest in
    let b = after_whole e (_ ∷ stmts_before d s rest) in
    record { within = λ h. more.within (b.within h.1.1.1).1; few = omega (arith, more.few, b.longer, n) }
statements (ARead p0 x p1 t p2 e p3 p4 c p5 l p6 s) d rest =
    let n : sizes (stmt_nodes (ARead p0 x p1 t p2 e p3 p4 c p5 l p6 s)) ≡ 1 + sizes (stmt_nodes s) = one_more (stmt.Read x t (expr_node e) c (literal_node l)) (stmt_nodes s) 1 (fold-Read ℕ size_step x t (expr_node e) c (literal_node l)) in
    let more = statements s d rest in
    let literal = after_literal l (_ ∷ stmts_before d s rest) in
    let b = after_whole e (_ ∷ _ ∷ _ ∷ _ ∷ literal_before l (_ ∷ stmts_before d s rest)) in
    record { within = λ h. more.within (literal.within (b.within h.1.1.1.1.1).1.1.1.1).1; few = omega (arith, more.few, literal.longer, b.longer, n) }
statements (AHas p0 x p1 t p2 e p3 p4 s) d rest =
    let n : sizes (stmt_nodes (AHas p0 x p1 t p2 e p3 p4 s)) ≡ 1 + sizes (stmt_nodes s) = one_more (stmt.Has x t (expr_node e)) (stmt_nodes s) 1 (fold-Has ℕ size_step x t (expr_node e)) in
    let more = statements s d rest in
    let b = after_whole e (_ ∷ _ ∷ stmts_before d s rest) in
    record { within = λ h. more.within (b.within h.1.1.1.1.1).1.1; few = omega (arith, more.few, b.longer, n) }
statements (APut p0 t p1 e p2 p3 p4 v vs p5 p6 s) d rest =
    let n : sizes (stmt_nodes (APut p0 t p1 e p2 p3 p4 v vs p5 p6 s)) ≡ 1 + sizes (stmt_nodes s) = one_more (stmt.Put t (expr_node e) (expr_node v ∷ value_nodes vs)) (stmt_nodes s) 1 (fold-Put ℕ size_step t (expr_node e) (expr_node v ∷ value_nodes vs)) in
    let more = statements s d rest in
    let values = after_values vs (_ ∷ _ ∷ stmts_before d s rest) in
    let first = after_whole v (values_before vs (_ ∷ _ ∷ stmts_before d s rest)) in
    let b = after_whole e (_ ∷ _ ∷ _ ∷ whole_before v (values_before vs (_ ∷ _ ∷ stmts_before d s rest))) in
    record { within = λ h. more.within (values.within (first.within (b.within h.1.1.1).1.1.1)).1.1; few = omega (arith, more.few, values.longer, first.longer, b.longer, n) }
statements (ASet p0 t p1 e p2 p3 c p4 v p5 s) d rest =
    let n : sizes (stmt_nodes (ASet p0 t p1 e p2 p3 c p4 v p5 s)) ≡ 1 + sizes (stmt_nodes s) = one_more (stmt.Set t (expr_node e) c (expr_node v)) (stmt_nodes s) 1 (fold-Set ℕ size_step t (expr_node e) c (expr_node v)) in
    let more = statements s d rest in
    let value = after_whole v (_ ∷ stmts_before d s rest) in
    let b = after_whole e (_ ∷ _ ∷ _ ∷ _ ∷ whole_before v (_ ∷ stmts_before d s rest)) in
    record { within = λ h. more.within (value.within (b.within h.1.1.1).1.1.1.1).1; few = omega (arith, more.few, value.longer, b.longer, n) }
statements (ADelete p0 t p1 e p2 p3 s) d rest =
    let n : sizes (stmt_nodes (ADelete p0 t p1 e p2 p3 s)) ≡ 1 + sizes (stmt_nodes s) = one_more (stmt.Delete t (expr_node e)) (stmt_nodes s) 1 (fold-Delete ℕ size_step t (expr_node e)) in
    let more = statements s d rest in
    let b = after_whole e (_ ∷ _ ∷ stmts_before d s rest) in
    record { within = λ h. more.within (b.within h.1.1.1).1.1; few = omega (arith, more.few, b.longer, n) }
statements (AnAbort p0 p1 e p2 s) d rest =
    let n : sizes (stmt_nodes (AnAbort p0 p1 e p2 s)) ≡ 1 + sizes (stmt_nodes s) = one_more (stmt.AbortIf (expr_node e)) (stmt_nodes s) 1 (fold-AbortIf ℕ size_step (expr_node e)) in
    let more = statements s d rest in
    let b = after_whole e (_ ∷ stmts_before d s rest) in
    record { within = λ h. more.within (b.within h.1.1).1; few = omega (arith, more.few, b.longer, n) }
statements (AnIf p0 e p1 first p2 s) d rest =
    let n : sizes (stmt_nodes (AnIf p0 e p1 first p2 s)) ≡ suc (sizes (stmt_nodes first) + 0) + sizes (stmt_nodes s) =
    one_more (stmt.If (expr_node e) (stmt_nodes first) []) (stmt_nodes s) (suc (sizes (stmt_nodes first) + 0)) (fold-If ℕ size_step (expr_node e) (stmt_nodes first) []) in
    let more = statements s d rest in
    let inner = statements first (inside_block d) (_ ∷ stmts_before d s rest) in
    let b = after_whole e (_ ∷ stmts_before (inside_block d) first (_ ∷ stmts_before d s rest)) in
    record { within = λ h. more.within (inner.within (b.within h.1).1).1; few = omega (arith, more.few, inner.few, b.longer, n) }
statements (AnIfElse p0 e p1 first p2 p3 p4 second p5 s) d rest =
    let n : sizes (stmt_nodes (AnIfElse p0 e p1 first p2 p3 p4 second p5 s)) ≡ suc (sizes (stmt_nodes first) + sizes (stmt_nodes second)) + sizes (stmt_nodes s) =
    one_more (stmt.If (expr_node e) (stmt_nodes first) (stmt_nodes second)) (stmt_nodes s) (suc (sizes (stmt_nodes first) + sizes (stmt_nodes second))) (fold-If ℕ size_step (expr_node e) (stmt_nodes first) (stmt_nodes second)) in
    let more = statements s d rest in
    let other = statements second (inside_block d) (_ ∷ stmts_before d s rest) in
    let inner = statements first (inside_block d) (_ ∷ _ ∷ _ ∷ stmts_before (inside_block d) second (_ ∷ stmts_before d s rest)) in
    let b = after_whole e (_ ∷ stmts_before (inside_block d) first (_ ∷ _ ∷ _ ∷ stmts_before (inside_block d) second (_ ∷ stmts_before d s rest))) in
    record { within = λ h. more.within (other.within (inner.within (b.within h.1).1).1.1.1).1; few = omega (arith, more.few, other.few, inner.few, b.longer, n) }
statements (ALoop p0 x p1 a p2 b p3 body p4 s) d rest =
    let n : sizes (stmt_nodes (ALoop p0 x p1 a p2 b p3 body p4 s)) ≡ suc (sizes (stmt_nodes body)) + sizes (stmt_nodes s) =
    one_more (stmt.For x (bound_value a) (bound_value b) (stmt_nodes body)) (stmt_nodes s) (suc (sizes (stmt_nodes body))) (fold-For ℕ size_step x (bound_value a) (bound_value b) (stmt_nodes body)) in
    let more = statements s d rest in
    let inner = statements body (in_loop d (bound_value a) (bound_value b)) (_ ∷ stmts_before d s rest) in
    let block = stmts_before (in_loop d (bound_value a) (bound_value b)) body (_ ∷ stmts_before d s rest) in
    let last = after_bound b (last_bound d p0 (bound_value a) (bound_value b)) (_ ∷ block) in
    let first = after_bound a Plain (_ ∷ bound_before b (last_bound d p0 (bound_value a) (bound_value b)) (_ ∷ block)) in
    record { within = λ h. more.within (inner.within (last.within (first.within h.1.1.1).1).1).1; few = omega (arith, more.few, inner.few, last.longer, first.longer, n) }

-- ---- columns and parameters

record Few (n limit : ℕ) (ms rest : List Marked) : Type 0 where
  few : n ≤ limit
  within : AllWithin rest
  longer : length rest ≤ length ms

columns : (role : ℕ → Role) (limit : ℕ) → ((n at : ℕ) → over_role (role n) at ≡ past limit n (fault_of TooMany at)) → (c : ColumnsForm) (i : ℕ) (rest : List Marked) → i ≤ limit → AllWithin (columns_before role i c rest)
    → Few (i + length (column_nodes c)) limit (columns_before role i c rest) rest
columns role limit is NoColumn i rest le h = record { few = omega arith; within = h; longer = omega arith }
columns role limit is (AColumn comma n t c) i rest le h =
    let more = columns role limit is c (suc i) rest (at_most limit (suc i) (fault_of TooMany n.at) (sym (is (suc i) n.at) ∙ h.1.0)) h.1.1.1 in
    record { few = omega (arith, more.few); within = more.within; longer = omega (arith, more.longer) }

params : (c : ParamsForm) (rest : List Marked) → AllWithin (params_before c rest) → Few (length (param_nodes c)) 16 (params_before c rest) rest
params NoParam rest h = record { few = omega arith; within = h; longer = omega arith }
params (AParam n t c) rest h =
    let more = columns ParamName 16 (λ n at. refl) c 1 rest (omega arith) h.1.1 in
    record { few = omega (arith, more.few); within = more.within; longer = omega (arith, more.longer) }

-- ---- the types of columns and parameters

stored_type : (t : TypeForm) → is_stored_type (type_of_form t) ≡ true
stored_type (AnIntType at) = refl
stored_type (ATextType at) = refl

stored_columns : (c : ColumnsForm) → AllByRecursion HasStoredType (column_nodes c)
stored_columns NoColumn = tt
stored_columns (AColumn comma n t c) = (stored_type t, stored_columns c)

stored_params : (c : ParamsForm) → AllByRecursion HasStoredType (param_nodes c)
stored_params NoParam = tt
stored_params (AParam n t c) = (stored_type t, stored_columns c)

-- each of these columns has a type that is stored
all_stored : (nodes : List ColumnNode) → AllByRecursion HasStoredType nodes → All HasStoredType nodes
all_stored nodes each = All-from_recursion HasStoredType nodes each

-- ---- tables and procedures

record Procs (f : ProcsForm) (i : ℕ) : Type 0 where
  few : i + length (proc_nodes f) ≤ 64
  each : AllByRecursion IsProcWithinLimits (proc_nodes f)

procs : (f : ProcsForm) (i : ℕ) → i ≤ 64 → AllWithin (procs_before i f []) → length (procs_before i f []) ≤ 65536 → Procs f i
procs NoProc i le h short = record { few = omega arith; each = tt }
procs (AProc p0 n p1 ps p2 p3 s p4 f) i le h short =
    let p = params ps (_ ∷ _ ∷ stmts_before outermost s (_ ∷ procs_before (suc i) f [])) h.1.1.1 in
    let b = statements s outermost (_ ∷ procs_before (suc i) f []) in
    let more = procs f (suc i) (at_most 64 (suc i) (fault_of TooMany p0) h.0) (b.within p.within.1.1).1 (omega (arith, p.longer, b.few)) in
    record { few = omega (arith, more.few); each = (record { few = p.few; params = all_stored (param_nodes ps) (stored_params ps); short = omega (arith, p.longer, p.few, b.few) }, more.each) }

record Tables (f : TablesForm) (i : ℕ) (ms rest : List Marked) : Type 0 where
  few : i + length (table_nodes f) ≤ 64
  each : AllByRecursion IsTableWithinLimits (table_nodes f)
  within : AllWithin rest
  longer : length rest ≤ length ms

tables : (f : TablesForm) (i : ℕ) (rest : List Marked) → i ≤ 64 → AllWithin (tables_before i f rest) → Tables f i (tables_before i f rest) rest
tables NoTable i rest le h = record { few = omega arith; each = tt; within = h; longer = omega arith }
tables (ATable p0 n p1 p2 key p3 c t cs p4 p5 f) i rest le h =
    let columns_within = columns ColumnName 8 (λ n at. refl) cs 1 (_ ∷ _ ∷ tables_before (suc i) f rest) (omega arith) h.1.1.1.1.1.1.1.1 in
    let more = tables f (suc i) rest (at_most 64 (suc i) (fault_of TooMany p0) h.0) columns_within.within.1.1 in
    record {
      few = omega (arith, more.few);
      each = (record { some = omega arith; few = omega (arith, columns_within.few); key = stored_type key; columns = all_stored (column_node c t ∷ column_nodes cs) (stored_type t, stored_columns cs) }, more.each);
      within = more.within;
      longer = omega (arith, more.longer, columns_within.longer);
    }

length-tokens_of : (ms : List Marked) → length (tokens_of ms) ≡ length ms
length-tokens_of [] = refl
length-tokens_of (m ∷ ms) = ap suc (length-tokens_of ms)

pub reads-within : (ts : List Spanned) (tree : Tree) → length ts ≤ 65536 → ReadsTokens ts tree → IsWithinLimits tree
reads-within ts tree short reads =
    let whole = reads.1 in
    let form = whole.form in
    let len : length (marks_of form) ≡ length ts = ap length whole.spells ∙ sym (length-tokens_of reads.0) ∙ ap length reads.2 in
    let within : AllWithin (marks_of form) = subst (λ (ms : List Marked). AllWithin ms) (sym whole.spells) reads.3 in
    let t = tables form.tables 0 (procs_before 0 form.procs []) (omega arith) within in
    let p = procs form.procs 0 (omega arith) t.within (omega (arith, len, t.longer)) in
    subst (λ (tree : Tree). IsWithinLimits tree) whole.is_tree (record { few_tables = omega (arith, t.few); few_procs = omega (arith, p.few); tables = All-from_recursion IsTableWithinLimits (table_nodes form.tables) t.each; procs = All-from_recursion IsProcWithinLimits (proc_nodes form.procs) p.each })
