-- Each state of the reading can go on to a whole catalogue, and what it takes on the way is spelled by a derivation.
use Rattle.std.proofs.Common.{◌≡◌, ℕ, zero, suc, ℤ, pos, Bool, true, false, List, [], ◌∷◌, ◌++◌, Option, Some, None, refl, sym, ap, subst, ◌∙◌, append_assoc, arith, eqb, if◌then◌else◌}
use Rattle.std.proofs.lemmas.Bool.{eqb-true}
use Rattle.std.proofs.lemmas.List.{append-nil}
use Rattle.pac_value.specs.declared.values.Ty.{Ty}
use Rattle.pac_value.specs.declared.expr.BinOp.{BinOp}
use Rattle.pac_value.specs.declared.expr.BinOp.TheVariants as op
use Rattle.pac_tokens.specs.declared.token.Keyword.TheVariants as keyword
use Rattle.pac_tokens.specs.declared.token.Symbol.{Symbol}
use Rattle.pac_tokens.specs.declared.token.Symbol.TheVariants as symbol
use Rattle.pac_tokens.specs.declared.token.Token.{Token}
use Rattle.pac_tokens.specs.declared.token.Token.TheVariants as token
use Rattle.pac_tokens.specs.declared.token.Spanned.{Spanned}
use Rattle.pac_syntax.specs.declared.parse.statement.StatementWord.{StatementWord}
use Rattle.pac_syntax.specs.declared.parse.statement.StatementWord.TheVariants as word
use Rattle.pac_syntax.specs.declared.limits.Around.{Around}
use Rattle.pac_syntax.specs.declared.tree.NameNode.{NameNode}
use Rattle.pac_syntax.specs.declared.tree.LiteralNode.{LiteralNode}
use Rattle.pac_syntax.specs.declared.tree.ColumnNode.{ColumnNode}
use Rattle.pac_syntax.specs.declared.tree.ExprNode.{ExprNode}
use Rattle.pac_syntax.specs.declared.tree.StmtNode.{StmtNode}
use Rattle.pac_syntax.specs.declared.tree.StmtNode.TheVariants as stmt
use Rattle.pac_syntax.specs.declared.tree.TableNode.{TableNode}
use Rattle.pac_syntax.specs.declared.tree.ProcNode.{ProcNode}
use Rattle.pac_syntax.specs.declared.tree.Tree.{Tree}
use Rattle.pac_syntax.specs.Grammar.{LiteralForm, AnInt, ANegative, AText, ATrue, AFalse, ExprForm, ALiteral, AName, ANot, AParen, ABinary, ValuesForm, NoValue, AValue, StmtsForm, NoStmt, ALet, ARead, AHas, APut, ASet, ADelete, AnAbort, AnIf, AnIfElse, ALoop, BoundForm, ABound, ANegativeBound, TypeForm, AnIntType, ATextType, ColumnsForm, NoColumn, AColumn, ParamsForm, NoParam, AParam, TablesForm, NoTable, ATable, ProcsForm, NoProc, AProc, operator_symbol, precedence, left_level, AtLevel, AreValues, AreStmts, AreProcs, literal_node, bound_value, inside_block, in_loop, expr_node, value_nodes, stmt_nodes, type_of_form, column_node, column_nodes, param_nodes, table_nodes, proc_nodes, Role, Plain, TableWord, ProcWord, ParamName, Operator, Paren, Nested, Marked, marked, keyword_mark, symbol_mark, name_mark, type_mark, literal_before, bound_before, last_bound, counted, expr_before, whole_before, values_before, stmts_before, columns_before, params_before, tables_before, procs_before, Whole}
use Rattle.pac_syntax.specs.Machine.{Begun, Steps, Done, Want, WantName, WantType, WantLiteral, WantNegative, WantBound, WantNegativeBound, Level, Rest, MoreValues, MoreStmts, MaybeElse, MoreColumns, SomeParams, MoreTables, MoreProcs, Next, next, want_expr, begun_name, begun_literal, begun_binary, top, lay, negation_steps, paren_steps, stmt_steps, block_steps, if_steps, for_steps, column_steps, typed_steps, table_steps, proc_steps, start, literal_at, is_same_keyword_or_symbol, name_in, type_of_token, operator_of, operator_in, operator_at, of_precedence, or_else, where_true, where_some, literal_begins, negative_in, bound_begins, negative_bound_in, operand_begins, stmt_begins, feed, finish}
use Rattle.pac_syntax.proofs.Marks.{is_same_keyword_or_symbol-true}
use Rattle.pac_syntax.proofs.Words.{begun}

-- ---- operators of a precedence and their right operands, after an expression

pub record Turn : Type 0 where
  pub op : BinOp
  pub at : ℕ
  pub right : ExprForm

-- the operators are of the precedence, and of comparisons there is one at most
abbrev pub AreTurns : ℕ → List Turn → Type 0
AreTurns n [] = Unit {0}
AreTurns n (t ∷ ts) = (precedence t.op ≡ n) × AtLevel n t.right × (n ≡ 2 → ts ≡ []) × AreTurns n ts

abbrev pub turns_before : ℕ → ℕ → List Turn → List Marked → List Marked
turns_before d o [] rest = rest
turns_before d o (t ∷ ts) rest = symbol_mark (operator_symbol t.op) t.at (Operator (suc o)) ∷ expr_before d (suc o) t.right (turns_before d (counted (suc o) t.right) ts rest)

abbrev pub counted_turns : ℕ → List Turn → ℕ
counted_turns o [] = o
counted_turns o (t ∷ ts) = counted_turns (counted (suc o) t.right) ts

abbrev pub with_turns : ExprForm → List Turn → ExprForm
with_turns e [] = e
with_turns e (t ∷ ts) = with_turns (ABinary t.op t.at e t.right) ts

abbrev pub turned : Begun → List Turn → Begun
turned l [] = l
turned l (t ∷ ts) = turned (begun_binary t.op l (begun t.right)) ts

begun-with_turns : (e : ExprForm) (ts : List Turn) → begun (with_turns e ts) ≡ turned (begun e) ts
begun-with_turns e [] = refl
begun-with_turns e (t ∷ ts) = begun-with_turns (ABinary t.op t.at e t.right) ts

counted-with_turns : (o : ℕ) (e : ExprForm) (ts : List Turn) → counted o (with_turns e ts) ≡ counted_turns (counted o e) ts
counted-with_turns o e [] = refl
counted-with_turns o e (t ∷ ts) = counted-with_turns o (ABinary t.op t.at e t.right) ts

expr_before-with_turns : (d o : ℕ) (e : ExprForm) (ts : List Turn) (rest : List Marked) → expr_before d o (with_turns e ts) rest ≡ expr_before d o e (turns_before d (counted o e) ts rest)
expr_before-with_turns d o e [] rest = refl
expr_before-with_turns d o e (t ∷ ts) rest = expr_before-with_turns d o (ABinary t.op t.at e t.right) ts rest

level_up : (n : ℕ) (e : ExprForm) → AtLevel n e → AtLevel (suc n) e
level_up n (ALiteral l) h = tt
level_up n (AName x) h = tt
level_up n (ANot at e) h = h
level_up n (AParen opening e closing) h = h
level_up n (ABinary op at a b) h = (omega (arith, h.0), h.1, h.2)

-- one operator more
binary_level : (n : ℕ) (op : BinOp) (at : ℕ) (e right : ExprForm) → precedence op ≡ n → AtLevel (left_level n) e → AtLevel n right → AtLevel (suc n) (ABinary op at e right)
binary_level n op at e right is l r =
    (omega (arith, is), subst (λ (j : ℕ). AtLevel (left_level j) e) (sym is) l, subst (λ (j : ℕ). AtLevel j right) (sym is) r)

-- operators that follow one another
chain_level : (n : ℕ) (e : ExprForm) (ts : List Turn) → left_level n ≡ suc n → AtLevel (suc n) e → AreTurns n ts → AtLevel (suc n) (with_turns e ts)
chain_level n e [] left l h = l
chain_level n e (t ∷ ts) left l h =
    chain_level n (ABinary t.op t.at e t.right) ts left (binary_level n t.op t.at e t.right h.0 (subst (λ (j : ℕ). AtLevel j e) (sym left) l) h.1) h.3

comparison_level : (e : ExprForm) (ts : List Turn) → AtLevel 2 e → AreTurns 2 ts → AtLevel 3 (with_turns e ts)
comparison_level e [] l h = level_up 2 e l
comparison_level e (t ∷ ts) l h = rw (h.2 refl) (binary_level 2 t.op t.at e t.right h.0 l h.1)

turns_level : (n : ℕ) (e : ExprForm) (ts : List Turn) → AtLevel n e → AreTurns n ts → AtLevel (suc n) (with_turns e ts)
turns_level zero e ts l h = chain_level 0 e ts refl (level_up 0 e l) h
turns_level (suc zero) e ts l h = chain_level 1 e ts refl (level_up 1 e l) h
turns_level (suc (suc zero)) e ts l h = comparison_level e ts l h
turns_level (suc (suc (suc n))) e ts l h = chain_level (suc (suc (suc n))) e ts refl (level_up (suc (suc (suc n))) e l) h

-- ---- what may stand after a block

pub data ElseForm : Type 0 where
  NoElse : ElseForm
  AnElse : (p3 p4 : ℕ) → StmtsForm → (p5 : ℕ) → ElseForm

abbrev pub IsElse : ElseForm → Type 0
IsElse NoElse = Unit {0}
IsElse (AnElse p3 p4 s p5) = AreStmts s

abbrev pub else_nodes : ElseForm → List StmtNode
else_nodes NoElse = []
else_nodes (AnElse p3 p4 s p5) = stmt_nodes s

abbrev pub else_before : Around → ElseForm → List Marked → List Marked
else_before d NoElse rest = rest
else_before d (AnElse p3 p4 s p5) rest = keyword_mark keyword.Else p3 Plain ∷ symbol_mark symbol.OpenBrace p4 Plain ∷ stmts_before d s (symbol_mark symbol.CloseBrace p5 Plain ∷ rest)

-- ---- how the steps end

-- these tokens are what is to come, up to this tree
abbrev pub Finishes : Steps → List Marked → Tree → Type 0
Finishes (Done tree) z r = (z ≡ []) × (tree ≡ r)
Finishes (Want w k) z r = (at : ℕ) × (y : List Marked) × (z ≡ marked w at Plain ∷ y) × Finishes k y r
Finishes (WantName role k) z r = (n : NameNode) × (y : List Marked) × (z ≡ name_mark n role ∷ y) × Finishes (k n) y r
Finishes (WantType k) z r = (t : TypeForm) × (y : List Marked) × (z ≡ type_mark t ∷ y) × Finishes (k (type_of_form t)) y r
Finishes (WantLiteral k) z r = (l : LiteralForm) × (y : List Marked) × (z ≡ literal_before l y) × Finishes (k (literal_node l)) y r
Finishes (WantNegative minus k) z r = (at : ℕ) × (v : ℤ) × (y : List Marked) × (z ≡ marked (token.Negative v) at Plain ∷ y) × Finishes (k (literal_at minus v)) y r
Finishes (WantBound role k) z r = (b : BoundForm) × (y : List Marked) × (z ≡ bound_before b (role (bound_value b)) y) × Finishes (k (bound_value b)) y r
Finishes (WantNegativeBound role k) z r = (at : ℕ) × (v : ℤ) × (y : List Marked) × (z ≡ marked (token.Negative v) at (role v) ∷ y) × Finishes (k v) y r
Finishes (Level d n o k) z r = (e : ExprForm) × (y : List Marked) × AtLevel n e × (z ≡ expr_before d o e y) × Finishes (k (begun e) (counted o e)) y r
Finishes (Rest d n x o k) z r = (ts : List Turn) × (y : List Marked) × AreTurns n ts × (z ≡ turns_before d o ts y) × Finishes (k (turned x ts) (counted_turns o ts)) y r
Finishes (MoreValues vs k) z r = (c : ValuesForm) × (y : List Marked) × AreValues c × (z ≡ values_before c y) × Finishes (k (vs ++ value_nodes c)) y r
Finishes (MoreStmts d ss k) z r = (s : StmtsForm) × (y : List Marked) × AreStmts s × (z ≡ stmts_before d s y) × Finishes (k (ss ++ stmt_nodes s)) y r
Finishes (MaybeElse d k) z r = (e : ElseForm) × (y : List Marked) × IsElse e × (z ≡ else_before d e y) × Finishes (k (else_nodes e)) y r
Finishes (MoreColumns role i cs k) z r = (c : ColumnsForm) × (y : List Marked) × (z ≡ columns_before role i c y) × Finishes (k (cs ++ column_nodes c)) y r
Finishes (SomeParams k) z r = (c : ParamsForm) × (y : List Marked) × (z ≡ params_before c y) × Finishes (k (param_nodes c)) y r
Finishes (MoreTables i ts k) z r = (f : TablesForm) × (y : List Marked) × (z ≡ tables_before i f y) × Finishes (k (ts ++ table_nodes f)) y r
Finishes (MoreProcs i ps k) z r = (f : ProcsForm) × (y : List Marked) × AreProcs f × (z ≡ procs_before i f y) × Finishes (k (ps ++ proc_nodes f)) y r

abbrev Ending : Steps → Type 0
Ending k = (z : List Marked) × (r : Tree) × Finishes k z r

abbrev no_name : NameNode
no_name = record { at = 0; name = [] }

-- each state can end
pub can_end : (k : Steps) → Ending k
can_end (Done tree) = ([], tree, (refl, refl))
can_end (Want w k) = let e = can_end k in (marked w 0 Plain ∷ e.0, e.1, (0, e.0, refl, e.2))
can_end (WantName role k) = let e = can_end (k no_name) in (name_mark no_name role ∷ e.0, e.1, (no_name, e.0, refl, e.2))
can_end (WantType k) = let e = can_end (k (type_of_form (AnIntType 0))) in (type_mark (AnIntType 0) ∷ e.0, e.1, (AnIntType 0, e.0, refl, e.2))
can_end (WantLiteral k) = let e = can_end (k (literal_at 0 (pos 0))) in (literal_before (AnInt 0 (pos 0)) e.0, e.1, (AnInt 0 (pos 0), e.0, refl, e.2))
can_end (WantNegative minus k) = let e = can_end (k (literal_at minus (pos 0))) in (marked (token.Negative (pos 0)) 0 Plain ∷ e.0, e.1, (0, pos 0, e.0, refl, e.2))
can_end (WantBound role k) = let e = can_end (k (pos 0)) in (bound_before (ABound 0 (pos 0)) (role (pos 0)) e.0, e.1, (ABound 0 (pos 0), e.0, refl, e.2))
can_end (WantNegativeBound role k) = let e = can_end (k (pos 0)) in (marked (token.Negative (pos 0)) 0 (role (pos 0)) ∷ e.0, e.1, (0, pos 0, e.0, refl, e.2))
can_end (Level d n o k) = let e = can_end (k (begun (AName no_name)) o) in (name_mark no_name Plain ∷ e.0, e.1, (AName no_name, e.0, tt, refl, e.2))
can_end (Rest d n x o k) = let e = can_end (k x o) in (e.0, e.1, ([], e.0, tt, refl, e.2))
can_end (MoreValues vs k) = let e = can_end (k (vs ++ [])) in (e.0, e.1, (NoValue, e.0, tt, refl, e.2))
can_end (MoreStmts d ss k) = let e = can_end (k (ss ++ [])) in (e.0, e.1, (NoStmt, e.0, tt, refl, e.2))
can_end (MaybeElse d k) = let e = can_end (k []) in (e.0, e.1, (NoElse, e.0, tt, refl, e.2))
can_end (MoreColumns role i cs k) = let e = can_end (k (cs ++ [])) in (e.0, e.1, (NoColumn, e.0, refl, e.2))
can_end (SomeParams k) = let e = can_end (k []) in (e.0, e.1, (NoParam, e.0, refl, e.2))
can_end (MoreTables i ts k) = let e = can_end (k (ts ++ [])) in (e.0, e.1, (NoTable, e.0, refl, e.2))
can_end (MoreProcs i ps k) = let e = can_end (k (ps ++ [])) in (e.0, e.1, (NoProc, e.0, tt, refl, e.2))

-- ---- an expression of a level, from an operand and what the rests take

record Made (d n : ℕ) (k : Begun → ℕ → Steps) (o : ℕ) (e : ExprForm) (z : List Marked) (r : Tree) : Type 0 where
  form : ExprForm
  rest : List Marked
  level : AtLevel n form
  text : expr_before d o e z ≡ expr_before d o form rest
  ends : Finishes (k (begun form) (counted o form)) rest r

made : (d n : ℕ) (k : Begun → ℕ → Steps) (o : ℕ) (e : ExprForm) (z : List Marked) (r : Tree) → AtLevel 0 e → Finishes (lay d n k (begun e) (counted o e)) z r → Made d n k o e z r
made d zero k o e z r l f = record { form = e; rest = z; level = l; text = refl; ends = f }
made d (suc n) k o e z r l f =
    let m = made d n (λ x o. Rest d n x o k) o e z r l f in
    let ts = m.ends.0 in
    let y = m.ends.1 in
    record {
      form = with_turns m.form ts;
      rest = y;
      level = turns_level n m.form ts m.level m.ends.2;
      text = m.text ∙ ap (expr_before d o m.form) m.ends.3 ∙ sym (expr_before-with_turns d o m.form ts y);
      ends = rw (begun-with_turns m.form ts, counted-with_turns o m.form ts) m.ends.4;
    }

in_level : (d n : ℕ) (k : Begun → ℕ → Steps) (o : ℕ) (e : ExprForm) (z : List Marked) (r : Tree) → Made d n k o e z r → Finishes (Level d n o k) (expr_before d o e z) r
in_level d n k o e z r m = (m.form, m.rest, m.level, m.text, m.ends)

-- ---- each token in its turn

abbrev some : {A : Type 0} → A → Option A
some x = Some x

some_is : {A : Type 0} (x y : A) → some x ≡ some y → x ≡ y
some_is x y e = cc

-- one more token at the start
after : {m : Marked} {a b c : List Marked} → a ≡ m ∷ b → b ≡ c → a ≡ m ∷ c
after {m = m} e f = e ∙ ap (λ y. m ∷ y) f

-- a token that leads on, where what is after it ends
abbrev Leads : Steps → Token → ℕ → Next → Type 0
Leads k t at n = (z : List Marked) (r : Tree) → Finishes n.steps z r → Finishes k (marked t at n.role ∷ z) r

by_next : (k : Steps) (t : Token) (at : ℕ) (m n : Next) → some m ≡ some n → Leads k t at m → Leads k t at n
by_next k t at m n e h = subst (λ (n : Next). Leads k t at n) (some_is m n e) h

want_leads : (w t : Token) (at : ℕ) (k : Steps) (n : Next) (b : Bool) → is_same_keyword_or_symbol w t ≡ b → where_true b (next k Plain) ≡ Some n → Leads (Want w k) t at n
want_leads w t at k n false is e = absurd cc
want_leads w t at k n true is e = by_next (Want w k) t at (next k Plain) n e (λ z r f. rw (is_same_keyword_or_symbol-true w t is) (at, z, refl, f))

name_leads : (t : Token) (at : ℕ) (role : Role) (k : NameNode → Steps) (n : Next) → where_some (name_in t at) (λ x. next (k x) role) ≡ Some n → Leads (WantName role k) t at n
name_leads (token.Name x) at role k n e = by_next (WantName role k) (token.Name x) at (next (k (record { at = at; name = x })) role) n e (λ z r f. (record { at = at; name = x }, z, refl, f))
name_leads _ at role k n e = absurd cc

type_leads : (t : Token) (at : ℕ) (k : Ty → Steps) (n : Next) → where_some (type_of_token t) (λ y. next (k y) Plain) ≡ Some n → Leads (WantType k) t at n
type_leads (token.Keyword keyword.Int) at k n e = by_next (WantType k) (token.Keyword keyword.Int) at (next (k (type_of_form (AnIntType at))) Plain) n e (λ z r f. (AnIntType at, z, refl, f))
type_leads (token.Keyword keyword.Text) at k n e = by_next (WantType k) (token.Keyword keyword.Text) at (next (k (type_of_form (ATextType at))) Plain) n e (λ z r f. (ATextType at, z, refl, f))
type_leads _ at k n e = absurd cc

-- a literal's first token, where what is done with the literal ends
abbrev LiteralLeads : (LiteralNode → Steps) → Token → ℕ → Next → Type 0
LiteralLeads k t at n = (z : List Marked) (r : Tree) → Finishes n.steps z r → (l : LiteralForm) × (y : List Marked) × (marked t at n.role ∷ z ≡ literal_before l y) × Finishes (k (literal_node l)) y r

by_literal : (k : LiteralNode → Steps) (t : Token) (at : ℕ) (m n : Next) → some m ≡ some n → LiteralLeads k t at m → LiteralLeads k t at n
by_literal k t at m n e h = subst (λ (n : Next). LiteralLeads k t at n) (some_is m n e) h

literal_leads : (t : Token) (at : ℕ) (k : LiteralNode → Steps) (n : Next) → literal_begins t at k ≡ Some n → LiteralLeads k t at n
literal_leads (token.Int v) at k n e = by_literal k (token.Int v) at (next (k (literal_node (AnInt at v))) Plain) n e (λ z r f. (AnInt at v, z, refl, f))
literal_leads (token.Text v) at k n e = by_literal k (token.Text v) at (next (k (literal_node (AText at v))) Plain) n e (λ z r f. (AText at v, z, refl, f))
literal_leads (token.Keyword keyword.True) at k n e = by_literal k (token.Keyword keyword.True) at (next (k (literal_node (ATrue at))) Plain) n e (λ z r f. (ATrue at, z, refl, f))
literal_leads (token.Keyword keyword.False) at k n e = by_literal k (token.Keyword keyword.False) at (next (k (literal_node (AFalse at))) Plain) n e (λ z r f. (AFalse at, z, refl, f))
literal_leads (token.Symbol symbol.Minus) at k n e = by_literal k (token.Symbol symbol.Minus) at (next (WantNegative at k) Plain) n e
    (λ z r f. (ANegative at f.0 f.1, f.2, ap (λ y. symbol_mark symbol.Minus at Plain ∷ y) f.3, f.4))
literal_leads _ at k n e = absurd cc

negative_leads : (t : Token) (at minus : ℕ) (k : LiteralNode → Steps) (n : Next) → negative_in t minus k ≡ Some n → Leads (WantNegative minus k) t at n
negative_leads (token.Negative v) at minus k n e = by_next (WantNegative minus k) (token.Negative v) at (next (k (literal_at minus v)) Plain) n e (λ z r f. (at, v, z, refl, f))
negative_leads _ at minus k n e = absurd cc

bound_leads : (t : Token) (at : ℕ) (role : ℤ → Role) (k : ℤ → Steps) (n : Next) → bound_begins t role k ≡ Some n → Leads (WantBound role k) t at n
bound_leads (token.Int v) at role k n e = by_next (WantBound role k) (token.Int v) at (next (k v) (role v)) n e (λ z r f. (ABound at v, z, refl, f))
bound_leads (token.Symbol symbol.Minus) at role k n e = by_next (WantBound role k) (token.Symbol symbol.Minus) at (next (WantNegativeBound role k) Plain) n e
    (λ z r f. (ANegativeBound at f.0 f.1, f.2, ap (λ y. symbol_mark symbol.Minus at Plain ∷ y) f.3, f.4))
bound_leads _ at role k n e = absurd cc

negative_bound_leads : (t : Token) (at : ℕ) (role : ℤ → Role) (k : ℤ → Steps) (n : Next) → negative_bound_in t role k ≡ Some n → Leads (WantNegativeBound role k) t at n
negative_bound_leads (token.Negative v) at role k n e = by_next (WantNegativeBound role k) (token.Negative v) at (next (k v) (role v)) n e (λ z r f. (at, v, z, refl, f))
negative_bound_leads _ at role k n e = absurd cc

-- a literal as an operand of a level
literal_operand_leads : (t : Token) (at d m : ℕ) (k : Begun → ℕ → Steps) (o : ℕ) (n : Next) → literal_begins t at (λ l. lay d m k (begun_literal l) o) ≡ Some n → Leads (Level d m o k) t at n
literal_operand_leads t at d m k o n e = λ z r f.
    let g = literal_leads t at (λ l. lay d m k (begun_literal l) o) n e z r f in
    rw g.2 (in_level d m k o (ALiteral g.0) g.1 r (made d m k o (ALiteral g.0) g.1 r tt g.3))

operand_leads : (t : Token) (at d m : ℕ) (k : Begun → ℕ → Steps) (o : ℕ) (n : Next) → operand_begins t at d o (lay d m k) ≡ Some n → Leads (Level d m o k) t at n
operand_leads (token.Name x) at d m k o n e =
    let name : NameNode = record { at = at; name = x } in
    by_next (Level d m o k) (token.Name x) at (next (lay d m k (begun_name name) o) Plain) n e
    (λ z r f. in_level d m k o (AName name) z r (made d m k o (AName name) z r tt f))
operand_leads (token.Symbol symbol.Not) at d m k o n e =
    by_next (Level d m o k) (token.Symbol symbol.Not) at (next (negation_steps at d (suc o) (lay d m k)) (Operator (suc o))) n e
    (λ z r f. rw f.3 (in_level d m k o (ANot at f.0) f.1 r (made d m k o (ANot at f.0) f.1 r f.2 f.4)))
operand_leads (token.Symbol symbol.OpenParen) at d m k o n e =
    by_next (Level d m o k) (token.Symbol symbol.OpenParen) at (next (paren_steps at (suc d) o (lay d m k)) (Paren (suc d))) n e
    (λ z r f. let close = f.4 in
    rw (f.3, close.2) (in_level d m k o (AParen at f.0 close.0) close.1 r (made d m k o (AParen at f.0 close.0) close.1 r f.2 close.3)))
operand_leads t at d m k o n e = literal_operand_leads t at d m k o n e

-- a repetition goes on with one more, or ends and the token belongs to what is after it
abbrev Others : Steps → Spanned → Next → Type 0
Others k t n = feed k t ≡ Some n → Leads k t.token t.at n

-- ---- operators

operator_of-is : (s : Symbol) (op : BinOp) → operator_of s ≡ Some op → s ≡ operator_symbol op
operator_of-is symbol.Plus o e = ap operator_symbol (some_is op.Add o e)
operator_of-is symbol.Minus o e = ap operator_symbol (some_is op.Sub o e)
operator_of-is symbol.Star o e = ap operator_symbol (some_is op.Mul o e)
operator_of-is symbol.Slash o e = ap operator_symbol (some_is op.Div o e)
operator_of-is symbol.Percent o e = ap operator_symbol (some_is op.Rem o e)
operator_of-is symbol.Equal o e = ap operator_symbol (some_is op.Eq o e)
operator_of-is symbol.NotEqual o e = ap operator_symbol (some_is op.Ne o e)
operator_of-is symbol.Less o e = ap operator_symbol (some_is op.Lt o e)
operator_of-is symbol.LessEqual o e = ap operator_symbol (some_is op.Le o e)
operator_of-is symbol.Greater o e = ap operator_symbol (some_is op.Gt o e)
operator_of-is symbol.GreaterEqual o e = ap operator_symbol (some_is op.Ge o e)
operator_of-is symbol.And o e = ap operator_symbol (some_is op.And o e)
operator_of-is symbol.Or o e = ap operator_symbol (some_is op.Or o e)
operator_of-is _ o e = absurd cc

operator_in-is : (t : Token) (op : BinOp) → operator_in t ≡ Some op → t ≡ token.Symbol (operator_symbol op)
operator_in-is (token.Symbol s) op e = ap (λ s. token.Symbol s) (operator_of-is s op e)
operator_in-is _ op e = absurd cc

record IsOperator (n : ℕ) (t : Token) (op : BinOp) : Type 0 where
  precedence : precedence op ≡ n
  sign : t ≡ token.Symbol (operator_symbol op)

operator_is : (n : ℕ) (t : Token) (op : BinOp) → operator_at n t ≡ Some op → IsOperator n t op
operator_is n t op e = by_token (operator_in t) refl e
  where
    by_precedence : (found : BinOp) (b : Bool) → eqb (precedence found) n ≡ b → operator_in t ≡ Some found → (if b then some found else None) ≡ Some op → IsOperator n t op
    by_precedence found true same is e = let one = some_is found op e in record {
      precedence = ap precedence (sym one) ∙ eqb-true (precedence found) n same;
      sign = operator_in-is t found is ∙ ap (λ p. token.Symbol (operator_symbol p)) one;
    }
    by_precedence found false same is e = absurd cc

    by_token : (found : Option BinOp) → operator_in t ≡ found → of_precedence n found ≡ Some op → IsOperator n t op
    by_token None is e = absurd cc
    by_token (Some found) is e = by_precedence found (eqb (precedence found) n) refl is e

-- what follows an operator's right operand
record Tail (d n : ℕ) (x : Begun) (o : ℕ) (k : Begun → ℕ → Steps) (z : List Marked) (r : Tree) : Type 0 where
  turns : List Turn
  rest : List Marked
  are : AreTurns n turns
  one : n ≡ 2 → turns ≡ []
  text : z ≡ turns_before d o turns rest
  ends : Finishes (k (turned x turns) (counted_turns o turns)) rest r

tail : (d n : ℕ) (x : Begun) (o : ℕ) (k : Begun → ℕ → Steps) (z : List Marked) (r : Tree) → Finishes (top d (suc n) k x o) z r → Tail d n x o k z r
tail d zero x o k z r f = record { turns = f.0; rest = f.1; are = f.2; one = λ e. absurd (omega (arith, e)); text = f.3; ends = f.4 }
tail d (suc zero) x o k z r f = record { turns = f.0; rest = f.1; are = f.2; one = λ e. absurd (omega (arith, e)); text = f.3; ends = f.4 }
tail d (suc (suc zero)) x o k z r f = record { turns = []; rest = z; are = tt; one = λ e. refl; text = refl; ends = f }
tail d (suc (suc (suc n))) x o k z r f = record { turns = f.0; rest = f.1; are = f.2; one = λ e. absurd (omega (arith, e)); text = f.3; ends = f.4 }

rest_leads : (found : Option BinOp) (d m : ℕ) (x : Begun) (o : ℕ) (k : Begun → ℕ → Steps) (t : Spanned) (n : Next) → operator_at m t.token ≡ found
    → or_else (where_some found (λ op. next (Level d m (suc o) (λ y o. top d (suc m) k (begun_binary op x y) o)) (Operator (suc o)))) (feed (k x o) t) ≡ Some n
    → Others (k x o) t n → Leads (Rest d m x o k) t.token t.at n
rest_leads None d m x o k t n is e others = λ z r f. ([], marked t.token t.at n.role ∷ z, tt, refl, others e z r f)
rest_leads (Some op) d m x o k t n is e others =
    let which = operator_is m t.token op is in
    by_next (Rest d m x o k) t.token t.at (next (Level d m (suc o) (λ y o. top d (suc m) k (begun_binary op x y) o)) (Operator (suc o))) n e
    (λ z r f. rw which.sign (
    let g = tail d m (begun_binary op x (begun f.0)) (counted (suc o) f.0) k f.1 r f.4 in
    let turn : Turn = record { op = op; at = t.at; right = f.0 } in (
      turn ∷ g.turns,
      g.rest,
      (which.precedence, f.2, g.one, g.are),
      ap (λ y. symbol_mark (operator_symbol op) t.at (Operator (suc o)) ∷ y) (f.3 ∙ ap (expr_before d (suc o) f.0) g.text),
      g.ends,
    )))

-- ---- values

values_lead : (vs : List ExprNode) (k : List ExprNode → Steps) (t : Spanned) (n : Next) (b : Bool) → is_same_keyword_or_symbol (token.Symbol symbol.Comma) t.token ≡ b
    → or_else (where_true b (next (want_expr (λ v. MoreValues (vs ++ (v ∷ [])) k)) Plain)) (feed (k vs) t) ≡ Some n
    → Others (k vs) t n → Leads (MoreValues vs k) t.token t.at n
values_lead vs k t n false is e others = λ z r f. (NoValue, marked t.token t.at n.role ∷ z, tt, refl, subst (λ (xs : List ExprNode). Finishes (k xs) (marked t.token t.at n.role ∷ z) r) (sym (append-nil vs)) (others e z r f))
values_lead vs k t n true is e others =
    by_next (MoreValues vs k) t.token t.at (next (want_expr (λ v. MoreValues (vs ++ (v ∷ [])) k)) Plain) n e
    (λ z r f. rw (is_same_keyword_or_symbol-true (token.Symbol symbol.Comma) t.token is) (
    let g = f.4 in (
      AValue t.at f.0 g.0,
      g.1,
      (f.2, g.2),
      ap (λ y. symbol_mark symbol.Comma t.at Plain ∷ y) (f.3 ∙ ap (whole_before f.0) g.3),
      subst (λ (xs : List ExprNode). Finishes (k xs) g.1 r) (append_assoc vs (expr_node f.0 ∷ []) (value_nodes g.0)) g.4,
    )))

-- ---- statements

abbrev StmtLeads : StatementWord → Token → Role → Type 0
StmtLeads w t role = (d : Around) (ss : List StmtNode) (k : List StmtNode → Steps) (at : ℕ) → Leads (MoreStmts d ss k) t at (next (stmt_steps d at w (λ s. MoreStmts d (ss ++ (s ∷ [])) k)) role)

let_leads : StmtLeads word.Let (token.Keyword keyword.Let) Plain
let_leads d ss k at z r f =
    let x = f in
    let assign = x.3 in
    let e = assign.3 in
    let semicolon = e.4 in
    let g = semicolon.3 in (
      ALet at x.0 assign.0 e.0 semicolon.0 g.0,
      g.1,
      (e.2, g.2),
      ap (λ y. keyword_mark keyword.Let at Plain ∷ y) (after x.2 (after assign.2 (e.3 ∙ ap (whole_before e.0) (after semicolon.2 g.3)))),
      subst (λ (xs : List StmtNode). Finishes (k xs) g.1 r) (append_assoc ss (stmt.Let x.0 (expr_node e.0) ∷ []) (stmt_nodes g.0)) g.4,
    )

read_leads : StmtLeads word.Read (token.Keyword keyword.Read) Plain
read_leads d ss k at z r f =
    let x = f in
    let assign = x.3 in
    let table = assign.3 in
    let bracket = table.3 in
    let e = bracket.3 in
    let close = e.4 in
    let dot = close.3 in
    let column = dot.3 in
    let default = column.3 in
    let literal = default.3 in
    let semicolon = literal.3 in
    let g = semicolon.3 in (
      ARead at x.0 assign.0 table.0 bracket.0 e.0 close.0 dot.0 column.0 default.0 literal.0 semicolon.0 g.0,
      g.1,
      (e.2, g.2),
      ap (λ y. keyword_mark keyword.Read at Plain ∷ y) (after x.2 (after assign.2 (after table.2 (after bracket.2 (e.3 ∙ ap (whole_before e.0) (after close.2 (after dot.2 (after column.2 (after default.2 (literal.2 ∙ ap (literal_before literal.0) (after semicolon.2 g.3))))))))))),
      subst (λ (xs : List StmtNode). Finishes (k xs) g.1 r) (append_assoc ss (stmt.Read x.0 table.0 (expr_node e.0) column.0 (literal_node literal.0) ∷ []) (stmt_nodes g.0)) g.4,
    )

has_leads : StmtLeads word.Has (token.Keyword keyword.Has) Plain
has_leads d ss k at z r f =
    let x = f in
    let assign = x.3 in
    let table = assign.3 in
    let bracket = table.3 in
    let e = bracket.3 in
    let close = e.4 in
    let semicolon = close.3 in
    let g = semicolon.3 in (
      AHas at x.0 assign.0 table.0 bracket.0 e.0 close.0 semicolon.0 g.0,
      g.1,
      (e.2, g.2),
      ap (λ y. keyword_mark keyword.Has at Plain ∷ y) (after x.2 (after assign.2 (after table.2 (after bracket.2 (e.3 ∙ ap (whole_before e.0) (after close.2 (after semicolon.2 g.3))))))),
      subst (λ (xs : List StmtNode). Finishes (k xs) g.1 r) (append_assoc ss (stmt.Has x.0 table.0 (expr_node e.0) ∷ []) (stmt_nodes g.0)) g.4,
    )

put_leads : StmtLeads word.Put (token.Keyword keyword.Put) Plain
put_leads d ss k at z r f =
    let table = f in
    let bracket = table.3 in
    let e = bracket.3 in
    let close = e.4 in
    let assign = close.3 in
    let paren = assign.3 in
    let v = paren.3 in
    let values = v.4 in
    let shut = values.4 in
    let semicolon = shut.3 in
    let g = semicolon.3 in (
      APut at table.0 bracket.0 e.0 close.0 assign.0 paren.0 v.0 values.0 shut.0 semicolon.0 g.0,
      g.1,
      (e.2, v.2, values.2, g.2),
      ap (λ y. keyword_mark keyword.Put at Plain ∷ y) (after table.2 (after bracket.2 (e.3 ∙ ap (whole_before e.0) (after close.2 (after assign.2 (after paren.2 (v.3 ∙ ap (whole_before v.0) (values.3 ∙ ap (values_before values.0) (after shut.2 (after semicolon.2 g.3)))))))))),
      subst (λ (xs : List StmtNode). Finishes (k xs) g.1 r) (append_assoc ss (stmt.Put table.0 (expr_node e.0) (expr_node v.0 ∷ value_nodes values.0) ∷ []) (stmt_nodes g.0)) g.4,
    )

set_leads : StmtLeads word.Set (token.Keyword keyword.Set) Plain
set_leads d ss k at z r f =
    let table = f in
    let bracket = table.3 in
    let e = bracket.3 in
    let close = e.4 in
    let dot = close.3 in
    let column = dot.3 in
    let assign = column.3 in
    let v = assign.3 in
    let semicolon = v.4 in
    let g = semicolon.3 in (
      ASet at table.0 bracket.0 e.0 close.0 dot.0 column.0 assign.0 v.0 semicolon.0 g.0,
      g.1,
      (e.2, v.2, g.2),
      ap (λ y. keyword_mark keyword.Set at Plain ∷ y) (after table.2 (after bracket.2 (e.3 ∙ ap (whole_before e.0) (after close.2 (after dot.2 (after column.2 (after assign.2 (v.3 ∙ ap (whole_before v.0) (after semicolon.2 g.3))))))))),
      subst (λ (xs : List StmtNode). Finishes (k xs) g.1 r) (append_assoc ss (stmt.Set table.0 (expr_node e.0) column.0 (expr_node v.0) ∷ []) (stmt_nodes g.0)) g.4,
    )

delete_leads : StmtLeads word.Delete (token.Keyword keyword.Delete) Plain
delete_leads d ss k at z r f =
    let table = f in
    let bracket = table.3 in
    let e = bracket.3 in
    let close = e.4 in
    let semicolon = close.3 in
    let g = semicolon.3 in (
      ADelete at table.0 bracket.0 e.0 close.0 semicolon.0 g.0,
      g.1,
      (e.2, g.2),
      ap (λ y. keyword_mark keyword.Delete at Plain ∷ y) (after table.2 (after bracket.2 (e.3 ∙ ap (whole_before e.0) (after close.2 (after semicolon.2 g.3))))),
      subst (λ (xs : List StmtNode). Finishes (k xs) g.1 r) (append_assoc ss (stmt.Delete table.0 (expr_node e.0) ∷ []) (stmt_nodes g.0)) g.4,
    )

abort_leads : StmtLeads word.Abort (token.Keyword keyword.Abort) Plain
abort_leads d ss k at z r f =
    let asks = f in
    let e = asks.3 in
    let semicolon = e.4 in
    let g = semicolon.3 in (
      AnAbort at asks.0 e.0 semicolon.0 g.0,
      g.1,
      (e.2, g.2),
      ap (λ y. keyword_mark keyword.Abort at Plain ∷ y) (after asks.2 (e.3 ∙ ap (whole_before e.0) (after semicolon.2 g.3))),
      subst (λ (xs : List StmtNode). Finishes (k xs) g.1 r) (append_assoc ss (stmt.AbortIf (expr_node e.0) ∷ []) (stmt_nodes g.0)) g.4,
    )

-- a conditional, with an `else` or without
if_leads_as : (other : ElseForm) (d : Around) (at : ℕ) (ss : List StmtNode) (k : List StmtNode → Steps) (e : ExprForm) (p1 : ℕ) (first : StmtsForm) (p2 : ℕ) (s : StmtsForm) (y : List Marked) (r : Tree)
    → AtLevel 5 e → AreStmts first → IsElse other → AreStmts s → Finishes (k ((ss ++ (stmt.If (expr_node e) (stmt_nodes first) (else_nodes other) ∷ [])) ++ stmt_nodes s)) y r
    → Finishes (MoreStmts d ss k) (keyword_mark keyword.If at (Nested (suc d.nested)) ∷ whole_before e (symbol_mark symbol.OpenBrace p1 Plain ∷ stmts_before (inside_block d) first (symbol_mark symbol.CloseBrace p2 Plain ∷ else_before (inside_block d) other (stmts_before d s y)))) r
if_leads_as NoElse d at ss k e p1 first p2 s y r le lf lo ls f =
    (AnIf at e p1 first p2 s, y, (le, lf, ls), refl, subst (λ (xs : List StmtNode). Finishes (k xs) y r) (append_assoc ss (stmt.If (expr_node e) (stmt_nodes first) [] ∷ []) (stmt_nodes s)) f)
if_leads_as (AnElse p3 p4 second p5) d at ss k e p1 first p2 s y r le lf lo ls f =
    (AnIfElse at e p1 first p2 p3 p4 second p5 s, y, (le, lf, lo, ls), refl, subst (λ (xs : List StmtNode). Finishes (k xs) y r) (append_assoc ss (stmt.If (expr_node e) (stmt_nodes first) (stmt_nodes second) ∷ []) (stmt_nodes s)) f)

if_leads : (d : Around) (ss : List StmtNode) (k : List StmtNode → Steps) (at : ℕ) → Leads (MoreStmts d ss k) (token.Keyword keyword.If) at (next (if_steps d (λ s. MoreStmts d (ss ++ (s ∷ [])) k)) (Nested (suc d.nested)))
if_leads d ss k at z r f =
    let e = f in
    let brace = e.4 in
    let first = brace.3 in
    let shut = first.4 in
    let other = shut.3 in
    let g = other.4 in
    let text = e.3 ∙ ap (whole_before e.0) (after brace.2 (first.3 ∙ ap (stmts_before (inside_block d) first.0) (after shut.2 (other.3 ∙ ap (else_before (inside_block d) other.0) g.3)))) in
    rw text (if_leads_as other.0 d at ss k e.0 brace.0 first.0 shut.0 g.0 g.1 r e.2 first.2 other.2 g.2 g.4)

for_leads : (d : Around) (ss : List StmtNode) (k : List StmtNode → Steps) (at : ℕ) → Leads (MoreStmts d ss k) (token.Keyword keyword.For) at (next (for_steps d at (λ s. MoreStmts d (ss ++ (s ∷ [])) k)) (Nested (suc d.nested)))
for_leads d ss k at z r f =
    let x = f in
    let word = x.3 in
    let from = word.3 in
    let dots = from.3 in
    let to = dots.3 in
    let brace = to.3 in
    let body = brace.3 in
    let shut = body.4 in
    let g = shut.3 in
    let low = bound_value from.0 in
    let high = bound_value to.0 in
    let block = brace.2 ∙ ap (λ y. symbol_mark symbol.OpenBrace brace.0 Plain ∷ y) (body.3 ∙ ap (stmts_before (in_loop d low high) body.0) (after shut.2 g.3)) in (
      ALoop at x.0 word.0 from.0 dots.0 to.0 brace.0 body.0 shut.0 g.0,
      g.1,
      (body.2, g.2),
      ap (λ y. keyword_mark keyword.For at (Nested (suc d.nested)) ∷ y) (after x.2 (after word.2 (from.2 ∙ ap (bound_before from.0 Plain) (after dots.2 (to.2 ∙ ap (bound_before to.0 (last_bound d at low high)) block))))),
      subst (λ (xs : List StmtNode). Finishes (k xs) g.1 r) (append_assoc ss (stmt.For x.0 low high (stmt_nodes body.0) ∷ []) (stmt_nodes g.0)) g.4,
    )

stmts_lead : (t : Token) (at : ℕ) (whole : Spanned) (d : Around) (ss : List StmtNode) (k : List StmtNode → Steps) (n : Next)
    → or_else (stmt_begins d t at (λ s. MoreStmts d (ss ++ (s ∷ [])) k)) (feed (k ss) whole) ≡ Some n
    → (feed (k ss) whole ≡ Some n → Leads (k ss) t at n) → Leads (MoreStmts d ss k) t at n
stmts_lead (token.Keyword keyword.Let) at whole d ss k n e others = by_next (MoreStmts d ss k) (token.Keyword keyword.Let) at (next (stmt_steps d at word.Let (λ s. MoreStmts d (ss ++ (s ∷ [])) k)) Plain) n e (let_leads d ss k at)
stmts_lead (token.Keyword keyword.Read) at whole d ss k n e others = by_next (MoreStmts d ss k) (token.Keyword keyword.Read) at (next (stmt_steps d at word.Read (λ s. MoreStmts d (ss ++ (s ∷ [])) k)) Plain) n e (read_leads d ss k at)
stmts_lead (token.Keyword keyword.Has) at whole d ss k n e others = by_next (MoreStmts d ss k) (token.Keyword keyword.Has) at (next (stmt_steps d at word.Has (λ s. MoreStmts d (ss ++ (s ∷ [])) k)) Plain) n e (has_leads d ss k at)
stmts_lead (token.Keyword keyword.Put) at whole d ss k n e others = by_next (MoreStmts d ss k) (token.Keyword keyword.Put) at (next (stmt_steps d at word.Put (λ s. MoreStmts d (ss ++ (s ∷ [])) k)) Plain) n e (put_leads d ss k at)
stmts_lead (token.Keyword keyword.Set) at whole d ss k n e others = by_next (MoreStmts d ss k) (token.Keyword keyword.Set) at (next (stmt_steps d at word.Set (λ s. MoreStmts d (ss ++ (s ∷ [])) k)) Plain) n e (set_leads d ss k at)
stmts_lead (token.Keyword keyword.Delete) at whole d ss k n e others = by_next (MoreStmts d ss k) (token.Keyword keyword.Delete) at (next (stmt_steps d at word.Delete (λ s. MoreStmts d (ss ++ (s ∷ [])) k)) Plain) n e (delete_leads d ss k at)
stmts_lead (token.Keyword keyword.Abort) at whole d ss k n e others = by_next (MoreStmts d ss k) (token.Keyword keyword.Abort) at (next (stmt_steps d at word.Abort (λ s. MoreStmts d (ss ++ (s ∷ [])) k)) Plain) n e (abort_leads d ss k at)
stmts_lead (token.Keyword keyword.If) at whole d ss k n e others = by_next (MoreStmts d ss k) (token.Keyword keyword.If) at (next (if_steps d (λ s. MoreStmts d (ss ++ (s ∷ [])) k)) (Nested (suc d.nested))) n e (if_leads d ss k at)
stmts_lead (token.Keyword keyword.For) at whole d ss k n e others = by_next (MoreStmts d ss k) (token.Keyword keyword.For) at (next (for_steps d at (λ s. MoreStmts d (ss ++ (s ∷ [])) k)) (Nested (suc d.nested))) n e (for_leads d ss k at)
stmts_lead t at whole d ss k n e others = λ z r f. (NoStmt, marked t at n.role ∷ z, tt, refl, subst (λ (xs : List StmtNode). Finishes (k xs) (marked t at n.role ∷ z) r) (sym (append-nil ss)) (others e z r f))

else_leads : (d : Around) (k : List StmtNode → Steps) (t : Spanned) (n : Next) (b : Bool) → is_same_keyword_or_symbol (token.Keyword keyword.Else) t.token ≡ b
    → or_else (where_true b (next (block_steps d k) Plain)) (feed (k []) t) ≡ Some n
    → Others (k []) t n → Leads (MaybeElse d k) t.token t.at n
else_leads d k t n false is e others = λ z r f. (NoElse, marked t.token t.at n.role ∷ z, tt, refl, others e z r f)
else_leads d k t n true is e others =
    by_next (MaybeElse d k) t.token t.at (next (block_steps d k) Plain) n e
    (λ z r f. rw (is_same_keyword_or_symbol-true (token.Keyword keyword.Else) t.token is) (
    let s = f.3 in
    let shut = s.4 in (
      AnElse t.at f.0 s.0 shut.0,
      shut.1,
      s.2,
      ap (λ y. keyword_mark keyword.Else t.at Plain ∷ y) (after f.2 (s.3 ∙ ap (stmts_before d s.0) shut.2)),
      shut.3,
    )))

-- ---- columns, tables and procedures

columns_lead : (role : ℕ → Role) (i : ℕ) (cs : List ColumnNode) (k : List ColumnNode → Steps) (t : Spanned) (n : Next) (b : Bool) → is_same_keyword_or_symbol (token.Symbol symbol.Comma) t.token ≡ b
    → or_else (where_true b (next (column_steps (role (suc i)) (λ c. MoreColumns role (suc i) (cs ++ (c ∷ [])) k)) Plain)) (feed (k cs) t) ≡ Some n
    → Others (k cs) t n → Leads (MoreColumns role i cs k) t.token t.at n
columns_lead role i cs k t n false is e others = λ z r f. (NoColumn, marked t.token t.at n.role ∷ z, refl, subst (λ (xs : List ColumnNode). Finishes (k xs) (marked t.token t.at n.role ∷ z) r) (sym (append-nil cs)) (others e z r f))
columns_lead role i cs k t n true is e others =
    by_next (MoreColumns role i cs k) t.token t.at (next (column_steps (role (suc i)) (λ c. MoreColumns role (suc i) (cs ++ (c ∷ [])) k)) Plain) n e
    (λ z r f. rw (is_same_keyword_or_symbol-true (token.Symbol symbol.Comma) t.token is) (
    let g = f.3 in
    let h = g.3 in (
      AColumn t.at f.0 g.0 h.0,
      h.1,
      ap (λ y. symbol_mark symbol.Comma t.at Plain ∷ y) (rw (f.2, g.2, h.2) refl),
      subst (λ (xs : List ColumnNode). Finishes (k xs) h.1 r) (append_assoc cs (column_node f.0 g.0 ∷ []) (column_nodes h.0)) h.3,
    )))

params_lead : (t : Token) (at : ℕ) (whole : Spanned) (k : List ColumnNode → Steps) (n : Next)
    → or_else (where_some (name_in t at) (λ n. next (typed_steps n (λ c. MoreColumns ParamName 1 (c ∷ []) k)) (ParamName 1))) (feed (k []) whole) ≡ Some n
    → (feed (k []) whole ≡ Some n → Leads (k []) t at n) → Leads (SomeParams k) t at n
params_lead (token.Name x) at whole k n e others =
    let name : NameNode = record { at = at; name = x } in
    by_next (SomeParams k) (token.Name x) at (next (typed_steps name (λ c. MoreColumns ParamName 1 (c ∷ []) k)) (ParamName 1)) n e
    (λ z r f. let g = f.3 in (AParam name f.0 g.0, g.1, ap (λ y. name_mark name (ParamName 1) ∷ y) (f.2 ∙ ap (λ y. type_mark f.0 ∷ y) g.2), g.3))
params_lead t at whole k n e others = λ z r f. (NoParam, marked t at n.role ∷ z, refl, others e z r f)

tables_lead : (i : ℕ) (ts : List TableNode) (k : List TableNode → Steps) (t : Spanned) (n : Next) (b : Bool) → is_same_keyword_or_symbol (token.Keyword keyword.Table) t.token ≡ b
    → or_else (where_true b (next (table_steps (λ table. MoreTables (suc i) (ts ++ (table ∷ [])) k)) (TableWord (suc i)))) (feed (k ts) t) ≡ Some n
    → Others (k ts) t n → Leads (MoreTables i ts k) t.token t.at n
tables_lead i ts k t n false is e others = λ z r f. (NoTable, marked t.token t.at n.role ∷ z, refl, subst (λ (xs : List TableNode). Finishes (k xs) (marked t.token t.at n.role ∷ z) r) (sym (append-nil ts)) (others e z r f))
tables_lead i ts k t n true is e others =
    by_next (MoreTables i ts k) t.token t.at (next (table_steps (λ table. MoreTables (suc i) (ts ++ (table ∷ [])) k)) (TableWord (suc i))) n e
    (λ z r f. rw (is_same_keyword_or_symbol-true (token.Keyword keyword.Table) t.token is) (
    let paren = f.3 in
    let word = paren.3 in
    let key = word.3 in
    let comma = key.3 in
    let column = comma.3 in
    let type = column.3 in
    let columns = type.3 in
    let close = columns.3 in
    let semicolon = close.3 in
    let g = semicolon.3 in
    let node : TableNode = record { name = f.0; key = type_of_form key.0; columns = column_node column.0 type.0 ∷ column_nodes columns.0 } in (
      ATable t.at f.0 paren.0 word.0 key.0 comma.0 column.0 type.0 columns.0 close.0 semicolon.0 g.0,
      g.1,
      rw (f.2, paren.2, word.2, key.2, comma.2, column.2, type.2, columns.2, close.2, semicolon.2, g.2) refl,
      subst (λ (xs : List TableNode). Finishes (k xs) g.1 r) (append_assoc ts (node ∷ []) (table_nodes g.0)) g.3,
    )))

procs_lead : (i : ℕ) (ps : List ProcNode) (k : List ProcNode → Steps) (t : Spanned) (n : Next) (b : Bool) → is_same_keyword_or_symbol (token.Keyword keyword.Proc) t.token ≡ b
    → or_else (where_true b (next (proc_steps (λ proc. MoreProcs (suc i) (ps ++ (proc ∷ [])) k)) (ProcWord (suc i)))) (feed (k ps) t) ≡ Some n
    → Others (k ps) t n → Leads (MoreProcs i ps k) t.token t.at n
procs_lead i ps k t n false is e others = λ z r f. (NoProc, marked t.token t.at n.role ∷ z, tt, refl, subst (λ (xs : List ProcNode). Finishes (k xs) (marked t.token t.at n.role ∷ z) r) (sym (append-nil ps)) (others e z r f))
procs_lead i ps k t n true is e others =
    by_next (MoreProcs i ps k) t.token t.at (next (proc_steps (λ proc. MoreProcs (suc i) (ps ++ (proc ∷ [])) k)) (ProcWord (suc i))) n e
    (λ z r f. rw (is_same_keyword_or_symbol-true (token.Keyword keyword.Proc) t.token is) (
    let paren = f.3 in
    let params = paren.3 in
    let close = params.3 in
    let brace = close.3 in
    let stmts = brace.3 in
    let shut = stmts.4 in
    let g = shut.3 in
    let node : ProcNode = record { name = f.0; params = param_nodes params.0; body = stmt_nodes stmts.0 } in (
      AProc t.at f.0 paren.0 params.0 close.0 brace.0 stmts.0 shut.0 g.0,
      g.1,
      (stmts.2, g.2),
      rw (f.2, paren.2, params.2, close.2, brace.2, stmts.3, shut.2, g.3) refl,
      subst (λ (xs : List ProcNode). Finishes (k xs) g.1 r) (append_assoc ps (node ∷ []) (proc_nodes g.0)) g.4,
    )))

-- what ends after a token that was taken ended before it
pub feeds : (k : Steps) (t : Spanned) (n : Next) → feed k t ≡ Some n → Leads k t.token t.at n
unfolding feed
feeds (Done tree) t n e = absurd cc
feeds (Want w k) t n e = want_leads w t.token t.at k n (is_same_keyword_or_symbol w t.token) refl e
feeds (WantName role k) t n e = name_leads t.token t.at role k n e
feeds (WantType k) t n e = type_leads t.token t.at k n e
feeds (WantLiteral k) t n e = literal_leads t.token t.at k n e
feeds (WantNegative minus k) t n e = negative_leads t.token t.at minus k n e
feeds (WantBound role k) t n e = bound_leads t.token t.at role k n e
feeds (WantNegativeBound role k) t n e = negative_bound_leads t.token t.at role k n e
feeds (Level d m o k) t n e = operand_leads t.token t.at d m k o n e
feeds (Rest d m x o k) t n e = rest_leads (operator_at m t.token) d m x o k t n refl e (feeds (k x o) t n)
feeds (MoreValues vs k) t n e = values_lead vs k t n (is_same_keyword_or_symbol (token.Symbol symbol.Comma) t.token) refl e (feeds (k vs) t n)
feeds (MoreStmts d ss k) t n e = stmts_lead t.token t.at t d ss k n e (feeds (k ss) t n)
feeds (MaybeElse d k) t n e = else_leads d k t n (is_same_keyword_or_symbol (token.Keyword keyword.Else) t.token) refl e (feeds (k []) t n)
feeds (MoreColumns role i cs k) t n e = columns_lead role i cs k t n (is_same_keyword_or_symbol (token.Symbol symbol.Comma) t.token) refl e (feeds (k cs) t n)
feeds (SomeParams k) t n e = params_lead t.token t.at t k n e (feeds (k []) t n)
feeds (MoreTables i ts k) t n e = tables_lead i ts k t n (is_same_keyword_or_symbol (token.Keyword keyword.Table) t.token) refl e (feeds (k ts) t n)
feeds (MoreProcs i ps k) t n e = procs_lead i ps k t n (is_same_keyword_or_symbol (token.Keyword keyword.Proc) t.token) refl e (feeds (k ps) t n)

-- what ends with the text ends so
pub finish_ends : (k : Steps) (r : Tree) → finish k ≡ Some r → Finishes k [] r
unfolding finish
finish_ends (Done tree) r e = (refl, some_is tree r e)
finish_ends (Want w k) r e = absurd cc
finish_ends (WantName role k) r e = absurd cc
finish_ends (WantType k) r e = absurd cc
finish_ends (WantLiteral k) r e = absurd cc
finish_ends (WantNegative minus k) r e = absurd cc
finish_ends (WantBound role k) r e = absurd cc
finish_ends (WantNegativeBound role k) r e = absurd cc
finish_ends (Level d n o k) r e = absurd cc
finish_ends (Rest d n x o k) r e = ([], [], tt, refl, finish_ends (k x o) r e)
finish_ends (MoreValues vs k) r e = (NoValue, [], tt, refl, subst (λ (xs : List ExprNode). Finishes (k xs) [] r) (sym (append-nil vs)) (finish_ends (k vs) r e))
finish_ends (MoreStmts d ss k) r e = (NoStmt, [], tt, refl, subst (λ (xs : List StmtNode). Finishes (k xs) [] r) (sym (append-nil ss)) (finish_ends (k ss) r e))
finish_ends (MaybeElse d k) r e = (NoElse, [], tt, refl, finish_ends (k []) r e)
finish_ends (MoreColumns role i cs k) r e = (NoColumn, [], refl, subst (λ (xs : List ColumnNode). Finishes (k xs) [] r) (sym (append-nil cs)) (finish_ends (k cs) r e))
finish_ends (SomeParams k) r e = (NoParam, [], refl, finish_ends (k []) r e)
finish_ends (MoreTables i ts k) r e = (NoTable, [], refl, subst (λ (xs : List TableNode). Finishes (k xs) [] r) (sym (append-nil ts)) (finish_ends (k ts) r e))
finish_ends (MoreProcs i ps k) r e = (NoProc, [], tt, refl, subst (λ (xs : List ProcNode). Finishes (k xs) [] r) (sym (append-nil ps)) (finish_ends (k ps) r e))

-- what ends the reading from its start is a catalogue
pub finishes_whole : (ms : List Marked) (r : Tree) → Finishes start ms r → Whole ms r
finishes_whole ms r tables =
    let procs = tables.3 in
    let end = procs.4 in
    record {
      form = record { tables = tables.0; procs = procs.0 };
      levels = procs.2;
      spells = sym (tables.2 ∙ ap (tables_before 0 tables.0) (procs.3 ∙ ap (procs_before 0 procs.0) end.0));
      is_tree = end.1;
    }
