-- The canonical text of an expression is spelled by a derivation of it that opens no more parentheses at once.
use Rattle.std.proofs.Common.{◌≡◌, ◌≤◌, ◌<◌, ◌+◌, ◌^◌, ℕ, zero, suc, pos, negsuc, neg_ℤ, ℤ, Bool, true, false, List, [], ◌∷◌, ◌++◌, length, decimal, codes, cond, None, refl, sym, ap, subst, ◌∙◌, arith, nat_le, append_assoc, ◌||◌}
use Rattle.std.proofs.lemmas.Bool.{leb-true, leb-false}
use Rattle.pac_value.specs.declared.values.Value.TheVariants as value
use Rattle.pac_value.specs.declared.expr.BinOp.{BinOp}
use Rattle.pac_value.specs.declared.expr.BinOp.TheVariants as op
use Rattle.pac_tokens.specs.declared.token.Keyword.TheVariants as keyword
use Rattle.pac_tokens.specs.declared.token.Symbol.TheVariants as symbol
use Rattle.pac_tokens.specs.declared.lexer.Before.TheVariants.{Value, Other}
use Rattle.pac_syntax.specs.declared.tree.NameNode.{NameNode}
use Rattle.pac_syntax.specs.declared.tree.LiteralNode.{LiteralNode}
use Rattle.pac_syntax.specs.declared.tree.ExprNode.{ExprNode, Literal, Binary, Not}
use Rattle.pac_tokens.specs.Spelling.{symbol_spelling}
use Rattle.pac_value.specs.Literals.{quoted}
use Rattle.pac_tokens.specs.Tokens.{is_letter, is_name, IsWord, Lexed}
use Rattle.pac_syntax.specs.Grammar.{BoundForm, ABound, ANegativeBound, bound_value, Role, bound_before, LiteralForm, AnInt, ANegative, AText, ATrue, AFalse, ExprForm, ALiteral, AName, ANot, AParen, ABinary, operator_symbol, precedence, left_level, AtLevel, literal_node, expr_offset, expr_node, Plain, Operator, Marked, symbol_mark, counted, literal_before, expr_before, whole_before, tokens_of}
use Rattle.pac_print.specs.Canonical.{Spelled, operand_text, binary_text, expr_step, spelled, expr_text}
use Rattle.pac_value.specs.Literals.{value_text}
use Rattle.pac_print.specs.Unplaced.{unplaced_literal, unplaced_expr_step, unplaced_expr}
use Rattle.pac_print.proofs.Decimals.{decimal_is_digits}
use Rattle.pac_print.proofs.Prefixes.{Stops, space_first, keyword_first, name_first, int_first, text_first}
use Rattle.pac_syntax.proofs.NodeForms.{fold-Literal, fold-Name, fold-Binary, fold-Not}
use Rattle.pac_print.proofs.Proper.{IsProperBound, IsProperLiteral, IsProper, IsProperWhole}
use Rattle.pac_print.proofs.SymbolPrefixes.{is_equals, is_dot, minus_first, digits_open, symbol_first, operator_first}
use Rattle.pac_print.proofs.TokenFacts.{IsNameToken}

-- a byte that goes on with a token that stands before it
abbrev pub goes_on : ℕ → Bool
goes_on b = is_name b || is_equals b

pub name_end : (rest : List ℕ) → Stops goes_on rest → Stops is_name rest
name_end [] h = tt
name_end (b ∷ rest) h = neither (is_name b) (is_equals b) h
  where
    neither : (p q : Bool) → (p || q) ≡ false → p ≡ false
    neither true q e = e
    neither false q e = refl

pub symbol_end : (rest : List ℕ) → Stops goes_on rest → Stops is_equals rest
symbol_end [] h = tt
symbol_end (b ∷ rest) h = neither (is_name b) (is_equals b) h
  where
    neither : (p q : Bool) → (p || q) ≡ false → q ≡ false
    neither true q e = absurd cc
    neither false q e = e

-- a letter is no `=`
pub word_open : (n rest : List ℕ) → IsWord n → Stops is_equals (n ++ rest)
word_open [] rest word = absurd word
word_open (b ∷ n) rest word = letter b word.0
  where
    letter : (b : ℕ) → is_letter b ≡ true → is_equals b ≡ false
    letter b h = grind arith

-- and no `.`
pub word_no_dot : (n rest : List ℕ) → IsWord n → Stops is_dot (n ++ rest)
word_no_dot [] rest word = absurd word
word_no_dot (b ∷ n) rest word = letter b word.0
  where
    letter : (b : ℕ) → is_letter b ≡ true → is_dot b ≡ false
    letter b h = grind arith

-- ---- literals

-- a literal of the same value at this offset, spelled by this text
pub record PrintedLiteral (l : LiteralForm) (at : ℕ) (text : List ℕ) : Type 0 where
  pub form : LiteralForm
  pub proper : IsProperLiteral form
  pub same : unplaced_literal (literal_node form) ≡ unplaced_literal (literal_node l)
  pub next : ℕ
  pub opens : (rest : List ℕ) → Stops is_equals (text ++ rest)
  pub lexes : (ms : List Marked) (rest : List ℕ) → Stops goes_on rest → Lexed Value next rest (tokens_of ms) None → Lexed Other at (text ++ rest) (tokens_of (literal_before form ms)) None

int_literal : (p n at : ℕ) → n < 2 ^ 63 → PrintedLiteral (AnInt p (pos n)) at (decimal n)
int_literal p n at small = record {
  form = AnInt at (pos n);
  proper = (n, refl, small);
  same = refl;
  next = at + length (decimal n);
  opens = λ rest. digits_open (decimal n) rest (decimal_is_digits n (omega arith));
  lexes = λ ms rest stops h. int_first at n rest (tokens_of ms) None small (name_end rest stops) h;
}

negative_literal : (minus p n at : ℕ) → n ≤ 2 ^ 63 → PrintedLiteral (ANegative minus p (neg_ℤ (pos n))) at (value_text (value.Int (neg_ℤ (pos n))))
negative_literal minus p zero at small = record {
  form = AnInt at (pos 0);
  proper = (0, refl, omega arith);
  same = refl;
  next = at + length (decimal 0);
  opens = λ rest. digits_open (decimal 0) rest (decimal_is_digits 0 (omega arith));
  lexes = λ ms rest stops h. int_first at 0 rest (tokens_of ms) None (omega arith) (name_end rest stops) h;
}
negative_literal minus p (suc n) at small = record {
  form = ANegative at (at + 1) (negsuc n);
  proper = (suc n, refl, small);
  same = refl;
  next = at + 1 + length (decimal (suc n));
  opens = λ rest. refl;
  lexes = λ ms rest stops h. minus_first at (suc n) rest (tokens_of ms) None small (name_end rest stops) h;
}

-- a bound of the same value at this offset, spelled by this text
pub record PrintedBound (b : BoundForm) (at : ℕ) : Type 0 where
  pub form : BoundForm
  pub proper : IsProperBound form
  pub same : bound_value form ≡ bound_value b
  pub next : ℕ
  pub opens : (rest : List ℕ) → Stops is_equals (value_text (value.Int (bound_value b)) ++ rest)
  pub lexes : (role : Role) (ms : List Marked) (rest : List ℕ) → Stops is_name rest → Lexed Value next rest (tokens_of ms) None → Lexed Other at (value_text (value.Int (bound_value b)) ++ rest) (tokens_of (bound_before form role ms)) None

int_bound : (p n at : ℕ) → n < 2 ^ 63 → PrintedBound (ABound p (pos n)) at
int_bound p n at small = record {
  form = ABound at (pos n);
  proper = (n, refl, small);
  same = refl;
  next = at + length (decimal n);
  opens = λ rest. digits_open (decimal n) rest (decimal_is_digits n (omega arith));
  lexes = λ role ms rest stops h. int_first at n rest (tokens_of ms) None small stops h;
}

negative_bound : (minus p n at : ℕ) → n ≤ 2 ^ 63 → PrintedBound (ANegativeBound minus p (neg_ℤ (pos n))) at
negative_bound minus p zero at small = record {
  form = ABound at (pos 0);
  proper = (0, refl, omega arith);
  same = refl;
  next = at + length (decimal 0);
  opens = λ rest. digits_open (decimal 0) rest (decimal_is_digits 0 (omega arith));
  lexes = λ role ms rest stops h. int_first at 0 rest (tokens_of ms) None (omega arith) stops h;
}
negative_bound minus p (suc n) at small = record {
  form = ANegativeBound at (at + 1) (negsuc n);
  proper = (suc n, refl, small);
  same = refl;
  next = at + 1 + length (decimal (suc n));
  opens = λ rest. refl;
  lexes = λ role ms rest stops h. minus_first at (suc n) rest (tokens_of ms) None small stops h;
}

pub bound : (b : BoundForm) → IsProperBound b → (at : ℕ) → PrintedBound b at
bound (ABound p z) h at = subst (λ (z : ℤ). PrintedBound (ABound p z) at) (sym h.1) (int_bound p h.0 at h.2)
bound (ANegativeBound minus p z) h at = subst (λ (z : ℤ). PrintedBound (ANegativeBound minus p z) at) (sym h.1) (negative_bound minus p h.0 at h.2)

pub literal : (l : LiteralForm) → IsProperLiteral l → (at : ℕ) → PrintedLiteral l at (value_text (literal_node l).value)
literal (AnInt p z) h at = subst (λ (z : ℤ). PrintedLiteral (AnInt p z) at (value_text (value.Int z))) (sym h.1) (int_literal p h.0 at h.2)
literal (ANegative minus p z) h at = subst (λ (z : ℤ). PrintedLiteral (ANegative minus p z) at (value_text (value.Int z))) (sym h.1) (negative_literal minus p h.0 at h.2)
literal (AText p x) h at = record {
  form = AText at x;
  proper = h;
  same = refl;
  next = at + length (quoted x);
  opens = λ rest. refl;
  lexes = λ ms rest stops k. text_first Other at x rest (tokens_of ms) None h.0 h.1 k;
}
literal (ATrue p) h at = record {
  form = ATrue at;
  proper = tt;
  same = refl;
  next = at + 4;
  opens = λ rest. refl;
  lexes = λ ms rest stops k. keyword_first Other at keyword.True rest (tokens_of ms) None (name_end rest stops) k;
}
literal (AFalse p) h at = record {
  form = AFalse at;
  proper = tt;
  same = refl;
  next = at + 5;
  opens = λ rest. refl;
  lexes = λ ms rest stops k. keyword_first Other at keyword.False rest (tokens_of ms) None (name_end rest stops) k;
}

-- ---- expressions

-- The same expression at this offset, spelled by this text: of a level, and proper in that many parentheses.
pub record Printed (e : ExprForm) (d n at : ℕ) (text : List ℕ) : Type 0 where
  pub form : ExprForm
  pub level : AtLevel n form
  pub proper : IsProper d form
  pub same : unplaced_expr (expr_node form) ≡ unplaced_expr (expr_node e)
  pub counts : (o : ℕ) → counted o form ≡ counted o e
  pub next : ℕ
  pub opens : (rest : List ℕ) → Stops is_equals (text ++ rest)
  pub lexes : (c o : ℕ) (ms : List Marked) (rest : List ℕ) → Stops goes_on rest → Lexed Value next rest (tokens_of ms) None → Lexed Other at (text ++ rest) (tokens_of (expr_before c o form ms)) None

abbrev spelling : ExprForm → Spelled
spelling e = spelled (expr_node e)

-- in an expression's own parentheses there is room for those that its text may need
abbrev room : ℕ → ExprForm → ℕ
room d (AParen opening e closing) = suc d
room d _ = d

room_grows : (d : ℕ) (e : ExprForm) → d ≤ room d e
room_grows d (AParen opening e closing) = omega arith
room_grows d (ALiteral l) = omega arith
room_grows d (AName n) = omega arith
room_grows d (ANot at e) = omega arith
room_grows d (ABinary op at l r) = omega arith

-- an expression without parentheses round it
abbrev Bare : ExprForm → ℕ → ℕ → Type 0
Bare e d at = Printed e (room d e) (spelling e).level at (spelling e).text

-- what stands in a level stands in a looser one
looser : (e : ExprForm) (m n : ℕ) → m ≤ n → AtLevel m e → AtLevel n e
looser (ALiteral l) m n le h = tt
looser (AName x) m n le h = tt
looser (ANot at e) m n le h = h
looser (AParen opening e closing) m n le h = h
looser (ABinary op at l r) m n le h = (omega (arith, h.0), h.1, h.2)

-- what is proper in more parentheses is so in fewer
shallower : (e : ExprForm) (c d : ℕ) → c ≤ d → IsProper d e → IsProper c e
shallower (ALiteral l) c d le h = h
shallower (AName x) c d le h = h
shallower (ANot at e) c d le h = shallower e c d le h
shallower (AParen opening e closing) c d le h = (omega (arith, h.0), shallower e (suc c) (suc d) (omega arith) h.1)
shallower (ABinary op at l r) c d le h = (shallower l c d le h.0, shallower r c d le h.1)

precedence_most : (op : BinOp) → precedence op ≤ 4
precedence_most op.Mul = omega arith
precedence_most op.Div = omega arith
precedence_most op.Rem = omega arith
precedence_most op.Add = omega arith
precedence_most op.Sub = omega arith
precedence_most op.Eq = omega arith
precedence_most op.Ne = omega arith
precedence_most op.Lt = omega arith
precedence_most op.Le = omega arith
precedence_most op.Gt = omega arith
precedence_most op.Ge = omega arith
precedence_most op.And = omega arith
precedence_most op.Or = omega arith

level_is : (e : ExprForm) (s : Spelled) → spelling e ≡ s → (spelling e).level ≡ s.level
level_is e s h = ap (λ x. x.level) h

abbrev binary_spelling : BinOp → ExprForm → ExprForm → Spelled
binary_spelling op l r = record { level = suc (precedence op); text = binary_text op (spelling l) (spelling r) }

abbrev not_spelling : ExprForm → Spelled
not_spelling e = record { level = 0; text = codes "!" ++ operand_text 0 (spelling e) }

literal_is : (l : LiteralForm) → spelling (ALiteral l) ≡ record { level = 0; text = value_text (literal_node l).value }
literal_is l = fold-Literal Spelled expr_step (literal_node l)

not_is : (at : ℕ) (e : ExprForm) → spelling (ANot at e) ≡ not_spelling e
not_is at e = fold-Not Spelled expr_step at (expr_node e)

binary_is : (op : BinOp) (at : ℕ) (l r : ExprForm) → spelling (ABinary op at l r) ≡ binary_spelling op l r
binary_is op at l r = fold-Binary Spelled expr_step (expr_offset l) op (expr_node l) (expr_node r)

-- no level is looser than the last
level_most : (e : ExprForm) → (spelling e).level ≤ 5
level_most (ALiteral l) = omega (arith, level_is (ALiteral l) _ (literal_is l))
level_most (AName x) = omega (arith, level_is (AName x) _ (fold-Name Spelled expr_step x))
level_most (ANot at e) = omega (arith, level_is (ANot at e) (not_spelling e) (not_is at e))
level_most (AParen opening e closing) = level_most e
level_most (ABinary op at l r) = omega (arith, level_is (ABinary op at l r) (binary_spelling op l r) (binary_is op at l r), precedence_most op)

-- an operand that is too loose for its position stood in parentheses
record Enclosed (e : ExprForm) (d : ℕ) : Type 0 where
  is : room d e ≡ suc d
  few : suc d ≤ 16

enclosed : (e : ExprForm) (n d : ℕ) → AtLevel n e → IsProper d e → nat_le (spelling e).level n ≡ false → Enclosed e d
enclosed (ALiteral l) n d lv p e = absurd (omega (arith, leb-false (spelling (ALiteral l)).level n e, level_is (ALiteral l) _ (literal_is l)))
enclosed (AName x) n d lv p e = absurd (omega (arith, leb-false (spelling (AName x)).level n e, level_is (AName x) _ (fold-Name Spelled expr_step x)))
enclosed (ANot at x) n d lv p e = absurd (omega (arith, leb-false (spelling (ANot at x)).level n e, level_is (ANot at x) (not_spelling x) (not_is at x)))
enclosed (AParen opening x closing) n d lv p e = record { is = refl; few = p.0 }
enclosed (ABinary op at l r) n d lv p e = absurd (omega (arith, leb-false (spelling (ABinary op at l r)).level n e, level_is (ABinary op at l r) (binary_spelling op l r) (binary_is op at l r), lv.0))

in_parens : (e : ExprForm) (n d at : ℕ) (level : ℕ) (text : List ℕ) → level ≤ 5 → Enclosed e d → Printed e (room d e) level (at + 1) text → Printed e d n at (codes "(" ++ text ++ codes ")")
in_parens e n d at level text le k w = record {
  form = AParen at w.form w.next;
  level = looser w.form level 5 le w.level;
  proper = (k.few, subst (λ (c : ℕ). IsProper c w.form) k.is w.proper);
  same = w.same;
  counts = w.counts;
  next = w.next + 1;
  opens = λ rest. refl;
  lexes = λ c o ms rest stops h. subst (λ (x : List ℕ). Lexed Other at (40 ∷ x) (tokens_of (expr_before c o (AParen at w.form w.next) ms)) None) (sym (append_assoc text (41 ∷ []) rest))
      (symbol_first Other at symbol.OpenParen (text ++ (41 ∷ rest)) (tokens_of (expr_before (suc c) o w.form (symbol_mark symbol.CloseParen w.next Plain ∷ ms))) None refl (w.opens (41 ∷ rest))
      (w.lexes (suc c) o (symbol_mark symbol.CloseParen w.next Plain ∷ ms) (41 ∷ rest) refl (symbol_first Value w.next symbol.CloseParen rest (tokens_of ms) None refl (symbol_end rest stops) h)));
}

as_it_is : (e : ExprForm) (n d at : ℕ) (level : ℕ) (text : List ℕ) → level ≤ n → Printed e (room d e) level at text → Printed e d n at text
as_it_is e n d at level text le w = record {
  form = w.form;
  level = looser w.form level n le w.level;
  proper = shallower w.form d (room d e) (room_grows d e) w.proper;
  same = w.same;
  counts = w.counts;
  next = w.next;
  opens = w.opens;
  lexes = w.lexes;
}

-- an operand, in parentheses where its position needs them
operand : (e : ExprForm) (n d at : ℕ) → AtLevel n e → IsProper d e → ((at : ℕ) → Bare e d at) → Printed e d n at (operand_text n (spelling e))
operand e n d at lv p bare = by_test (nat_le (spelling e).level n) refl
  where
    by_test : (b : Bool) → nat_le (spelling e).level n ≡ b → Printed e d n at (cond b (spelling e).text (codes "(" ++ (spelling e).text ++ codes ")"))
    by_test true is = as_it_is e n d at (spelling e).level (spelling e).text (leb-true (spelling e).level n is) (bare at)
    by_test false is = in_parens e n d at (spelling e).level (spelling e).text (level_most e) (enclosed e n d lv p is) (bare (at + 1))

as_spelled : (e : ExprForm) (d at : ℕ) (s : Spelled) → spelling e ≡ s → Printed e d s.level at s.text → Printed e d (spelling e).level at (spelling e).text
as_spelled e d at s is w = subst (λ (s : Spelled). Printed e d s.level at s.text) (sym is) w

bare_literal : (l : LiteralForm) (d at : ℕ) (text : List ℕ) → PrintedLiteral l at text → Printed (ALiteral l) d 0 at text
bare_literal l d at text w = record {
  form = ALiteral w.form;
  level = tt;
  proper = w.proper;
  same = fold-Literal ExprNode unplaced_expr_step (literal_node w.form) ∙ ap (λ (x : LiteralNode). Literal x) w.same ∙ sym (fold-Literal ExprNode unplaced_expr_step (literal_node l));
  counts = λ o. refl;
  next = w.next;
  opens = w.opens;
  lexes = λ c o ms rest. w.lexes ms rest;
}

bare_name : (x : NameNode) (d at : ℕ) → IsNameToken x.name → Printed (AName x) d 0 at x.name
bare_name x d at p = record {
  form = AName (record { at = at; name = x.name });
  level = tt;
  proper = p;
  same = fold-Name ExprNode unplaced_expr_step (record { at = at; name = x.name }) ∙ sym (fold-Name ExprNode unplaced_expr_step x);
  counts = λ o. refl;
  next = at + length x.name;
  opens = λ rest. word_open x.name rest p.0;
  lexes = λ c o ms rest stops h. name_first Other at x.name rest (tokens_of ms) None p.0 p.1 p.2 (name_end rest stops) h;
}

bare_not : (q : ℕ) (e : ExprForm) (d at : ℕ) (text : List ℕ) → Printed e d 0 (at + 1) text → Printed (ANot q e) d 0 at (codes "!" ++ text)
bare_not q e d at text w = record {
  form = ANot at w.form;
  level = w.level;
  proper = w.proper;
  same = fold-Not ExprNode unplaced_expr_step at (expr_node w.form) ∙ ap (λ (x : ExprNode). Not 0 x) w.same ∙ sym (fold-Not ExprNode unplaced_expr_step q (expr_node e));
  counts = λ o. w.counts (suc o);
  next = w.next;
  opens = λ rest. refl;
  lexes = λ c o ms rest stops h. symbol_first Other at symbol.Not (text ++ rest) (tokens_of (expr_before c (suc o) w.form ms)) None refl (w.opens rest) (w.lexes c (suc o) ms rest stops h);
}

apart : (l sign r rest : List ℕ) → (l ++ codes " " ++ sign ++ codes " " ++ r) ++ rest ≡ l ++ (32 ∷ (sign ++ (32 ∷ (r ++ rest))))
apart l sign r rest = simp append_assoc

bare_binary : (op : BinOp) (q : ℕ) (l r : ExprForm) (d at : ℕ) (before after : List ℕ) → (w : Printed l d (left_level (precedence op)) at before) → Printed r d (precedence op) (w.next + 1 + length (symbol_spelling (operator_symbol op)) + 1) after
    → Printed (ABinary op q l r) d (suc (precedence op)) at (before ++ codes " " ++ symbol_spelling (operator_symbol op) ++ codes " " ++ after)
bare_binary op q l r d at before after w v = record {
  form = ABinary op (w.next + 1) w.form v.form;
  level = (omega arith, w.level, v.level);
  proper = (w.proper, v.proper);
  same = fold-Binary ExprNode unplaced_expr_step (expr_offset w.form) op (expr_node w.form) (expr_node v.form)
      ∙ ap (λ (x : ExprNode). Binary 0 op x (unplaced_expr (expr_node v.form))) w.same ∙ ap (λ (x : ExprNode). Binary 0 op (unplaced_expr (expr_node l)) x) v.same
      ∙ sym (fold-Binary ExprNode unplaced_expr_step (expr_offset l) op (expr_node l) (expr_node r));
  counts = λ o. ap (λ (k : ℕ). counted (suc k) v.form) (w.counts o) ∙ v.counts (suc (counted o l));
  next = v.next;
  opens = λ rest. subst (λ (x : List ℕ). Stops is_equals x) (sym (apart before (symbol_spelling (operator_symbol op)) after rest)) (w.opens (32 ∷ (symbol_spelling (operator_symbol op) ++ (32 ∷ (after ++ rest)))));
  lexes = λ c o ms rest stops h.
      let right = expr_before c (suc (counted o w.form)) v.form ms in
      let sign = symbol_mark (operator_symbol op) (w.next + 1) (Operator (suc (counted o w.form))) in
      subst (λ (x : List ℕ). Lexed Other at x (tokens_of (expr_before c o (ABinary op (w.next + 1) w.form v.form) ms)) None) (sym (apart before (symbol_spelling (operator_symbol op)) after rest))
      (w.lexes c o (sign ∷ right) (32 ∷ (symbol_spelling (operator_symbol op) ++ (32 ∷ (after ++ rest)))) refl
      (space_first Value w.next (symbol_spelling (operator_symbol op) ++ (32 ∷ (after ++ rest))) (tokens_of (sign ∷ right)) None
      (operator_first (w.next + 1) op (32 ∷ (after ++ rest)) (tokens_of right) None refl
      (space_first Other (w.next + 1 + length (symbol_spelling (operator_symbol op))) (after ++ rest) (tokens_of right) None
      (v.lexes c (suc (counted o w.form)) ms rest stops h)))));
}

bare : (e : ExprForm) (n d at : ℕ) → AtLevel n e → IsProper d e → Bare e d at
bare (ALiteral l) n d at lv p = as_spelled (ALiteral l) d at _ (literal_is l) (bare_literal l d at (value_text (literal_node l).value) (literal l p at))
bare (AName x) n d at lv p = as_spelled (AName x) d at _ (fold-Name Spelled expr_step x) (bare_name x d at p)
bare (ANot q e) n d at lv p = as_spelled (ANot q e) d at (not_spelling e) (not_is q e) (bare_not q e d at (operand_text 0 (spelling e)) (operand e 0 d (at + 1) lv p (λ at. bare e 0 d at lv p)))
bare (AParen opening e closing) n d at lv p =
    let w = bare e 5 (suc d) at lv p.1 in
    record { form = w.form; level = w.level; proper = shallower w.form (suc d) (room (suc d) e) (room_grows (suc d) e) w.proper; same = w.same; counts = w.counts; next = w.next; opens = w.opens; lexes = w.lexes }
bare (ABinary op q l r) n d at lv p =
    let w = operand l (left_level (precedence op)) d at lv.1 p.0 (λ at. bare l (left_level (precedence op)) d at lv.1 p.0) in
    as_spelled (ABinary op q l r) d at (binary_spelling op l r) (binary_is op q l r)
    (bare_binary op q l r d at (operand_text (left_level (precedence op)) (spelling l)) (operand_text (precedence op) (spelling r)) w
    (operand r (precedence op) d (w.next + 1 + length (symbol_spelling (operator_symbol op)) + 1) lv.2 p.1 (λ at. bare r (precedence op) d at lv.2 p.1)))

-- the same whole expression at this offset, spelled by its canonical text
pub record PrintedWhole (e : ExprForm) (at : ℕ) : Type 0 where
  pub form : ExprForm
  pub proper : IsProperWhole form
  pub same : unplaced_expr (expr_node form) ≡ unplaced_expr (expr_node e)
  pub next : ℕ
  pub opens : (rest : List ℕ) → Stops is_equals (expr_text (expr_node e) ++ rest)
  pub lexes : (ms : List Marked) (rest : List ℕ) → Stops goes_on rest → Lexed Value next rest (tokens_of ms) None → Lexed Other at (expr_text (expr_node e) ++ rest) (tokens_of (whole_before form ms)) None

pub whole : (e : ExprForm) → IsProperWhole e → (at : ℕ) → PrintedWhole e at
whole e p at =
    let w = as_it_is e 5 0 at (spelling e).level (spelling e).text (level_most e) (bare e 5 0 at p.levels p.parts) in
    record { form = w.form; proper = record { levels = w.level; parts = w.proper; few = omega (arith, w.counts 0, p.few) }; same = w.same; next = w.next; opens = w.opens; lexes = w.lexes 0 0 }
