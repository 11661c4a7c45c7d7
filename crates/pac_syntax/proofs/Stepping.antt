-- What one step of the reading does, for the parser's functions.
use Rattle.std.proofs.Common.{◌≡◌, ◌≢◌, ℕ, zero, suc, ℤ, ◌+◌, ◌<◌, ◌≤◌, Bool, true, false, Option, List, [], ◌∷◌, ◌++◌, length, Some, None, Result, Ok, Err, refl, sym, ap, ◌∙◌, arith, add-one}
use Rattle.std.specs.Prelude.{nat_eq, nat_le, nat_lt, MatchOption, if◌then◌else◌}
use Rattle.std.proofs.lemmas.Bool.{lt-ltb, le-ltb, eqb-true, le-leb, lt-leb, leb-true, leb-false, eqb-false, ltb-true, eq-eqb}
use Rattle.std.proofs.lemmas.List.{length-append}
use Rattle.pac_base.specs.Refusals.{Fails, Gives}
use Rattle.pac_value.specs.declared.values.Ty.{Ty}
use Rattle.pac_value.specs.declared.values.Value.{Value}
use Rattle.pac_value.specs.declared.values.Value.TheVariants as value
use Rattle.pac_value.specs.declared.expr.BinOp.{BinOp}
use Rattle.pac_tokens.specs.declared.token.Keyword.TheVariants as keyword
use Rattle.pac_tokens.specs.declared.token.Symbol.TheVariants as symbol
use Rattle.pac_tokens.specs.declared.token.Token.{Token}
use Rattle.pac_tokens.specs.declared.token.Token.TheVariants as token
use Rattle.pac_tokens.specs.declared.token.Spanned.{Spanned}
use Rattle.pac_tokens.specs.Literal.{int_of_minus, int_after_minus, int_or_text_from, int_or_text_in}
use Rattle.pac_tokens.specs.declared.fault.Fault.{Fault}
use Rattle.pac_tokens.specs.declared.fault.FaultKind.{FaultKind}
use Rattle.pac_tokens.specs.declared.fault.FaultKind.TheVariants.{Expected, TooDeep, TooMany}
use Rattle.pac_base.specs.declared.refusal.Refusal.{Refusal}
use Rattle.pac_base.specs.declared.refusal.Refusal.TheVariants as error
use Rattle.pac_syntax.specs.declared.limits.Around.{Around}
use Rattle.pac_syntax.specs.declared.tree.NameNode.{NameNode}
use Rattle.pac_syntax.specs.declared.tree.LiteralNode.{LiteralNode}
use Rattle.pac_syntax.specs.declared.tree.ColumnNode.{ColumnNode}
use Rattle.pac_syntax.specs.declared.tree.ExprNode.{ExprNode}
use Rattle.pac_syntax.specs.declared.tree.StmtNode.{StmtNode}
use Rattle.pac_syntax.specs.declared.tree.TableNode.{TableNode}
use Rattle.pac_syntax.specs.declared.tree.ProcNode.{ProcNode}
use Rattle.pac_syntax.specs.declared.tree.Tree.{Tree}
use Rattle.pac_syntax.specs.declared.parse.statement.StatementWord.{StatementWord}
use Rattle.pac_syntax.specs.declared.parse.statement.StatementWord.TheVariants as word
use Rattle.pac_syntax.specs.declared.parse.parser.Owner.{Owner}
use Rattle.pac_syntax.specs.declared.parse.parser.Owner.TheVariants as owner
use Rattle.pac_syntax.specs.Grammar.{Role, Plain, ParamName, precedence, in_loop, loop_turns, last_bound}
use Rattle.pac_syntax.specs.Faults.{fault_of, over_role, offset}
use Rattle.pac_syntax.specs.Machine.{Begun, Steps, Done, Want, WantName, WantType, WantLiteral, WantBound, Level, Rest, MoreValues, MoreStmts, MaybeElse, MoreColumns, SomeParams, MoreTables, MoreProcs, want_expr, next, literal_at, begun_name, begun_literal, begun_binary, top, lay, negation_steps, paren_steps, stmt_steps, stmt_role, stmt_word, block_steps, column_steps, typed_steps, table_steps, proc_steps, is_same_keyword_or_symbol, literal_begins, name_in, operand_begins, operator_at, operator_in, of_precedence, bar, feed, finish, reported, scan, Stop, run}
use Rattle.pac_syntax.specs.Views.{is_too_deep, fault_or, IsLimit, operand_in, between, rests, next_precedence, Begins, IsNot, IsNoName, IsType, IsNoType, bool_in, name_token, role_of, limit_of}

abbrev Read : Type 0
Read = Result Tree Fault

pub fails_along : {Y : Type 0} (e : Refusal Fault) (a b : Result Y Fault) → a ≡ b → Fails e b → Fails e a
fails_along error.NoMemory a b p h = tt
fails_along (error.Fault f) a b p h = p ∙ h

pub gives_along : {X Y : Type 0} (after : X → Result Y Fault) (r : Result X (Refusal Fault)) (a b : Result Y Fault) → a ≡ b → Gives after r b → Gives after r a
gives_along after (Ok x) a b p h = p ∙ h
gives_along after (Err e) a b p h = fails_along e a b p h

same_end : (end end' : ℕ) (k : Steps) (s : List Spanned) {r : Read} → end' ≡ end → r ≡ run end k s → r ≡ run end' k s
same_end end end' k s e h = h ∙ ap (λ x. run x k s) (sym e)

one_more : (n : ℕ) → n + 1 ≡ suc n
one_more n = omega arith

abbrev refused : ℕ → FaultKind → Read
refused at kind = Err (record { at = at; kind = kind })

-- ---- words, symbols, names

pub wants : (end end' : ℕ) (w : Token) (k : Steps) (s ts : List Spanned) (p : ℕ) → end' ≡ end → Begins w p s ts → run end (Want w k) s ≡ run end' k ts
unfolding run scan feed
wants end end' w k s ts p e b = rw (b.text, e, b.mark) refl

pub not_wanted : (end : ℕ) (w : Token) (k : Steps) (s : List Spanned) → IsNot w s → run end (Want w k) s ≡ refused (offset end s) Expected
unfolding run scan feed finish
not_wanted end w k [] h = refl
not_wanted end w k (t ∷ ts) h = rw h refl

pub named : (end end' : ℕ) (role : Role) (k : NameNode → Steps) (s ts : List Spanned) (n : NameNode) → end' ≡ end → over_role role n.at ≡ None → s ≡ name_token n ∷ ts → run end (WantName role k) s ≡ run end' (k n) ts
unfolding run scan feed
named end end' role k s ts n e within is = rw (is, e, within) refl

pub name_past : (end : ℕ) (role : Role) (fault : Fault) (k : NameNode → Steps) (s ts : List Spanned) (n : NameNode) → over_role role n.at ≡ Some fault → s ≡ name_token n ∷ ts → run end (WantName role k) s ≡ Err fault
unfolding run scan feed
name_past end role fault k s ts n past is = rw (is, past) refl

pub not_named : (end : ℕ) (role : Role) (k : NameNode → Steps) (s : List Spanned) → IsNoName s → run end (WantName role k) s ≡ refused (offset end s) Expected
unfolding run scan feed finish
not_named end role k [] h = refl
not_named end role k (t ∷ ts) h = rw h refl

-- ---- types

pub typed : (end end' : ℕ) (k : Ty → Steps) (s ts : List Spanned) (y : Ty) → end' ≡ end → IsType y s ts → run end (WantType k) s ≡ run end' (k y) ts
unfolding run scan feed
typed end end' k s ts y e is = rw (is.text, e, is.is) refl

pub not_typed : (end : ℕ) (k : Ty → Steps) (s : List Spanned) → IsNoType s → run end (WantType k) s ≡ refused (offset end s) Expected
unfolding run scan feed finish
not_typed end k [] h = refl
not_typed end k (t ∷ ts) h = rw h refl

-- ---- literals

-- a pair that is read, out of its option
read_is : (p q : Value × List Spanned) → ◌≡◌ {A = Option (Value × List Spanned)} (Some p) (Some q) → p ≡ q
read_is p q e = cc

-- an int or a text at the start is the literal
literal_from : (end at : ℕ) (t : Token) (k : LiteralNode → Steps) (ts rest : List Spanned) (v : Value) → int_or_text_from t ts ≡ Some (v, rest)
    → run end (WantLiteral k) (record { token = t; at = at } ∷ ts) ≡ run end (k (record { at = at; value = v })) rest
unfolding run scan feed
literal_from end at (token.Int z) k ts rest v e =
    let p = read_is (value.Int z, ts) (v, rest) e in (λ i. run end (k (record { at = at; value = (p i).0 })) ((p i).1))
literal_from end at (token.Text x) k ts rest v e =
    let p = read_is (value.Text x, ts) (v, rest) e in (λ i. run end (k (record { at = at; value = (p i).0 })) ((p i).1))
literal_from end at (token.Symbol symbol.Minus) k [] rest v e = absurd cc
literal_from end at (token.Symbol symbol.Minus) k (u ∷ us) rest v e = following u.token u.at e
  where
    following : (t : Token) (offset : ℕ) → int_of_minus t us ≡ Some (v, rest)
        → run end (WantLiteral k) (record { token = token.Symbol symbol.Minus; at = at } ∷ record { token = t; at = offset } ∷ us) ≡ run end (k (record { at = at; value = v })) rest
    following (token.Negative z) offset e =
        let p = read_is (value.Int z, us) (v, rest) e in (λ i. run end (k (record { at = at; value = (p i).0 })) ((p i).1))
    following _ offset e = absurd cc
literal_from end at _ k ts rest v e = absurd cc

pub literal_before : (end end' at : ℕ) (k : LiteralNode → Steps) (s ts rest : List Spanned) (t : Spanned) (v : Value) → end' ≡ end → s ≡ t ∷ ts → int_or_text_in s ≡ Some (v, rest) → at ≡ t.at
    → run end (WantLiteral k) s ≡ run end' (k (record { at = at; value = v })) rest
literal_before end end' at k s ts rest t v e is prefix offset = rw (is, e, offset) (literal_from end t.at t.token k ts rest v (rw is at prefix))

-- so is `true` or `false`
bool_from : (end at : ℕ) (t : Token) (k : LiteralNode → Steps) (ts : List Spanned) (b : Bool) → bool_in t ≡ Some b
    → run end (WantLiteral k) (record { token = t; at = at } ∷ ts) ≡ run end (k (record { at = at; value = value.Bool b })) ts
unfolding run scan feed
bool_from end at (token.Keyword keyword.True) k ts b e = let same : true ≡ b = cc in ap (λ c. run end (k (record { at = at; value = value.Bool c })) ts) same
bool_from end at (token.Keyword keyword.False) k ts b e = let same : false ≡ b = cc in ap (λ c. run end (k (record { at = at; value = value.Bool c })) ts) same
bool_from end at _ k ts b e = absurd cc

pub bool_prefix : (end end' at : ℕ) (k : LiteralNode → Steps) (s ts : List Spanned) (t : Spanned) (b : Bool) → end' ≡ end → s ≡ t ∷ ts → bool_in t.token ≡ Some b → at ≡ t.at
    → run end (WantLiteral k) s ≡ run end' (k (record { at = at; value = value.Bool b })) ts
bool_prefix end end' at k s ts t b e is prefix offset = rw (is, e, offset) (bool_from end t.at t.token k ts b prefix)

-- where there is none, the fault is at the first token, or after a `-`
none_from : (end at : ℕ) (t : Token) (k : LiteralNode → Steps) (ts : List Spanned) → is_same_keyword_or_symbol (token.Symbol symbol.Minus) t ≡ false → int_or_text_from t ts ≡ None → bool_in t ≡ None
    → run end (WantLiteral k) (record { token = t; at = at } ∷ ts) ≡ refused at Expected
unfolding run scan feed
none_from end at (token.Int z) k ts m i b = absurd cc
none_from end at (token.Text x) k ts m i b = absurd cc
none_from end at (token.Keyword keyword.True) k ts m i b = absurd cc
none_from end at (token.Keyword keyword.False) k ts m i b = absurd cc
none_from end at (token.Symbol symbol.Minus) k ts m i b = absurd cc
none_from end at _ k ts m i b = refl

none_after : (end at : ℕ) (k : LiteralNode → Steps) (ts : List Spanned) → int_after_minus ts ≡ None
    → run end (WantLiteral k) (record { token = token.Symbol symbol.Minus; at = at } ∷ ts) ≡ refused (offset end ts) Expected
unfolding run scan feed finish
none_after end at k [] i = refl
none_after end at k (u ∷ us) i = following u.token u.at i
  where
    following : (t : Token) (offset : ℕ) → int_of_minus t us ≡ None
        → run end (WantLiteral k) (record { token = token.Symbol symbol.Minus; at = at } ∷ record { token = t; at = offset } ∷ us) ≡ refused offset Expected
    following (token.Negative z) offset e = absurd cc
    following _ offset e = refl

pub nothing_left : (end : ℕ) (k : LiteralNode → Steps) (s : List Spanned) → s ≡ [] → run end (WantLiteral k) s ≡ refused (offset end s) Expected
unfolding run scan finish
nothing_left end k s e = rw e refl

pub no_literal : {A : Type 0} (old new : A) (left : A → List Spanned) (end : ℕ) (k : LiteralNode → Steps) (ts : List Spanned) (t : Spanned) (minus : Option ℕ) → left old ≡ t ∷ ts → int_or_text_in (left old) ≡ None → bool_in t.token ≡ None
    → MatchOption minus ((new ≡ old) × IsNot (token.Symbol symbol.Minus) (left old)) (λ at. Begins (token.Symbol symbol.Minus) at (left old) (left new))
    → run end (WantLiteral k) (left old) ≡ refused (offset end (left new)) Expected
no_literal old new left end k ts t None is none other m = rw (m.0, is) (none_from end t.at t.token k ts (rw is at m.1) (rw is at none) other)
no_literal old new left end k ts t (Some at) is none other m = rw m.text (none_after end at k (left new) (rw m.text at none))

-- ---- bounds of loops

reported_bar : (b : Option Fault) (rest : List Spanned) (r : Result Tree Stop) → reported (bar b rest r) ≡ fault_or b (reported r)
reported_bar None rest r = refl
reported_bar (Some fault) rest r = refl

abbrev an_int : ℤ → Value
an_int z = value.Int z

int_is : (y z : ℤ) → an_int y ≡ an_int z → y ≡ z
int_is y z e = cc

-- an int that is read, out of its option
int_read : (y z : ℤ) (ts rest : List Spanned) → ◌≡◌ {A = Option (Value × List Spanned)} (Some (value.Int y, ts)) (Some (value.Int z, rest)) → (y ≡ z) × (ts ≡ rest)
int_read y z ts rest e =
    let p = read_is (value.Int y, ts) (value.Int z, rest) e in
    (int_is y z (ap (λ q. q.0) p), ap (λ q. q.1) p)

-- what follows the int of a bound, unless it is over its limit
bound_read : (end : ℕ) (at : ℕ) (role : ℤ → Role) (limit : ℤ → Option Fault) (k : ℤ → Steps) (s ts rest : List Spanned) (y z : ℤ) → IsLimit role limit → y ≡ z → ts ≡ rest
    → reported (bar (over_role (role y) at) s (scan end (k y) ts)) ≡ fault_or (limit z) (run end (k z) rest)
unfolding run
bound_read end at role limit k s ts rest y z is same left = reported_bar (over_role (role y) at) s (scan end (k y) ts) ∙ rw (is y at, same, left) refl

bound_from : (end at : ℕ) (t : Token) (role : ℤ → Role) (limit : ℤ → Option Fault) (k : ℤ → Steps) (ts rest : List Spanned) (z : ℤ) → IsLimit role limit → int_or_text_from t ts ≡ Some (value.Int z, rest)
    → run end (WantBound role k) (record { token = t; at = at } ∷ ts) ≡ fault_or (limit z) (run end (k z) rest)
unfolding run scan feed
bound_from end at (token.Int y) role limit k ts rest z is e = let p = int_read y z ts rest e in bound_read end at role limit k _ ts rest y z is p.0 p.1
bound_from end at (token.Text x) role limit k ts rest z is e =
    let p = read_is (value.Text x, ts) (value.Int z, rest) e in
    let kind : ◌≡◌ {A = Value} (value.Text x) (value.Int z) = ap (λ q. q.0) p in
    absurd cc
bound_from end at (token.Symbol symbol.Minus) role limit k [] rest z is e = absurd cc
bound_from end at (token.Symbol symbol.Minus) role limit k (u ∷ us) rest z is e = following u.token u.at e
  where
    following : (t : Token) (offset : ℕ) → int_of_minus t us ≡ Some (value.Int z, rest)
        → run end (WantBound role k) (record { token = token.Symbol symbol.Minus; at = at } ∷ record { token = t; at = offset } ∷ us) ≡ fault_or (limit z) (run end (k z) rest)
    following (token.Negative y) offset e = let p = int_read y z us rest e in bound_read end offset role limit k _ us rest y z is p.0 p.1
    following _ offset e = absurd cc
bound_from end at _ role limit k ts rest z is e = absurd cc

pub bound_next : (end end' : ℕ) (role : ℤ → Role) (limit : ℤ → Option Fault) (k : ℤ → Steps) (s rest : List Spanned) (z : ℤ) → IsLimit role limit → end' ≡ end → int_or_text_in s ≡ Some (value.Int z, rest)
    → run end (WantBound role k) s ≡ fault_or (limit z) (run end' (k z) rest)
bound_next end end' role limit k [] rest z is same e = absurd cc
bound_next end end' role limit k (t ∷ ts) rest z is same e = rw same (bound_from end t.at t.token role limit k ts rest z is e)

-- a text is no bound
text_from : (end at : ℕ) (t : Token) (role : ℤ → Role) (k : ℤ → Steps) (ts rest : List Spanned) (v : Value) → ((z : ℤ) → v ≡ value.Int z → ⊥) → int_or_text_from t ts ≡ Some (v, rest)
    → run end (WantBound role k) (record { token = t; at = at } ∷ ts) ≡ refused at Expected
unfolding run scan feed
text_from end at (token.Int y) role k ts rest v none e = absurd (none y (sym (ap (λ q. q.0) (read_is (value.Int y, ts) (v, rest) e))))
text_from end at (token.Text x) role k ts rest v none e = refl
text_from end at (token.Symbol symbol.Minus) role k [] rest v none e = absurd cc
text_from end at (token.Symbol symbol.Minus) role k (u ∷ us) rest v none e = following u.token u.at e
  where
    following : (t : Token) (offset : ℕ) → int_of_minus t us ≡ Some (v, rest)
        → run end (WantBound role k) (record { token = token.Symbol symbol.Minus; at = at } ∷ record { token = t; at = offset } ∷ us) ≡ refused at Expected
    following (token.Negative y) offset e = absurd (none y (sym (ap (λ q. q.0) (read_is (value.Int y, us) (v, rest) e))))
    following _ offset e = absurd cc
text_from end at _ role k ts rest v none e = absurd cc

pub text_no_bound : (end : ℕ) (role : ℤ → Role) (k : ℤ → Steps) (s rest : List Spanned) (v : Value) → ((z : ℤ) → v ≡ value.Int z → ⊥) → int_or_text_in s ≡ Some (v, rest)
    → run end (WantBound role k) s ≡ refused (offset end s) Expected
text_no_bound end role k [] rest v none e = absurd cc
text_no_bound end role k (t ∷ ts) rest v none e = text_from end t.at t.token role k ts rest v none e

-- where there is none, the fault is at the first token, or after a `-`
no_bound_from : (end at : ℕ) (t : Token) (role : ℤ → Role) (k : ℤ → Steps) (ts : List Spanned) → is_same_keyword_or_symbol (token.Symbol symbol.Minus) t ≡ false → int_or_text_from t ts ≡ None
    → run end (WantBound role k) (record { token = t; at = at } ∷ ts) ≡ refused at Expected
unfolding run scan feed
no_bound_from end at (token.Int z) role k ts m i = absurd cc
no_bound_from end at (token.Symbol symbol.Minus) role k ts m i = absurd cc
no_bound_from end at _ role k ts m i = refl

no_bound_after : (end at : ℕ) (role : ℤ → Role) (k : ℤ → Steps) (ts : List Spanned) → int_after_minus ts ≡ None
    → run end (WantBound role k) (record { token = token.Symbol symbol.Minus; at = at } ∷ ts) ≡ refused (offset end ts) Expected
unfolding run scan feed finish
no_bound_after end at role k [] i = refl
no_bound_after end at role k (u ∷ us) i = following u.token u.at i
  where
    following : (t : Token) (offset : ℕ) → int_of_minus t us ≡ None
        → run end (WantBound role k) (record { token = token.Symbol symbol.Minus; at = at } ∷ record { token = t; at = offset } ∷ us) ≡ refused offset Expected
    following (token.Negative z) offset e = absurd cc
    following _ offset e = refl

no_bound_here : (end : ℕ) (role : ℤ → Role) (k : ℤ → Steps) (s : List Spanned) → IsNot (token.Symbol symbol.Minus) s → int_or_text_in s ≡ None → run end (WantBound role k) s ≡ refused (offset end s) Expected
unfolding run scan finish
no_bound_here end role k [] m i = refl
no_bound_here end role k (t ∷ ts) m i = no_bound_from end t.at t.token role k ts m i

pub no_bound : {A : Type 0} (old new : A) (left : A → List Spanned) (end : ℕ) (role : ℤ → Role) (k : ℤ → Steps) (minus : Option ℕ) → int_or_text_in (left old) ≡ None
    → MatchOption minus ((new ≡ old) × IsNot (token.Symbol symbol.Minus) (left old)) (λ at. Begins (token.Symbol symbol.Minus) at (left old) (left new))
    → run end (WantBound role k) (left old) ≡ refused (offset end (left new)) Expected
no_bound old new left end role k None none m = rw m.0 (no_bound_here end role k (left old) m.1 none)
no_bound old new left end role k (Some at) none m = rw m.text (no_bound_after end at role k (left new) (rw m.text at none))

-- what follows the second bound of a loop, by what stands round the loop's block
abbrev AroundBlock : Around → ℤ → ℤ → Option Around
AroundBlock d from to = if nat_lt 256 (loop_turns d from to) then None else Some (in_loop d from to)

abbrev last_limit : Around → ℕ → ℤ → ℤ → Option Fault
last_limit d loop from to = over_role (last_bound d loop from to) 0

inner_is : (d e : Around) → ◌≡◌ {A = Option Around} (Some d) (Some e) → d ≡ e
inner_is d e is = cc

pub few_turns : (d inner : Around) (loop : ℕ) (from to : ℤ) (o : Option Around) (after : Around → Read) → o ≡ AroundBlock d from to → o ≡ Some inner
    → fault_or (last_limit d loop from to) (after (in_loop d from to)) ≡ after inner
few_turns d inner loop from to o after is some = by_test (nat_lt 256 (loop_turns d from to)) refl
  where
    by_test : (b : Bool) → nat_lt 256 (loop_turns d from to) ≡ b → fault_or (last_limit d loop from to) (after (in_loop d from to)) ≡ after inner
    by_test true e = let conflict : ◌≡◌ {A = Option Around} (Some inner) None = sym some ∙ is ∙ rw e refl in absurd cc
    by_test false e = let same : in_loop d from to ≡ inner = inner_is _ _ (sym (sym some ∙ is ∙ rw e refl)) in rw e (ap after same)

pub many_turns : (d : Around) (loop : ℕ) (from to : ℤ) (o : Option Around) (r : Read) → o ≡ AroundBlock d from to → o ≡ None → fault_or (last_limit d loop from to) r ≡ refused loop TooMany
many_turns d loop from to o r is none = by_test (nat_lt 256 (loop_turns d from to)) refl
  where
    by_test : (b : Bool) → nat_lt 256 (loop_turns d from to) ≡ b → fault_or (last_limit d loop from to) r ≡ refused loop TooMany
    by_test true e = rw e refl
    by_test false e = let conflict : ◌≡◌ {A = Option Around} None (Some (in_loop d from to)) = sym none ∙ is ∙ rw e refl in absurd cc

-- ---- operands

-- a name or an int is an operand by itself
operand_is : (t : Token) (at d o : ℕ) (k : Begun → ℕ → Steps) (x : Begun) → operand_in t at ≡ Some x → operand_begins t at d o k ≡ Some (next (k x o) Plain)
operand_is (token.Name n) at d o k x e =
    let same : begun_name (record { at = at; name = n }) ≡ x = cc in
    ap (λ b. Some (next (k b o) Plain)) same
operand_is (token.Int z) at d o k x e =
    let same : begun_literal (literal_at at z) ≡ x = cc in
    ap (λ b. Some (next (k b o) Plain)) same
operand_is _ at d o k x e = absurd cc

pub operand_next : (end end' d o o' : ℕ) (k : Begun → ℕ → Steps) (s ts : List Spanned) (t : Spanned) (x : Begun) → end' ≡ end → o' ≡ o → s ≡ t ∷ ts → operand_in t.token t.at ≡ Some x → run end (Level d 0 o k) s ≡ run end' (k x o') ts
unfolding run scan feed
operand_next end end' d o o' k s ts t x e same is h = rw (is, e, same, operand_is t.token t.at d o k x h) refl

no_name_in : (t : Token) (at : ℕ) → operand_in t at ≡ None → name_in t at ≡ None
no_name_in (token.Name n) at e = absurd cc
no_name_in _ at e = refl

pub no_name_next : (s ts : List Spanned) (t : Spanned) → s ≡ t ∷ ts → operand_in t.token t.at ≡ None → IsNoName s
no_name_next s ts t is h = rw is (no_name_in t.token t.at h)

begins_literal : (t : Token) (at d o : ℕ) (k : Begun → ℕ → Steps) → is_same_keyword_or_symbol (token.Symbol symbol.Not) t ≡ false → is_same_keyword_or_symbol (token.Symbol symbol.OpenParen) t ≡ false → name_in t at ≡ None → operand_begins t at d o k ≡ literal_begins t at (λ l. k (begun_literal l) o)
begins_literal (token.Name n) at d o k a b c = absurd cc
begins_literal (token.Symbol symbol.Not) at d o k a b c = absurd cc
begins_literal (token.Symbol symbol.OpenParen) at d o k a b c = absurd cc
begins_literal _ at d o k a b c = refl

pub operand_literal : (end end' d o : ℕ) (k : Begun → ℕ → Steps) (s s' : List Spanned) → end' ≡ end → s' ≡ s → IsNot (token.Symbol symbol.Not) s → IsNot (token.Symbol symbol.OpenParen) s → IsNoName s
    → run end (Level d 0 o k) s ≡ run end' (WantLiteral (λ l. k (begun_literal l) o)) s'
unfolding run scan feed finish
operand_literal end end' d o k [] s' e same a b c = rw (e, same) refl
operand_literal end end' d o k (t ∷ ts) s' e same a b c = rw (e, same, begins_literal t.token t.at d o k a b c) refl

pub negation_next : (end end' d o o' o'' at : ℕ) (k : Begun → ℕ → Steps) (s ts ts' : List Spanned) → end' ≡ end → o' ≡ o → o'' ≡ o' + 1 → o' < 64 → ts' ≡ ts → Begins (token.Symbol symbol.Not) at s ts
    → run end (Level d 0 o k) s ≡ run end' (negation_steps at d o'' k) ts'
unfolding run scan feed
negation_next end end' d o o' o'' at k s ts ts' e same more within left b = rw (b.text, e, more, left, same, le-ltb 64 (suc o) (omega (arith, same, within)), one_more o) refl

pub negation_past : (end d o o' at : ℕ) (k : Begun → ℕ → Steps) (s ts : List Spanned) → o' ≡ o → 64 ≤ o' → Begins (token.Symbol symbol.Not) at s ts → run end (Level d 0 o k) s ≡ refused at TooMany
unfolding run scan feed
negation_past end d o o' at k s ts same past b = rw (b.text, lt-ltb 64 (suc o) (omega (arith, same, past))) refl

pub paren_next : (end end' d o o' at : ℕ) (k : Begun → ℕ → Steps) (s ts : List Spanned) → end' ≡ end → o' ≡ o → d < 16 → Begins (token.Symbol symbol.OpenParen) at s ts → run end (Level d 0 o k) s ≡ run end' (paren_steps at (d + 1) o' k) ts
unfolding run scan feed
paren_next end end' d o o' at k s ts e same within b = rw (b.text, e, same, le-ltb 16 (suc d) (omega arith), one_more d) refl

pub paren_past : (end d o at : ℕ) (k : Begun → ℕ → Steps) (s ts : List Spanned) → 16 ≤ d → Begins (token.Symbol symbol.OpenParen) at s ts → run end (Level d 0 o k) s ≡ refused at TooDeep
unfolding run scan feed
paren_past end d o at k s ts past b = rw (b.text, lt-ltb 16 (suc d) (omega arith)) refl

-- ---- levels and operators

-- the loosest of these precedences comes last
rests_open : (d n m : ℕ) (k : Begun → ℕ → Steps) → n ≤ m → rests d n (suc m) k ≡ rests d n m (λ x o. Rest d m x o k)
rests_open d n m k h = rw (le-leb n m h) refl

rests_none : (d n m : ℕ) (k : Begun → ℕ → Steps) → m < n → rests d n (suc m) k ≡ k
rests_none d n m k h = rw (lt-leb n m h) refl

lay_rests : (d n : ℕ) (k : Begun → ℕ → Steps) → lay d n k ≡ rests d 0 n k
lay_rests d zero k = refl
lay_rests d (suc n) k = lay_rests d n (λ x o. Rest d n x o k) ∙ sym (rests_open d 0 n k (omega arith))

-- a level begins with an operand
pub level_begins : (end d n o : ℕ) (k : Begun → ℕ → Steps) (s : List Spanned) → run end (Level d n o k) s ≡ run end (Level d 0 o (rests d 0 n k)) s
unfolding run scan finish feed
level_begins end d n o k [] = refl
level_begins end d n o k (t ∷ ts) = rw (lay_rests d n k) refl

-- the same of a right operand, at the precedence of its operator
pub right_begins : (end d n own o : ℕ) (k : Begun → ℕ → Steps) (s : List Spanned) → own ≡ n → run end (Level d n o k) s ≡ run end (Level d 0 o (rests d 0 own k)) s
right_begins end d n own o k s e = rw e (level_begins end d n o k s)

-- the first token is no operator of this precedence
abbrev WhereNo : ℕ → List Spanned → Type 0
WhereNo n [] = Unit {0}
WhereNo n (t ∷ ts) = operator_at n t.token ≡ None

no_rest : (end d n o : ℕ) (x : Begun) (k : Begun → ℕ → Steps) (s : List Spanned) → WhereNo n s → run end (Rest d n x o k) s ≡ run end (k x o) s
unfolding run scan feed finish
no_rest end d n o x k [] h = refl
no_rest end d n o x k (t ∷ ts) h = rw h refl

-- where no operator of these precedences comes next all these rests are passed
rests_passed : (end d n m o : ℕ) (x : Begun) (k : Begun → ℕ → Steps) (s : List Spanned) → ((i : ℕ) → n ≤ i → i < m → WhereNo i s) → run end (rests d n m k x o) s ≡ run end (k x o) s
rests_passed end d n zero o x k s none = refl
rests_passed end d n (suc m) o x k s none = go (nat_le n m) refl (rests_passed end d n m o x (λ x o. Rest d m x o k) s (λ i from below. none i from (omega (arith, below)))) where
  go : (b : Bool) → nat_le n m ≡ b → run end (rests d n m (λ x o. Rest d m x o k) x o) s ≡ run end (Rest d m x o k) s → run end (rests d n (suc m) k x o) s ≡ run end (k x o) s
  go false is past = rw (rests_none d n m k (leb-false n m is)) refl
  go true is past =
      let h : n ≤ m = leb-true n m is in
      rw (rests_open d n m k h) (past ∙ no_rest end d m o x k s (none m h (omega arith)))

-- the rests from a precedence on, where the operators that come next are of no tighter one
rests_from : (end d n m i o : ℕ) (x : Begun) (k : Begun → ℕ → Steps) (s : List Spanned) → n ≤ i → i < m → ((j : ℕ) → j < i → WhereNo j s) → run end (rests d n m k x o) s ≡ run end (Rest d i x o (rests d (suc i) m k)) s
rests_from end d n zero i o x k s from below none = absurd (omega (arith, below))
rests_from end d n (suc m) i o x k s from below none = go (nat_eq i m) refl (rests_from end d n m i o x (λ x o. Rest d m x o k) s from) where
  go : (b : Bool) → nat_eq i m ≡ b → (i < m → ((j : ℕ) → j < i → WhereNo j s) → run end (rests d n m (λ x o. Rest d m x o k) x o) s ≡ run end (Rest d i x o (rests d (suc i) m (λ x o. Rest d m x o k))) s)
      → run end (rests d n (suc m) k x o) s ≡ run end (Rest d i x o (rests d (suc i) (suc m) k)) s
  go true is past =
      let e : i ≡ m = eqb-true i m is in
      let none_left : m < suc i = omega (arith, e) in
      rw (rests_open d n m k (omega (arith, from, below)), rests_none d (suc i) m k none_left, e)
      (rests_passed end d n m o x (λ x o. Rest d m x o k) s (λ j from below. none j (omega (arith, below, e))))
  go false is past =
      let other : i ≢ m = eqb-false i m is in
      let lower : i < m = omega (arith, below, other) in
      rw (rests_open d n m k (omega (arith, from, below)), rests_open d (suc i) m k lower) (past lower none)

rests_empty : (d n m : ℕ) (k : Begun → ℕ → Steps) → m ≤ n → rests d n m k ≡ k
rests_empty d n zero k h = refl
rests_empty d n (suc m) k h = rests_none d n m k (omega (arith, h))

rests_open_first : (d n m : ℕ) (k : Begun → ℕ → Steps) → n < m → rests d n m k ≡ (λ x o. Rest d n x o (rests d (suc n) m k))
rests_open_first d n zero k below = absurd (omega (arith, below))
rests_open_first d n (suc m) k below = go (nat_eq n m) refl (rests_open_first d n m (λ x o. Rest d m x o k)) where
  go : (b : Bool) → nat_eq n m ≡ b → (n < m → rests d n m (λ x o. Rest d m x o k) ≡ (λ x o. Rest d n x o (rests d (suc n) m (λ x o. Rest d m x o k)))) → rests d n (suc m) k ≡ (λ x o. Rest d n x o (rests d (suc n) (suc m) k))
  go true is first =
      let e : n ≡ m = eqb-true n m is in
      let none_left : m < suc n = omega (arith, e) in
      rw (rests_open d n m k (omega (arith, below)), rests_none d (suc n) m k none_left, rests_empty d n m (λ x o. Rest d m x o k) (omega (arith, e)), e) refl
  go false is first =
      let other : n ≢ m = eqb-false n m is in
      let lower : n < m = omega (arith, below, other) in
      rw (rests_open d n m k (omega (arith, below)), rests_open d (suc n) m k lower) (first lower)

-- after an operator and its right operand come the rests from its precedence on, but after a comparison those of the next one
rests_after : (d n m : ℕ) (k : Begun → ℕ → Steps) → n < m → top d (n + 1) (rests d (suc n) m k) ≡ rests d (next_precedence n) m k
rests_after d zero m k below = sym (rests_open_first d 0 m k below)
rests_after d (suc zero) m k below = sym (rests_open_first d 1 m k below)
rests_after d (suc (suc zero)) m k below = refl
rests_after d (suc (suc (suc n))) m k below = rw (one_more (suc (suc (suc n)))) (sym (rests_open_first d (suc (suc (suc n))) m k below))

-- an operator of these precedences is this one
record Within (n m : ℕ) (found : Option BinOp) (op : BinOp) : Type 0 where
  is : found ≡ Some op
  from : n ≤ precedence op
  below : precedence op < m

is_within : (n m : ℕ) (found : Option BinOp) (op : BinOp) → between n m found ≡ Some op → Within n m found op
is_within n m None op e = absurd cc
is_within n m (Some p) op e = go (nat_le n (precedence p)) refl (nat_lt (precedence p) m) refl where
  go : (b : Bool) → nat_le n (precedence p) ≡ b → (c : Bool) → nat_lt (precedence p) m ≡ c → Within n m (Some p) op
  go false from c below = let none : between n m (Some p) ≡ None = rw from refl in absurd cc
  go true from false below = let none : between n m (Some p) ≡ None = rw (from, below) refl in absurd cc
  go true from true below =
      let some : between n m (Some p) ≡ Some p = rw (from, below) refl in
      let same : p ≡ op = cc in
      record { is = ap (λ q. Some q) same; from = omega (arith, leb-true n (precedence p) from, ap precedence same); below = omega (arith, ltb-true (precedence p) m below, ap precedence same) }

no_precedence : (n m : ℕ) (found : Option BinOp) → between n m found ≡ None → (i : ℕ) → n ≤ i → i < m → of_precedence i found ≡ None
no_precedence n m None e i from below = refl
no_precedence n m (Some op) e i from below = go (nat_eq (precedence op) i) refl where
  go : (b : Bool) → nat_eq (precedence op) i ≡ b → of_precedence i (Some op) ≡ None
  go false is = rw is refl
  go true is =
      let same : precedence op ≡ i = eqb-true (precedence op) i is in
      let some : between n m (Some op) ≡ Some op = rw (le-leb n (precedence op) (omega (arith, same, from)), lt-ltb (precedence op) m (omega (arith, same, below))) refl in
      absurd cc

other_precedence : (op : BinOp) (i : ℕ) → i < precedence op → of_precedence i (Some op) ≡ None
other_precedence op i h = go (nat_eq (precedence op) i) refl where
  go : (b : Bool) → nat_eq (precedence op) i ≡ b → of_precedence i (Some op) ≡ None
  go false is = rw is refl
  go true is = absurd (omega (arith, h, eqb-true (precedence op) i is))

own_precedence : (op : BinOp) → of_precedence (precedence op) (Some op) ≡ Some op
own_precedence op = rw (eq-eqb (precedence op) (precedence op) refl) refl

pub no_operator : (end d n m o : ℕ) (x : Begun) (k : Begun → ℕ → Steps) (s : List Spanned) → s ≡ [] → run end (rests d n m k x o) s ≡ run end (k x o) s
no_operator end d n m o x k s e = rests_passed end d n m o x k s (λ i _ _. rw e tt)

pub other_token : (end d n m o : ℕ) (x : Begun) (k : Begun → ℕ → Steps) (s ts : List Spanned) (t : Spanned) → s ≡ t ∷ ts → between n m (operator_in t.token) ≡ None → run end (rests d n m k x o) s ≡ run end (k x o) s
other_token end d n m o x k s ts t e h = rests_passed end d n m o x k s (λ i from below. rw e (no_precedence n m (operator_in t.token) h i from below))

operator_reached : (end d n m o : ℕ) (x : Begun) (k : Begun → ℕ → Steps) (s ts : List Spanned) (t : Spanned) (op : BinOp) → s ≡ t ∷ ts → Within n m (operator_in t.token) op → run end (rests d n m k x o) s ≡ run end (Rest d (precedence op) x o (rests d (suc (precedence op)) m k)) s
operator_reached end d n m o x k s ts t op e w = rests_from end d n m (precedence op) o x k s w.from w.below (λ j lower. rw (e, w.is) (other_precedence op j lower))

past_here : (end d n o : ℕ) (x : Begun) (k : Begun → ℕ → Steps) (s ts : List Spanned) (t : Spanned) (op : BinOp) → s ≡ t ∷ ts → operator_at n t.token ≡ Some op → 64 ≤ o → run end (Rest d n x o k) s ≡ refused t.at TooMany
unfolding run scan feed
past_here end d n o x k s ts t op e h past = rw (e, h, lt-ltb 64 (suc o) (omega arith)) refl

next_here : (end end' d n o o' : ℕ) (x : Begun) (k : Begun → ℕ → Steps) (s ts : List Spanned) (t : Spanned) (op : BinOp) → end' ≡ end → o' ≡ o + 1 → s ≡ t ∷ ts → operator_at n t.token ≡ Some op → o < 64
    → run end (Rest d n x o k) s ≡ run end' (Level d n o' (λ y o. top d (n + 1) k (begun_binary op x y) o)) ts
unfolding run scan feed
next_here end end' d n o o' x k s ts t op e more is h within = rw (is, h, e, more, le-ltb 64 (suc o) (omega arith), one_more o, one_more n) refl

pub operator_past : (end d n m o : ℕ) (x : Begun) (k : Begun → ℕ → Steps) (s ts : List Spanned) (t : Spanned) (op : BinOp) → s ≡ t ∷ ts → between n m (operator_in t.token) ≡ Some op → 64 ≤ o → run end (rests d n m k x o) s ≡ refused t.at TooMany
operator_past end d n m o x k s ts t op e h past =
    let w = is_within n m (operator_in t.token) op h in
    operator_reached end d n m o x k s ts t op e w ∙ past_here end d (precedence op) o x (rests d (suc (precedence op)) m k) s ts t op e (rw w.is (own_precedence op)) past

pub operator_next : (end end' d n m o o' : ℕ) (x : Begun) (k : Begun → ℕ → Steps) (s ts : List Spanned) (t : Spanned) (op : BinOp) → end' ≡ end → o' ≡ o + 1 → s ≡ t ∷ ts → between n m (operator_in t.token) ≡ Some op → o < 64
    → run end (rests d n m k x o) s ≡ run end' (Level d (precedence op) o' (λ y o. rests d (next_precedence (precedence op)) m k (begun_binary op x y) o)) ts
operator_next end end' d n m o o' x k s ts t op e more is h within =
    let w = is_within n m (operator_in t.token) op h in
    operator_reached end d n m o x k s ts t op is w ∙ next_here end end' d (precedence op) o o' x (rests d (suc (precedence op)) m k) s ts t op e more is (rw w.is (own_precedence op)) within
    ∙ ap (λ f. run end' (Level d (precedence op) o' (λ y o. f (begun_binary op x y) o)) ts) (rests_after d (precedence op) m k w.below)

-- ---- repetitions

no_value_here : (end : ℕ) (vs : List ExprNode) (k : List ExprNode → Steps) (s : List Spanned) → IsNot (token.Symbol symbol.Comma) s → run end (MoreValues vs k) s ≡ run end (k vs) s
unfolding run scan feed finish
no_value_here end vs k [] h = refl
no_value_here end vs k (t ∷ ts) h = rw h refl

pub no_value : (end end' : ℕ) (vs : List ExprNode) (k : List ExprNode → Steps) (s : List Spanned) → end' ≡ end → IsNot (token.Symbol symbol.Comma) s → run end (MoreValues vs k) s ≡ run end' (k vs) s
no_value end end' vs k s e h = same_end end end' (k vs) s e (no_value_here end vs k s h)

pub value_next : (end end' : ℕ) (vs : List ExprNode) (k : List ExprNode → Steps) (s ts : List Spanned) (at : ℕ) → end' ≡ end → Begins (token.Symbol symbol.Comma) at s ts
    → run end (MoreValues vs k) s ≡ run end' (want_expr (λ v. MoreValues (vs ++ (v ∷ [])) k)) ts
unfolding run scan feed
value_next end end' vs k s ts at e b = rw (b.text, e) refl

pub no_stmt_left : (end : ℕ) (d : Around) (ss : List StmtNode) (k : List StmtNode → Steps) (s : List Spanned) → s ≡ [] → run end (MoreStmts d ss k) s ≡ run end (k ss) s
unfolding run scan finish
no_stmt_left end d ss k s e = rw e refl

pub no_stmt : (end : ℕ) (d : Around) (ss : List StmtNode) (k : List StmtNode → Steps) (s ts : List Spanned) (t : Spanned) → s ≡ t ∷ ts → stmt_word t.token ≡ None → run end (MoreStmts d ss k) s ≡ run end (k ss) s
unfolding run scan feed
no_stmt end d ss k s ts t e h = rw (e, h) refl

pub stmt_next : (end : ℕ) (d : Around) (ss : List StmtNode) (k : List StmtNode → Steps) (s ts : List Spanned) (t : Spanned) (w : StatementWord) → s ≡ t ∷ ts → stmt_word t.token ≡ Some w → over_role (stmt_role d w) t.at ≡ None
    → run end (MoreStmts d ss k) s ≡ run end (stmt_steps d t.at w (λ s. MoreStmts d (ss ++ (s ∷ [])) k)) ts
unfolding run scan feed
stmt_next end d ss k s ts t w e is within = rw (e, is, within) refl

-- a statement that isn't in too many conditionals and loops, and one that is
pub role_of_word : (d : Around) (at : ℕ) (w : StatementWord) → is_too_deep d w ≡ false → over_role (stmt_role d w) at ≡ None
role_of_word d at word.If h = rw (le-ltb 16 (suc d.nested) (grind arith)) refl
role_of_word d at word.For h = rw (le-ltb 16 (suc d.nested) (grind arith)) refl
role_of_word d at _ h = refl

pub deep_role : (d : Around) (at : ℕ) (w : StatementWord) → is_too_deep d w ≡ true → over_role (stmt_role d w) at ≡ Some (fault_of TooDeep at)
deep_role d at word.If h = rw (lt-ltb 16 (suc d.nested) (grind arith)) refl
deep_role d at word.For h = rw (lt-ltb 16 (suc d.nested) (grind arith)) refl
deep_role d at _ h = absurd cc

pub stmt_past : (end : ℕ) (d : Around) (ss : List StmtNode) (k : List StmtNode → Steps) (s ts : List Spanned) (t : Spanned) (w : StatementWord) → s ≡ t ∷ ts → stmt_word t.token ≡ Some w → is_too_deep d w ≡ true → run end (MoreStmts d ss k) s ≡ refused (offset end s) TooDeep
unfolding run scan feed
stmt_past end d ss k s ts t w e is deep = rw (e, is, deep_role d t.at w deep) refl

no_else_here : (end : ℕ) (d : Around) (k : List StmtNode → Steps) (s : List Spanned) → IsNot (token.Keyword keyword.Else) s → run end (MaybeElse d k) s ≡ run end (k []) s
unfolding run scan feed finish
no_else_here end d k [] h = refl
no_else_here end d k (t ∷ ts) h = rw h refl

pub no_else : (end end' : ℕ) (d : Around) (k : List StmtNode → Steps) (s : List Spanned) → end' ≡ end → IsNot (token.Keyword keyword.Else) s → run end (MaybeElse d k) s ≡ run end' (k []) s
no_else end end' d k s e h = same_end end end' (k []) s e (no_else_here end d k s h)

pub else_next : (end end' : ℕ) (d : Around) (k : List StmtNode → Steps) (s ts : List Spanned) (at : ℕ) → end' ≡ end → Begins (token.Keyword keyword.Else) at s ts → run end (MaybeElse d k) s ≡ run end' (block_steps d k) ts
unfolding run scan feed
else_next end end' d k s ts at e b = rw (b.text, e) refl

no_column_here : (end : ℕ) (role : ℕ → Role) (i : ℕ) (cs : List ColumnNode) (k : List ColumnNode → Steps) (s : List Spanned) → IsNot (token.Symbol symbol.Comma) s → run end (MoreColumns role i cs k) s ≡ run end (k cs) s
unfolding run scan feed finish
no_column_here end role i cs k [] h = refl
no_column_here end role i cs k (t ∷ ts) h = rw h refl

pub no_column : (end end' : ℕ) (role : ℕ → Role) (i : ℕ) (cs : List ColumnNode) (k : List ColumnNode → Steps) (s : List Spanned) → end' ≡ end → IsNot (token.Symbol symbol.Comma) s → run end (MoreColumns role i cs k) s ≡ run end' (k cs) s
no_column end end' role i cs k s e h = same_end end end' (k cs) s e (no_column_here end role i cs k s h)

pub column_next : (end end' : ℕ) (role : ℕ → Role) (i n : ℕ) (cs : List ColumnNode) (k : List ColumnNode → Steps) (s ts : List Spanned) (at : ℕ) → end' ≡ end → n ≡ i → Begins (token.Symbol symbol.Comma) at s ts
    → run end (MoreColumns role i cs k) s ≡ run end' (column_steps (role (n + 1)) (λ c. MoreColumns role (i + 1) (cs ++ (c ∷ [])) k)) ts
unfolding run scan feed
column_next end end' role i n cs k s ts at e same b = rw (b.text, e, same, add-one) refl

no_params_here : (end : ℕ) (k : List ColumnNode → Steps) (s : List Spanned) → IsNoName s → run end (SomeParams k) s ≡ run end (k []) s
unfolding run scan feed finish
no_params_here end k [] h = refl
no_params_here end k (t ∷ ts) h = rw h refl

pub no_params : (end end' : ℕ) (k : List ColumnNode → Steps) (s : List Spanned) → end' ≡ end → IsNoName s → run end (SomeParams k) s ≡ run end' (k []) s
no_params end end' k s e h = same_end end end' (k []) s e (no_params_here end k s h)

pub params_next : (end end' : ℕ) (k : List ColumnNode → Steps) (s ts : List Spanned) (n : NameNode) → end' ≡ end → s ≡ name_token n ∷ ts
    → run end (SomeParams k) s ≡ run end' (typed_steps n (λ c. MoreColumns ParamName 1 (c ∷ []) k)) ts
unfolding run scan feed
params_next end end' k s ts n e is = rw (is, e) refl

no_table_here : (end : ℕ) (i : ℕ) (cs : List TableNode) (k : List TableNode → Steps) (s : List Spanned) → IsNot (token.Keyword keyword.Table) s → run end (MoreTables i cs k) s ≡ run end (k cs) s
unfolding run scan feed finish
no_table_here end i cs k [] h = refl
no_table_here end i cs k (t ∷ ts) h = rw h refl

pub no_table : (end end' : ℕ) (i : ℕ) (cs : List TableNode) (k : List TableNode → Steps) (s : List Spanned) → end' ≡ end → IsNot (token.Keyword keyword.Table) s → run end (MoreTables i cs k) s ≡ run end' (k cs) s
no_table end end' i cs k s e h = same_end end end' (k cs) s e (no_table_here end i cs k s h)

pub table_past : (end : ℕ) (i : ℕ) (cs : List TableNode) (k : List TableNode → Steps) (s ts : List Spanned) (at : ℕ) → 64 ≤ i → Begins (token.Keyword keyword.Table) at s ts → run end (MoreTables i cs k) s ≡ refused at TooMany
unfolding run scan feed
table_past end i cs k s ts at past b = rw (b.text, lt-ltb 64 (suc i) (omega arith)) refl

pub table_next : (end end' : ℕ) (i : ℕ) (cs : List TableNode) (k : List TableNode → Steps) (s ts : List Spanned) (at : ℕ) → end' ≡ end → i < 64 → Begins (token.Keyword keyword.Table) at s ts
    → run end (MoreTables i cs k) s ≡ run end' (table_steps (λ c. MoreTables (i + 1) (cs ++ (c ∷ [])) k)) ts
unfolding run scan feed
table_next end end' i cs k s ts at e within b = rw (b.text, e, le-ltb 64 (suc i) (omega arith), add-one) refl

no_proc_here : (end : ℕ) (i : ℕ) (cs : List ProcNode) (k : List ProcNode → Steps) (s : List Spanned) → IsNot (token.Keyword keyword.Proc) s → run end (MoreProcs i cs k) s ≡ run end (k cs) s
unfolding run scan feed finish
no_proc_here end i cs k [] h = refl
no_proc_here end i cs k (t ∷ ts) h = rw h refl

pub no_proc : (end end' : ℕ) (i : ℕ) (cs : List ProcNode) (k : List ProcNode → Steps) (s : List Spanned) → end' ≡ end → IsNot (token.Keyword keyword.Proc) s → run end (MoreProcs i cs k) s ≡ run end' (k cs) s
no_proc end end' i cs k s e h = same_end end end' (k cs) s e (no_proc_here end i cs k s h)

pub proc_past : (end : ℕ) (i : ℕ) (cs : List ProcNode) (k : List ProcNode → Steps) (s ts : List Spanned) (at : ℕ) → 64 ≤ i → Begins (token.Keyword keyword.Proc) at s ts → run end (MoreProcs i cs k) s ≡ refused at TooMany
unfolding run scan feed
proc_past end i cs k s ts at past b = rw (b.text, lt-ltb 64 (suc i) (omega arith)) refl

pub proc_next : (end end' : ℕ) (i : ℕ) (cs : List ProcNode) (k : List ProcNode → Steps) (s ts : List Spanned) (at : ℕ) → end' ≡ end → i < 64 → Begins (token.Keyword keyword.Proc) at s ts
    → run end (MoreProcs i cs k) s ≡ run end' (proc_steps (λ c. MoreProcs (i + 1) (cs ++ (c ∷ [])) k)) ts
unfolding run scan feed
proc_next end end' i cs k s ts at e within b = rw (b.text, e, le-ltb 64 (suc i) (omega arith), add-one) refl

-- ---- limits of columns, the end

pub role_within : (o : Owner) (n at : ℕ) → n ≤ limit_of o → over_role (role_of o n) at ≡ None
role_within owner.Table n at h = rw (le-ltb 8 n h) refl
role_within owner.Procedure n at h = rw (le-ltb 16 n h) refl

pub role_past : (o : Owner) (n at : ℕ) → limit_of o < n → over_role (role_of o n) at ≡ Some (fault_of TooMany at)
role_past owner.Table n at h = rw (lt-ltb 8 n h) refl
role_past owner.Procedure n at h = rw (lt-ltb 16 n h) refl

pub ended : (end : ℕ) (tree : Tree) (s : List Spanned) → s ≡ [] → run end (Done tree) s ≡ Ok tree
unfolding run scan finish
ended end tree s e = rw e refl

pub trailing : (end : ℕ) (tree : Tree) (s ts : List Spanned) (t : Spanned) → s ≡ t ∷ ts → run end (Done tree) s ≡ refused (offset end s) Expected
unfolding run scan feed
trailing end tree s ts t e = rw e refl

-- one more item, as a loop counts them
pub counted : {A : Type 0} (steps : ℕ → List A → Steps) (end : ℕ) (xs ys : List A) (x : A) (s : List Spanned) → ys ≡ xs ++ (x ∷ []) → run end (steps (length xs + 1) (xs ++ (x ∷ []))) s ≡ run end (steps (length ys) ys) s
counted steps end xs ys x s e =
    let len : length (xs ++ (x ∷ [])) ≡ length xs + 1 = length-append xs (x ∷ []) in
    rw (e, len) refl
