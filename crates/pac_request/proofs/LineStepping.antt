-- What one step of the reading of a line does, for the parser's functions.
use Rattle.std.proofs.Common.{◌≡◌, ℕ, Bool, true, false, cond, ltb, Option, List, [], ◌∷◌, ◌++◌, length, Some, None, Result, Ok, Err, refl, sym, ap, ◌∙◌, ◌<◌, ◌≤◌}
use Rattle.std.specs.Prelude.{MatchOption}
use Rattle.std.specs.Borrow.{Bor}
use Rattle.std.proofs.lemmas.Bool.{lt-ltb, le-ltb}
use Rattle.pac_base.specs.Refusals.{Fails, Gives}
use Rattle.pac_base.specs.declared.refusal.Refusal.{Refusal}
use Rattle.pac_base.specs.declared.refusal.Refusal.TheVariants as error
use Rattle.pac_value.specs.declared.values.Value.{Value}
use Rattle.pac_value.specs.declared.values.Value.TheVariants as value
use Rattle.pac_tokens.specs.declared.token.Keyword.TheVariants as keyword
use Rattle.pac_tokens.specs.declared.token.Symbol.{Symbol}
use Rattle.pac_tokens.specs.declared.token.Symbol.TheVariants as symbol
use Rattle.pac_tokens.specs.declared.token.Token.{Token}
use Rattle.pac_tokens.specs.declared.token.Token.TheVariants as token
use Rattle.pac_tokens.specs.declared.token.Spanned.{Spanned}
use Rattle.pac_tokens.specs.Literal.{int_of_minus, int_after_minus, int_or_text_from, int_or_text_in}
use Rattle.pac_syntax.specs.Machine.{is_same_keyword_or_symbol}
use Rattle.pac_syntax.specs.Views.{Begins, IsNot, IsNoName, bool_in, name_token}
use Rattle.pac_syntax.specs.declared.tree.NameNode.{NameNode}
use Rattle.pac_request.specs.declared.node.PlacedLiteral.{PlacedLiteral}
use Rattle.pac_request.specs.declared.fault.LineFault.{LineFault}
use Rattle.pac_request.specs.declared.fault.LineFaultKind.TheVariants.{Expected}
use Rattle.pac_request.specs.declared.node.RecordNode.{RecordNode}
use Rattle.pac_request.specs.declared.node.LineNode.{LineNode}
use Rattle.pac_request.specs.declared.node.LineNode.TheVariants as line
use Rattle.pac_request.specs.declared.node.Verb.{Verb}
use Rattle.pac_request.specs.declared.parser.RecordWord.{RecordWord}
use Rattle.pac_request.specs.LineKinds.{line_fault}
use Rattle.pac_request.specs.LineSteps.{LineSteps, LineEnds, ThisSymbol, SomeName, SomeLiteral, MoreLiterals, AllArguments, SomeRecord, MoreRecords, AnyLine, verb_in, verb_steps, record_word, record_steps, where_symbol, first_some, literal_steps, steps_after, said_at_end, fault_here, led, line_run}

abbrev Said : Type 0
Said = Result LineNode LineFault

pub fails_along : {Y : Type 0} (e : Refusal LineFault) (a b : Result Y LineFault) → a ≡ b → Fails e b → Fails e a
fails_along error.NoMemory a b p h = tt
fails_along (error.Fault f) a b p h = p ∙ h

pub gives_along : {X Y : Type 0} (after : X → Result Y LineFault) (r : Result X (Refusal LineFault)) (a b : Result Y LineFault) → a ≡ b → Gives after r b → Gives after r a
gives_along after (Ok x) a b p h = p ∙ h
gives_along after (Err e) a b p h = fails_along e a b p h

abbrev refused : ℕ → Said
refused at = Err (line_fault Expected at)

-- ---- symbols and names

pub symbol_read : (end end' : LineFault) (s : Symbol) (k : LineSteps) (ts us : List Spanned) (p : ℕ) → end' ≡ end → Begins (token.Symbol s) p ts us → line_run end (ThisSymbol s k) ts ≡ line_run end' k us
unfolding line_run steps_after
symbol_read end end' s k ts us p e b = rw (b.text, e, b.mark) refl

pub no_symbol : (end : LineFault) (s : Symbol) (k : LineSteps) (ts : List Spanned) → IsNot (token.Symbol s) ts → line_run end (ThisSymbol s k) ts ≡ Err (fault_here end ts)
unfolding line_run steps_after said_at_end
no_symbol end s k [] h = refl
no_symbol end s k (t ∷ ts) h = rw h refl

pub name_read : (end end' : LineFault) (k : NameNode → LineSteps) (ts us : List Spanned) (n : NameNode) → end' ≡ end → ts ≡ name_token n ∷ us → line_run end (SomeName k) ts ≡ line_run end' (k n) us
unfolding line_run steps_after
name_read end end' k ts us n e is = rw (is, e) refl

pub no_name : (end : LineFault) (k : NameNode → LineSteps) (ts : List Spanned) → IsNoName ts → line_run end (SomeName k) ts ≡ Err (fault_here end ts)
unfolding line_run steps_after said_at_end
no_name end k [] h = refl
no_name end k (t ∷ ts) h = rw h refl

-- ---- literals

-- a pair that is read, out of its option
read_is : (p q : Value × List Spanned) → ◌≡◌ {A = Option (Value × List Spanned)} (Some p) (Some q) → p ≡ q
read_is p q e = cc

literal_from : (end : LineFault) (at : ℕ) (t : Token) (k : PlacedLiteral → LineSteps) (ts rest : List Spanned) (v : Value) → int_or_text_from t ts ≡ Some (v, rest)
    → line_run end (SomeLiteral k) (record { token = t; at = at } ∷ ts) ≡ line_run end (k (record { at = at; value = v })) rest
unfolding line_run steps_after
literal_from end at (token.Int z) k ts rest v e =
    let p = read_is (value.Int z, ts) (v, rest) e in (λ i. line_run end (k (record { at = at; value = (p i).0 })) ((p i).1))
literal_from end at (token.Text x) k ts rest v e =
    let p = read_is (value.Text x, ts) (v, rest) e in (λ i. line_run end (k (record { at = at; value = (p i).0 })) ((p i).1))
literal_from end at (token.Symbol symbol.Minus) k [] rest v e = absurd cc
literal_from end at (token.Symbol symbol.Minus) k (u ∷ us) rest v e = following u.token u.at e
  where
    following : (t : Token) (offset : ℕ) → int_of_minus t us ≡ Some (v, rest)
        → line_run end (SomeLiteral k) (record { token = token.Symbol symbol.Minus; at = at } ∷ record { token = t; at = offset } ∷ us) ≡ line_run end (k (record { at = at; value = v })) rest
    following (token.Negative z) offset e =
        let p = read_is (value.Int z, us) (v, rest) e in (λ i. line_run end (k (record { at = at; value = (p i).0 })) ((p i).1))
    following _ offset e = absurd cc
literal_from end at _ k ts rest v e = absurd cc

pub literal_read : (end end' : LineFault) (at : ℕ) (k : PlacedLiteral → LineSteps) (s ts rest : List Spanned) (t : Spanned) (v : Value) → end' ≡ end → s ≡ t ∷ ts → int_or_text_in s ≡ Some (v, rest) → at ≡ t.at
    → line_run end (SomeLiteral k) s ≡ line_run end' (k (record { at = at; value = v })) rest
literal_read end end' at k s ts rest t v e is prefix offset = rw (is, e, offset) (literal_from end t.at t.token k ts rest v (rw is at prefix))

bool_from : (end : LineFault) (at : ℕ) (t : Token) (k : PlacedLiteral → LineSteps) (ts : List Spanned) (b : Bool) → bool_in t ≡ Some b
    → line_run end (SomeLiteral k) (record { token = t; at = at } ∷ ts) ≡ line_run end (k (record { at = at; value = value.Bool b })) ts
unfolding line_run steps_after
bool_from end at (token.Keyword keyword.True) k ts b e = let same : true ≡ b = cc in ap (λ c. line_run end (k (record { at = at; value = value.Bool c })) ts) same
bool_from end at (token.Keyword keyword.False) k ts b e = let same : false ≡ b = cc in ap (λ c. line_run end (k (record { at = at; value = value.Bool c })) ts) same
bool_from end at _ k ts b e = absurd cc

pub bool_read : (end end' : LineFault) (at : ℕ) (k : PlacedLiteral → LineSteps) (s ts : List Spanned) (t : Spanned) (b : Bool) → end' ≡ end → s ≡ t ∷ ts → bool_in t.token ≡ Some b → at ≡ t.at
    → line_run end (SomeLiteral k) s ≡ line_run end' (k (record { at = at; value = value.Bool b })) ts
bool_read end end' at k s ts t b e is prefix offset = rw (is, e, offset) (bool_from end t.at t.token k ts b prefix)

none_from : (end : LineFault) (at : ℕ) (t : Token) (k : PlacedLiteral → LineSteps) (ts : List Spanned) → is_same_keyword_or_symbol (token.Symbol symbol.Minus) t ≡ false → int_or_text_from t ts ≡ None → bool_in t ≡ None
    → line_run end (SomeLiteral k) (record { token = t; at = at } ∷ ts) ≡ refused at
unfolding line_run steps_after
none_from end at (token.Int z) k ts m i b = absurd cc
none_from end at (token.Text x) k ts m i b = absurd cc
none_from end at (token.Keyword keyword.True) k ts m i b = absurd cc
none_from end at (token.Keyword keyword.False) k ts m i b = absurd cc
none_from end at (token.Symbol symbol.Minus) k ts m i b = absurd cc
none_from end at _ k ts m i b = refl

none_after : (end : LineFault) (at : ℕ) (k : PlacedLiteral → LineSteps) (ts : List Spanned) → int_after_minus ts ≡ None
    → line_run end (SomeLiteral k) (record { token = token.Symbol symbol.Minus; at = at } ∷ ts) ≡ Err (fault_here end ts)
unfolding line_run steps_after said_at_end
none_after end at k [] i = refl
none_after end at k (u ∷ us) i = following u.token u.at i
  where
    following : (t : Token) (offset : ℕ) → int_of_minus t us ≡ None
        → line_run end (SomeLiteral k) (record { token = token.Symbol symbol.Minus; at = at } ∷ record { token = t; at = offset } ∷ us) ≡ refused offset
    following (token.Negative z) offset e = absurd cc
    following _ offset e = refl

pub no_token_left : (end : LineFault) (k : PlacedLiteral → LineSteps) (s : List Spanned) → s ≡ [] → line_run end (SomeLiteral k) s ≡ Err (fault_here end s)
unfolding line_run said_at_end
no_token_left end k s e = rw e refl

pub no_literal : {A : Type 0} (old new : A) (left : A → List Spanned) (end : LineFault) (k : PlacedLiteral → LineSteps) (ts : List Spanned) (t : Spanned) (minus : Option ℕ) → left old ≡ t ∷ ts → int_or_text_in (left old) ≡ None → bool_in t.token ≡ None
    → MatchOption minus ((new ≡ old) × IsNot (token.Symbol symbol.Minus) (left old)) (λ at. Begins (token.Symbol symbol.Minus) at (left old) (left new))
    → line_run end (SomeLiteral k) (left old) ≡ Err (fault_here end (left new))
no_literal old new left end k ts t None is none other m = rw (m.0, is) (none_from end t.at t.token k ts (rw is at m.1) (rw is at none) other)
no_literal old new left end k ts t (Some at) is none other m = rw m.text (none_after end at k (left new) (rw m.text at none))

-- ---- lists

pub comma_read : (end end' : LineFault) (ls : List PlacedLiteral) (k : List PlacedLiteral → LineSteps) (ts us : List Spanned) (p : ℕ) → end' ≡ end → Begins (token.Symbol symbol.Comma) p ts us
    → line_run end (MoreLiterals ls k) ts ≡ line_run end' (SomeLiteral (λ l. MoreLiterals (ls ++ (l ∷ [])) k)) us
unfolding line_run steps_after
comma_read end end' ls k ts us p e b = rw (b.text, e) refl

no_comma_here : (end : LineFault) (ls : List PlacedLiteral) (k : List PlacedLiteral → LineSteps) (ts : List Spanned) → IsNot (token.Symbol symbol.Comma) ts → line_run end (MoreLiterals ls k) ts ≡ line_run end (ThisSymbol symbol.CloseParen (k ls)) ts
unfolding line_run steps_after said_at_end
no_comma_here end ls k [] h = refl
no_comma_here end ls k (t ∷ ts) h = ap (λ (b : Bool). led t.at (first_some (cond b (Some (SomeLiteral (λ l. MoreLiterals (ls ++ (l ∷ [])) k))) None) (where_symbol symbol.CloseParen t.token (k ls))) (λ next. line_run end next ts)) h

pub no_comma : (end end' : LineFault) (ls : List PlacedLiteral) (k : List PlacedLiteral → LineSteps) (ts : List Spanned) → end' ≡ end → IsNot (token.Symbol symbol.Comma) ts → line_run end (MoreLiterals ls k) ts ≡ line_run end' (ThisSymbol symbol.CloseParen (k ls)) ts
no_comma end end' ls k ts e h = no_comma_here end ls k ts h ∙ ap (λ x. line_run x (ThisSymbol symbol.CloseParen (k ls)) ts) (sym e)

pub no_arguments : (end end' : LineFault) (k : List PlacedLiteral → LineSteps) (ts us : List Spanned) (p : ℕ) → end' ≡ end → Begins (token.Symbol symbol.CloseParen) p ts us → line_run end (AllArguments k) ts ≡ line_run end' (k []) us
unfolding line_run steps_after
no_arguments end end' k ts us p e b = rw (b.text, e) refl

some_arguments_here : (end : LineFault) (k : List PlacedLiteral → LineSteps) (ts : List Spanned) → IsNot (token.Symbol symbol.CloseParen) ts → line_run end (AllArguments k) ts ≡ line_run end (SomeLiteral (λ l. MoreLiterals (l ∷ []) k)) ts
unfolding line_run steps_after said_at_end
some_arguments_here end k [] h = refl
some_arguments_here end k (t ∷ ts) h = ap (λ (b : Bool). led t.at (first_some (cond b (Some (k [])) None) (literal_steps t.token t.at (λ l. MoreLiterals (l ∷ []) k))) (λ next. line_run end next ts)) h

pub some_arguments : (end end' : LineFault) (k : List PlacedLiteral → LineSteps) (ts : List Spanned) → end' ≡ end → IsNot (token.Symbol symbol.CloseParen) ts → line_run end (AllArguments k) ts ≡ line_run end' (SomeLiteral (λ l. MoreLiterals (l ∷ []) k)) ts
some_arguments end end' k ts e h = some_arguments_here end k ts h ∙ ap (λ x. line_run x (SomeLiteral (λ l. MoreLiterals (l ∷ []) k)) ts) (sym e)

-- where the closing parenthesis isn't taken, all is left as it was
pub rest_arguments : (end end' : LineFault) (k : List PlacedLiteral → LineSteps) (old new : Bor (List Spanned)) → end' ≡ end → (new ≡ old) × IsNot (token.Symbol symbol.CloseParen) old.now
    → line_run end (AllArguments k) old.now ≡ line_run end' (SomeLiteral (λ l. MoreLiterals (l ∷ []) k)) new.now
rest_arguments end end' k old new e m = rw m.0 (some_arguments end end' k old.now e m.1)

-- what is pushed stands after what was read
pub pushed : {A : Type 0} (steps : List A → LineSteps) (end : LineFault) (xs ys : List A) (x : A) (s : List Spanned) → ys ≡ xs ++ (x ∷ []) → line_run end (steps (xs ++ (x ∷ []))) s ≡ line_run end (steps ys) s
pushed steps end xs ys x s e = rw e refl

-- ---- records

pub no_record_left : (end : LineFault) (k : RecordNode → LineSteps) (ts : List Spanned) → ts ≡ [] → line_run end (SomeRecord k) ts ≡ Err (fault_here end ts)
unfolding line_run said_at_end
no_record_left end k ts e = rw e refl

pub no_record : (end : LineFault) (k : RecordNode → LineSteps) (ts us : List Spanned) (t : Spanned) → ts ≡ t ∷ us → record_word t.token ≡ None → line_run end (SomeRecord k) ts ≡ Err (fault_here end ts)
unfolding line_run steps_after
no_record end k ts us t is none = rw (is, none) refl

pub record_read : (end : LineFault) (k : RecordNode → LineSteps) (ts us : List Spanned) (t : Spanned) (w : RecordWord) → ts ≡ t ∷ us → record_word t.token ≡ Some w → line_run end (SomeRecord k) ts ≡ line_run end (record_steps k w) us
unfolding line_run steps_after
record_read end k ts us t w is some = rw (is, some) refl

pub semicolon_read : (end end' : LineFault) (rs : List RecordNode) (ts us : List Spanned) (p : ℕ) → end' ≡ end → length rs < 64 → Begins (token.Symbol symbol.Semicolon) p ts us
    → line_run end (MoreRecords rs) ts ≡ line_run end' (SomeRecord (λ r. MoreRecords (rs ++ (r ∷ [])))) us
unfolding line_run steps_after
semicolon_read end end' rs ts us p e few b = rw (b.text, e, lt-ltb _ _ few) refl

either_none : (b : Bool) (at : ℕ) (go : LineSteps → Said) → led at (cond b None None) go ≡ refused at
either_none true at go = refl
either_none false at go = refl

no_semicolon_here : (end : LineFault) (rs : List RecordNode) (ts : List Spanned) → IsNot (token.Symbol symbol.Semicolon) ts → line_run end (MoreRecords rs) ts ≡ line_run end (LineEnds (line.AdHoc rs)) ts
unfolding line_run steps_after said_at_end
no_semicolon_here end rs [] h = refl
no_semicolon_here end rs (t ∷ ts) h =
    ap (λ (b : Bool). led t.at (cond (ltb (length rs) 64) (cond b (Some (SomeRecord (λ r. MoreRecords (rs ++ (r ∷ []))))) None) None) (λ next. line_run end next ts)) h
    ∙ either_none (ltb (length rs) 64) t.at (λ next. line_run end next ts)

pub no_semicolon : (end end' : LineFault) (rs : List RecordNode) (ts : List Spanned) → end' ≡ end → IsNot (token.Symbol symbol.Semicolon) ts → line_run end (MoreRecords rs) ts ≡ line_run end' (LineEnds (line.AdHoc rs)) ts
no_semicolon end end' rs ts e h = no_semicolon_here end rs ts h ∙ ap (λ x. line_run x (LineEnds (line.AdHoc rs)) ts) (sym e)

pub all_records : (end : LineFault) (rs : List RecordNode) (ts : List Spanned) → 64 ≤ length rs → line_run end (MoreRecords rs) ts ≡ line_run end (LineEnds (line.AdHoc rs)) ts
unfolding line_run steps_after said_at_end
all_records end rs [] h = refl
all_records end rs (t ∷ ts) h = rw (le-ltb _ _ h) refl

-- ---- lines

pub empty_line : (end : LineFault) (ts : List Spanned) → ts ≡ [] → line_run end AnyLine ts ≡ Ok line.Empty
unfolding line_run said_at_end
empty_line end ts e = rw e refl

pub no_verb : (end : LineFault) (ts us : List Spanned) (t : Spanned) → ts ≡ t ∷ us → verb_in t.token ≡ None → line_run end AnyLine ts ≡ Err (fault_here end ts)
unfolding line_run steps_after
no_verb end ts us t is none = rw (is, none) refl

pub verb_read : (end : LineFault) (ts us : List Spanned) (t : Spanned) (v : Verb) → ts ≡ t ∷ us → verb_in t.token ≡ Some v → line_run end AnyLine ts ≡ line_run end (verb_steps v) us
unfolding line_run steps_after
verb_read end ts us t v is some = rw (is, some) refl

pub ended : (end : LineFault) (said : LineNode) (ts : List Spanned) → ts ≡ [] → line_run end (LineEnds said) ts ≡ Ok said
unfolding line_run said_at_end
ended end said ts e = rw e refl

pub trailing : (end : LineFault) (said : LineNode) (ts us : List Spanned) (t : Spanned) → ts ≡ t ∷ us → line_run end (LineEnds said) ts ≡ Err (fault_here end ts)
unfolding line_run steps_after
trailing end said ts us t e = rw e refl
