-- A symbol before what does not go on with it is the next token, and so is the `-` of a literal before its digits.
use Rattle.std.proofs.Common.{◌≡◌, ◌≤◌, ◌+◌, ◌^◌, ℕ, pos, neg_ℤ, Bool, true, false, List, [], ◌∷◌, ◌++◌, length, drop, decimal, Option, Some, Err, cond, refl, sym, ap, subst, ◌∙◌, arith, nat_eq, nat_lt, append-nil, length-append}
use Rattle.std.proofs.lemmas.Bool.{cond-false, le-ltb}
use Rattle.pac_value.specs.declared.expr.BinOp.{BinOp}
use Rattle.pac_value.specs.declared.expr.BinOp.TheVariants as op
use Rattle.pac_tokens.specs.declared.token.Symbol.{Symbol}
use Rattle.pac_tokens.specs.declared.token.Symbol.TheVariants as symbol
use Rattle.pac_tokens.specs.declared.token.Token.TheVariants as token
use Rattle.pac_tokens.specs.declared.token.Spanned.{Spanned}
use Rattle.pac_tokens.specs.declared.lexer.Before.{Before}
use Rattle.pac_tokens.specs.declared.lexer.Before.TheVariants.{Value, Other}
use Rattle.pac_tokens.specs.declared.fault.FaultKind.TheVariants as kind
use Rattle.pac_tokens.specs.declared.fault.Fault.{Fault}
use Rattle.pac_tokens.specs.Spelling.{symbol_spelling}
use Rattle.pac_tokens.specs.Tokens.{is_digit, is_name, digits_value, next_digits, is_long_minus, IsDigits, gap, after, Lexed}
use Rattle.pac_tokens.specs.Lexing.{token_at, symbol_at, first_symbol, symbol_of}
use Rattle.pac_syntax.specs.Grammar.{operator_symbol}
use Rattle.pac_print.proofs.Decimals.{decimal_is_digits, decimal_has_value}
use Rattle.pac_print.proofs.Prefixes.{spanned, Stops, found, token_first, name_stops, negative_first, digits_next}
use Rattle.pac_tokens.proofs.Spelled.{symbol_some}

-- ---- symbols

abbrev pub is_equals : ℕ → Bool
is_equals b = nat_eq 61 b

abbrev pub is_dot : ℕ → Bool
is_dot b = nat_eq 46 b

-- whether a byte makes another symbol of this one
abbrev pub lengthens : Symbol → ℕ → Bool
lengthens symbol.Dot = is_dot
lengthens _ = is_equals

-- a symbol at the start, alone and before a byte that does not lengthen it
symbol_alone : (s : Symbol) → first_symbol (symbol_spelling s) ≡ Some s
unfolding symbol_of
symbol_alone symbol.OpenParen = refl
symbol_alone symbol.CloseParen = refl
symbol_alone symbol.OpenBrace = refl
symbol_alone symbol.CloseBrace = refl
symbol_alone symbol.OpenBracket = refl
symbol_alone symbol.CloseBracket = refl
symbol_alone symbol.Comma = refl
symbol_alone symbol.Semicolon = refl
symbol_alone symbol.Dot = refl
symbol_alone symbol.Assign = refl
symbol_alone symbol.Plus = refl
symbol_alone symbol.Minus = refl
symbol_alone symbol.Star = refl
symbol_alone symbol.Slash = refl
symbol_alone symbol.Percent = refl
symbol_alone symbol.Not = refl
symbol_alone symbol.Less = refl
symbol_alone symbol.Greater = refl
symbol_alone symbol.Equal = refl
symbol_alone symbol.NotEqual = refl
symbol_alone symbol.LessEqual = refl
symbol_alone symbol.GreaterEqual = refl
symbol_alone symbol.And = refl
symbol_alone symbol.Or = refl
symbol_alone symbol.Range = refl

symbol_before : (s : Symbol) (b : ℕ) (rest : List ℕ) → lengthens s b ≡ false → first_symbol (symbol_spelling s ++ (b ∷ rest)) ≡ Some s
unfolding symbol_of
symbol_before symbol.OpenParen b rest h = refl
symbol_before symbol.CloseParen b rest h = refl
symbol_before symbol.OpenBrace b rest h = refl
symbol_before symbol.CloseBrace b rest h = refl
symbol_before symbol.OpenBracket b rest h = refl
symbol_before symbol.CloseBracket b rest h = refl
symbol_before symbol.Comma b rest h = refl
symbol_before symbol.Semicolon b rest h = refl
symbol_before symbol.Dot b rest h = rw h refl
symbol_before symbol.Assign b rest h = rw h refl
symbol_before symbol.Plus b rest h = refl
symbol_before symbol.Minus b rest h = refl
symbol_before symbol.Star b rest h = refl
symbol_before symbol.Slash b rest h = refl
symbol_before symbol.Percent b rest h = refl
symbol_before symbol.Not b rest h = rw h refl
symbol_before symbol.Less b rest h = rw h refl
symbol_before symbol.Greater b rest h = rw h refl
symbol_before symbol.Equal b rest h = refl
symbol_before symbol.NotEqual b rest h = refl
symbol_before symbol.LessEqual b rest h = refl
symbol_before symbol.GreaterEqual b rest h = refl
symbol_before symbol.And b rest h = refl
symbol_before symbol.Or b rest h = refl
symbol_before symbol.Range b rest h = refl

leading_symbol : (s : Symbol) (rest : List ℕ) → Stops (lengthens s) rest → first_symbol (symbol_spelling s ++ rest) ≡ Some s
leading_symbol s [] h = ap first_symbol (append-nil (symbol_spelling s)) ∙ symbol_alone s
leading_symbol s (b ∷ rest) h = symbol_before s b rest h

symbol_gap : (s : Symbol) (rest : List ℕ) → gap (symbol_spelling s ++ rest) ≡ 0
symbol_gap symbol.OpenParen rest = refl
symbol_gap symbol.CloseParen rest = refl
symbol_gap symbol.OpenBrace rest = refl
symbol_gap symbol.CloseBrace rest = refl
symbol_gap symbol.OpenBracket rest = refl
symbol_gap symbol.CloseBracket rest = refl
symbol_gap symbol.Comma rest = refl
symbol_gap symbol.Semicolon rest = refl
symbol_gap symbol.Dot rest = refl
symbol_gap symbol.Assign rest = refl
symbol_gap symbol.Plus rest = refl
symbol_gap symbol.Minus rest = refl
symbol_gap symbol.Star rest = refl
symbol_gap symbol.Slash rest = refl
symbol_gap symbol.Percent rest = refl
symbol_gap symbol.Not rest = refl
symbol_gap symbol.Less rest = refl
symbol_gap symbol.Greater rest = refl
symbol_gap symbol.Equal rest = refl
symbol_gap symbol.NotEqual rest = refl
symbol_gap symbol.LessEqual rest = refl
symbol_gap symbol.GreaterEqual rest = refl
symbol_gap symbol.And rest = refl
symbol_gap symbol.Or rest = refl
symbol_gap symbol.Range rest = refl

-- what a symbol is found as, by what stands before it
spelled_symbol_at : (before : Before) (s : Symbol) (rest : List ℕ) → token_at before (symbol_spelling s ++ rest) ≡ symbol_at before (first_symbol (symbol_spelling s ++ rest)) (drop 1 (symbol_spelling s ++ rest))
spelled_symbol_at before symbol.OpenParen rest = refl
spelled_symbol_at before symbol.CloseParen rest = refl
spelled_symbol_at before symbol.OpenBrace rest = refl
spelled_symbol_at before symbol.CloseBrace rest = refl
spelled_symbol_at before symbol.OpenBracket rest = refl
spelled_symbol_at before symbol.CloseBracket rest = refl
spelled_symbol_at before symbol.Comma rest = refl
spelled_symbol_at before symbol.Semicolon rest = refl
spelled_symbol_at before symbol.Dot rest = refl
spelled_symbol_at before symbol.Assign rest = refl
spelled_symbol_at before symbol.Plus rest = refl
spelled_symbol_at before symbol.Minus rest = refl
spelled_symbol_at before symbol.Star rest = refl
spelled_symbol_at before symbol.Slash rest = refl
spelled_symbol_at before symbol.Percent rest = refl
spelled_symbol_at before symbol.Not rest = refl
spelled_symbol_at before symbol.Less rest = refl
spelled_symbol_at before symbol.Greater rest = refl
spelled_symbol_at before symbol.Equal rest = refl
spelled_symbol_at before symbol.NotEqual rest = refl
spelled_symbol_at before symbol.LessEqual rest = refl
spelled_symbol_at before symbol.GreaterEqual rest = refl
spelled_symbol_at before symbol.And rest = refl
spelled_symbol_at before symbol.Or rest = refl
spelled_symbol_at before symbol.Range rest = refl

-- a symbol that stands after a value
value_symbol : (s : Symbol) (following : List ℕ) → symbol_at Value (Some s) following ≡ found (token.Symbol s) (length (symbol_spelling s))
value_symbol symbol.Minus following = refl
value_symbol s following = refl

abbrev pub is_minus : Symbol → Bool
is_minus symbol.Minus = true
is_minus _ = false

plain_symbol : (before : Before) (s : Symbol) (following : List ℕ) → is_minus s ≡ false → symbol_at before (Some s) following ≡ found (token.Symbol s) (length (symbol_spelling s))
plain_symbol before symbol.Minus following h = absurd cc
plain_symbol before s following h = refl

symbol_found : (before : Before) (at : ℕ) (s : Symbol) (rest : List ℕ) (ts : List Spanned) (f : Option Fault) → Stops (lengthens s) rest → symbol_at before (Some s) (drop 1 (symbol_spelling s ++ rest)) ≡ found (token.Symbol s) (length (symbol_spelling s))
    → Lexed (after before (token.Symbol s)) (at + length (symbol_spelling s)) rest ts f → Lexed before at (symbol_spelling s ++ rest) (spanned (token.Symbol s) at ∷ ts) f
symbol_found before at s rest ts f stops is h =
    let all : token_at before (symbol_spelling s ++ rest) ≡ found (token.Symbol s) (length (symbol_spelling s)) =
    spelled_symbol_at before s rest ∙ ap (λ o. symbol_at before o (drop 1 (symbol_spelling s ++ rest))) (leading_symbol s rest stops) ∙ is in
    token_first before at (token.Symbol s) (symbol_spelling s) rest ts f (symbol_gap s rest) (omega (arith, symbol_some s, length-append (symbol_spelling s) rest)) all h

-- a symbol other than `-`
pub symbol_first : (before : Before) (at : ℕ) (s : Symbol) (rest : List ℕ) (ts : List Spanned) (f : Option Fault) → is_minus s ≡ false → Stops (lengthens s) rest
    → Lexed (after before (token.Symbol s)) (at + length (symbol_spelling s)) rest ts f → Lexed before at (symbol_spelling s ++ rest) (spanned (token.Symbol s) at ∷ ts) f
symbol_first before at s rest ts f other stops h = symbol_found before at s rest ts f stops (plain_symbol before s (drop 1 (symbol_spelling s ++ rest)) other) h

after_operator : (op : BinOp) → after Value (token.Symbol (operator_symbol op)) ≡ Other
after_operator op.Add = refl
after_operator op.Sub = refl
after_operator op.Mul = refl
after_operator op.Div = refl
after_operator op.Rem = refl
after_operator op.Eq = refl
after_operator op.Ne = refl
after_operator op.Lt = refl
after_operator op.Le = refl
after_operator op.Gt = refl
after_operator op.Ge = refl
after_operator op.And = refl
after_operator op.Or = refl

operator_lengthens : (op : BinOp) → lengthens (operator_symbol op) ≡ is_equals
operator_lengthens op.Add = refl
operator_lengthens op.Sub = refl
operator_lengthens op.Mul = refl
operator_lengthens op.Div = refl
operator_lengthens op.Rem = refl
operator_lengthens op.Eq = refl
operator_lengthens op.Ne = refl
operator_lengthens op.Lt = refl
operator_lengthens op.Le = refl
operator_lengthens op.Gt = refl
operator_lengthens op.Ge = refl
operator_lengthens op.And = refl
operator_lengthens op.Or = refl

-- the symbol of an operator, after its left operand
pub operator_first : (at : ℕ) (op : BinOp) (rest : List ℕ) (ts : List Spanned) (f : Option Fault) → Stops is_equals rest
    → Lexed Other (at + length (symbol_spelling (operator_symbol op))) rest ts f → Lexed Value at (symbol_spelling (operator_symbol op) ++ rest) (spanned (token.Symbol (operator_symbol op)) at ∷ ts) f
operator_first at op rest ts f stops h =
    symbol_found Value at (operator_symbol op) rest ts f (subst (λ (p : ℕ → Bool). Stops p rest) (sym (operator_lengthens op)) stops) (value_symbol (operator_symbol op) (drop 1 (symbol_spelling (operator_symbol op) ++ rest)))
    (subst (λ (b : Before). Lexed b (at + length (symbol_spelling (operator_symbol op))) rest ts f) (sym (after_operator op)) h)

minus_found : (b : Bool) → b ≡ false → cond b (Err kind.TooLong) (found (token.Symbol symbol.Minus) 1) ≡ found (token.Symbol symbol.Minus) 1
minus_found b h = cond-false b (Err kind.TooLong) (found (token.Symbol symbol.Minus) 1) h

-- digits are no `=`
pub digits_open : (ds rest : List ℕ) → IsDigits ds → Stops is_equals (ds ++ rest)
digits_open [] rest digits = absurd digits
digits_open (b ∷ ds) rest digits = digit_open b digits.0
  where
    digit_open : (b : ℕ) → is_digit b ≡ true → is_equals b ≡ false
    digit_open b h = grind arith

-- a literal below zero: its `-`, and its digits
pub minus_first : (at : ℕ) (n : ℕ) (rest : List ℕ) (ts : List Spanned) (f : Option Fault) → n ≤ 2 ^ 63 → Stops is_name rest
    → Lexed Value (at + 1 + length (decimal n)) rest ts f → Lexed Other at (45 ∷ (decimal n ++ rest)) (spanned (token.Symbol symbol.Minus) at ∷ spanned (token.Negative (neg_ℤ (pos n))) (at + 1) ∷ ts) f
minus_first at n rest ts f small stops h =
    let digits : next_digits (decimal n ++ rest) ≡ decimal n = digits_next (decimal n) rest (decimal_is_digits n (omega arith)) (name_stops rest stops) in
    let short : is_long_minus Other (decimal n ++ rest) ≡ false = ap (λ ds. nat_lt (2 ^ 63) (digits_value ds)) digits ∙ ap (nat_lt (2 ^ 63)) (decimal_has_value n (omega arith)) ∙ le-ltb (2 ^ 63) n small in
    let is : symbol_at Other (Some symbol.Minus) (decimal n ++ rest) ≡ found (token.Symbol symbol.Minus) 1 = minus_found (is_long_minus Other (decimal n ++ rest)) short in
    symbol_found Other at symbol.Minus (decimal n ++ rest) (spanned (token.Negative (neg_ℤ (pos n))) (at + 1) ∷ ts) f (digits_open (decimal n) rest (decimal_is_digits n (omega arith))) is (negative_first (at + 1) n rest ts f small stops h)
