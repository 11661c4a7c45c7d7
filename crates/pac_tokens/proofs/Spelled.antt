-- What spells a token: by its first byte, and of one token at most.
use Rattle.std.proofs.Common.{◌≡◌, ◌≤◌, ℕ, Bool, true, false, List, [], ◌∷◌, length, Option, Some, None, find, cond, refl, sym, ap, ◌∙◌, arith, nat_eq, if◌then◌else◌, ◌&&◌}
use Rattle.std.specs.List.{list_all}
use Rattle.std.specs.Cmp.Lexicographic.{pointwise}
use Rattle.std.proofs.lemmas.Bool.{eqb-true}
use Rattle.pac_value.specs.Texts.{is_printable}
use Rattle.pac_tokens.specs.declared.token.Keyword.{Keyword}
use Rattle.pac_tokens.specs.declared.token.Keyword.TheVariants as keyword
use Rattle.pac_tokens.specs.declared.token.Symbol.{Symbol}
use Rattle.pac_tokens.specs.declared.token.Symbol.TheVariants as symbol
use Rattle.pac_tokens.specs.declared.token.Token.{Token}
use Rattle.pac_tokens.specs.declared.token.Token.TheVariants as token
use Rattle.pac_tokens.specs.declared.token.TheConstants.{KEYWORDS, SYMBOLS}
use Rattle.pac_tokens.specs.declared.lexer.Before.{Before}
use Rattle.pac_tokens.specs.Spelling.{keyword_spelling, symbol_spelling}
use Rattle.pac_value.specs.Literals.{quoted}
use Rattle.pac_tokens.specs.Tokens.{is_letter, is_digit, is_name, is_literal_minus, IsWord, IsDigits, keyword_of, Spells}
use Rattle.pac_tokens.specs.Lexing.{symbol_of}
use Rattle.pac_tokens.proofs.Quoted.{quoted_once}

-- ---- bytes that are found among spellings

pub same_bytes : (a b : List ℕ) → pointwise nat_eq a b ≡ true → a ≡ b
same_bytes [] [] h = refl
same_bytes [] (y ∷ ys) h = absurd cc
same_bytes (x ∷ xs) [] h = absurd cc
same_bytes (x ∷ xs) (y ∷ ys) h = by_heads (nat_eq x y) refl (same_bytes xs ys) h
  where
    by_heads : (t : Bool) → nat_eq x y ≡ t → (pointwise nat_eq xs ys ≡ true → xs ≡ ys) → (t && pointwise nat_eq xs ys) ≡ true → x ∷ xs ≡ y ∷ ys
    by_heads false is more h = absurd cc
    by_heads true is more h = rw (eqb-true x y is, more h) refl

pub some_is : {A : Type 0} (x y : A) → ◌≡◌ {A = Option A} (Some x) (Some y) → x ≡ y
some_is x y e = cc

found_passes : {A : Type 0} (p : A → Bool) (xs : List A) (x : A) → find p xs ≡ Some x → p x ≡ true
found_passes p [] x h = absurd cc
found_passes {A = A} p (y ∷ ys) x h = by_test (p y) refl (found_passes p ys x) h
  where
    by_test : (t : Bool) → p y ≡ t → (find p ys ≡ Some x → p x ≡ true) → cond t (Some y) (find p ys) ≡ Some x → p x ≡ true
    by_test true is more h = ap p (sym (some_is {A = A} y x h)) ∙ is
    by_test false is more h = more h

pub keyword_is : (w : List ℕ) (k : Keyword) → keyword_of w ≡ Some k → w ≡ keyword_spelling k
unfolding keyword_of
keyword_is w k h = sym (same_bytes (keyword_spelling k) w (found_passes (λ k. pointwise nat_eq (keyword_spelling k) w) KEYWORDS k h))

pub symbol_is : (w : List ℕ) (s : Symbol) → symbol_of w ≡ Some s → w ≡ symbol_spelling s
unfolding symbol_of
symbol_is w s h = sym (same_bytes (symbol_spelling s) w (found_passes (λ s. pointwise nat_eq (symbol_spelling s) w) SYMBOLS s h))

pub keyword_found : (k : Keyword) → keyword_of (keyword_spelling k) ≡ Some k
unfolding keyword_of
keyword_found keyword.Table = refl
keyword_found keyword.Proc = refl
keyword_found keyword.Key = refl
keyword_found keyword.Int = refl
keyword_found keyword.Text = refl
keyword_found keyword.Let = refl
keyword_found keyword.Read = refl
keyword_found keyword.Has = refl
keyword_found keyword.Put = refl
keyword_found keyword.Set = refl
keyword_found keyword.Delete = refl
keyword_found keyword.Abort = refl
keyword_found keyword.If = refl
keyword_found keyword.Else = refl
keyword_found keyword.Default = refl
keyword_found keyword.True = refl
keyword_found keyword.False = refl
keyword_found keyword.For = refl
keyword_found keyword.In = refl

pub symbol_found : (s : Symbol) → symbol_of (symbol_spelling s) ≡ Some s
unfolding symbol_of
symbol_found symbol.OpenParen = refl
symbol_found symbol.CloseParen = refl
symbol_found symbol.OpenBrace = refl
symbol_found symbol.CloseBrace = refl
symbol_found symbol.OpenBracket = refl
symbol_found symbol.CloseBracket = refl
symbol_found symbol.Comma = refl
symbol_found symbol.Semicolon = refl
symbol_found symbol.Dot = refl
symbol_found symbol.Assign = refl
symbol_found symbol.Plus = refl
symbol_found symbol.Minus = refl
symbol_found symbol.Star = refl
symbol_found symbol.Slash = refl
symbol_found symbol.Percent = refl
symbol_found symbol.Not = refl
symbol_found symbol.Less = refl
symbol_found symbol.Greater = refl
symbol_found symbol.Equal = refl
symbol_found symbol.NotEqual = refl
symbol_found symbol.LessEqual = refl
symbol_found symbol.GreaterEqual = refl
symbol_found symbol.And = refl
symbol_found symbol.Or = refl
symbol_found symbol.Range = refl

pub keyword_short : (k : Keyword) → length (keyword_spelling k) ≤ 32
keyword_short keyword.Table = omega arith
keyword_short keyword.Proc = omega arith
keyword_short keyword.Key = omega arith
keyword_short keyword.Int = omega arith
keyword_short keyword.Text = omega arith
keyword_short keyword.Let = omega arith
keyword_short keyword.Read = omega arith
keyword_short keyword.Has = omega arith
keyword_short keyword.Put = omega arith
keyword_short keyword.Set = omega arith
keyword_short keyword.Delete = omega arith
keyword_short keyword.Abort = omega arith
keyword_short keyword.If = omega arith
keyword_short keyword.Else = omega arith
keyword_short keyword.Default = omega arith
keyword_short keyword.True = omega arith
keyword_short keyword.False = omega arith
keyword_short keyword.For = omega arith
keyword_short keyword.In = omega arith

pub keyword_names : (k : Keyword) → list_all is_name (keyword_spelling k) ≡ true
keyword_names keyword.Table = refl
keyword_names keyword.Proc = refl
keyword_names keyword.Key = refl
keyword_names keyword.Int = refl
keyword_names keyword.Text = refl
keyword_names keyword.Let = refl
keyword_names keyword.Read = refl
keyword_names keyword.Has = refl
keyword_names keyword.Put = refl
keyword_names keyword.Set = refl
keyword_names keyword.Delete = refl
keyword_names keyword.Abort = refl
keyword_names keyword.If = refl
keyword_names keyword.Else = refl
keyword_names keyword.Default = refl
keyword_names keyword.True = refl
keyword_names keyword.False = refl
keyword_names keyword.For = refl
keyword_names keyword.In = refl

pub symbol_some : (s : Symbol) → 1 ≤ length (symbol_spelling s)
symbol_some symbol.OpenParen = omega arith
symbol_some symbol.CloseParen = omega arith
symbol_some symbol.OpenBrace = omega arith
symbol_some symbol.CloseBrace = omega arith
symbol_some symbol.OpenBracket = omega arith
symbol_some symbol.CloseBracket = omega arith
symbol_some symbol.Comma = omega arith
symbol_some symbol.Semicolon = omega arith
symbol_some symbol.Dot = omega arith
symbol_some symbol.Assign = omega arith
symbol_some symbol.Plus = omega arith
symbol_some symbol.Minus = omega arith
symbol_some symbol.Star = omega arith
symbol_some symbol.Slash = omega arith
symbol_some symbol.Percent = omega arith
symbol_some symbol.Not = omega arith
symbol_some symbol.Less = omega arith
symbol_some symbol.Greater = omega arith
symbol_some symbol.Equal = omega arith
symbol_some symbol.NotEqual = omega arith
symbol_some symbol.LessEqual = omega arith
symbol_some symbol.GreaterEqual = omega arith
symbol_some symbol.And = omega arith
symbol_some symbol.Or = omega arith
symbol_some symbol.Range = omega arith

pub symbol_short : (s : Symbol) → length (symbol_spelling s) ≤ 2
symbol_short symbol.OpenParen = omega arith
symbol_short symbol.CloseParen = omega arith
symbol_short symbol.OpenBrace = omega arith
symbol_short symbol.CloseBrace = omega arith
symbol_short symbol.OpenBracket = omega arith
symbol_short symbol.CloseBracket = omega arith
symbol_short symbol.Comma = omega arith
symbol_short symbol.Semicolon = omega arith
symbol_short symbol.Dot = omega arith
symbol_short symbol.Assign = omega arith
symbol_short symbol.Plus = omega arith
symbol_short symbol.Minus = omega arith
symbol_short symbol.Star = omega arith
symbol_short symbol.Slash = omega arith
symbol_short symbol.Percent = omega arith
symbol_short symbol.Not = omega arith
symbol_short symbol.Less = omega arith
symbol_short symbol.Greater = omega arith
symbol_short symbol.Equal = omega arith
symbol_short symbol.NotEqual = omega arith
symbol_short symbol.LessEqual = omega arith
symbol_short symbol.GreaterEqual = omega arith
symbol_short symbol.And = omega arith
symbol_short symbol.Or = omega arith
symbol_short symbol.Range = omega arith

-- ---- the class of a token, which its first byte settles: a word, digits, a text, a symbol

unfoldable pub first : List ℕ → ℕ
first [] = 0
first (b ∷ bs) = b

abbrev pub class_by : Bool → Bool → Bool → ℕ
class_by letter digit quote = if letter then 0 else (if digit then 1 else (if quote then 2 else 3))

abbrev pub class : ℕ → ℕ
class b = class_by (is_letter b) (is_digit b) (nat_eq b 34)

abbrev pub token_class : Token → ℕ
token_class (token.Keyword k) = 0
token_class (token.Name n) = 0
token_class (token.Int z) = 1
token_class (token.Negative z) = 1
token_class (token.Text x) = 2
token_class (token.Symbol s) = 3

keyword_class : (k : Keyword) → class (first (keyword_spelling k)) ≡ 0
unfolding first
keyword_class keyword.Table = refl
keyword_class keyword.Proc = refl
keyword_class keyword.Key = refl
keyword_class keyword.Int = refl
keyword_class keyword.Text = refl
keyword_class keyword.Let = refl
keyword_class keyword.Read = refl
keyword_class keyword.Has = refl
keyword_class keyword.Put = refl
keyword_class keyword.Set = refl
keyword_class keyword.Delete = refl
keyword_class keyword.Abort = refl
keyword_class keyword.If = refl
keyword_class keyword.Else = refl
keyword_class keyword.Default = refl
keyword_class keyword.True = refl
keyword_class keyword.False = refl
keyword_class keyword.For = refl
keyword_class keyword.In = refl

symbol_class : (s : Symbol) → class (first (symbol_spelling s)) ≡ 3
unfolding first
symbol_class symbol.OpenParen = refl
symbol_class symbol.CloseParen = refl
symbol_class symbol.OpenBrace = refl
symbol_class symbol.CloseBrace = refl
symbol_class symbol.OpenBracket = refl
symbol_class symbol.CloseBracket = refl
symbol_class symbol.Comma = refl
symbol_class symbol.Semicolon = refl
symbol_class symbol.Dot = refl
symbol_class symbol.Assign = refl
symbol_class symbol.Plus = refl
symbol_class symbol.Minus = refl
symbol_class symbol.Star = refl
symbol_class symbol.Slash = refl
symbol_class symbol.Percent = refl
symbol_class symbol.Not = refl
symbol_class symbol.Less = refl
symbol_class symbol.Greater = refl
symbol_class symbol.Equal = refl
symbol_class symbol.NotEqual = refl
symbol_class symbol.LessEqual = refl
symbol_class symbol.GreaterEqual = refl
symbol_class symbol.And = refl
symbol_class symbol.Or = refl
symbol_class symbol.Range = refl

digit_class : (b : ℕ) → is_digit b ≡ true → class b ≡ 1
digit_class b h = let no_letter : is_letter b ≡ false = grind arith in rw (no_letter, h) refl

word_class : (w : List ℕ) → IsWord w → class (first w) ≡ 0
unfolding first
word_class [] h = absurd h
word_class (b ∷ bs) h = rw h.0 refl

digits_class : (w : List ℕ) → IsDigits w → class (first w) ≡ 1
unfolding first
digits_class [] h = absurd h
digits_class (b ∷ bs) h = digit_class b h.0

quoted_class : (x : List ℕ) → class (first (quoted x)) ≡ 2
unfolding first
quoted_class x = refl

pub spells_class : (before : Before) (t : Token) (w : List ℕ) → Spells before t w → class (first w) ≡ token_class t
spells_class before (token.Keyword k) w h = ap (λ w. class (first w)) h ∙ keyword_class k
spells_class before (token.Name n) w h = word_class w h.1
spells_class before (token.Int z) w h = digits_class w h.0
spells_class before (token.Negative z) w h = digits_class w h.0
spells_class before (token.Text x) w h = ap (λ w. class (first w)) h.0 ∙ quoted_class x
spells_class before (token.Symbol s) w h = ap (λ w. class (first w)) h ∙ symbol_class s

-- ---- no token is spelled by no byte

keyword_some : (k : Keyword) → 1 ≤ length (keyword_spelling k)
keyword_some keyword.Table = omega arith
keyword_some keyword.Proc = omega arith
keyword_some keyword.Key = omega arith
keyword_some keyword.Int = omega arith
keyword_some keyword.Text = omega arith
keyword_some keyword.Let = omega arith
keyword_some keyword.Read = omega arith
keyword_some keyword.Has = omega arith
keyword_some keyword.Put = omega arith
keyword_some keyword.Set = omega arith
keyword_some keyword.Delete = omega arith
keyword_some keyword.Abort = omega arith
keyword_some keyword.If = omega arith
keyword_some keyword.Else = omega arith
keyword_some keyword.Default = omega arith
keyword_some keyword.True = omega arith
keyword_some keyword.False = omega arith
keyword_some keyword.For = omega arith
keyword_some keyword.In = omega arith

word_some : (w : List ℕ) → IsWord w → 1 ≤ length w
word_some [] h = absurd h
word_some (b ∷ bs) h = omega arith

digits_some : (w : List ℕ) → IsDigits w → 1 ≤ length w
digits_some [] h = absurd h
digits_some (b ∷ bs) h = omega arith

pub spells_some : (before : Before) (t : Token) (w : List ℕ) → Spells before t w → 1 ≤ length w
spells_some before (token.Keyword k) w h = rw h (keyword_some k)
spells_some before (token.Name n) w h = word_some w h.1
spells_some before (token.Int z) w h = digits_some w h.0
spells_some before (token.Negative z) w h = digits_some w h.0
spells_some before (token.Text x) w h = rw h.0 (omega arith)
spells_some before (token.Symbol s) w h = rw h (symbol_some s)

-- ---- what words and digits are made of

name_letter : (b : ℕ) → is_letter b ≡ true → is_name b ≡ true
name_letter b h = rw h refl

pub word_names : (w : List ℕ) → IsWord w → list_all is_name w ≡ true
word_names [] h = absurd h
word_names (b ∷ bs) h = rw (name_letter b h.0) h.1

pub all_digits : (w : List ℕ) → IsDigits w → list_all is_digit w ≡ true
all_digits [] h = absurd h
all_digits (b ∷ bs) h = rw h.0 h.1

-- a token of the class of words is made of the bytes of names
pub spells_names : (before : Before) (t : Token) (w : List ℕ) → token_class t ≡ 0 → Spells before t w → list_all is_name w ≡ true
spells_names before (token.Keyword k) w e h = rw h (keyword_names k)
spells_names before (token.Name n) w e h = word_names w h.1
spells_names before _ w e h = absurd cc

pub spells_digits : (before : Before) (t : Token) (w : List ℕ) → token_class t ≡ 1 → Spells before t w → list_all is_digit w ≡ true
spells_digits before (token.Int z) w e h = all_digits w h.0
spells_digits before (token.Negative z) w e h = all_digits w h.0
spells_digits before _ w e h = absurd cc

-- a token of the class of texts
pub record IsQuoted (w : List ℕ) : Type 0 where
  pub text : List ℕ
  pub is : w ≡ quoted text
  pub printable : list_all is_printable text ≡ true

pub spells_quoted : (before : Before) (t : Token) (w : List ℕ) → token_class t ≡ 2 → Spells before t w → IsQuoted w
spells_quoted before (token.Text x) w e h = record { text = x; is = h.0; printable = h.1 }
spells_quoted before _ w e h = absurd cc

pub record IsSymbol (w : List ℕ) : Type 0 where
  pub sign : Symbol
  pub is : w ≡ symbol_spelling sign

pub spells_symbol : (before : Before) (t : Token) (w : List ℕ) → token_class t ≡ 3 → Spells before t w → IsSymbol w
spells_symbol before (token.Symbol s) w e h = record { sign = s; is = h }
spells_symbol before _ w e h = absurd cc

-- ---- bytes spell one token

-- a test has one answer
pub flags : (b : Bool) → b ≡ true → b ≡ false → ⊥
flags true h k = absurd cc
flags false h k = absurd cc

no_keyword : (k : Keyword) (w : List ℕ) → w ≡ keyword_spelling k → keyword_of w ≡ None → ⊥
no_keyword k w h none = let e : ◌≡◌ {A = Option Keyword} (Some k) None = sym (keyword_found k) ∙ ap keyword_of (sym h) ∙ none in absurd cc

one_of : (before : Before) (t u : Token) (w : List ℕ) → token_class t ≡ token_class u → Spells before t w → Spells before u w → t ≡ u
one_of before (token.Keyword a) (token.Keyword b) w e h k =
    ap (λ x. token.Keyword x) (some_is {A = Keyword} a b (sym (keyword_found a) ∙ ap keyword_of (sym h ∙ k) ∙ keyword_found b))
one_of before (token.Keyword a) (token.Name n) w e h k = absurd (no_keyword a w h k.2)
one_of before (token.Name n) (token.Keyword b) w e h k = absurd (no_keyword b w k h.2)
one_of before (token.Name n) (token.Name m) w e h k = ap (λ x. token.Name x) (sym h.0 ∙ k.0)
one_of before (token.Int z) (token.Int y) w e h k = ap (λ x. token.Int x) (h.1 ∙ sym k.1)
one_of before (token.Int z) (token.Negative y) w e h k = absurd (flags (is_literal_minus before) k.2 h.2)
one_of before (token.Negative z) (token.Int y) w e h k = absurd (flags (is_literal_minus before) h.2 k.2)
one_of before (token.Negative z) (token.Negative y) w e h k = ap (λ x. token.Negative x) (h.1 ∙ sym k.1)
one_of before (token.Text x) (token.Text y) w e h k = ap (λ x. token.Text x) (quoted_once x y h.1 k.1 (sym h.0 ∙ k.0))
one_of before (token.Symbol a) (token.Symbol b) w e h k =
    ap (λ x. token.Symbol x) (some_is {A = Symbol} a b (sym (symbol_found a) ∙ ap symbol_of (sym h ∙ k) ∙ symbol_found b))
one_of before t u w e h k = absurd cc

pub spells_one : (before : Before) (t u : Token) (w : List ℕ) → Spells before t w → Spells before u w → t ≡ u
spells_one before t u w h k = one_of before t u w (sym (spells_class before t w h) ∙ spells_class before u w k) h k
