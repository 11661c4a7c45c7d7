-- The tokens of a text.
use Rattle.std.specs.Prelude.{◌≡◌, ℕ, ◌≤◌, ◌+◌, ◌-◌, ◌*◌, ◌^◌, suc, pos, neg_ℤ, Bool, true, false, List, [], ◌∷◌, ◌++◌, length, drop, fold, find, Option, Some, None, nat_lt, nat_le, nat_eq, if◌then◌else◌, ◌&&◌, ◌||◌, not, IsTrue}
use Rattle.std.specs.List.{take_while, list_all}
use Rattle.std.specs.Cmp.Lexicographic.{pointwise}
use Rattle.pac_value.specs.Ascii.{tab, line_feed, carriage_return, space, hash, underscore, digit_zero, digit_nine, upper_a, upper_z, lower_a, lower_z}
use Rattle.pac_value.specs.Texts.{is_printable}
use Rattle.pac_value.specs.declared.limits.TheConstants.{MAX_NAME, MAX_TEXT}
use Rattle.pac_tokens.specs.declared.token.Keyword.{Keyword}
use Rattle.pac_tokens.specs.declared.token.Keyword.TheVariants as keyword
use Rattle.pac_tokens.specs.declared.token.Symbol.TheVariants as symbol
use Rattle.pac_tokens.specs.declared.token.Token.{Token}
use Rattle.pac_tokens.specs.declared.token.Token.TheVariants as token
use Rattle.pac_tokens.specs.declared.token.TheConstants.{KEYWORDS}
use Rattle.pac_tokens.specs.declared.token.Spanned.{Spanned}
use Rattle.pac_tokens.specs.declared.lexer.Before.{Before}
use Rattle.pac_tokens.specs.declared.lexer.Before.TheVariants.{Value, Other, LiteralMinus}
use Rattle.pac_tokens.specs.declared.fault.FaultKind.{FaultKind}
use Rattle.pac_tokens.specs.declared.fault.FaultKind.TheVariants as kind
use Rattle.pac_tokens.specs.declared.fault.Fault.{Fault}
use Rattle.pac_tokens.specs.Spelling.{keyword_spelling, symbol_spelling}
use Rattle.pac_value.specs.Literals.{quoted}

-- ---- bytes

-- space, tab, carriage return and line feed
abbrev pub is_blank : ℕ → Bool
is_blank b = nat_eq b space || nat_eq b tab || nat_eq b carriage_return || nat_eq b line_feed

-- a byte from low to high, both included
abbrev pub is_in : ℕ → ℕ → ℕ → Bool
is_in low high b = nat_le low b && nat_le b high

-- an ASCII letter or `_`
abbrev pub is_letter : ℕ → Bool
is_letter b = is_in lower_a lower_z b || is_in upper_a upper_z b || nat_eq b underscore

-- a decimal digit
abbrev pub is_digit : ℕ → Bool
is_digit b = is_in digit_zero digit_nine b

-- a byte that a name may have after its first
abbrev pub is_name : ℕ → Bool
is_name b = is_letter b || is_digit b

-- how many bytes of white space and comments come first, inside a comment or not
abbrev pub gap_in : Bool → List ℕ → ℕ
gap_in comment [] = 0
gap_in true (b ∷ bs) = suc (gap_in (not (nat_eq b line_feed)) bs)
gap_in false (b ∷ bs) = if nat_eq b hash then suc (gap_in true bs) else (if is_blank b then suc (gap_in false bs) else 0)

-- how many bytes of white space and comments come first
abbrev pub gap : List ℕ → ℕ
gap bytes = gap_in false bytes

-- the number that decimal digits are
abbrev pub digits_value : List ℕ → ℕ
digits_value digits = fold (λ n digit. n * 10 + (digit - digit_zero)) 0 digits

-- ---- what spells a token

-- a letter or `_`, and then letters, digits and `_`
abbrev pub IsWord : List ℕ → Type 0
IsWord [] = ⊥
IsWord (b ∷ bs) = IsTrue (is_letter b) × IsTrue (list_all is_name bs)

-- one or more decimal digits
abbrev pub IsDigits : List ℕ → Type 0
IsDigits [] = ⊥
IsDigits (b ∷ bs) = IsTrue (is_digit b) × IsTrue (list_all is_digit bs)

-- the keyword that these bytes spell
unfoldable pub keyword_of : List ℕ → Option Keyword
keyword_of word = find (λ k. pointwise nat_eq (keyword_spelling k) word) KEYWORDS

-- whether digits are those of a literal below zero: after the literal's `-`
abbrev pub is_literal_minus : Before → Bool
is_literal_minus LiteralMinus = true
is_literal_minus _ = false

-- These bytes spell the token, by what stands before it. Nothing is said of limits here.
abbrev pub Spells : Before → Token → List ℕ → Type 0
Spells before (token.Keyword k) w = w ≡ keyword_spelling k
Spells before (token.Symbol s) w = w ≡ symbol_spelling s
Spells before (token.Name n) w = (w ≡ n) × IsWord w × (keyword_of w ≡ None)
Spells before (token.Int z) w = IsDigits w × (z ≡ pos (digits_value w)) × (is_literal_minus before ≡ false)
Spells before (token.Negative z) w = IsDigits w × (z ≡ neg_ℤ (pos (digits_value w))) × (is_literal_minus before ≡ true)
Spells before (token.Text text) w = (w ≡ quoted text) × IsTrue (list_all is_printable text)

-- The longest token at the start of the bytes: w spells it, and no longer prefix spells any.
pub record IsLongest (before : Before) (bytes : List ℕ) (t : Token) (w rest : List ℕ) : Type 0 where
  pub parts : bytes ≡ w ++ rest
  pub spells : Spells before t w
  pub longest : (v after : List ℕ) (u : Token) → bytes ≡ v ++ after → Spells before u v → length v ≤ length w

-- ---- limits

-- the digits that come next, after white space and comments
abbrev pub next_digits : List ℕ → List ℕ
next_digits bytes = take_while is_digit (drop (gap bytes) bytes)

-- a `-` begins a literal where no value stands before it; a literal that is too long is so from its `-` on
abbrev pub is_long_minus : Before → List ℕ → Bool
is_long_minus Value rest = false
is_long_minus _ rest = nat_lt (2 ^ 63) (digits_value (next_digits rest))

-- Whether a token that is spelled so, before this rest, is too long: a name has at most 32 bytes, a text at most 64, an
-- int is at most 2 ^ 63 - 1, and 2 ^ 63 after the `-` of a literal.
abbrev pub is_long : Before → Token → List ℕ → List ℕ → Bool
is_long before (token.Keyword k) w rest = false
is_long before (token.Symbol symbol.Minus) w rest = is_long_minus before rest
is_long before (token.Symbol s) w rest = false
is_long before (token.Name n) w rest = nat_lt MAX_NAME (length n)
is_long before (token.Int z) w rest = nat_le (2 ^ 63) (digits_value w)
is_long before (token.Negative z) w rest = nat_lt (2 ^ 63) (digits_value w)
is_long before (token.Text text) w rest = nat_lt MAX_TEXT (length text)

-- the next token, and how many bytes it has
pub record IsNext (before : Before) (bytes : List ℕ) (t : Token) (len : ℕ) : Type 0 where
  pub prefix : List ℕ
  pub rest : List ℕ
  pub longest : IsLongest before bytes t prefix rest
  pub short : is_long before t prefix rest ≡ false
  pub counted : len ≡ length prefix

-- the next token, where no `-` of a literal stands before it
abbrev pub IsPlainNext : List ℕ → Token → ℕ → Type 0
IsPlainNext bytes t len = (before : Before) → is_literal_minus before ≡ false → IsNext before bytes t len

-- the longest token at the start is too long
pub record IsTooLong (before : Before) (bytes : List ℕ) : Type 0 where
  pub token : Token
  pub prefix : List ℕ
  pub rest : List ℕ
  pub longest : IsLongest before bytes token prefix rest
  pub long : is_long before token prefix rest ≡ true

-- no prefix of the bytes spells a token
abbrev pub IsNoToken : Before → List ℕ → Type 0
IsNoToken before bytes = (v after : List ℕ) (u : Token) → bytes ≡ v ++ after → Spells before u v → ⊥

-- the fault of the bytes at the start
abbrev pub IsBad : Before → List ℕ → FaultKind → Type 0
IsBad before bytes kind.Token = IsNoToken before bytes
IsBad before bytes kind.TooLong = IsTooLong before bytes
IsBad before bytes _ = ⊥

-- ---- what stands before the next token: a name, an int, a text, `true`, `false` and `)` end a value

-- what stands before the token after a `-`
abbrev pub after_minus : Before → Before
after_minus Value = Other
after_minus _ = LiteralMinus

-- what stands before the token after this one
abbrev pub after : Before → Token → Before
after before (token.Name n) = Value
after before (token.Int z) = Value
after before (token.Negative z) = Value
after before (token.Text text) = Value
after before (token.Keyword keyword.True) = Value
after before (token.Keyword keyword.False) = Value
after before (token.Symbol symbol.CloseParen) = Value
after before (token.Symbol symbol.Minus) = after_minus before
after before _ = Other

-- ---- all tokens

-- the bytes are at their end, or a fault stands there
abbrev pub EndsAt : Before → ℕ → List ℕ → Option Fault → Type 0
EndsAt before at [] f = f ≡ None
EndsAt before at (b ∷ bs) f = (kind : FaultKind) × IsBad before (b ∷ bs) kind × (f ≡ Some (record { at = at; kind = kind }))

-- From this offset on the bytes are these tokens, with white space and comments between them, up to their end or to
-- this fault.
abbrev pub Lexed : Before → ℕ → List ℕ → List Spanned → Option Fault → Type 0
Lexed before at bytes [] f = EndsAt before (at + gap bytes) (drop (gap bytes) bytes) f
Lexed before at bytes (t ∷ ts) f =
    (len : ℕ) × IsNext before (drop (gap bytes) bytes) t.token len × (t.at ≡ at + gap bytes)
    × Lexed (after before t.token) (at + gap bytes + len) (drop len (drop (gap bytes) bytes)) ts f

-- the tokens of a text, up to its end or to its first fault of a token
abbrev pub IsLexed : List ℕ → List Spanned → Option Fault → Type 0
IsLexed text ts f = Lexed Other 0 text ts f
