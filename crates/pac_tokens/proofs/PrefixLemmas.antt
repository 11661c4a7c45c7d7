-- What bytes begin with, for a reader that wants a name, an int, a text, a bracket or a comma.
use Rattle.std.proofs.Common.{◌≡◌, ◌≤◌, ℕ, true, false, List, [], ◌∷◌, length, drop, get_or, Result, Ok, refl, ap, ◌∙◌, arith, nat_le, None}
use Rattle.std.specs.List.{take_while}
use Rattle.std.proofs.lemmas.Bool.{le-ltb, lt-leb, leb-true, ne_eqb, and_parts}
use Rattle.pac_tokens.specs.declared.token.Token.{Token}
use Rattle.pac_tokens.specs.declared.token.Token.TheVariants as token
use Rattle.pac_tokens.specs.declared.token.Symbol.TheVariants as symbol
use Rattle.pac_tokens.specs.declared.lexer.Before.{Before}
use Rattle.pac_tokens.specs.declared.lexer.Before.TheVariants.{Value, Other, LiteralMinus}
use Rattle.pac_tokens.specs.declared.fault.FaultKind.{FaultKind}
use Rattle.pac_tokens.specs.Tokens.{is_letter, is_digit, is_name, keyword_of, IsPlainNext, is_literal_minus}
use Rattle.pac_tokens.specs.Lexing.{word_at, int_at, text_at, symbol_of}
use Rattle.pac_tokens.proofs.Longest.{prefix_of, prefix_ok}
use Rattle.pac_tokens.proofs.Steps.{word_is, int_is, text_is, next_within}

abbrev Found : Type 0
Found = Result (Token × ℕ) FaultKind

abbrev found : Token → ℕ → Found
found t len = Ok (t, len)

-- ---- a name, an int, a text

pub name_next : (bytes w : List ℕ) (len : ℕ) → 1 ≤ length bytes → is_letter (get_or bytes 0 0) ≡ true → w ≡ take_while is_name bytes → len ≡ length w → len ≤ 32 → keyword_of w ≡ None
    → IsPlainNext bytes (token.Name w) len
name_next bytes w len some letter is count short none = λ before other.
    let word : found (token.Name w) (length w) ≡ word_at w = rw (le-ltb 32 (length w) (omega (arith, count, short)), none) refl in
    rw count (prefix_ok before bytes (found (token.Name w) (length w)) some (word_is before bytes _ some letter (word ∙ ap word_at is)))

-- where no `-` of a literal stands before digits, they are no int below zero
same_int : (before : Before) (digits : List ℕ) → is_literal_minus before ≡ false → int_at Other digits ≡ int_at before digits
same_int Value digits other = refl
same_int Other digits other = refl
same_int LiteralMinus digits other = absurd cc

-- a digit is no letter
no_letter : (b : ℕ) → is_digit b ≡ true → is_letter b ≡ false
no_letter b digit =
    let p = and_parts (nat_le 48 b) (nat_le b 57) digit in
    let high : b ≤ 57 = leb-true b 57 p.1 in
    rw (lt-leb 97 b (omega (arith, high)), lt-leb 65 b (omega (arith, high)), ne_eqb b 95 (λ e. omega (arith, high, e))) refl

pub int_next : (bytes : List ℕ) (t : Token) (len : ℕ) → 1 ≤ length bytes → is_digit (get_or bytes 0 0) ≡ true → found t len ≡ int_at Other (take_while is_digit bytes) → IsPlainNext bytes t len
int_next bytes t len some digit is = λ before other.
    prefix_ok before bytes (found t len) some (int_is before bytes _ some (no_letter (get_or bytes 0 0) digit) digit (is ∙ same_int before _ other))

pub text_next : (bytes : List ℕ) (t : Token) (len : ℕ) → 1 ≤ length bytes → get_or bytes 0 0 ≡ 34 → found t len ≡ text_at (drop 1 bytes) → IsPlainNext bytes t len
text_next bytes t len some quote is = λ before other.
    prefix_ok before bytes (found t len) some (text_is before bytes _ some (rw quote refl) (rw quote refl) (rw quote refl) is)

-- a token at the start has no more bytes than there are
pub preceding_within : (bytes : List ℕ) (t : Token) (len : ℕ) → IsPlainNext bytes t len → len ≤ length bytes
preceding_within bytes t len h = (next_within Other bytes t len (h Other refl)).1

-- ---- a bracket, a comma: no longer symbol begins with it

pub open_next : (bs : List ℕ) → IsPlainNext (40 ∷ bs) (token.Symbol symbol.OpenParen) 1
unfolding symbol_of
open_next [] = λ before other. prefix_of before (40 ∷ []) (omega arith)
open_next (b ∷ bs) = λ before other. prefix_of before (40 ∷ b ∷ bs) (omega arith)

pub close_next : (bs : List ℕ) → IsPlainNext (41 ∷ bs) (token.Symbol symbol.CloseParen) 1
unfolding symbol_of
close_next [] = λ before other. prefix_of before (41 ∷ []) (omega arith)
close_next (b ∷ bs) = λ before other. prefix_of before (41 ∷ b ∷ bs) (omega arith)

pub comma_next : (bs : List ℕ) → IsPlainNext (44 ∷ bs) (token.Symbol symbol.Comma) 1
unfolding symbol_of
comma_next [] = λ before other. prefix_of before (44 ∷ []) (omega arith)
comma_next (b ∷ bs) = λ before other. prefix_of before (44 ∷ b ∷ bs) (omega arith)
