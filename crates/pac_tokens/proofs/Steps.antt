-- A step of the lexer appends the next token of the bytes, or says their fault.
use Rattle.std.proofs.Common.{◌≡◌, ◌≤◌, ℕ, true, false, List, [], ◌∷◌, length, drop, get_or, Result, Ok, Err, refl, sym, ap, subst, ◌∙◌, arith, nat_eq, length-append}
use Rattle.std.specs.Prelude.{IfOk}
use Rattle.std.specs.List.{take_while}
use Rattle.pac_tokens.specs.declared.token.Token.{Token}
use Rattle.pac_tokens.specs.declared.token.Spanned.{Spanned}
use Rattle.pac_tokens.specs.declared.lexer.Before.{Before}
use Rattle.pac_tokens.specs.declared.lexer.Step.{Step}
use Rattle.pac_tokens.specs.declared.lexer.Step.TheVariants as step
use Rattle.pac_tokens.specs.declared.fault.FaultKind.{FaultKind}
use Rattle.pac_tokens.specs.Tokens.{is_letter, is_digit, is_name, IsNext, IsBad}
use Rattle.pac_tokens.specs.Lexing.{word_at, int_at, text_at, symbol_at, first_symbol, token_at, IsFirstToken, IsPushed, IsStep, StaysWithin}
use Rattle.pac_tokens.proofs.Longest.{prefix_of}
use Rattle.pac_tokens.proofs.Spelled.{spells_some}

-- ---- the token by its first byte

pub word_is : (before : Before) (bytes : List ℕ) (found : Result (Token × ℕ) FaultKind) → 1 ≤ length bytes → is_letter (get_or bytes 0 0) ≡ true → found ≡ word_at (take_while is_name bytes) → found ≡ token_at before bytes
word_is before [] found some letter is = absurd (omega arith)
word_is before (b ∷ bs) found some letter is = is ∙ (rw letter refl)

pub int_is : (before : Before) (bytes : List ℕ) (found : Result (Token × ℕ) FaultKind) → 1 ≤ length bytes → is_letter (get_or bytes 0 0) ≡ false → is_digit (get_or bytes 0 0) ≡ true → found ≡ int_at before (take_while is_digit bytes) → found ≡ token_at before bytes
int_is before [] found some letter digit is = absurd (omega arith)
int_is before (b ∷ bs) found some letter digit is = is ∙ (rw (letter, digit) refl)

pub text_is : (before : Before) (bytes : List ℕ) (found : Result (Token × ℕ) FaultKind) → 1 ≤ length bytes → is_letter (get_or bytes 0 0) ≡ false → is_digit (get_or bytes 0 0) ≡ false → nat_eq (get_or bytes 0 0) 34 ≡ true → found ≡ text_at (drop 1 bytes) → found ≡ token_at before bytes
text_is before [] found some letter digit quote is = absurd (omega arith)
text_is before (b ∷ bs) found some letter digit quote is = is ∙ (rw (letter, digit, quote) refl)

pub symbol_is : (before : Before) (bytes : List ℕ) (found : Result (Token × ℕ) FaultKind) → 1 ≤ length bytes → is_letter (get_or bytes 0 0) ≡ false → is_digit (get_or bytes 0 0) ≡ false → nat_eq (get_or bytes 0 0) 34 ≡ false → found ≡ symbol_at before (first_symbol (get_or bytes 0 0 ∷ drop 1 bytes)) (drop 1 bytes) → found ≡ token_at before bytes
symbol_is before [] found some letter digit quote is = absurd (omega arith)
symbol_is before (b ∷ bs) found some letter digit quote is = is ∙ (rw (letter, digit, quote) refl)

-- ---- what is appended

pub pushed_as : {E : Type 0} (before : Before) (at : ℕ) (found other : Result (Token × ℕ) FaultKind) (old new : List Spanned) (r : Result Step E) → found ≡ other
    → IfOk r (λ s. IsPushed before at found old new s) → IfOk r (λ s. IsPushed before at other old new s)
pushed_as before at found other old new r is h = subst (λ (f : Result (Token × ℕ) FaultKind). IfOk r (λ s. IsPushed before at f old new s)) is h

step_of : (before : Before) (at : ℕ) (bytes : List ℕ) (found : Result (Token × ℕ) FaultKind) (old new : List Spanned) (s : Step) → IsFirstToken before bytes found → IsPushed before at found old new s → IsStep before at bytes old new s
step_of before at bytes (Ok p) old new (step.Pushed len next) prefix h = (p.0, h.0, subst (λ (n : ℕ). IsNext before bytes p.0 n) (sym h.1) prefix, h.2)
step_of before at bytes (Ok p) old new (step.Refused other) prefix h = absurd h
step_of before at bytes (Err kind) old new (step.Pushed len next) prefix h = absurd h
step_of before at bytes (Err kind) old new (step.Refused other) prefix h = (h.0, subst (λ (k : FaultKind). IsBad before bytes k) (sym h.1) prefix)

pub step_is : {E : Type 0} (before : Before) (at : ℕ) (bytes : List ℕ) (found : Result (Token × ℕ) FaultKind) (old new : List Spanned) (r : Result Step E) → 1 ≤ length bytes → found ≡ token_at before bytes
    → IfOk r (λ s. IsPushed before at found old new s) → IfOk r (λ s. IsStep before at bytes old new s)
step_is before at bytes found old new (Ok s) some is h = step_of before at bytes found old new s (subst (λ (f : Result (Token × ℕ) FaultKind). IsFirstToken before bytes f) (sym is) (prefix_of before bytes some)) h
step_is before at bytes found old new (Err e) some is h = tt

-- a token has at least one byte, and no more than there are
pub next_within : (before : Before) (bytes : List ℕ) (t : Token) (len : ℕ) → IsNext before bytes t len → (1 ≤ len) × (len ≤ length bytes)
next_within before bytes t len h =
    (omega (arith, h.counted, spells_some before t h.prefix h.longest.spells), omega (arith, h.counted, ap length h.longest.parts, length-append h.prefix h.rest))

pub step_within : {E : Type 0} (before : Before) (at : ℕ) (bytes : List ℕ) (old new : List Spanned) (r : Result Step E) → IfOk r (λ s. IsStep before at bytes old new s) → IfOk r (λ s. StaysWithin (length bytes) s)
step_within before at bytes old new (Ok (step.Pushed len next)) h = next_within before bytes h.0 len h.2
step_within before at bytes old new (Ok (step.Refused kind)) h = tt
step_within before at bytes old new (Err e) h = tt
