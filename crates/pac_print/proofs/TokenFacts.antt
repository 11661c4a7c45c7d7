-- What each token of a text is: a word that is not reserved, an int in its range, a text that is printable, each short enough.
use Rattle.std.proofs.Common.{◌≡◌, ◌≤◌, ◌<◌, ◌+◌, ◌^◌, ℕ, pos, neg_ℤ, ℤ, true, List, [], ◌∷◌, length, drop, Option, None, sym, ap, subst, ◌∙◌}
use Rattle.std.specs.List.{AllByRecursion, list_all}
use Rattle.std.proofs.lemmas.Bool.{ltb-false, leb-false}
use Rattle.pac_value.specs.Texts.{is_printable}
use Rattle.pac_tokens.specs.declared.token.Token.{Token}
use Rattle.pac_tokens.specs.declared.token.Token.TheVariants as token
use Rattle.pac_tokens.specs.declared.token.Spanned.{Spanned}
use Rattle.pac_tokens.specs.declared.lexer.Before.{Before}
use Rattle.pac_tokens.specs.declared.fault.Fault.{Fault}
use Rattle.pac_tokens.specs.Tokens.{digits_value, keyword_of, IsWord, gap, IsNext, after, Lexed}

abbrev pub IsNameToken : List ℕ → Type 0
IsNameToken n = IsWord n × (keyword_of n ≡ None) × (length n ≤ 32)

abbrev pub IsIntToken : ℤ → Type 0
IsIntToken z = (n : ℕ) × (z ≡ pos n) × (n < 2 ^ 63)

abbrev pub IsNegativeToken : ℤ → Type 0
IsNegativeToken z = (n : ℕ) × (z ≡ neg_ℤ (pos n)) × (n ≤ 2 ^ 63)

abbrev pub IsTextToken : List ℕ → Type 0
IsTextToken x = (list_all is_printable x ≡ true) × (length x ≤ 64)

abbrev pub IsToken : Token → Type 0
IsToken (token.Keyword k) = Unit {0}
IsToken (token.Symbol s) = Unit {0}
IsToken (token.Name n) = IsNameToken n
IsToken (token.Int z) = IsIntToken z
IsToken (token.Negative z) = IsNegativeToken z
IsToken (token.Text x) = IsTextToken x

next_token : (before : Before) (bytes : List ℕ) (t : Token) (len : ℕ) → IsNext before bytes t len → IsToken t
next_token before bytes (token.Keyword k) len h = tt
next_token before bytes (token.Symbol s) len h = tt
next_token before bytes (token.Name n) len h =
    let s = h.longest.spells in
    (subst IsWord s.0 s.1, ap keyword_of (sym s.0) ∙ s.2, ltb-false 32 (length n) h.short)
next_token before bytes (token.Int z) len h = (digits_value h.prefix, h.longest.spells.1, leb-false (2 ^ 63) (digits_value h.prefix) h.short)
next_token before bytes (token.Negative z) len h = (digits_value h.prefix, h.longest.spells.1, ltb-false (2 ^ 63) (digits_value h.prefix) h.short)
next_token before bytes (token.Text x) len h = (h.longest.spells.1, ltb-false 64 (length x) h.short)

-- each token of the bytes is one
pub all_tokens : (before : Before) (at : ℕ) (bytes : List ℕ) (ts : List Spanned) (f : Option Fault) → Lexed before at bytes ts f → AllByRecursion (λ t. IsToken t.token) ts
all_tokens before at bytes [] f h = tt
all_tokens before at bytes (t ∷ ts) f h =
    (next_token before (drop (gap bytes) bytes) t.token h.0 h.1, all_tokens (after before t.token) (at + gap bytes + h.0) (drop h.0 (drop (gap bytes) bytes)) ts f h.3)
