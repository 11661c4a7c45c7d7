-- Where the tokens of a text end.
use Rattle.std.proofs.Common.{◌≡◌, ℕ, ◌≤◌, ◌+◌, List, [], ◌∷◌, ◌++◌, length, drop, Option, Some, None, refl, subst, arith}
use Rattle.std.proofs.lemmas.List.{append-nil}
use Rattle.pac_tokens.specs.declared.lexer.Before.{Before}
use Rattle.pac_tokens.specs.declared.token.Spanned.{Spanned}
use Rattle.pac_tokens.specs.declared.fault.Fault.{Fault}
use Rattle.pac_tokens.specs.declared.fault.FaultKind.{FaultKind}
use Rattle.pac_tokens.specs.Tokens.{Lexed, IsLexed, EndsAt, gap, IsBad}

-- what the rest is, after these tokens, the text is
abbrev Continues : List ℕ → Before → ℕ → List ℕ → List Spanned → Type 0
Continues text before at rest items = (ts : List Spanned) (f : Option Fault) → Lexed before at rest ts f → IsLexed text (items ++ ts) f

pub all_read : (text rest : List ℕ) (before : Before) (at : ℕ) (items : List Spanned) (n : ℕ) → Continues text before at rest items → n ≡ gap rest → drop n rest ≡ [] → IsLexed text items None
all_read text rest before at items n h e d =
    let last : Lexed before at rest [] None = rw (← e, d) refl in
    subst (λ (xs : List Spanned). IsLexed text xs None) (append-nil items) (h [] None last)

ends_with : (before : Before) (at : ℕ) (bytes : List ℕ) (kind : FaultKind) → IsBad before bytes kind → 1 ≤ length bytes → EndsAt before at bytes (Some (record { at = at; kind = kind }))
ends_with before at [] kind e le = absurd (omega arith)
ends_with before at (x ∷ xs) kind e le = (kind, e, refl)

pub faulty : (text rest : List ℕ) (before : Before) (at : ℕ) (items : List Spanned) (n : ℕ) (kind : FaultKind) → Continues text before at rest items → n ≡ gap rest → IsBad before (drop n rest) kind → 1 ≤ length (drop n rest) → IsLexed text items (Some (record { at = at + n; kind = kind }))
faulty text rest before at items n kind h e d le =
    let last : Lexed before at rest [] (Some (record { at = at + n; kind = kind })) = rw (← e) (ends_with before (at + n) (drop n rest) kind d le) in
    subst (λ (xs : List Spanned). IsLexed text xs (Some (record { at = at + n; kind = kind }))) (append-nil items) (h [] (Some (record { at = at + n; kind = kind })) last)
