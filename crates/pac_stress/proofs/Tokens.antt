-- The tokens of a text as a function of it: each is found by its first byte.
use Rattle.std.proofs.Common.{◌≡◌, ℕ, zero, suc, ◌+◌, List, [], ◌∷◌, drop, Option, Some, None, Result, Ok, Err, refl, subst, arith}
use Rattle.pac_tokens.specs.declared.token.Token.{Token}
use Rattle.pac_tokens.specs.declared.token.Spanned.{Spanned}
use Rattle.pac_tokens.specs.declared.lexer.Before.{Before}
use Rattle.pac_tokens.specs.declared.fault.FaultKind.{FaultKind}
use Rattle.pac_tokens.specs.Tokens.{EndsAt, IsNext, Lexed, after, gap}
use Rattle.pac_tokens.specs.Lexing.{IsFirstToken, token_at}
use Rattle.pac_tokens.proofs.Longest.{prefix_of}
use Rattle.pac_tokens.proofs.Spelled.{some_is}

-- ---- the function

-- what comes after a token
abbrev pub After : Type 0
After = Before → ℕ → List ℕ → Option (List Spanned)

-- a token before others, if these are found
abbrev pub before_others : Spanned → Option (List Spanned) → Option (List Spanned)
before_others t None = None
before_others t (Some ts) = Some (t ∷ ts)

abbrev pub from_found : After → Before → ℕ → List ℕ → Result (Token × ℕ) FaultKind → Option (List Spanned)
from_found next before at rest (Err kind) = None
from_found next before at rest (Ok p) = before_others (record { token = p.0; at = at }) (next (after before p.0) (at + p.1) (drop p.1 rest))

abbrev pub from_rest : After → Before → ℕ → List ℕ → Option (List Spanned)
from_rest next before at [] = Some []
from_rest next before at (b ∷ bs) = from_found next before at (b ∷ bs) (token_at before (b ∷ bs))

-- the tokens from an offset on, if they are few enough and none is at fault
unfoldable pub tokens_from : ℕ → After
tokens_from zero before at bytes = None
tokens_from (suc fuel) before at bytes = from_rest (λ b n bs. tokens_from fuel b n bs) before (at + gap bytes) (drop (gap bytes) bytes)

-- ---- it finds the tokens

-- what the bytes after a gap are
abbrev LexedRest : Before → ℕ → List ℕ → List Spanned → Type 0
LexedRest before at rest [] = EndsAt before at rest None
LexedRest before at rest (t ∷ ts) = (len : ℕ) × IsNext before rest t.token len × (t.at ≡ at) × Lexed (after before t.token) (at + len) (drop len rest) ts None

after_gap : (before : Before) (at : ℕ) (bytes : List ℕ) (ts : List Spanned) → LexedRest before (at + gap bytes) (drop (gap bytes) bytes) ts → Lexed before at bytes ts None
after_gap before at bytes [] h = h
after_gap before at bytes (t ∷ ts) h = h

module _ (next : After) (lexes : (before : Before) (at : ℕ) (bytes : List ℕ) (ts : List Spanned) → next before at bytes ≡ Some ts → Lexed before at bytes ts None) where
  with_others : (before : Before) (at : ℕ) (rest : List ℕ) (p : Token × ℕ) → IsNext before rest p.0 p.1 → (o : Option (List Spanned)) → next (after before p.0) (at + p.1) (drop p.1 rest) ≡ o
      → (ts : List Spanned) → before_others (record { token = p.0; at = at }) o ≡ Some ts → LexedRest before at rest ts
  with_others before at rest p first None is ts e = absurd cc
  with_others before at rest p first (Some us) is ts e =
      subst (LexedRest before at rest) (some_is (record { token = p.0; at = at } ∷ us) ts e) (p.1, first, refl, lexes (after before p.0) (at + p.1) (drop p.1 rest) us is)

  with_token : (before : Before) (at : ℕ) (rest : List ℕ) (r : Result (Token × ℕ) FaultKind) → IsFirstToken before rest r → (ts : List Spanned) → from_found next before at rest r ≡ Some ts → LexedRest before at rest ts
  with_token before at rest (Err kind) first ts e = absurd cc
  with_token before at rest (Ok p) first ts e = with_others before at rest p first (next (after before p.0) (at + p.1) (drop p.1 rest)) refl ts e

  rest_lexed : (before : Before) (at : ℕ) (rest : List ℕ) (ts : List Spanned) → from_rest next before at rest ≡ Some ts → LexedRest before at rest ts
  rest_lexed before at [] ts e = subst (LexedRest before at []) (some_is [] ts e) refl
  rest_lexed before at (b ∷ bs) ts e = with_token before at (b ∷ bs) (token_at before (b ∷ bs)) (prefix_of before (b ∷ bs) (omega arith)) ts e

pub lexed_as : (fuel : ℕ) (before : Before) (at : ℕ) (bytes : List ℕ) (ts : List Spanned) → tokens_from fuel before at bytes ≡ Some ts → Lexed before at bytes ts None
unfolding tokens_from
lexed_as zero before at bytes ts e = absurd cc
lexed_as (suc fuel) before at bytes ts e =
    after_gap before at bytes ts (rest_lexed (λ b n bs. tokens_from fuel b n bs) (λ b n bs us h. lexed_as fuel b n bs us h) before (at + gap bytes) (drop (gap bytes) bytes) ts e)
