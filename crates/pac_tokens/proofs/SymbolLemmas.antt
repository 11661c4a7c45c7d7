-- What a symbol is as a token.
use Rattle.std.proofs.Common.{◌≡◌, ℕ, List, length, Some, Ok, refl}
use Rattle.pac_tokens.specs.declared.token.Symbol.{Symbol}
use Rattle.pac_tokens.specs.declared.token.Symbol.TheVariants as symbol
use Rattle.pac_tokens.specs.declared.token.Token.TheVariants as token
use Rattle.pac_tokens.specs.declared.lexer.Before.{Before}
use Rattle.pac_tokens.specs.Spelling.{symbol_spelling}
use Rattle.pac_tokens.specs.Lexing.{symbol_at}

-- a symbol other than `-` is a token as it stands
pub other_symbol : (before : Before) (s : Symbol) (after : List ℕ) → (s ≡ symbol.Minus → ⊥) → symbol_at before (Some s) after ≡ Ok (token.Symbol s, length (symbol_spelling s))
other_symbol before symbol.Minus after other = absurd (other refl)
other_symbol before s after other = refl
