-- What a line of a script asks, or its first fault.
use Rattle.std.specs.Prelude.{◌≡◌, ◌⊎◌, ℕ, Bool, false, ◌||◌, List, [], ◌∷◌, Option, Some, None, Err, bytes_eq, if◌then◌else◌}
use Rattle.pac_tokens.specs.declared.token.Token.{Token}
use Rattle.pac_tokens.specs.declared.token.Token.TheVariants as token
use Rattle.pac_tokens.specs.declared.token.Spanned.{Spanned}
use Rattle.pac_tokens.specs.declared.fault.Fault.{Fault}
use Rattle.pac_types.specs.Typing.{CatalogueState}
use Rattle.pac_request.specs.declared.fault.LineFaultKind.TheVariants.{NotHere}
use Rattle.pac_request.specs.declared.node.Verb.TheVariants as verb
use Rattle.pac_request.specs.LineKinds.{line_fault}
use Rattle.pac_request.specs.LineForms.{verb_word}
use Rattle.pac_request.specs.LineReading.{LineAnswer, HasTokens, TokensAsk, IsLongLine}

-- a word that a script does not allow: `show`, `save` or `stop`
abbrev pub is_out_of_place : Token → Bool
is_out_of_place (token.Name n) = bytes_eq n (verb_word verb.Show) || (bytes_eq n (verb_word verb.Save) || bytes_eq n (verb_word verb.Stop))
is_out_of_place _ = false

-- where it stands, if it is the first token
abbrev pub out_of_place : List Spanned → Option ℕ
out_of_place [] = None
out_of_place (first ∷ rest) = if is_out_of_place first.token then Some first.at else None

-- the line begins with such a word, at this offset
pub record IsOutOfPlace (line : List ℕ) (at : ℕ) : Type 0 where
  pub tokens : List Spanned
  pub lexical : Option Fault
  pub are : HasTokens line tokens lexical
  pub first : out_of_place tokens ≡ Some at

-- it does, and that is its first fault, whatever follows the word
abbrev pub IsNotHere : List ℕ → LineAnswer → Type 0
IsNotHere line answer = (at : ℕ) × IsOutOfPlace line at × (answer ≡ Err (line_fault NotHere at))

-- the line begins with no such word
abbrev pub IsInPlace : List ℕ → Type 0
IsInPlace line = (at : ℕ) → IsOutOfPlace line at → ⊥

-- What a line of a script asks, or its first fault: its length comes first, then a word that a script does not allow,
-- and then what its tokens ask.
abbrev pub ScriptLineSays : CatalogueState → List ℕ → LineAnswer → Type 0
ScriptLineSays catalogue line answer = IsLongLine line answer ⊎ (IsNotHere line answer ⊎ (IsInPlace line × TokensAsk catalogue line answer))
