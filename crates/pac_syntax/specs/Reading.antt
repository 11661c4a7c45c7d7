-- What a text is read as.
use Rattle.std.specs.Prelude.{◌≡◌, ◌≤◌, ◌<◌, ◌⊎◌, ℕ, List, length, Option, Some, None, Result, Ok, Err, nat_lt, if◌then◌else◌}
use Rattle.pac_tokens.specs.declared.token.Spanned.{Spanned}
use Rattle.pac_tokens.specs.declared.fault.FaultKind.TheVariants.{TooLong}
use Rattle.pac_tokens.specs.declared.fault.Fault.{Fault}
use Rattle.pac_base.specs.declared.refusal.Refusal.{Refusal}
use Rattle.pac_base.specs.declared.refusal.Refusal.TheVariants as error
use Rattle.pac_syntax.specs.declared.tree.Tree.{Tree}
use Rattle.pac_syntax.specs.declared.limits.TheConstants.{MAX_CATALOGUE}
use Rattle.pac_tokens.specs.Tokens.{IsLexed}
use Rattle.pac_syntax.specs.Faults.{ReadsTokens, IsFirstFault}

-- the text is this catalogue's: it is short enough, and its tokens are the catalogue's within the limits
pub record Reads (text : List ℕ) (tree : Tree) : Type 0 where
  pub short : length text ≤ MAX_CATALOGUE
  pub tokens : List Spanned
  pub lexed : IsLexed text tokens None
  pub parsed : ReadsTokens tokens tree

-- some text reads as the tree
abbrev pub IsTree : Tree → Type 0
IsTree tree = (text : List ℕ) × Reads text tree

-- the tokens before this offset are a catalogue's, or their own first fault is not before it
abbrev pub IsFineBefore : ℕ → List Spanned → Type 0
IsFineBefore at ts = ((tree : Tree) × ReadsTokens ts tree) ⊎ ((fault : Fault) × IsFirstFault at ts fault × (at ≤ fault.at))

-- where the tokens of a text with that many bytes end: at the token that is at fault, or at the text's end
abbrev pub end_of : ℕ → Option Fault → ℕ
end_of bytes None = bytes
end_of bytes (Some lexical) = lexical.at

-- the first fault of the tokens of a text with that many bytes, after which this token is at fault, if any is
abbrev pub IsFirstOf : ℕ → List Spanned → Option Fault → Fault → Type 0
IsFirstOf end ts None fault = IsFirstFault end ts fault
IsFirstOf end ts (Some lexical) fault = (IsFirstFault lexical.at ts fault × (fault.at < lexical.at)) ⊎ ((fault ≡ lexical) × IsFineBefore lexical.at ts)

-- the fault of a text that is too long: at its first byte too many
abbrev pub IsLongText : List ℕ → Fault → Type 0
IsLongText text fault = (MAX_CATALOGUE < length text) × (fault ≡ record { at = MAX_CATALOGUE; kind = TooLong })

-- the first fault of a text: it is too long, or the first one of its tokens
abbrev pub IsTextFault : List ℕ → Fault → Type 0
IsTextFault text fault =
    IsLongText text fault ⊎ ((length text ≤ MAX_CATALOGUE) × (ts : List Spanned) × (lexical : Option Fault) × IsLexed text ts lexical × IsFirstOf (length text) ts lexical fault)

-- what is reported where the tokens before a fault are read so: the fault that stands first
abbrev pub reported_of : Result Tree (Refusal Fault) → Fault → Refusal Fault
reported_of (Ok tree) lexical = error.Fault lexical
reported_of (Err error.NoMemory) lexical = error.NoMemory
reported_of (Err (error.Fault first)) lexical = if nat_lt first.at lexical.at then error.Fault first else error.Fault lexical
