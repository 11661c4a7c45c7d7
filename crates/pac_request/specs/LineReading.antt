-- What a request line says, or its first fault.
use Rattle.std.specs.Prelude.{◌≡◌, ◌⊎◌, ◌≤◌, ◌<◌, ℕ, List, length, Option, Result, Err}
use Rattle.pac_tokens.specs.declared.token.Spanned.{Spanned}
use Rattle.pac_tokens.specs.declared.fault.Fault.{Fault}
use Rattle.pac_tokens.specs.Tokens.{IsLexed}
use Rattle.pac_types.specs.Typing.{CatalogueState}
use Rattle.pac_request.specs.declared.limits.TheConstants.{MAX_LINE}
use Rattle.pac_request.specs.declared.fault.LineFault.{LineFault}
use Rattle.pac_request.specs.declared.fault.LineFaultKind.TheVariants.{TooLong}
use Rattle.pac_request.specs.declared.node.LineNode.{LineNode}
use Rattle.pac_request.specs.declared.request.Request.{Request}
use Rattle.pac_request.specs.LineKinds.{line_fault}
use Rattle.pac_request.specs.LineFaults.{TokensRead}
use Rattle.pac_request.specs.RequestMeaning.{request_of_tokens}

-- what a line asks, None for white space and comment; or its fault
abbrev pub LineAnswer : Type 0
LineAnswer = Result (Option Request) LineFault

-- the line has at most 4,096 bytes, and these are its tokens, up to its end or to this fault of a token
pub record HasTokens (line : List ℕ) (ts : List Spanned) (lexical : Option Fault) : Type 0 where
  pub short : length line ≤ MAX_LINE
  pub lexed : IsLexed line ts lexical

-- the tokens of a line say this, and so it asks this; or this is the first fault of its tokens, or of what they say
pub record TokensAsk (catalogue : CatalogueState) (line : List ℕ) (answer : LineAnswer) : Type 0 where
  pub tokens : List Spanned
  pub lexical : Option Fault
  pub are : HasTokens line tokens lexical
  pub said : Result LineNode LineFault
  pub read : TokensRead (length line) tokens lexical said
  pub answers : answer ≡ request_of_tokens catalogue said

-- the line has more than 4,096 bytes: that is its first fault, whatever else is wrong
abbrev pub IsLongLine : List ℕ → LineAnswer → Type 0
IsLongLine line answer = (MAX_LINE < length line) × (answer ≡ Err (line_fault TooLong MAX_LINE))

-- what a line asks, or its first fault: its length comes first
abbrev pub LineSays : CatalogueState → List ℕ → LineAnswer → Type 0
LineSays catalogue line answer = IsLongLine line answer ⊎ TokensAsk catalogue line answer
