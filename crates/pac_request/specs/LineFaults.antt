-- The first fault of a request line's tokens.
use Rattle.std.specs.Prelude.{◌≡◌, ◌⊎◌, ℕ, List, [], ◌∷◌, ◌++◌, Option, Some, None, Result, Ok, Err}
use Rattle.pac_tokens.specs.declared.token.Spanned.{Spanned}
use Rattle.pac_tokens.specs.declared.fault.Fault.{Fault}
use Rattle.pac_request.specs.declared.fault.LineFault.{LineFault}
use Rattle.pac_request.specs.declared.fault.LineFaultKind.TheVariants.{Expected}
use Rattle.pac_request.specs.declared.node.LineNode.{LineNode}
use Rattle.pac_request.specs.LineKinds.{line_fault, as_line_fault}
use Rattle.pac_request.specs.LineForms.{LineForm, HasFewRecords, IsWritten, line_tokens}

-- a line begins with these tokens, or is these tokens
pub record BeginsLine (p : List Spanned) : Type 0 where
  pub form : LineForm
  pub few : HasFewRecords form
  pub more : List Spanned
  pub text : line_tokens form ≡ p ++ more

-- the first token that can't follow, and its fault: a line begins with those before it, and none with those up to it
pub record IsUnexpectedToken (ts : List Spanned) (fault : LineFault) : Type 0 where
  pub before : List Spanned
  pub token : Spanned
  pub rest : List Spanned
  pub parts : ts ≡ before ++ (token ∷ rest)
  pub begins : BeginsLine before
  pub ends : BeginsLine (before ++ (token ∷ [])) → ⊥
  pub reported : fault ≡ line_fault Expected token.at

-- the tokens are no line
abbrev pub IsNoLine : List Spanned → Type 0
IsNoLine ts = (said : LineNode) → IsWritten ts said → ⊥

-- What is reported of tokens with which a line begins: the fault of a token that ends them; or, at the end of a line with so
-- many bytes, that it ends too early.
abbrev pub IsReportedAfter : ℕ → List Spanned → Option Fault → LineFault → Type 0
IsReportedAfter end ts None fault = IsNoLine ts × (fault ≡ line_fault Expected end)
IsReportedAfter end ts (Some lexical) fault = fault ≡ as_line_fault lexical

-- what the tokens of a line with that many bytes say, which are ended by this fault of a token if any, or their first fault
abbrev pub TokensRead : ℕ → List Spanned → Option Fault → Result LineNode LineFault → Type 0
TokensRead end ts lexical (Ok said) = (lexical ≡ None) × IsWritten ts said
TokensRead end ts lexical (Err fault) = IsUnexpectedToken ts fault ⊎ (BeginsLine ts × IsReportedAfter end ts lexical fault)
