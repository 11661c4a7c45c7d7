-- Calls that are read from the bytes of a line, with no list of its tokens. No public clause names this.
use Rattle.std.specs.Prelude.{◌≡◌, ℕ, Bool, true, false, List, [], ◌∷◌, ◌++◌, length, Some, None, Result, Ok}
use Rattle.pac_value.specs.declared.values.Ty.{Ty}
use Rattle.pac_value.specs.declared.values.Value.{Value}
use Rattle.pac_tokens.specs.declared.token.Spanned.{Spanned}
use Rattle.pac_tokens.specs.declared.lexer.Before.{Before}
use Rattle.pac_tokens.specs.Tokens.{Lexed, IsLexed, is_literal_minus}
use Rattle.pac_types.specs.Typing.{CatalogueState}
use Rattle.pac_types.specs.declared.procedure.Proc.{Proc}
use Rattle.pac_syntax.specs.declared.tree.NameNode.{NameNode}
use Rattle.pac_request.specs.declared.node.PlacedLiteral.{PlacedLiteral}
use Rattle.pac_request.specs.declared.node.LineNode.{LineNode}
use Rattle.pac_request.specs.declared.node.LineNode.TheVariants as line
use Rattle.pac_request.specs.declared.fault.LineFault.{LineFault}
use Rattle.pac_request.specs.declared.request.Request.{Request}
use Rattle.pac_request.specs.LineSteps.{LineSteps, LineEnds, SomeLiteral, MoreLiterals, AllArguments, AnyLine, line_run}
use Rattle.pac_request.specs.RequestMeaning.{proc_at, asked_values, asked}
use Rattle.pac_request.specs.ScriptLines.{out_of_place}

-- The line's tokens, of which the first is a word that a script allows, say this, whatever is reported at their end.
pub record SaysAs (text : List ℕ) (said : LineFault → Result LineNode LineFault) : Type 0 where
  pub tokens : List Spanned
  pub lexed : IsLexed text tokens None
  pub in_place : out_of_place tokens ≡ None
  pub says : (end : LineFault) → line_run end AnyLine tokens ≡ said end

-- to read on from here, the rest of the line, by these steps is to read the line
abbrev pub LineGoesOn : List ℕ → Before → ℕ → List ℕ → LineSteps → Type 0
LineGoesOn text before at rest steps = (ts : List Spanned) → Lexed before at rest ts None → SaysAs text (λ end. line_run end steps ts)

-- the same from some offset, where no `-` of a literal stands before
pub record LineReadsTo (text rest : List ℕ) (steps : LineSteps) : Type 0 where
  pub before : Before
  pub other : is_literal_minus before ≡ false
  pub at : ℕ
  pub on : LineGoesOn text before at rest steps

-- the line calls this procedure, and the rest is to have its arguments
pub record IsCalled (catalogue : CatalogueState) (text : List ℕ) (number : ℕ) (proc : Proc) (rest : List ℕ) : Type 0 where
  pub name : NameNode
  pub is : proc_at catalogue.procs name ≡ Ok (number, proc)
  pub left : LineReadsTo text rest (AllArguments (λ args. LineEnds (line.Call name args)))

-- what is to come after these arguments
abbrev pub arguments_after : List PlacedLiteral → (List PlacedLiteral → LineSteps) → LineSteps
arguments_after [] k = AllArguments k
arguments_after ls k = MoreLiterals ls k

-- what is to come where the next argument begins, after these and a comma
abbrev pub argument_at : List PlacedLiteral → (List PlacedLiteral → LineSteps) → LineSteps
argument_at [] k = AllArguments k
argument_at ls k = SomeLiteral (λ l. MoreLiterals (ls ++ (l ∷ [])) k)

-- there is no literal
abbrev pub is_none : List PlacedLiteral → Bool
is_none [] = true
is_none _ = false

-- from the bytes one reads to the rest, where an argument begins, the first or one after others
abbrev pub TakesLiteral : Bool → List ℕ → List ℕ → Type 0
TakesLiteral is_first bytes rest = (text : List ℕ) (ls : List PlacedLiteral) (k : List PlacedLiteral → LineSteps) → is_first ≡ is_none ls
    → LineReadsTo text bytes (arguments_after ls k) → LineReadsTo text rest (argument_at ls k)

-- an argument that was read, with its offset, and where it stands among those before it
pub record IsArgumentRead (text rest : List ℕ) (ls : List PlacedLiteral) (k : List PlacedLiteral → LineSteps) (v : Value) : Type 0 where
  pub offset : ℕ
  pub left : LineReadsTo text rest (MoreLiterals (ls ++ (record { at = offset; value = v } ∷ [])) k)

-- from the bytes, where an argument begins, one reads this one to the rest
abbrev pub IsLiteralRead : List ℕ → Value → List ℕ → Type 0
IsLiteralRead bytes v rest = (text : List ℕ) (ls : List PlacedLiteral) (k : List PlacedLiteral → LineSteps) → LineReadsTo text bytes (argument_at ls k) → IsArgumentRead text rest ls k v

-- from the bytes, after arguments, one reads to the end of the line
abbrev pub IsEndRead : List ℕ → Type 0
IsEndRead bytes = (text : List ℕ) (ls : List PlacedLiteral) (k : List PlacedLiteral → LineSteps) → LineReadsTo text bytes (arguments_after ls k) → SaysAs text (λ end. line_run end (k ls) [])

-- the line ends after arguments of these types, which have these values
pub record LineEndsWith (text : List ℕ) (k : List PlacedLiteral → LineSteps) (tys : List Ty) (vs : List Value) : Type 0 where
  pub literals : List PlacedLiteral
  pub many : length tys ≡ length literals
  pub values : asked_values tys literals ≡ Ok vs
  pub says : SaysAs text (λ end. line_run end (k literals) [])

-- from the bytes, where the arguments begin, one reads so to the end of the line
abbrev pub HasArguments : List Ty → List ℕ → List Value → Type 0
HasArguments tys bytes vs = (text : List ℕ) (k : List PlacedLiteral → LineSteps) → LineReadsTo text bytes (AllArguments k) → LineEndsWith text k tys vs

-- the line asks this, by what its tokens say
pub record AsksPlainly (catalogue : CatalogueState) (text : List ℕ) (request : Request) : Type 0 where
  pub node : LineNode
  pub says : SaysAs text (λ end. Ok node)
  pub asks : asked catalogue node ≡ Ok (Some request)
