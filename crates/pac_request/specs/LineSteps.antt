-- Reading the tokens of a line one at a time: what is still to come, and what is done with it.
use Rattle.std.specs.Prelude.{◌≤◌, ℕ, ℤ, List, [], ◌∷◌, ◌++◌, length, Option, Some, None, Result, Ok, Err, true, false, bytes_eq, nat_lt, if◌then◌else◌, ok_or, Vec}
use Rattle.std.specs.Global.{Global}
use Rattle.std.specs.Option.{option_map}
use Rattle.pac_base.specs.declared.refusal.Refusal.{Refusal}
use Rattle.pac_base.specs.Refusals.{Gives}
use Rattle.pac_value.specs.declared.values.Value.TheVariants as value
use Rattle.pac_tokens.specs.declared.token.Symbol.{Symbol}
use Rattle.pac_tokens.specs.declared.token.Keyword.TheVariants as keyword
use Rattle.pac_tokens.specs.declared.token.Symbol.TheVariants as symbol
use Rattle.pac_tokens.specs.declared.token.Token.{Token}
use Rattle.pac_tokens.specs.declared.token.Token.TheVariants as token
use Rattle.pac_tokens.specs.declared.token.Spanned.{Spanned}
use Rattle.pac_tokens.specs.declared.fault.Fault.{Fault}
use Rattle.pac_ops.specs.declared.limits.TheConstants.{MAX_RECORDS}
use Rattle.pac_syntax.specs.declared.tree.NameNode.{NameNode}
use Rattle.pac_request.specs.declared.node.PlacedLiteral.{PlacedLiteral}
use Rattle.pac_syntax.specs.Machine.{is_same_keyword_or_symbol, name_in}
use Rattle.pac_request.specs.declared.node.Verb.{Verb}
use Rattle.pac_request.specs.declared.node.Verb.TheVariants as verb
use Rattle.pac_request.specs.declared.node.RecordNode.{RecordNode}
use Rattle.pac_request.specs.declared.node.RecordNode.TheVariants as record_
use Rattle.pac_request.specs.declared.node.LineNode.{LineNode}
use Rattle.pac_request.specs.declared.node.LineNode.TheVariants as line
use Rattle.pac_request.specs.declared.parser.LineParser.{LineParser}
use Rattle.pac_request.specs.declared.parser.RecordWord.{RecordWord}
use Rattle.pac_request.specs.declared.parser.RecordWord.TheVariants as word
use Rattle.pac_request.specs.declared.fault.LineFault.{LineFault}
use Rattle.pac_request.specs.declared.fault.LineFaultKind.TheVariants.{Expected}
use Rattle.pac_request.specs.LineKinds.{line_fault, as_line_fault}
use Rattle.pac_request.specs.LineForms.{verb_word}

-- what is to come, and what is done with it
pub data LineSteps : Type 0 where
  -- nothing
  LineEnds : LineNode → LineSteps
  -- this symbol
  ThisSymbol : Symbol → LineSteps → LineSteps
  -- a name; a literal; the int after a literal's `-` at this offset
  SomeName : (NameNode → LineSteps) → LineSteps
  SomeLiteral : (PlacedLiteral → LineSteps) → LineSteps
  SomeNegative : ℕ → (PlacedLiteral → LineSteps) → LineSteps
  -- { "," lit } ")" after these literals
  MoreLiterals : List PlacedLiteral → (List PlacedLiteral → LineSteps) → LineSteps
  -- [ lit { "," lit } ] ")"
  AllArguments : (List PlacedLiteral → LineSteps) → LineSteps
  -- a record
  SomeRecord : (RecordNode → LineSteps) → LineSteps
  -- { ";" record } after these records, up to 64
  MoreRecords : List RecordNode → LineSteps
  -- a line
  AnyLine : LineSteps

-- these steps, where the token is this symbol
abbrev pub where_symbol : Symbol → Token → LineSteps → Option LineSteps
where_symbol s t k = if is_same_keyword_or_symbol (token.Symbol s) t then Some k else None

-- the first of two, where there is one
abbrev pub first_some : Option LineSteps → Option LineSteps → Option LineSteps
first_some (Some k) other = Some k
first_some None other = other

-- an int, at the offset of its first token
abbrev pub placed_int : ℕ → ℤ → PlacedLiteral
placed_int at z = record { at = at; value = value.Int z }

-- a literal of one token
abbrev pub literal_of_token : Token → ℕ → Option PlacedLiteral
literal_of_token (token.Int z) at = Some (placed_int at z)
literal_of_token (token.Text text) at = Some (record { at = at; value = value.Text text })
literal_of_token (token.Keyword keyword.True) at = Some (record { at = at; value = value.Bool true })
literal_of_token (token.Keyword keyword.False) at = Some (record { at = at; value = value.Bool false })
literal_of_token _ at = None

-- a literal of one token, or its `-`
abbrev pub literal_steps : Token → ℕ → (PlacedLiteral → LineSteps) → Option LineSteps
literal_steps t at k = first_some (option_map k (literal_of_token t at)) (where_symbol symbol.Minus t (SomeNegative at k))

-- the int after a literal's -
abbrev pub negative_steps : Token → ℕ → (PlacedLiteral → LineSteps) → Option LineSteps
negative_steps (token.Negative z) minus k = Some (k (placed_int minus z))
negative_steps _ minus k = None

-- NAME "[" lit "]"
abbrev pub named_cell_steps : (NameNode → PlacedLiteral → LineSteps) → LineSteps
named_cell_steps k = SomeName (λ name. ThisSymbol symbol.OpenBracket (SomeLiteral (λ key. ThisSymbol symbol.CloseBracket (k name key))))

-- "=" "(" lit { "," lit } ")"
abbrev pub row_steps : (List PlacedLiteral → LineSteps) → LineSteps
row_steps k = ThisSymbol symbol.Assign (ThisSymbol symbol.OpenParen (SomeLiteral (λ l. MoreLiterals (l ∷ []) k)))

-- a put after its word
abbrev pub put_record_steps : (RecordNode → LineSteps) → LineSteps
put_record_steps k = named_cell_steps (λ name key. row_steps (λ values. k (record_.Put name key values)))

-- a delete after its word
abbrev pub delete_record_steps : (RecordNode → LineSteps) → LineSteps
delete_record_steps k = named_cell_steps (λ name key. k (record_.Delete name key))

-- the word that a record begins with
abbrev pub record_word : Token → Option RecordWord
record_word (token.Keyword keyword.Put) = Some word.Put
record_word (token.Keyword keyword.Delete) = Some word.Delete
record_word _ = None

-- a record after its word
abbrev pub record_steps : (RecordNode → LineSteps) → RecordWord → LineSteps
record_steps k word.Put = put_record_steps k
record_steps k word.Delete = delete_record_steps k

-- the line's word
abbrev pub verb_named : List ℕ → Option Verb
verb_named n =
    if bytes_eq n (verb_word verb.Call) then Some verb.Call else (if bytes_eq n (verb_word verb.AdHoc) then Some verb.AdHoc else
    (if bytes_eq n (verb_word verb.Show) then Some verb.Show else (if bytes_eq n (verb_word verb.Flush) then Some verb.Flush else
    (if bytes_eq n (verb_word verb.Save) then Some verb.Save else (if bytes_eq n (verb_word verb.Stop) then Some verb.Stop else None)))))

-- the line's word that a token is, if it is one
abbrev pub verb_in : Token → Option Verb
verb_in (token.Name n) = verb_named n
verb_in _ = None

-- a line after its word
abbrev pub verb_steps : Verb → LineSteps
verb_steps verb.Call = SomeName (λ name. ThisSymbol symbol.OpenParen (AllArguments (λ args. LineEnds (line.Call name args))))
verb_steps verb.AdHoc = SomeRecord (λ r. MoreRecords (r ∷ []))
verb_steps verb.Show = named_cell_steps (λ name key. LineEnds (line.Show name key))
verb_steps verb.Flush = LineEnds line.Flush
verb_steps verb.Save = LineEnds line.Save
verb_steps verb.Stop = LineEnds line.Stop

-- what is to come after the token, where it can follow
unfoldable pub steps_after : LineSteps → Spanned → Option LineSteps
steps_after (LineEnds said) t = None
steps_after (ThisSymbol s k) t = where_symbol s t.token k
steps_after (SomeName k) t = option_map k (name_in t.token t.at)
steps_after (SomeLiteral k) t = literal_steps t.token t.at k
steps_after (SomeNegative minus k) t = negative_steps t.token minus k
steps_after (MoreLiterals ls k) t = first_some (where_symbol symbol.Comma t.token (SomeLiteral (λ l. MoreLiterals (ls ++ (l ∷ [])) k))) (where_symbol symbol.CloseParen t.token (k ls))
steps_after (AllArguments k) t = first_some (where_symbol symbol.CloseParen t.token (k [])) (literal_steps t.token t.at (λ l. MoreLiterals (l ∷ []) k))
steps_after (SomeRecord k) t = option_map (record_steps k) (record_word t.token)
steps_after (MoreRecords rs) t = if nat_lt (length rs) MAX_RECORDS then where_symbol symbol.Semicolon t.token (SomeRecord (λ r. MoreRecords (rs ++ (r ∷ [])))) else None
steps_after AnyLine t = option_map verb_steps (verb_in t.token)

-- what the line says, where it may end
unfoldable pub said_at_end : LineSteps → Option LineNode
said_at_end (LineEnds said) = Some said
said_at_end (ThisSymbol s k) = None
said_at_end (SomeName k) = None
said_at_end (SomeLiteral k) = None
said_at_end (SomeNegative minus k) = None
said_at_end (MoreLiterals ls k) = None
said_at_end (AllArguments k) = None
said_at_end (SomeRecord k) = None
said_at_end (MoreRecords rs) = Some (line.AdHoc rs)
said_at_end AnyLine = Some line.Empty

-- what the token at this offset leads to
abbrev pub led : ℕ → Option LineSteps → (LineSteps → Result LineNode LineFault) → Result LineNode LineFault
led at None go = Err (line_fault Expected at)
led at (Some k) go = go k

-- the fault at the first of these tokens, which can't follow; where there is none, what is reported at the end of the tokens
abbrev pub fault_here : LineFault → List Spanned → LineFault
fault_here end [] = end
fault_here end (t ∷ ts) = line_fault Expected t.at

-- what the tokens say, or the fault of the first that can't follow; or this fault, where they end too early
unfoldable pub line_run : LineFault → LineSteps → List Spanned → Result LineNode LineFault
line_run end k [] = ok_or (said_at_end k) end
line_run end k (t ∷ ts) = led t.at (steps_after k t) (λ next. line_run end next ts)

-- ---- what a function of the parser says

-- no more tokens are left than before
abbrev pub LeavesNoMore : LineParser → LineParser → Type 0
LeavesNoMore old new = length new.rest.now ≤ length old.rest.now

-- the parser read what these steps want, and gives it: after it the reading goes on where the parser stands now
abbrev pub ReadsOn : {A : Type 0} → ((A → LineSteps) → LineSteps) → LineParser → LineParser → Result A (Refusal LineFault) → Type 0
ReadsOn {A} steps old new result = (k : A → LineSteps) → Gives (λ read. line_run new.end (k read) new.rest.now) result (line_run old.end (steps k) old.rest.now)

-- the same, where what it gives is a vector
abbrev pub ReadsAllOn : {A : Type 0} → ((List A → LineSteps) → LineSteps) → LineParser → LineParser → Result (Vec A Global) (Refusal LineFault) → Type 0
ReadsAllOn {A} steps old new result = (k : List A → LineSteps) → Gives (λ read. line_run new.end (k read.items) new.rest.now) result (line_run old.end (steps k) old.rest.now)

-- ---- the tokens of a line

-- what is reported where the tokens of a line with that many bytes end too early
abbrev pub reported_at_end : ℕ → Option Fault → LineFault
reported_at_end end None = line_fault Expected end
reported_at_end end (Some lexical) = as_line_fault lexical

-- what is said, where no fault of a token ends the tokens
abbrev pub unless_cut : Option Fault → Result LineNode LineFault → Result LineNode LineFault
unless_cut None read = read
unless_cut (Some lexical) (Ok said) = Err (as_line_fault lexical)
unless_cut (Some lexical) (Err fault) = Err fault

-- what the tokens of a line with that many bytes say, or their first fault
abbrev pub tokens_read : ℕ → List Spanned → Option Fault → Result LineNode LineFault
tokens_read end ts lexical = unless_cut lexical (line_run (reported_at_end end lexical) AnyLine ts)
