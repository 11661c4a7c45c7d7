-- How request lines are written: derivations with the offset of each token, their tokens, and what each says.
use Rattle.std.specs.Prelude.{◌≡◌, ℕ, suc, ◌≤◌, ◌+◌, List, [], ◌∷◌, codes, true, false}
use Rattle.pac_value.specs.declared.values.Value.TheVariants as value
use Rattle.pac_tokens.specs.declared.token.Keyword.{Keyword}
use Rattle.pac_tokens.specs.declared.token.Keyword.TheVariants as keyword
use Rattle.pac_tokens.specs.declared.token.Symbol.{Symbol}
use Rattle.pac_tokens.specs.declared.token.Symbol.TheVariants as symbol
use Rattle.pac_tokens.specs.declared.token.Token.TheVariants as token
use Rattle.pac_tokens.specs.declared.token.Spanned.{Spanned}
use Rattle.pac_ops.specs.declared.limits.TheConstants.{MAX_RECORDS}
use Rattle.pac_syntax.specs.declared.tree.NameNode.{NameNode}
use Rattle.pac_request.specs.declared.node.PlacedLiteral.{PlacedLiteral}
use Rattle.pac_syntax.specs.Grammar.{LiteralForm, AnInt, ANegative, AText, ATrue, AFalse}
use Rattle.pac_syntax.specs.Views.{name_token}
use Rattle.pac_request.specs.declared.node.Verb.{Verb}
use Rattle.pac_request.specs.declared.node.Verb.TheVariants as verb
use Rattle.pac_request.specs.declared.node.RecordNode.{RecordNode}
use Rattle.pac_request.specs.declared.node.RecordNode.TheVariants as record_
use Rattle.pac_request.specs.declared.node.LineNode.{LineNode}
use Rattle.pac_request.specs.declared.node.LineNode.TheVariants as line

-- ---- derivations; their numbers are the offsets of the symbols and words, in the order of the line

-- { "," lit }
pub data LiteralsForm : Type 0 where
  NoLiteral : LiteralsForm
  OneLiteral : (comma : ℕ) → LiteralForm → LiteralsForm → LiteralsForm

-- [ lit { "," lit } ]
pub data ArgumentsForm : Type 0 where
  NoArgument : ArgumentsForm
  SomeArguments : LiteralForm → LiteralsForm → ArgumentsForm

-- a record
pub data RecordForm : Type 0 where
  -- "put" NAME "[" lit "]" "=" "(" lit { "," lit } ")"
  PutForm : (p0 : ℕ) → NameNode → (p1 : ℕ) → LiteralForm → (p2 p3 p4 : ℕ) → LiteralForm → LiteralsForm → (p5 : ℕ) → RecordForm
  -- "delete" NAME "[" lit "]"
  DeleteForm : (p0 : ℕ) → NameNode → (p1 : ℕ) → LiteralForm → (p2 : ℕ) → RecordForm

-- { ";" record }
pub data RecordsForm : Type 0 where
  NoRecord : RecordsForm
  OneRecord : (semicolon : ℕ) → RecordForm → RecordsForm → RecordsForm

-- a line
pub data LineForm : Type 0 where
  EmptyForm : LineForm
  -- "call" NAME "(" [ lit { "," lit } ] ")"
  CallForm : (p0 : ℕ) → NameNode → (p1 : ℕ) → ArgumentsForm → (p2 : ℕ) → LineForm
  -- "adhoc" record { ";" record }
  AdHocForm : (p0 : ℕ) → RecordForm → RecordsForm → LineForm
  -- "show" NAME "[" lit "]"
  ShowForm : (p0 : ℕ) → NameNode → (p1 : ℕ) → LiteralForm → (p2 : ℕ) → LineForm
  FlushForm : (p0 : ℕ) → LineForm
  SaveForm : (p0 : ℕ) → LineForm
  StopForm : (p0 : ℕ) → LineForm

-- ---- the tokens of each, before others

-- the word that a line begins with
abbrev pub verb_word : Verb → List ℕ
verb_word verb.Call = codes "call"
verb_word verb.AdHoc = codes "adhoc"
verb_word verb.Show = codes "show"
verb_word verb.Flush = codes "flush"
verb_word verb.Save = codes "save"
verb_word verb.Stop = codes "stop"

-- the word of a line, at an offset
abbrev pub verb_token : Verb → ℕ → Spanned
verb_token v at = record { token = token.Name (verb_word v); at = at }

-- a keyword, at an offset
abbrev pub keyword_token : Keyword → ℕ → Spanned
keyword_token k at = record { token = token.Keyword k; at = at }

-- a symbol, at an offset
abbrev pub symbol_token : Symbol → ℕ → Spanned
symbol_token s at = record { token = token.Symbol s; at = at }

-- the tokens of a literal
abbrev pub literal_tokens : LiteralForm → List Spanned → List Spanned
literal_tokens (AnInt at z) rest = record { token = token.Int z; at = at } ∷ rest
literal_tokens (ANegative minus at z) rest = symbol_token symbol.Minus minus ∷ record { token = token.Negative z; at = at } ∷ rest
literal_tokens (AText at text) rest = record { token = token.Text text; at = at } ∷ rest
literal_tokens (ATrue at) rest = keyword_token keyword.True at ∷ rest
literal_tokens (AFalse at) rest = keyword_token keyword.False at ∷ rest

-- the tokens of further literals
abbrev pub literals_before : LiteralsForm → List Spanned → List Spanned
literals_before NoLiteral rest = rest
literals_before (OneLiteral comma l ls) rest = symbol_token symbol.Comma comma ∷ literal_tokens l (literals_before ls rest)

-- the tokens of arguments
abbrev pub arguments_before : ArgumentsForm → List Spanned → List Spanned
arguments_before NoArgument rest = rest
arguments_before (SomeArguments l ls) rest = literal_tokens l (literals_before ls rest)

-- the tokens of a record
abbrev pub record_before : RecordForm → List Spanned → List Spanned
record_before (PutForm p0 name p1 key p2 p3 p4 l ls p5) rest =
    keyword_token keyword.Put p0 ∷ name_token name ∷ symbol_token symbol.OpenBracket p1 ∷ literal_tokens key (symbol_token symbol.CloseBracket p2
    ∷ symbol_token symbol.Assign p3 ∷ symbol_token symbol.OpenParen p4 ∷ literal_tokens l (literals_before ls (symbol_token symbol.CloseParen p5 ∷ rest)))
record_before (DeleteForm p0 name p1 key p2) rest =
    keyword_token keyword.Delete p0 ∷ name_token name ∷ symbol_token symbol.OpenBracket p1 ∷ literal_tokens key (symbol_token symbol.CloseBracket p2 ∷ rest)

-- the tokens of further records
abbrev pub records_tokens : RecordsForm → List Spanned
records_tokens NoRecord = []
records_tokens (OneRecord semicolon r rs) = symbol_token symbol.Semicolon semicolon ∷ record_before r (records_tokens rs)

-- the tokens of a line
abbrev pub line_tokens : LineForm → List Spanned
line_tokens EmptyForm = []
line_tokens (CallForm p0 name p1 args p2) = verb_token verb.Call p0 ∷ name_token name ∷ symbol_token symbol.OpenParen p1 ∷ arguments_before args (symbol_token symbol.CloseParen p2 ∷ [])
line_tokens (AdHocForm p0 r rs) = verb_token verb.AdHoc p0 ∷ record_before r (records_tokens rs)
line_tokens (ShowForm p0 name p1 key p2) = verb_token verb.Show p0 ∷ name_token name ∷ symbol_token symbol.OpenBracket p1 ∷ literal_tokens key (symbol_token symbol.CloseBracket p2 ∷ [])
line_tokens (FlushForm p0) = verb_token verb.Flush p0 ∷ []
line_tokens (SaveForm p0) = verb_token verb.Save p0 ∷ []
line_tokens (StopForm p0) = verb_token verb.Stop p0 ∷ []

-- ---- what each says

-- a literal and the offset of its first token
abbrev pub placed_literal : LiteralForm → PlacedLiteral
placed_literal (AnInt at z) = record { at = at; value = value.Int z }
placed_literal (ANegative minus at z) = record { at = minus; value = value.Int z }
placed_literal (AText at text) = record { at = at; value = value.Text text }
placed_literal (ATrue at) = record { at = at; value = value.Bool true }
placed_literal (AFalse at) = record { at = at; value = value.Bool false }

-- further literals
abbrev pub literals_nodes : LiteralsForm → List PlacedLiteral
literals_nodes NoLiteral = []
literals_nodes (OneLiteral comma l ls) = placed_literal l ∷ literals_nodes ls

-- arguments
abbrev pub arguments_nodes : ArgumentsForm → List PlacedLiteral
arguments_nodes NoArgument = []
arguments_nodes (SomeArguments l ls) = placed_literal l ∷ literals_nodes ls

-- a record
abbrev pub record_node : RecordForm → RecordNode
record_node (PutForm p0 name p1 key p2 p3 p4 l ls p5) = record_.Put name (placed_literal key) (placed_literal l ∷ literals_nodes ls)
record_node (DeleteForm p0 name p1 key p2) = record_.Delete name (placed_literal key)

-- further records
abbrev pub records_nodes : RecordsForm → List RecordNode
records_nodes NoRecord = []
records_nodes (OneRecord semicolon r rs) = record_node r ∷ records_nodes rs

-- a line
abbrev pub line_node : LineForm → LineNode
line_node EmptyForm = line.Empty
line_node (CallForm p0 name p1 args p2) = line.Call name (arguments_nodes args)
line_node (AdHocForm p0 r rs) = line.AdHoc (record_node r ∷ records_nodes rs)
line_node (ShowForm p0 name p1 key p2) = line.Show name (placed_literal key)
line_node (FlushForm p0) = line.Flush
line_node (SaveForm p0) = line.Save
line_node (StopForm p0) = line.Stop

-- ---- lines

-- how many further records there are
abbrev pub records_count : RecordsForm → ℕ
records_count NoRecord = 0
records_count (OneRecord semicolon r rs) = suc (records_count rs)

-- an ad hoc line has at most 64 records
abbrev pub HasFewRecords : LineForm → Type 0
HasFewRecords (AdHocForm p0 r rs) = records_count rs + 1 ≤ MAX_RECORDS
HasFewRecords _ = Unit {0}

-- the tokens are those of a line that says this
pub record IsWritten (ts : List Spanned) (said : LineNode) : Type 0 where
  pub form : LineForm
  pub few : HasFewRecords form
  pub text : line_tokens form ≡ ts
  pub says : line_node form ≡ said
