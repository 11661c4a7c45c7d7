-- The next token, found by its first byte.
use Rattle.std.specs.Prelude.{◌≡◌, ◌≤◌, ◌++◌, ℕ, ◌+◌, ◌^◌, suc, pos, neg_ℤ, Bool, true, false, List, [], ◌∷◌, length, take, find, Option, Some, None, Result, Ok, Err, nat_lt, nat_le, nat_eq, if◌then◌else◌, ◌||◌}
use Rattle.std.specs.Option.{option_map}
use Rattle.std.specs.List.{take_while}
use Rattle.std.specs.Cmp.Lexicographic.{pointwise}
use Rattle.pac_value.specs.Ascii.{quote, backslash, lower_a, lower_d, lower_e, lower_f, lower_h, lower_i, lower_k, lower_l, lower_p, lower_r, lower_s, lower_t}
use Rattle.pac_value.specs.Texts.{is_printable}
use Rattle.pac_value.specs.declared.limits.TheConstants.{MAX_NAME, MAX_TEXT}
use Rattle.pac_tokens.specs.declared.token.Keyword.{Keyword}
use Rattle.pac_tokens.specs.declared.token.Keyword.TheVariants as keyword
use Rattle.pac_tokens.specs.declared.token.Symbol.{Symbol}
use Rattle.pac_tokens.specs.declared.token.Symbol.TheVariants as symbol
use Rattle.pac_tokens.specs.declared.token.Token.{Token}
use Rattle.pac_tokens.specs.declared.token.Token.TheVariants as token
use Rattle.pac_tokens.specs.declared.token.TheConstants.{SYMBOLS}
use Rattle.pac_tokens.specs.declared.token.Spanned.{Spanned}
use Rattle.pac_tokens.specs.declared.lexer.Step.{Step}
use Rattle.pac_tokens.specs.declared.lexer.Step.TheVariants as step
use Rattle.pac_tokens.specs.declared.lexer.Before.{Before}
use Rattle.pac_tokens.specs.declared.lexer.Before.TheVariants.{LiteralMinus}
use Rattle.pac_tokens.specs.declared.fault.FaultKind.{FaultKind}
use Rattle.pac_tokens.specs.declared.fault.FaultKind.TheVariants as kind
use Rattle.pac_tokens.specs.Spelling.{symbol_spelling}
use Rattle.pac_tokens.specs.Tokens.{is_letter, is_digit, is_name, digits_value, keyword_of, is_long_minus, IsNext, IsBad, after}

-- ---- words and ints

-- the only keyword that may be spelled by this number of bytes that begin with these two
abbrev pub candidate : ℕ → ℕ → ℕ → Option Keyword
candidate first second len =
    if nat_eq first lower_a then Some keyword.Abort
    else (if nat_eq first lower_d then Some (if nat_eq len 6 then keyword.Delete else keyword.Default)
    else (if nat_eq first lower_e then Some keyword.Else
    else (if nat_eq first lower_f then Some (if nat_eq len 3 then keyword.For else keyword.False)
    else (if nat_eq first lower_h then Some keyword.Has
    else (if nat_eq first lower_i then Some (if nat_eq second lower_f then keyword.If else (if nat_eq len 2 then keyword.In else keyword.Int))
    else (if nat_eq first lower_k then Some keyword.Key
    else (if nat_eq first lower_l then Some keyword.Let
    else (if nat_eq first lower_p then Some (if nat_eq len 3 then keyword.Put else keyword.Proc)
    else (if nat_eq first lower_r then Some keyword.Read
    else (if nat_eq first lower_s then Some keyword.Set
    else (if nat_eq first lower_t then Some (if nat_eq second lower_a then keyword.Table else (if nat_eq second lower_e then keyword.Text else keyword.True)) else None)))))))))))

abbrev pub word_token : Option Keyword → List ℕ → Token
word_token None word = token.Name word
word_token (Some k) word = token.Keyword k

abbrev pub word_at : List ℕ → Result (Token × ℕ) FaultKind
word_at word = if nat_lt MAX_NAME (length word) then Err kind.TooLong else Ok (word_token (keyword_of word) word, length word)

abbrev pub int_at : Before → List ℕ → Result (Token × ℕ) FaultKind
int_at LiteralMinus digits = if nat_le (digits_value digits) (2 ^ 63) then Ok (token.Negative (neg_ℤ (pos (digits_value digits))), length digits) else Err kind.TooLong
int_at _ digits = if nat_lt (digits_value digits) (2 ^ 63) then Ok (token.Int (pos (digits_value digits)), length digits) else Err kind.TooLong

-- ---- texts

-- the offset of the closing quote of a text without its opening quote, after a `\` or not; None where the text is not
-- well formed
abbrev pub closing_in : Bool → List ℕ → Option ℕ
closing_in escape [] = None
closing_in true (b ∷ bs) = if nat_eq b quote || nat_eq b backslash then option_map suc (closing_in false bs) else None
closing_in false (b ∷ bs) =
    if nat_eq b quote then Some 0
    else (if nat_eq b backslash then option_map suc (closing_in true bs) else (if is_printable b then option_map suc (closing_in false bs) else None))

-- the bytes of a text without its escapes, after a `\` or not
abbrev pub unescaped : Bool → List ℕ → List ℕ
unescaped escape [] = []
unescaped true (b ∷ bs) = b ∷ unescaped false bs
unescaped false (b ∷ bs) = if nat_eq b backslash then unescaped true bs else b ∷ unescaped false bs

abbrev pub text_of : List ℕ → ℕ → Result (Token × ℕ) FaultKind
text_of text len = if nat_lt MAX_TEXT (length text) then Err kind.TooLong else Ok (token.Text text, len)

abbrev pub closed_text : Option ℕ → List ℕ → Result (Token × ℕ) FaultKind
closed_text None following = Err kind.Token
closed_text (Some n) following = text_of (unescaped false (take n following)) (n + 2)

abbrev pub text_at : List ℕ → Result (Token × ℕ) FaultKind
text_at following = closed_text (closing_in false following) following

-- ---- symbols

-- the symbol that these bytes spell
unfoldable pub symbol_of : List ℕ → Option Symbol
symbol_of bytes = find (λ s. pointwise nat_eq (symbol_spelling s) bytes) SYMBOLS

abbrev pub or_first : Option Symbol → Option Symbol → Option Symbol
or_first None other = other
or_first (Some s) other = Some s

-- the symbol at the start: one of two bytes, or of one
abbrev pub first_symbol : List ℕ → Option Symbol
first_symbol bytes = or_first (symbol_of (take 2 bytes)) (symbol_of (take 1 bytes))

abbrev pub minus_at : Before → List ℕ → Result (Token × ℕ) FaultKind
minus_at before following = if is_long_minus before following then Err kind.TooLong else Ok (token.Symbol symbol.Minus, 1)

abbrev pub symbol_at : Before → Option Symbol → List ℕ → Result (Token × ℕ) FaultKind
symbol_at before None following = Err kind.Token
symbol_at before (Some symbol.Minus) following = minus_at before following
symbol_at before (Some s) following = Ok (token.Symbol s, length (symbol_spelling s))

-- ---- any token

-- the first token of the bytes and how many of them it has, by what stands before it
abbrev pub token_at : Before → List ℕ → Result (Token × ℕ) FaultKind
token_at before [] = Err kind.Token
token_at before (b ∷ bs) =
    if is_letter b then word_at (take_while is_name (b ∷ bs))
    else (if is_digit b then int_at before (take_while is_digit (b ∷ bs))
    else (if nat_eq b quote then text_at bs else symbol_at before (first_symbol (b ∷ bs)) bs))

-- the result is the next token of the bytes, or the fault they begin with
abbrev pub IsFirstToken : Before → List ℕ → Result (Token × ℕ) FaultKind → Type 0
IsFirstToken before bytes (Ok p) = IsNext before bytes p.0 p.1
IsFirstToken before bytes (Err kind) = IsBad before bytes kind

-- ---- one step

-- the token that was found stands after those so far, and the step says its length and what stands before the next one
abbrev pub IsPushed : Before → ℕ → Result (Token × ℕ) FaultKind → List Spanned → List Spanned → Step → Type 0
IsPushed before at (Ok p) old new (step.Pushed len next) = (new ≡ old ++ (record { token = p.0; at = at } ∷ [])) × (len ≡ p.1) × (next ≡ after before p.0)
IsPushed before at (Err kind) old new (step.Refused other) = (new ≡ old) × (other ≡ kind)
IsPushed before at _ old new _ = ⊥

-- the same of the next token of the bytes, or the fault they begin with
abbrev pub IsStep : Before → ℕ → List ℕ → List Spanned → List Spanned → Step → Type 0
IsStep before at bytes old new (step.Pushed len next) = (t : Token) × (new ≡ old ++ (record { token = t; at = at } ∷ [])) × IsNext before bytes t len × (next ≡ after before t)
IsStep before at bytes old new (step.Refused kind) = (new ≡ old) × IsBad before bytes kind

-- a token has some of that many bytes
abbrev pub StaysWithin : ℕ → Step → Type 0
StaysWithin n (step.Pushed len next) = (1 ≤ len) × (len ≤ n)
StaysWithin n (step.Refused kind) = Unit {0}
