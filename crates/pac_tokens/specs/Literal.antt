-- An int or a text as it is written in tokens: [ "-" ] INT, or TEXT.
use Rattle.std.specs.Prelude.{List, [], ◌∷◌, Option, Some, None, true, false}
use Rattle.pac_value.specs.declared.values.Value.{Value}
use Rattle.pac_value.specs.declared.values.Value.TheVariants.{Int, Text, Bool}
use Rattle.pac_tokens.specs.declared.token.Token.{Token}
use Rattle.pac_tokens.specs.declared.token.Token.TheVariants as token
use Rattle.pac_tokens.specs.declared.token.Keyword.TheVariants as keyword
use Rattle.pac_tokens.specs.declared.token.Symbol.TheVariants as symbol
use Rattle.pac_tokens.specs.declared.token.Spanned.{Spanned}

-- the int, where this token has it after the `-` of a literal, and the tokens after it
abbrev pub int_of_minus : Token → List Spanned → Option (Value × List Spanned)
int_of_minus (token.Negative z) rest = Some (Int z, rest)
int_of_minus _ rest = None

-- the int after the `-` of a literal, and the tokens after it
abbrev pub int_after_minus : List Spanned → Option (Value × List Spanned)
int_after_minus [] = None
int_after_minus (t ∷ ts) = int_of_minus t.token ts

-- the int or text that begins with this token before others, and the tokens after it
abbrev pub int_or_text_from : Token → List Spanned → Option (Value × List Spanned)
int_or_text_from (token.Int z) rest = Some (Int z, rest)
int_or_text_from (token.Text text) rest = Some (Text text, rest)
int_or_text_from (token.Symbol symbol.Minus) rest = int_after_minus rest
int_or_text_from _ rest = None

-- the int or text at the start, and the tokens after it
abbrev pub int_or_text_in : List Spanned → Option (Value × List Spanned)
int_or_text_in [] = None
int_or_text_in (t ∷ ts) = int_or_text_from t.token ts

-- the token that a literal is, where it is of one token
abbrev pub literal_token : Value → Token
literal_token (Int z) = token.Int z
literal_token (Text text) = token.Text text
literal_token (Bool true) = token.Keyword keyword.True
literal_token (Bool false) = token.Keyword keyword.False
