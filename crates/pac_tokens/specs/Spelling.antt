-- How keywords and symbols are spelled.
use Rattle.std.specs.Prelude.{ℕ, List, codes}
use Rattle.pac_tokens.specs.declared.token.Keyword.{Keyword}
use Rattle.pac_tokens.specs.declared.token.Keyword.TheVariants as keyword
use Rattle.pac_tokens.specs.declared.token.Symbol.{Symbol}
use Rattle.pac_tokens.specs.declared.token.Symbol.TheVariants as symbol

-- the bytes of a keyword
abbrev pub keyword_spelling : Keyword → List ℕ
keyword_spelling keyword.Table = codes "table"
keyword_spelling keyword.Proc = codes "proc"
keyword_spelling keyword.Key = codes "key"
keyword_spelling keyword.Int = codes "int"
keyword_spelling keyword.Text = codes "text"
keyword_spelling keyword.Let = codes "let"
keyword_spelling keyword.Read = codes "read"
keyword_spelling keyword.Has = codes "has"
keyword_spelling keyword.Put = codes "put"
keyword_spelling keyword.Set = codes "set"
keyword_spelling keyword.Delete = codes "delete"
keyword_spelling keyword.Abort = codes "abort"
keyword_spelling keyword.If = codes "if"
keyword_spelling keyword.Else = codes "else"
keyword_spelling keyword.Default = codes "default"
keyword_spelling keyword.True = codes "true"
keyword_spelling keyword.False = codes "false"
keyword_spelling keyword.For = codes "for"
keyword_spelling keyword.In = codes "in"

-- the bytes of a symbol
abbrev pub symbol_spelling : Symbol → List ℕ
symbol_spelling symbol.OpenParen = codes "("
symbol_spelling symbol.CloseParen = codes ")"
symbol_spelling symbol.OpenBrace = codes "{"
symbol_spelling symbol.CloseBrace = codes "}"
symbol_spelling symbol.OpenBracket = codes "["
symbol_spelling symbol.CloseBracket = codes "]"
symbol_spelling symbol.Comma = codes ","
symbol_spelling symbol.Semicolon = codes ";"
symbol_spelling symbol.Dot = codes "."
symbol_spelling symbol.Assign = codes "="
symbol_spelling symbol.Plus = codes "+"
symbol_spelling symbol.Minus = codes "-"
symbol_spelling symbol.Star = codes "*"
symbol_spelling symbol.Slash = codes "/"
symbol_spelling symbol.Percent = codes "%"
symbol_spelling symbol.Not = codes "!"
symbol_spelling symbol.Less = codes "<"
symbol_spelling symbol.Greater = codes ">"
symbol_spelling symbol.Equal = codes "=="
symbol_spelling symbol.NotEqual = codes "!="
symbol_spelling symbol.LessEqual = codes "<="
symbol_spelling symbol.GreaterEqual = codes ">="
symbol_spelling symbol.And = codes "&&"
symbol_spelling symbol.Or = codes "||"
symbol_spelling symbol.Range = codes ".."
