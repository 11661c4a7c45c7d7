-- Two tokens that are one word or one symbol are equal.
use Rattle.std.proofs.Common.{◌≡◌, true, get_or, refl, sym, ap, ◌∙◌}
use Rattle.std.proofs.lemmas.Bool.{eqb-true}
use Rattle.pac_tokens.specs.declared.token.Keyword.{Keyword}
use Rattle.pac_tokens.specs.declared.token.Keyword.TheVariants as keyword
use Rattle.pac_tokens.specs.declared.token.Symbol.{Symbol}
use Rattle.pac_tokens.specs.declared.token.Symbol.TheVariants as symbol
use Rattle.pac_tokens.specs.declared.token.Token.{Token}
use Rattle.pac_tokens.specs.declared.token.Token.TheVariants as token
use Rattle.pac_tokens.specs.declared.token.TheConstants.{KEYWORDS, SYMBOLS}
use Rattle.pac_syntax.specs.Machine.{keyword_code, symbol_code, is_same_keyword_or_symbol}

keyword_decoded : (word : Keyword) → get_or KEYWORDS (keyword_code word) keyword.Table ≡ word
keyword_decoded keyword.Table = refl
keyword_decoded keyword.Proc = refl
keyword_decoded keyword.Key = refl
keyword_decoded keyword.Int = refl
keyword_decoded keyword.Text = refl
keyword_decoded keyword.Let = refl
keyword_decoded keyword.Read = refl
keyword_decoded keyword.Has = refl
keyword_decoded keyword.Put = refl
keyword_decoded keyword.Set = refl
keyword_decoded keyword.Delete = refl
keyword_decoded keyword.Abort = refl
keyword_decoded keyword.If = refl
keyword_decoded keyword.Else = refl
keyword_decoded keyword.Default = refl
keyword_decoded keyword.True = refl
keyword_decoded keyword.False = refl
keyword_decoded keyword.For = refl
keyword_decoded keyword.In = refl

symbol_decoded : (sign : Symbol) → get_or SYMBOLS (symbol_code sign) symbol.Plus ≡ sign
symbol_decoded symbol.OpenParen = refl
symbol_decoded symbol.CloseParen = refl
symbol_decoded symbol.OpenBrace = refl
symbol_decoded symbol.CloseBrace = refl
symbol_decoded symbol.OpenBracket = refl
symbol_decoded symbol.CloseBracket = refl
symbol_decoded symbol.Comma = refl
symbol_decoded symbol.Semicolon = refl
symbol_decoded symbol.Dot = refl
symbol_decoded symbol.Assign = refl
symbol_decoded symbol.Plus = refl
symbol_decoded symbol.Minus = refl
symbol_decoded symbol.Star = refl
symbol_decoded symbol.Slash = refl
symbol_decoded symbol.Percent = refl
symbol_decoded symbol.Not = refl
symbol_decoded symbol.Less = refl
symbol_decoded symbol.Greater = refl
symbol_decoded symbol.Equal = refl
symbol_decoded symbol.NotEqual = refl
symbol_decoded symbol.LessEqual = refl
symbol_decoded symbol.GreaterEqual = refl
symbol_decoded symbol.And = refl
symbol_decoded symbol.Or = refl
symbol_decoded symbol.Range = refl

pub keyword_code-injective : (a b : Keyword) → keyword_code a ≡ keyword_code b → a ≡ b
keyword_code-injective a b e = sym (keyword_decoded a) ∙ ap (λ n. get_or KEYWORDS n keyword.Table) e ∙ keyword_decoded b

pub symbol_code-injective : (a b : Symbol) → symbol_code a ≡ symbol_code b → a ≡ b
symbol_code-injective a b e = sym (symbol_decoded a) ∙ ap (λ n. get_or SYMBOLS n symbol.Plus) e ∙ symbol_decoded b

pub is_same_keyword_or_symbol-true : (w t : Token) → is_same_keyword_or_symbol w t ≡ true → t ≡ w
is_same_keyword_or_symbol-true (token.Keyword a) (token.Keyword b) e = ap (λ x. token.Keyword x) (sym (keyword_code-injective a b (eqb-true _ _ e)))
is_same_keyword_or_symbol-true (token.Symbol a) (token.Symbol b) e = ap (λ x. token.Symbol x) (sym (symbol_code-injective a b (eqb-true _ _ e)))
is_same_keyword_or_symbol-true _ _ e = absurd cc
