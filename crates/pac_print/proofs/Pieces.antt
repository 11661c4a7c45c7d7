-- Pieces of a text, each with the tokens that it is, and how they join.
use Rattle.std.proofs.Common.{◌≡◌, ◌+◌, ℕ, false, List, [], ◌∷◌, ◌++◌, length, codes, None, refl, sym, subst, append_assoc}
use Rattle.pac_tokens.specs.declared.token.Keyword.{Keyword}
use Rattle.pac_tokens.specs.declared.token.Symbol.{Symbol}
use Rattle.pac_tokens.specs.declared.token.Token.TheVariants as token
use Rattle.pac_tokens.specs.declared.lexer.Before.{Before}
use Rattle.pac_tokens.specs.declared.lexer.Before.TheVariants.{Value}
use Rattle.pac_syntax.specs.declared.tree.NameNode.{NameNode}
use Rattle.pac_tokens.specs.Spelling.{keyword_spelling, symbol_spelling}
use Rattle.pac_tokens.specs.Tokens.{is_name, after, Lexed}
use Rattle.pac_syntax.specs.Grammar.{Role, Plain, Marked, keyword_mark, symbol_mark, name_mark, tokens_of}
use Rattle.pac_print.proofs.Prefixes.{Stops, AreSpaces, spaces_first, line_first, keyword_first, name_first}
use Rattle.pac_print.proofs.SymbolPrefixes.{lengthens, is_minus, symbol_first}
use Rattle.pac_print.proofs.TokenFacts.{IsNameToken}

-- This text, from one offset to the next, is these tokens before those of what follows, which has to be such that it
-- doesn't go on with the last of them.
pub record Piece (b c : Before) (at next : ℕ) (text : List ℕ) (marks : List Marked → List Marked) (Ends : List ℕ → Type 0) : Type 0 where
  pub lexes : (ms : List Marked) (rest : List ℕ) → Ends rest → Lexed c next rest (tokens_of ms) None → Lexed b at (text ++ rest) (tokens_of (marks ms)) None

-- anything may follow
abbrev pub Free : List ℕ → Type 0
Free rest = Unit {0}

-- one piece after another
pub joined : {b c d : Before} {at middle next : ℕ} {text more : List ℕ} {f g : List Marked → List Marked} {P Q : List ℕ → Type 0}
    → Piece b c at middle text f P → Piece c d middle next more g Q → ((rest : List ℕ) → Q rest → P (more ++ rest)) → Piece b d at next (text ++ more) (λ ms. f (g ms)) Q
joined {b = b} {at = at} {text = text} {more = more} {f = f} {g = g} p q ends = record {
  lexes = λ ms rest e h. subst (λ (x : List ℕ). Lexed b at x (tokens_of (f (g ms))) None) (sym (append_assoc text more rest)) (p.lexes (g ms) (more ++ rest) (ends rest e) (q.lexes ms rest e h));
}

pub nothing : (b : Before) (at : ℕ) (P : List ℕ → Type 0) → Piece b b at at [] (λ ms. ms) P
nothing b at P = record { lexes = λ ms rest e h. h }

pub spaces : (b : Before) (at : ℕ) (w : List ℕ) → AreSpaces w → Piece b b at (at + length w) w (λ ms. ms) Free
spaces b at w all = record { lexes = λ ms rest e h. spaces_first b at w rest (tokens_of ms) None all h }

pub space : (b : Before) (at : ℕ) → Piece b b at (at + 1) (codes " ") (λ ms. ms) Free
space b at = spaces b at (codes " ") (refl, tt)

pub line : (b : Before) (at : ℕ) → Piece b b at (at + 1) (codes "\n") (λ ms. ms) Free
line b at = record { lexes = λ ms rest e h. line_first b at rest (tokens_of ms) None h }

pub word : (b : Before) (at : ℕ) (k : Keyword) (role : Role) → Piece b (after b (token.Keyword k)) at (at + length (keyword_spelling k)) (keyword_spelling k) (λ ms. keyword_mark k at role ∷ ms) (Stops is_name)
word b at k role = record { lexes = λ ms rest e h. keyword_first b at k rest (tokens_of ms) None e h }

pub sign : (b : Before) (at : ℕ) (s : Symbol) → is_minus s ≡ false → Piece b (after b (token.Symbol s)) at (at + length (symbol_spelling s)) (symbol_spelling s) (λ ms. symbol_mark s at Plain ∷ ms) (Stops (lengthens s))
sign b at s other = record { lexes = λ ms rest e h. symbol_first b at s rest (tokens_of ms) None other e h }

-- a name at another offset
abbrev pub placed : NameNode → ℕ → NameNode
placed x at = record { at = at; name = x.name }

pub name : (b : Before) (at : ℕ) (x : NameNode) (role : Role) → IsNameToken x.name → Piece b Value at (at + length x.name) x.name (λ ms. name_mark (placed x at) role ∷ ms) (Stops is_name)
name b at x role is = record { lexes = λ ms rest e h. name_first b at x.name rest (tokens_of ms) None is.0 is.1 is.2 e h }

-- a keyword and a space
pub word_space : (b : Before) (at : ℕ) (k : Keyword) (role : Role) → Piece b (after b (token.Keyword k)) at (at + length (keyword_spelling k) + 1) (keyword_spelling k ++ codes " ") (λ ms. keyword_mark k at role ∷ ms) Free
word_space b at k role = joined (word b at k role) (space (after b (token.Keyword k)) (at + length (keyword_spelling k))) (λ rest e. refl)

-- a symbol between spaces
pub spaced_symbol : (b : Before) (at : ℕ) (s : Symbol) → is_minus s ≡ false → lengthens s 32 ≡ false → Piece b (after b (token.Symbol s)) at (at + 1 + length (symbol_spelling s) + 1) (codes " " ++ symbol_spelling s ++ codes " ") (λ ms. symbol_mark s (at + 1) Plain ∷ ms) Free
spaced_symbol b at s other alone = joined (joined (space b at) (sign b (at + 1) s other) (λ rest e. tt)) (space (after b (token.Symbol s)) (at + 1 + length (symbol_spelling s))) (λ rest e. alone)

-- a piece of a text is one of an equal text, and one of equal tokens
pub as_text : {b c : Before} {at next : ℕ} {f : List Marked → List Marked} {P : List ℕ → Type 0} → (x y : List ℕ) → x ≡ y → Piece b c at next y f P → Piece b c at next x f P
as_text {b = b} {c = c} {at = at} {next = next} {f = f} {P = P} x y e p = subst (λ (z : List ℕ). Piece b c at next z f P) (sym e) p

pub as_marks : {b c : Before} {at next : ℕ} {text : List ℕ} {P : List ℕ → Type 0} → (f g : List Marked → List Marked) → ((ms : List Marked) → f ms ≡ g ms) → Piece b c at next text f P → Piece b c at next text g P
as_marks {b = b} {at = at} {text = text} f g same p = record { lexes = λ ms rest e h. subst (λ (x : List Marked). Lexed b at (text ++ rest) (tokens_of x) None) (same ms) (p.lexes ms rest e h) }
