-- The one keyword that the first bytes of a word leave is the one that is found among all.
use Rattle.std.proofs.Common.{◌≡◌, ◌<◌, ◌≤◌, ℕ, true, false, List, [], ◌∷◌, length, get_or, Option, Some, None, Ok, refl, sym, ap, ◌∙◌, arith, nat_eq}
use Rattle.std.specs.Cmp.Lexicographic.{pointwise}
use Rattle.std.proofs.lemmas.Bool.{eq-eqb, le-ltb}
use Rattle.pac_tokens.specs.declared.token.Keyword.{Keyword}
use Rattle.pac_tokens.specs.declared.token.Keyword.TheVariants as keyword
use Rattle.pac_tokens.specs.declared.token.Token.TheVariants as token
use Rattle.pac_tokens.specs.Spelling.{keyword_spelling}
use Rattle.pac_tokens.specs.Tokens.{keyword_of}
use Rattle.pac_tokens.specs.Lexing.{candidate, word_at}
use Rattle.pac_tokens.proofs.Spelled.{same_bytes, some_is, keyword_is, keyword_found, keyword_short}

-- what the first bytes of a word and its length leave
abbrev pub candidate_of : List ℕ → Option Keyword
candidate_of word = candidate (get_or word 0 0) (get_or word 1 0) (length word)

its_candidate : (k : Keyword) → candidate_of (keyword_spelling k) ≡ Some k
its_candidate keyword.Table = refl
its_candidate keyword.Proc = refl
its_candidate keyword.Key = refl
its_candidate keyword.Int = refl
its_candidate keyword.Text = refl
its_candidate keyword.Let = refl
its_candidate keyword.Read = refl
its_candidate keyword.Has = refl
its_candidate keyword.Put = refl
its_candidate keyword.Set = refl
its_candidate keyword.Delete = refl
its_candidate keyword.Abort = refl
its_candidate keyword.If = refl
its_candidate keyword.Else = refl
its_candidate keyword.Default = refl
its_candidate keyword.True = refl
its_candidate keyword.False = refl
its_candidate keyword.For = refl
its_candidate keyword.In = refl

two_bytes : (k : Keyword) → 1 < length (keyword_spelling k)
two_bytes keyword.Table = omega arith
two_bytes keyword.Proc = omega arith
two_bytes keyword.Key = omega arith
two_bytes keyword.Int = omega arith
two_bytes keyword.Text = omega arith
two_bytes keyword.Let = omega arith
two_bytes keyword.Read = omega arith
two_bytes keyword.Has = omega arith
two_bytes keyword.Put = omega arith
two_bytes keyword.Set = omega arith
two_bytes keyword.Delete = omega arith
two_bytes keyword.Abort = omega arith
two_bytes keyword.If = omega arith
two_bytes keyword.Else = omega arith
two_bytes keyword.Default = omega arith
two_bytes keyword.True = omega arith
two_bytes keyword.False = omega arith
two_bytes keyword.For = omega arith
two_bytes keyword.In = omega arith

pub short_word : (w : List ℕ) → length w < 2 → keyword_of w ≡ None
short_word w short = go (keyword_of w) refl
  where
    go : (found : Option Keyword) → keyword_of w ≡ found → found ≡ None
    go None is = refl
    go (Some k) is = absurd (omega (arith, short, two_bytes k, ap length (keyword_is w k is)))

pub no_candidate : (w : List ℕ) → candidate_of w ≡ None → keyword_of w ≡ None
no_candidate w none = go (keyword_of w) refl
  where
    go : (found : Option Keyword) → keyword_of w ≡ found → found ≡ None
    go None is = refl
    go (Some k) is =
        let conflict : ◌≡◌ {A = Option Keyword} None (Some k) = sym none ∙ ap candidate_of (keyword_is w k is) ∙ its_candidate k in
        absurd cc

same_self : (xs : List ℕ) → pointwise nat_eq xs xs ≡ true
same_self [] = refl
same_self (x ∷ xs) = rw (eq-eqb x x refl, same_self xs) refl

-- the candidate is the word where it is spelled so
pub candidate_spelled : (w : List ℕ) (k : Keyword) → pointwise nat_eq (keyword_spelling k) w ≡ true → keyword_of w ≡ Some k
candidate_spelled w k same = ap keyword_of (sym (same_bytes (keyword_spelling k) w same)) ∙ keyword_found k

pub candidate_other : (w : List ℕ) (k : Keyword) → candidate_of w ≡ Some k → pointwise nat_eq (keyword_spelling k) w ≡ false → keyword_of w ≡ None
candidate_other w k its other = go (keyword_of w) refl
  where
    go : (found : Option Keyword) → keyword_of w ≡ found → found ≡ None
    go None is = refl
    go (Some found) is =
        let spelled : w ≡ keyword_spelling found = keyword_is w found is in
        let one : found ≡ k = some_is {A = Keyword} found k (sym (its_candidate found) ∙ ap candidate_of (sym spelled) ∙ its) in
        let same : pointwise nat_eq (keyword_spelling k) w ≡ true = rw (← one, spelled) (same_self (keyword_spelling found)) in
        absurd cc

-- a keyword is short, and is the token at the start
pub keyword_at : (w : List ℕ) (k : Keyword) → keyword_of w ≡ Some k → word_at w ≡ Ok (token.Keyword k, length w)
keyword_at w k is =
    let short : length w ≤ 32 = omega (arith, keyword_short k, ap length (keyword_is w k is)) in
    rw (le-ltb 32 (length w) short, is) refl
