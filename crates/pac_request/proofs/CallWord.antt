-- The word `call` with a space after it.
use Rattle.std.proofs.Common.{◌≡◌, ℕ, List, ◌∷◌, ◌++◌, take, drop, nat_eq, true, None, refl, ap, sym, subst, ◌∙◌, arith}
use Rattle.std.proofs.lemmas.List.{take-append-drop}
use Rattle.std.specs.Prelude.{codes}
use Rattle.std.specs.Cmp.Lexicographic.{pointwise}
use Rattle.pac_tokens.specs.Tokens.{keyword_of, IsPlainNext}
use Rattle.pac_tokens.specs.declared.token.Token.TheVariants as token
use Rattle.pac_tokens.proofs.PrefixLemmas.{name_next}
use Rattle.pac_tokens.proofs.Spelled.{same_bytes}
use Rattle.pac_request.specs.LineForms.{verb_word}
use Rattle.pac_request.specs.declared.node.Verb.TheVariants as verb

no_keyword : keyword_of (verb_word verb.Call) ≡ None
unfolding keyword_of
no_keyword = refl

spaced : (rest : List ℕ) → IsPlainNext (99 ∷ 97 ∷ 108 ∷ 108 ∷ 32 ∷ rest) (token.Name (verb_word verb.Call)) 4
spaced rest = name_next (99 ∷ 97 ∷ 108 ∷ 108 ∷ 32 ∷ rest) (verb_word verb.Call) 4 (omega arith) refl refl refl (omega arith) no_keyword

pub call_next : (bytes : List ℕ) → pointwise nat_eq (take 5 bytes) (codes "call ") ≡ true → IsPlainNext bytes (token.Name (verb_word verb.Call)) 4
call_next bytes is =
    let same : take 5 bytes ≡ codes "call " = same_bytes (take 5 bytes) (codes "call ") is in
    subst (λ (b : List ℕ). IsPlainNext b (token.Name (verb_word verb.Call)) 4) (ap (λ (w : List ℕ). w ++ drop 5 bytes) (sym same) ∙ take-append-drop 5 bytes) (spaced (drop 5 bytes))
