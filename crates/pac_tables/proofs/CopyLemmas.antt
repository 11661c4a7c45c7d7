-- A map with entries put before its own, from the last of them to the first.
use Rattle.std.proofs.Common.{◌≡◌, List, [], ◌∷◌, ◌++◌, refl, ap}
use Rattle.std.specs.declared.cmp.Ordering.{Ordering}
use Rattle.std.specs.FinMap.{FinMap, empty, insert, from_entries}

module _ {K X : Type 0} {R : K → K → Ordering} where
  pub preceding : List (K × X) → FinMap R X → FinMap R X
  preceding [] m = m
  preceding (e ∷ es) m = insert (preceding es m) e.0 e.1

  pub preceding-none : (m : FinMap R X) → preceding [] m ≡ m
  unfolding preceding
  preceding-none m = refl

  pub preceding-last : (es : List (K × X)) (e : K × X) (m : FinMap R X) → preceding (es ++ e ∷ []) m ≡ preceding es (insert m e.0 e.1)
  unfolding preceding
  preceding-last [] e m = refl
  preceding-last (f ∷ es) e m = ap (λ n. insert n f.0 f.1) (preceding-last es e m)

  pub preceding-all : (es : List (K × X)) → preceding es empty ≡ from_entries {R = R} es
  unfolding preceding
  preceding-all [] = refl
  preceding-all (e ∷ es) = ap (λ n. insert n e.0 e.1) (preceding-all es)
