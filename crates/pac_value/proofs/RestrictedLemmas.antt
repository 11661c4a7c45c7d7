-- What an environment has of some variables, by its sorted entries.
use Rattle.std.proofs.Common.{◌≡◌, ◌<◌, ℕ, zero, suc, Bool, true, false, cond, nat_eq, T, List, [], ◌∷◌, length, get_or, Some, None, inl, inr, refl, sym, ap, subst, ◌∙◌, ◌+◌, arith}
use Rattle.std.specs.Bool.{Decides}
use Rattle.std.specs.Cmp.{nat_cmp_total}
use Rattle.std.specs.List.{Contains, IsAnyAnswer}
use Rattle.std.specs.declared.cmp.Ordering.{Ordering}
use Rattle.std.specs.declared.cmp.Ordering.TheVariants.{Less, Equal, Greater}
use Rattle.std.specs.Ordering.{nat_cmp, is_eq}
use Rattle.std.specs.FinMap.{get, find, is_sorted, from_sorted, get-from_sorted, nat_cmp-IsAntisymmetric}
use Rattle.std.proofs.lemmas.Bool.{cases_lt}
use Rattle.std.proofs.lemmas.Bool.Decides.{nat_tests}
use Rattle.std.proofs.lemmas.List.{get_or_default}
use Rattle.std.proofs.lemmas.List.Elements.{contains_decides, Contains-from_at, at_from_Contains}
use Rattle.pac_value.proofs.SortedLemmas.{found-get}

equal : (r : Ordering) → is_eq r ≡ true → r ≡ Equal
equal Less e = absurd (cc e)
equal Equal e = refl
equal Greater e = absurd (cc e)

not_found : {X : Type 0} (q : ℕ) (es : List (ℕ × X)) → ((i : ℕ) (d : ℕ × X) → i < length es → (get_or es i d).0 ≡ q → ⊥) → find nat_cmp q es ≡ None
not_found q [] none = refl
not_found q (e ∷ es) none = go (is_eq (nat_cmp q e.0)) refl (not_found q es (λ i d lt. none (suc i) d (omega arith)))
  where
    go : (b : Bool) → is_eq (nat_cmp q e.0) ≡ b → find nat_cmp q es ≡ None → cond b (Some e.1) (find nat_cmp q es) ≡ None
    go true same rest = absurd (none zero e (omega arith) (sym (nat_cmp-IsAntisymmetric q e.0 (equal _ same))))
    go false other rest = rest

module _ {X : Type 0} (es : List (ℕ × X)) (sorted : T (is_sorted nat_cmp es)) where
  -- a variable that no entry has
  pub absent : (q : ℕ) → ((i : ℕ) (d : ℕ × X) → i < length es → (get_or es i d).0 ≡ q → ⊥) → get {R = nat_cmp} (from_sorted es) q ≡ None
  absent q none = get-from_sorted nat_cmp es q sorted ∙ not_found q es none

  -- the variable of an entry
  pub present : (i : ℕ) (e : ℕ × X) → i < length es → e ≡ get_or es i e → get {R = nat_cmp} (from_sorted es) e.0 ≡ Some e.1
  present i e lt is =
      found-get nat_cmp_total es sorted e.0 i (record { within = lt; same = λ d. ap (λ (x : ℕ × X). x.0) (get_or_default es i d e lt ∙ sym is) }) e
      ∙ ap (λ (x : ℕ × X). Some x.1) (sym is)

nat_decides : (a b : ℕ) → Decides (nat_eq a b) (a ≡ b)
nat_decides a b = (λ h. grind (arith, nat_tests), λ same. grind (arith, nat_tests))

-- the answer of `contains`
pub contains_nat : (xs : List ℕ) (x : ℕ) (r : Bool) → IsAnyAnswer (λ y t. nat_eq y x ≡ t) xs r → Decides r (Contains xs x)
contains_nat xs x r answer =
    let at = contains_decides nat_eq nat_decides xs x r answer in
    (λ h. Contains-from_at xs x (at.0 h), λ there. at.1 (at_from_Contains xs x there))

-- what holds of all numbers below one, and of that one too
pub extended : (P : ℕ → Type 0) (n : ℕ) → ((i : ℕ) → i < n → P i) → P n → (i : ℕ) → i < n + 1 → P i
extended P n below here i lt = elim (cases_lt i n) [
  | inl less ↦ below i less
  | inr ge ↦ let same : n ≡ i = omega arith in subst P same here
]
