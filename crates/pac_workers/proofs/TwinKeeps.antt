-- Each step keeps the rule of twins.
use Rattle.std.proofs.Common.{◌≡◌, ◌≢◌, ℕ, zero, suc, ◌+◌, List, [], ◌∷◌, ◌++◌, length, set, sym, refl, ap, ◌∙◌, subst, ⊎_elim, arith}
use mathlib.Core.Option.{some, some-injective, some-ne-none}
use lib.ListN.{get_elem?}
use Rattle.atomic_table.specs.Table.{step, keeps, Allows, Joins, Splits, opening}
use Rattle.atomic_table.proofs.Lists.{at_set, at_snoc, set_else}
use Rattle.pac_workers.specs.Twins.{AllAre, AreAlike, AreTold, count_shown}

module _ {T : Type 0} where
  count_set : (l : List (List T)) (i : ℕ) (v w : List T) → get_elem? l i ≡ some v → count_shown (set l i w) + length v ≡ count_shown l + length w
  count_set [] i v w e = absurd (some-ne-none v (sym e))
  count_set (x ∷ xs) zero v w e = let is : length x ≡ length v = ap length (some-injective x v e) in omega arith
  count_set (x ∷ xs) (suc i) v w e = let r = count_set xs i v w e in omega arith

  count_snoc : (l : List (List T)) (v : List T) → count_shown (l ++ v ∷ []) ≡ count_shown l + length v
  count_snoc [] v = omega arith
  count_snoc (x ∷ xs) v = let r = count_snoc xs v in omega arith

  -- where nothing is shown, each token shows nothing
  none_shown : (x : T) (l : List (List T)) (i : ℕ) (v : List T) → count_shown l ≡ 0 → get_elem? l i ≡ some v → AllAre x v
  none_shown x [] i v zero_all e = absurd (some-ne-none v (sym e))
  none_shown x ([] ∷ us) zero v zero_all e = subst (AllAre x) (some-injective [] v e) tt
  none_shown x ((y ∷ ys) ∷ us) i v zero_all e = absurd (omega (arith, zero_all))
  none_shown x ([] ∷ us) (suc i) v zero_all e = none_shown x us i v (omega (arith, zero_all)) e

  -- beside a token that shows two values the others show nothing
  others : (x : T) (l : List (List T)) (id : ℕ) (y z : T) → count_shown l ≡ 2 → get_elem? l id ≡ some (y ∷ z ∷ []) → (i : ℕ) (v : List T) → i ≢ id → get_elem? l i ≡ some v → AllAre x v
  others x l id y z two at i v not e = let r = count_set l id (y ∷ z ∷ []) [] at in none_shown x (set l id []) i v (omega arith) (set_else l id i [] not ∙ e)

  pub opens : (words : List ℕ) (x : T) → AreAlike (opening words [] (x ∷ x ∷ []))
  opens words x = record { shown = x; each = each; two = refl }
    where
      each : (i : ℕ) (v : List T) → get_elem? ((x ∷ x ∷ []) ∷ []) i ≡ some v → AllAre x v
      each zero v e = subst (AllAre x) (some-injective (x ∷ x ∷ []) v e) (refl, (refl, tt))
      each (suc i) v e = absurd (some-ne-none v (sym e))

  pub parts : (id : ℕ) (x y : T) → Splits AreAlike id (x ∷ y ∷ []) (x ∷ []) (y ∷ [])
  parts id x y s r at = record { shown = r.shown; each = each; two = two }
    where
      here : AllAre r.shown (x ∷ y ∷ [])
      here = r.each id (x ∷ y ∷ []) at

      each : (i : ℕ) (v : List T) → get_elem? (set s.views id (x ∷ []) ++ (y ∷ []) ∷ []) i ≡ some v → AllAre r.shown v
      each i v e = ⊎_elim (λ there. ⊎_elim (λ same. subst (AllAre r.shown) same.1 (here.0, tt)) (λ other. r.each i v other.1) (at_set s.views id i (x ∷ []) v there))
          (λ last. subst (AllAre r.shown) last (here.1.0, tt)) (at_snoc (set s.views id (x ∷ [])) (y ∷ []) v i e)

      two : count_shown (set s.views id (x ∷ []) ++ (y ∷ []) ∷ []) ≡ 2
      two = let c = count_set s.views id (x ∷ y ∷ []) (x ∷ []) at in let more = count_snoc (set s.views id (x ∷ [])) (y ∷ []) in let all = r.two in omega arith

  pub spares : (id : ℕ) (v : List T) → Splits AreAlike id v v []
  spares id v s r at = record { shown = r.shown; each = each; two = two }
    where
      each : (i : ℕ) (u : List T) → get_elem? (set s.views id v ++ [] ∷ []) i ≡ some u → AllAre r.shown u
      each i u e = ⊎_elim (λ there. ⊎_elim (λ same. subst (AllAre r.shown) same.1 (r.each id v at)) (λ other. r.each i u other.1) (at_set s.views id i v u there))
          (λ last. subst (AllAre r.shown) last tt) (at_snoc (set s.views id v) [] u i e)

      two : count_shown (set s.views id v ++ [] ∷ []) ≡ 2
      two = let c = count_set s.views id v v at in let more = count_snoc (set s.views id v) [] in let all = r.two in omega arith

  pub joins : (id other : ℕ) (x y : T) → Joins AreAlike id (x ∷ []) other (y ∷ []) (x ∷ y ∷ []) []
  joins id other x y s r at not at_other = record { shown = r.shown; each = each; two = two }
    where
      l : List (List T)
      l = set s.views id (x ∷ y ∷ [])

      here : AllAre r.shown (x ∷ y ∷ [])
      here = ((r.each id (x ∷ []) at).0, ((r.each other (y ∷ []) (sym (set_else s.views id other (x ∷ y ∷ []) not) ∙ at_other)).0, tt))

      each : (i : ℕ) (v : List T) → get_elem? (set (set s.views id (x ∷ y ∷ [])) other []) i ≡ some v → AllAre r.shown v
      each i v e = ⊎_elim (λ spent. subst (AllAre r.shown) spent.1 tt)
          (λ there. ⊎_elim (λ same. subst (AllAre r.shown) same.1 here) (λ before. r.each i v before.1) (at_set s.views id i (x ∷ y ∷ []) v there.1))
          (at_set (set s.views id (x ∷ y ∷ [])) other i [] v e)

      two : count_shown (set (set s.views id (x ∷ y ∷ [])) other []) ≡ 2
      two = let c = count_set s.views id (x ∷ []) (x ∷ y ∷ []) at in let d = count_set (set s.views id (x ∷ y ∷ [])) other (y ∷ []) [] at_other in let all = r.two in omega arith

  pub tells : (slots id : ℕ) (x y z : T) (f : ℕ → ℕ) (a b : ℕ) → Allows AreAlike slots id (x ∷ y ∷ [], []) 0 f (AreTold (step slots 0 a b (some z)) (x ∷ y ∷ [], []))
  tells slots id x y z f a b s r len at small = (z ∷ z ∷ [], keeps, tt, record { shown = z; each = each; two = two }, (same, refl, refl))
    where
      here : AllAre r.shown (x ∷ y ∷ [])
      here = r.each id (x ∷ y ∷ []) at

      same : x ≡ y
      same = here.0 ∙ sym here.1.0

      each : (i : ℕ) (v : List T) → get_elem? (set s.views id (z ∷ z ∷ [])) i ≡ some v → AllAre z v
      each i v e = ⊎_elim (λ told. subst (AllAre z) told.1 (refl, (refl, tt))) (λ other. others z s.views id x y r.two at i v other.0 other.1) (at_set s.views id i (z ∷ z ∷ []) v e)

      two : count_shown (set s.views id (z ∷ z ∷ [])) ≡ 2
      two = let c = count_set s.views id (x ∷ y ∷ []) (z ∷ z ∷ []) at in let all = r.two in omega arith
