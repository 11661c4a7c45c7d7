-- One more variable has its value.
use Rattle.std.proofs.Common.{◌≡◌, ◌⊎◌, ℕ, zero, suc, ◌+◌, ◌<◌, ◌==◌, Bool, true, false, cond, List, [], ◌∷◌, ◌++◌, Option, Some, None, refl, sym, ap, ◌∙◌, subst, true≢false, inl, inr, ⊎_elim, length, arith}
use Rattle.std.specs.Prelude.{Contains}
use Rattle.std.specs.FinMap.{empty, get, get-empty, get-insert, insert}
use Rattle.std.specs.Cmp.{nat_cmp_total, unsigned_ties}
use Rattle.std.specs.Ordering.{nat_cmp}
use Rattle.std.proofs.lemmas.Bool.{cases_lt}
use Rattle.std.proofs.lemmas.List.Elements.{Contains-append_left, Contains-push, Contains-push_cases}
use Rattle.pac_base.proofs.TestLemmas.{eq_self, equal_number, same_number}
use Rattle.pac_value.specs.declared.values.Value.{Value}
use Rattle.pac_value.specs.Expressions.{Values}
use Rattle.pac_commute.specs.Works.{given_over}
use Rattle.pac_value.specs.Restricted.{HasOnly}
use Rattle.pac_core.specs.Values.{GivesTo}

insert-at : (env : Values) (x : ℕ) (v : Value) (y : ℕ) → get (insert env x v) y ≡ cond (y == x) (Some v) (get env y)
insert-at env x v y = get-insert nat_cmp_total env x v y ∙ ap (λ b. cond b (Some v) (get env y)) (sym (unsigned_ties y x))

-- a number is among these, or not
contains_or_not : (vs : List ℕ) (x : ℕ) → Contains vs x ⊎ (Contains vs x → ⊥)
contains_or_not [] x = inr (λ c. let lt : c.0 < 0 = c.1 in omega (arith, lt))
contains_or_not (v ∷ vs) x = go (v == x) refl (contains_or_not vs x)
  where
    go : (b : Bool) → (v == x) ≡ b → Contains vs x ⊎ (Contains vs x → ⊥) → Contains (v ∷ vs) x ⊎ (Contains (v ∷ vs) x → ⊥)
    go true same rest = inl (0, omega arith, same_number v x same)
    go false differ (inl c) = inl (suc c.0, (let lt : c.0 < length vs = c.1 in omega (arith, lt)), c.2)
    go false differ (inr out_of) = inr out
      where
        out : Contains (v ∷ vs) x → ⊥
        out (zero, lt, e) = true≢false (sym (equal_number v x e) ∙ differ)
        out (suc k, lt, e) = out_of (k, (let l : suc k < suc (length vs) = lt in omega (arith, l)), e)

-- no variable so far
pub none_yet : (kept : Values) → HasOnly [] kept empty
none_yet kept = record { own = λ x c. absurd (let lt : c.0 < 0 = c.1 in omega (arith, lt)); none = λ x c. get-empty nat_cmp x }

-- no variable was given a value so far
pub given_so_far : (given kept : Values) → GivesTo [] given kept kept
given_so_far given kept = record { own = λ x c. absurd (let lt : c.0 < 0 = c.1 in omega (arith, lt)); others = λ x c. refl }

-- what holds of all numbers below one, and of that one
pub all_below : (P : ℕ → Type 0) (n : ℕ) → ((i : ℕ) → i < n → P i) → P n → (i : ℕ) → i < n + 1 → P i
all_below P n below here i lt = elim (cases_lt i n) [
  | inl less ↦ below i less
  | inr ge ↦ let same : n ≡ i = omega (arith, lt, ge) in subst P same here
]

module _ (vs : List ℕ) (kept env : Values) (x : ℕ) (has : HasOnly vs kept env) where
  -- one with a value
  pub one_value : (v : Value) → get kept x ≡ Some v → HasOnly (vs ++ x ∷ []) kept (insert env x v)
  one_value v e = record {
    own = λ y c. insert-at env x v y ∙ own y (y == x) refl (Contains-push_cases vs x y c);
    none = λ y c. insert-at env x v y ∙ none y (y == x) refl c;
  }
    where
      own : (y : ℕ) (b : Bool) → (y == x) ≡ b → Contains vs y ⊎ (x ≡ y) → cond b (Some v) (get env y) ≡ get kept y
      own y true same c = sym e ∙ ap (get kept) (sym (same_number y x same))
      own y false differ (inl c) = has.own y c
      own y false differ (inr same) = absurd (true≢false (sym (subst (λ z. (z == x) ≡ true) same (eq_self x)) ∙ differ))

      none : (y : ℕ) (b : Bool) → (y == x) ≡ b → (Contains (vs ++ x ∷ []) y → ⊥) → cond b (Some v) (get env y) ≡ None
      none y true same c = absurd (c (subst (Contains (vs ++ x ∷ [])) (sym (same_number y x same)) (Contains-push vs x)))
      none y false differ c = has.none y (λ h. c (Contains-append_left vs (x ∷ []) y h))

  -- one without
  pub no_value : get kept x ≡ None → HasOnly (vs ++ x ∷ []) kept env
  no_value e = record {
    own = λ y c. ⊎_elim (λ h. has.own y h) (λ same. subst (λ z. get env z ≡ get kept z) same (here (get env x) refl ∙ sym e)) (Contains-push_cases vs x y c);
    none = λ y c. has.none y (λ h. c (Contains-append_left vs (x ∷ []) y h));
  }
    where
      here : (o : Option Value) → get env x ≡ o → o ≡ None
      here None f = refl
      here (Some v) f = absurd (absent (has.none x (λ c. let wrong : None ≡ Some v = sym e ∙ sym (has.own x c) ∙ f in absurd cc)))
        where
          absent : get env x ≡ None → ⊥
          absent g = let wrong : None ≡ Some v = sym g ∙ f in absurd cc

module _ (vs : List ℕ) (given kept env : Values) (x : ℕ) (has : GivesTo vs given kept env) where
  -- one that was given a value
  pub one_given : (v : Value) → get given x ≡ Some v → GivesTo (vs ++ x ∷ []) given kept (insert env x v)
  one_given v e = record {
    own = λ y c. insert-at env x v y ∙ own y (y == x) refl (Contains-push_cases vs x y c);
    others = λ y c. insert-at env x v y ∙ others y (y == x) refl c;
  }
    where
      own : (y : ℕ) (b : Bool) → (y == x) ≡ b → Contains vs y ⊎ (x ≡ y) → cond b (Some v) (get env y) ≡ given_over (get given y) (get kept y)
      own y true same c = sym (ap (λ o. given_over o (get kept y)) (ap (get given) (same_number y x same) ∙ e))
      own y false differ (inl c) = has.own y c
      own y false differ (inr same) = absurd (true≢false (sym (subst (λ z. (z == x) ≡ true) same (eq_self x)) ∙ differ))

      others : (y : ℕ) (b : Bool) → (y == x) ≡ b → (Contains (vs ++ x ∷ []) y → ⊥) → cond b (Some v) (get env y) ≡ get kept y
      others y true same c = absurd (c (subst (Contains (vs ++ x ∷ [])) (sym (same_number y x same)) (Contains-push vs x)))
      others y false differ c = has.others y (λ h. c (Contains-append_left vs (x ∷ []) y h))

  -- one that was given none
  pub none_given : get given x ≡ None → GivesTo (vs ++ x ∷ []) given kept env
  none_given e = record {
    own = λ y c. ⊎_elim (λ h. has.own y h) (λ same. subst (λ z. get env z ≡ given_over (get given z) (get kept z)) same (here (contains_or_not vs x))) (Contains-push_cases vs x y c);
    others = λ y c. has.others y (λ h. c (Contains-append_left vs (x ∷ []) y h));
  }
    where
      here : Contains vs x ⊎ (Contains vs x → ⊥) → get env x ≡ given_over (get given x) (get kept x)
      here (inl c) = has.own x c
      here (inr out_of) = has.others x out_of ∙ ap (λ o. given_over o (get kept x)) (sym e)
