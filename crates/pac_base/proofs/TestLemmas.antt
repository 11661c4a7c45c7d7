-- Tests, and members of lists.
use Rattle.std.proofs.Common.{◌≡◌, ℕ, ◌==◌, Bool, true, false, ◌&&◌, ◌||◌, not, List, [], ◌∷◌, refl, sym, ap, ◌∙◌, subst, true≢false, ◌⊎◌, inl, inr}
use Rattle.std.specs.List.{list_any}
use Rattle.std.proofs.lemmas.Bool.Decides.{Decides-eqb}
use Rattle.pac_base.specs.Members.{Each, Mem}

pub or_left : (a b : Bool) → a ≡ true → (a || b) ≡ true
or_left true b e = refl
or_left false b e = absurd (true≢false (sym e))

pub or_right : (a b : Bool) → b ≡ true → (a || b) ≡ true
or_right true b e = refl
or_right false b e = e

pub eq_self : (x : ℕ) → (x == x) ≡ true
eq_self x = (Decides-eqb x x).1 refl

pub same_number : (x y : ℕ) → (x == y) ≡ true → x ≡ y
same_number x y e = (Decides-eqb x y).0 e

pub equal_number : (x y : ℕ) → x ≡ y → (x == y) ≡ true
equal_number x y e = (Decides-eqb x y).1 e

pub and_left : (a b : Bool) → (a && b) ≡ true → a ≡ true
and_left true b e = refl
and_left false b e = absurd (true≢false (sym e))

pub and_right : (a b : Bool) → (a && b) ≡ true → b ≡ true
and_right true b e = e
and_right false b e = absurd (true≢false (sym e))

pub and_both : (a b : Bool) → a ≡ true → b ≡ true → (a && b) ≡ true
and_both true b e f = f
and_both false b e f = absurd (true≢false (sym e))

pub and_false : (a b : Bool) → b ≡ false → (a && b) ≡ false
and_false true b e = e
and_false false b e = refl

pub not_true : (b : Bool) → not b ≡ true → b ≡ false
not_true true e = absurd (true≢false (sym e))
not_true false e = refl

pub or_cases : (a b : Bool) → (a || b) ≡ true → (a ≡ true) ⊎ (b ≡ true)
or_cases true b e = inl refl
or_cases false b e = inr e

pub or_none : (a b : Bool) → (a || b) ≡ false → (a ≡ false) × (b ≡ false)
or_none true b e = absurd (true≢false e)
or_none false b e = (refl, e)

pub or_of_false : (a b : Bool) → a ≡ false → (a || b) ≡ b
or_of_false true b e = absurd (true≢false e)
or_of_false false b e = refl

pub unlike : (b : Bool) → (b ≡ true → ⊥) → b ≡ false
unlike true calm = absurd (calm refl)
unlike false calm = refl

pub not_false : (b : Bool) → b ≡ false → b ≡ true → ⊥
not_false b f t = true≢false (sym t ∙ f)

pub any_mem : {A : Type 0} (f : A → Bool) (x : A) (xs : List A) → Mem x xs → f x ≡ true → list_any f xs ≡ true
any_mem f x [] m e = absurd m
any_mem f x (y ∷ ys) (inl p) e = or_left (f y) (list_any f ys) (ap f (sym p) ∙ e)
any_mem f x (y ∷ ys) (inr m) e = or_right (f y) (list_any f ys) (any_mem f x ys m e)

pub any_gives : {A : Type 0} (f : A → Bool) (xs : List A) → list_any f xs ≡ true → (x : A) × Mem x xs × (f x ≡ true)
any_gives f [] e = absurd (true≢false (sym e))
any_gives f (y ∷ ys) e = go (or_cases (f y) (list_any f ys) e) (any_gives f ys)
  where
    go : ((f y ≡ true) ⊎ (list_any f ys ≡ true)) → (list_any f ys ≡ true → (x : _) × Mem x ys × (f x ≡ true)) → (x : _) × Mem x (y ∷ ys) × (f x ≡ true)
    go (inl h) rest = (y, inl refl, h)
    go (inr h) rest = let r = rest h in (r.0, inr r.1, r.2)

pub each_mem : {A : Type 0} (R : A → Type 0) (xs : List A) → ((x : A) → Mem x xs → R x) → Each R xs
each_mem R [] f = tt
each_mem R (y ∷ ys) f = (f y (inl refl), each_mem R ys (λ x m. f x (inr m)))

pub mem_each : {A : Type 0} (R : A → Type 0) (xs : List A) → Each R xs → (x : A) → Mem x xs → R x
mem_each R [] e x m = absurd m
mem_each R (y ∷ ys) e x (inl p) = subst R (sym p) e.0
mem_each R (y ∷ ys) e x (inr m) = mem_each R ys e.1 x m
