-- Lists, options and scopes: what the parts of a whole are, and which variables are visible.
use Rattle.std.proofs.Common.{◌≡◌, ◌<◌, ◌≤◌, ℕ, zero, suc, ◌+◌, Bool, true, false, ◌&&◌, ◌||◌, ◌==◌, List, [], ◌∷◌, ◌++◌, length, drop, get_or, replicate, Option, Some, None, true≢false, refl, sym, ap, subst, ◌∙◌, arith, add-one, inl, inr, ◌⊎◌, is_some}
use Rattle.std.specs.Prelude.{slice_get, if◌then◌else◌}
use Rattle.std.specs.Option.{option_map, option_and_then}
use Rattle.std.proofs.lemmas.Grind.{common_steps}
use Rattle.pac_value.specs.declared.values.Ty.{Ty}
use Rattle.pac_value.specs.declared.expr.Expr.{Expr}
use Rattle.pac_types.specs.declared.checker.scope.Variable.{Variable}
use Rattle.pac_types.specs.declared.statement.Stmt.{Stmt}
use Rattle.pac_types.specs.Numbering.{cell_by, unseen}
use Rattle.pac_types.specs.WellFormed.{if_so}
use Rattle.pac_value.specs.Scopes.{Scope, with_var}
use Rattle.pac_types.proofs.ExprLemmas.{numbers_of, Fit, some_is, none_is}

-- ---- numbers and lists

pub differs : (a b : ℕ) → a < b → (a == b) ≡ false
differs a b lt = grind (arith, common_steps)

pub itself : (a : ℕ) → (a == a) ≡ true
itself a = grind (arith, common_steps)

pub equal : (a b : ℕ) → (a == b) ≡ true → a ≡ b
equal a b e = grind (arith, common_steps)

pub in_either : {A : Type 0} (xs ys : List A) (i : ℕ) (y : A) → slice_get (xs ++ ys) i ≡ Some y → (slice_get xs i ≡ Some y) ⊎ ((j : ℕ) × (slice_get ys j ≡ Some y))
in_either [] ys i y h = inr (i, h)
in_either (x ∷ xs) ys zero y h = inl h
in_either (x ∷ xs) ys (suc i) y h = in_either xs ys i y h

pub in_one : {A : Type 0} (x y : A) (j : ℕ) → slice_get (x ∷ []) j ≡ Some y → x ≡ y
in_one x y zero h = some_is h
in_one x y (suc j) h = absurd (none_is h)

pub unseen_none : (k j : ℕ) (v : Variable) → slice_get (replicate k None) j ≡ Some (Some v) → ⊥
unseen_none zero j v h = none_is h
unseen_none (suc k) zero v h = none_is (some_is h)
unseen_none (suc k) (suc j) v h = unseen_none k j v h

pub drop_suc : {A : Type 0} (xs : List A) (k : ℕ) (y : A) (ys : List A) → drop k xs ≡ y ∷ ys → (k < length xs) × (y ≡ get_or xs k y) × (drop (suc k) xs ≡ ys)
drop_suc [] zero y ys h = absurd cc
drop_suc [] (suc k) y ys h = absurd cc
drop_suc (x ∷ xs) zero y ys h = (omega arith, cc, cc)
drop_suc (x ∷ xs) (suc k) y ys h = let p = drop_suc xs k y ys h in (omega (arith, p.0), p.1, p.2)

pub drop_first : {A : Type 0} (xs : List A) (k : ℕ) (y : A) (ys : List A) → drop k xs ≡ y ∷ ys → (k < length xs) × (y ≡ get_or xs k y) × (drop (k + 1) xs ≡ ys)
drop_first xs k y ys h = let p = drop_suc xs k y ys h in (p.0, p.1, ap (λ n. drop n xs) (add-one k) ∙ p.2)

pub numbers-append : (a b : List (Option Variable)) → numbers_of (a ++ b) ≡ numbers_of a ++ numbers_of b
numbers-append [] b = refl
numbers-append (x ∷ a) b = ap (λ zs. option_map (λ v. v.number) x ∷ zs) (numbers-append a b)

pub numbers-unseen : (k : ℕ) → numbers_of (replicate k None) ≡ unseen k
numbers-unseen zero = refl
numbers-unseen (suc k) = ap (λ zs. None ∷ zs) (numbers-unseen k)

-- ---- what is joined from options

pub map_is : {A B : Type 0} (f : A → B) (o : Option A) (x : B) → option_map f o ≡ Some x → (a : A) × (o ≡ Some a) × (f a ≡ x)
map_is f None x h = absurd (none_is h)
map_is f (Some a) x h = (a, refl, some_is h)

pub then_is : {A B : Type 0} (f : A → Option B) (o : Option A) (x : B) → option_and_then f o ≡ Some x → (a : A) × (o ≡ Some a) × (f a ≡ Some x)
then_is f None x h = absurd (none_is h)
then_is f (Some a) x h = (a, refl, h)

pub cell_is : (t : Option ℕ) (k : Option Expr) (f : ℕ → Expr → Option Stmt) (s : Stmt) → cell_by t k f ≡ Some s → (a : ℕ) × (b : Expr) × (t ≡ Some a) × (k ≡ Some b) × (f a b ≡ Some s)
cell_is None k f s h = absurd (none_is h)
cell_is (Some a) None f s h = absurd (none_is h)
cell_is (Some a) (Some b) f s h = (a, b, refl, refl, h)

pub some_of : {A : Type 0} (o : Option A) → is_some o ≡ true → (a : A) × (o ≡ Some a)
some_of None h = absurd (true≢false (sym h))
some_of (Some a) h = (a, refl)

pub so_true : (b : Bool) (f g : Scope) → if_so b f ≡ Some g → b ≡ true
so_true true f g h = refl
so_true false f g h = absurd (none_is h)

pub so_false : (b : Bool) (f : Scope) → b ≡ false → if_so b f ≡ None
so_false true f e = absurd (true≢false e)
so_false false f e = refl

pub so_some : (b : Bool) (f : Scope) → b ≡ true → if_so b f ≡ Some f
so_some true f e = refl
so_some false f e = absurd (true≢false (sym e))

pub and_true : (a b : Bool) → (a && b) ≡ true → (a ≡ true) × (b ≡ true)
and_true true true h = (refl, refl)
and_true true false h = absurd (true≢false (sym h))
and_true false b h = absurd (true≢false (sym h))

pub or_true : (a b : Bool) → (a || b) ≡ true → (a ≡ true) ⊎ (b ≡ true)
or_true true b h = inl refl
or_true false b h = inr h

pub left_false : (a b : Bool) → a ≡ false → (a && b) ≡ false
left_false true b e = absurd (true≢false e)
left_false false b e = refl

pub right_false : (a b : Bool) → b ≡ false → (a && b) ≡ false
right_false true b e = e
right_false false b e = refl

pub both_true : (a b : Bool) → a ≡ true → b ≡ true → (a && b) ≡ true
both_true a b p q = ap (λ c. c && b) p ∙ q

pub conflict : (b : Bool) → b ≡ true → b ≡ false → ⊥
conflict b p q = true≢false (sym p ∙ q)

-- ---- scopes

pub fit_push : (known : List (Option Variable)) (next : ℕ) (scope : Scope) (ty : Ty) → Fit known next scope
    → Fit (known ++ Some (record { number = next; ty = ty }) ∷ []) (next + 1) (with_var scope next ty)
fit_push known next scope ty fit i v h = go (in_either known (Some (record { number = next; ty = ty }) ∷ []) i (Some v) h)
  where
    go : (slice_get known i ≡ Some (Some v)) ⊎ ((j : ℕ) × (slice_get (Some (record { number = next; ty = ty }) ∷ []) j ≡ Some (Some v))) → (v.number < next + 1) × (with_var scope next ty v.number ≡ Some v.ty)
    go (inl e) = let p = fit i v e in (omega (arith, p.0), ap (λ b. if b then Some ty else scope v.number) (differs v.number next p.0) ∙ p.1)
    go (inr e) =
        let is : record { number = next; ty = ty } ≡ v = some_is (in_one _ _ e.0 e.1) in
        subst (λ (w : Variable). (w.number < next + 1) × (with_var scope next ty w.number ≡ Some w.ty)) is (omega arith, ap (λ b. if b then Some ty else scope next) (itself next))

pub fit_hidden : (known : List (Option Variable)) (next : ℕ) (scope : Scope) (ty : Ty) → Fit known next scope → Fit known (next + 1) (with_var scope next ty)
fit_hidden known next scope ty fit i v h = let p = fit i v h in (omega (arith, p.0), ap (λ b. if b then Some ty else scope v.number) (differs v.number next p.0) ∙ p.1)

pub fit_unseen : (known : List (Option Variable)) (next more k : ℕ) (scope : Scope) → next ≤ more → Fit known next scope → Fit (known ++ replicate k None) more scope
fit_unseen known next more k scope le fit i v h = go (in_either known (replicate k None) i (Some v) h)
  where
    go : (slice_get known i ≡ Some (Some v)) ⊎ ((j : ℕ) × (slice_get (replicate k None) j ≡ Some (Some v))) → (v.number < more) × (scope v.number ≡ Some v.ty)
    go (inl e) = let p = fit i v e in (omega (arith, p.0), p.1)
    go (inr e) = absurd (unseen_none k e.0 v e.1)
