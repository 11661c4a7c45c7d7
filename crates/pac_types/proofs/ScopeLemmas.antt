-- More visible variables do no harm: what is well typed stays so, with the same type.
use Rattle.std.proofs.Common.{◌≡◌, ℕ, Bool, true, false, ◌&&◌, ◌==◌, List, [], ◌∷◌, map, Option, Some, None, refl, sym, ap, ◌∙◌, subst}
use Rattle.std.specs.Prelude.{if◌then◌else◌}
use Rattle.std.specs.Option.{option_and_then}
use Rattle.pac_value.specs.declared.values.Ty.{Ty}
use Rattle.pac_value.specs.declared.expr.Expr.{Expr}
use Rattle.pac_value.specs.Expressions.{type_in, type_step, operator_type, negated_type}
use Rattle.pac_value.proofs.ByForms.{by_forms, fold-Lit, fold-Var, fold-Bin, fold-Not}
use Rattle.pac_types.specs.WellFormed.{without}
use Rattle.pac_value.specs.Scopes.{Scope, with_var, is_bool, is_wanted, are_wanted}

-- what the first says, the second says too
abbrev pub Within : Scope → Scope → Type 0
Within f g = (x : ℕ) (ty : Ty) → f x ≡ Some ty → g x ≡ Some ty

abbrev pub TypeWithin : Option Ty → Option Ty → Type 0
TypeWithin a b = (ty : Ty) → a ≡ Some ty → b ≡ Some ty

pub both_within : (k : Ty → Ty → Option Ty) (l l' r r' : Option Ty) → TypeWithin l l' → TypeWithin r r'
    → TypeWithin (option_and_then (λ a. option_and_then (λ b. k a b) r) l) (option_and_then (λ a. option_and_then (λ b. k a b) r') l')
both_within k None l' r r' p q ty h = cc
both_within k (Some a) l' None r' p q ty h = cc
both_within k (Some a) l' (Some b) r' p q ty h =
    subst (λ (o : Option Ty). option_and_then (λ a. option_and_then (λ b. k a b) r') o ≡ Some ty) (sym (p a refl))
    (subst (λ (o : Option Ty). option_and_then (λ b. k a b) o ≡ Some ty) (sym (q b refl)) h)

pub one_within : (k : Ty → Option Ty) (e e' : Option Ty) → TypeWithin e e' → TypeWithin (option_and_then k e) (option_and_then k e')
one_within k None e' p ty h = cc
one_within k (Some a) e' p ty h = subst (λ (o : Option Ty). option_and_then k o ≡ Some ty) (sym (p a refl)) h

module _ (f g : Scope) (within : Within f g) where
  pub type_in-within : (e : Expr) → TypeWithin (type_in f e) (type_in g e)
  type_in-within = by_forms (λ e. TypeWithin (type_in f e) (type_in g e))
      (λ v ty h. fold-Lit (Option Ty) (type_step g) v ∙ sym (fold-Lit (Option Ty) (type_step f) v) ∙ h)
      (λ x ty h. fold-Var (Option Ty) (type_step g) x ∙ within x ty (sym (fold-Var (Option Ty) (type_step f) x) ∙ h))
      (λ op l r p q ty h. fold-Bin (Option Ty) (type_step g) op l r
      ∙ both_within (operator_type op) (type_in f l) (type_in g l) (type_in f r) (type_in g r) p q ty (sym (fold-Bin (Option Ty) (type_step f) op l r) ∙ h))
      (λ e p ty h. fold-Not (Option Ty) (type_step g) e
      ∙ one_within negated_type (type_in f e) (type_in g e) p ty (sym (fold-Not (Option Ty) (type_step f) e) ∙ h))

pub is_wanted-within : (a b w : Option Ty) → TypeWithin a b → is_wanted a w ≡ true → is_wanted b w ≡ true
is_wanted-within None b w p h = cc
is_wanted-within (Some ty) b w p h = subst (λ (o : Option Ty). is_wanted o w ≡ true) (sym (p ty refl)) h

pub is_bool-within : (a b : Option Ty) → TypeWithin a b → is_bool a ≡ true → is_bool b ≡ true
is_bool-within None b p h = cc
is_bool-within (Some ty) b p h = subst (λ (o : Option Ty). is_bool o ≡ true) (sym (p ty refl)) h

pub and-implied : (a a' b b' : Bool) → (a ≡ true → a' ≡ true) → (b ≡ true → b' ≡ true) → (a && b) ≡ true → (a' && b') ≡ true
and-implied true a' true b' p q h = ap (λ c. c && b') (p refl) ∙ q refl
and-implied true a' false b' p q h = cc
and-implied false a' b b' p q h = cc

module _ (f g : Scope) (within : Within f g) where
  pub are_wanted-within : (es : List Expr) (tys : List Ty) → are_wanted (map (type_in f) es) tys ≡ true → are_wanted (map (type_in g) es) tys ≡ true
  are_wanted-within [] [] h = h
  are_wanted-within [] (ty ∷ tys) h = h
  are_wanted-within (e ∷ es) [] h = h
  are_wanted-within (e ∷ es) (ty ∷ tys) h = and-implied _ _ _ _
      (is_wanted-within (type_in f e) (type_in g e) (Some ty) (type_in-within f g within e)) (are_wanted-within es tys) h

pub with_var-within : (f g : Scope) (x : ℕ) (ty : Ty) → Within f g → Within (with_var f x ty) (with_var g x ty)
with_var-within f g x ty p y t h = go (y == x) h
  where
    go : (b : Bool) → (if b then Some ty else f y) ≡ Some t → (if b then Some ty else g y) ≡ Some t
    go true e = e
    go false e = p y t e

pub without-within : (some : ℕ → Bool) (f g : Scope) → Within f g → Within (without some f) (without some g)
without-within some f g p y t h = go (some y) h
  where
    go : (b : Bool) → (if b then None else f y) ≡ Some t → (if b then None else g y) ≡ Some t
    go true e = e
    go false e = p y t e
