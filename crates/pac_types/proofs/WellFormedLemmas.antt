-- What is well-formed where some variables are visible is well-formed where more are.
use Rattle.std.proofs.Common.{◌≡◌, ℕ, Bool, true, false, List, [], ◌∷◌, map, Option, Some, None, refl, sym, subst, is_some}
use Rattle.std.specs.Option.{option_map, option_and_then}
use Rattle.pac_value.specs.declared.values.Ty.{Ty}
use Rattle.pac_value.specs.declared.values.Ty.TheVariants.{Int as IntTy, Bool as BoolTy}
use Rattle.pac_value.specs.Values.{type_of}
use Rattle.pac_value.specs.Expressions.{type_in}
use Rattle.pac_types.specs.declared.table.Table.{Table}
use Rattle.pac_types.specs.declared.statement.Stmt.{Stmt}
use Rattle.pac_types.specs.declared.statement.Stmt.TheOpen as form
use Rattle.pac_types.specs.declared.statement.Stmt.TheOpen.{Stmt-F}
use Rattle.pac_types.specs.declared.statement.Stmt.TheViews.{roll-Stmt}
use Rattle.pac_types.specs.declared.statement.Stmt.TheFolds.{fold-roll-Stmt, ind-Stmt, map-Stmt}
use Rattle.pac_types.specs.WellFormed.{key_type, column_type, column_types, if_so, Check, in_order, check_step, check, scope_after_all}
use Rattle.pac_value.specs.Scopes.{Scope, with_var}
use Rattle.pac_types.proofs.ScopeLemmas.{Within, type_in-within, is_wanted-within, is_bool-within, and-implied, are_wanted-within, with_var-within, without-within}

-- where the first is a scope, the second is one that says no less
abbrev pub ScopeWithin : Option Scope → Option Scope → Type 0
ScopeWithin None b = Unit {0}
ScopeWithin (Some f) None = ⊥
ScopeWithin (Some f) (Some g) = Within f g

-- more before a statement, more after it
abbrev pub Grows : Check → Type 0
Grows c = (f g : Scope) → Within f g → ScopeWithin (c.after f) (c.after g)

abbrev AllGrow : List Check → Type 0
AllGrow [] = Unit {0}
AllGrow (c ∷ cs) = Grows c × AllGrow cs

if_so-within : (a b : Bool) (f g : Scope) → (a ≡ true → b ≡ true) → Within f g → ScopeWithin (if_so a f) (if_so b g)
if_so-within true true f g p w = w
if_so-within true false f g p w = let e : false ≡ true = p refl in let no_way : ⊥ = cc in absurd no_way
if_so-within false b f g p w = tt

then_within : (cs : List Check) → ((f g : Scope) → Within f g → ScopeWithin (in_order cs f) (in_order cs g)) → (a b : Option Scope) → ScopeWithin a b
    → ScopeWithin (option_and_then (in_order cs) a) (option_and_then (in_order cs) b)
then_within cs p None b w = tt
then_within cs p (Some f) None w = absurd w
then_within cs p (Some f) (Some g) w = p f g w

pub in_order-within : (cs : List Check) → AllGrow cs → (f g : Scope) → Within f g → ScopeWithin (in_order cs f) (in_order cs g)
in_order-within [] all f g w = w
in_order-within (c ∷ cs) all f g w = then_within cs (in_order-within cs all.1) (c.after f) (c.after g) (all.0 f g w)

pub is_some-within : (a b : Option Scope) → ScopeWithin a b → is_some a ≡ true → is_some b ≡ true
is_some-within None b w h = cc
is_some-within (Some f) None w h = absurd w
is_some-within (Some f) (Some g) w h = refl

let_within : (f g : Scope) (x : ℕ) (a b : Option Ty) → Within f g → ((ty : Ty) → a ≡ Some ty → b ≡ Some ty) → ScopeWithin (option_map (with_var f x) a) (option_map (with_var g x) b)
let_within f g x None b w p = tt
let_within f g x (Some ty) b w p = subst (λ (o : Option Ty). ScopeWithin (Some (with_var f x ty)) (option_map (with_var g x) o)) (sym (p ty refl)) (with_var-within f g x ty w)

module _ (tables : List Table) where
  pairs_grow : (pairs : List ((s : Stmt) × Grows (check tables s))) → AllGrow (map (check tables) (map (λ s. s.0) pairs))
  pairs_grow [] = tt
  pairs_grow (p ∷ ps) = (p.1, pairs_grow ps)

  step_grows : (y : Stmt-F ((s : Stmt) × Grows (check tables s))) → Grows (check_step tables (map-Stmt Stmt Check (check tables) (map-Stmt ((s : Stmt) × Grows (check tables s)) Stmt (λ s. s.0) y)))
  step_grows (form.Let x e) f g w = let_within f g x (type_in f e) (type_in g e) w (type_in-within f g w e)
  step_grows (form.Read x t k c d) f g w = if_so-within _ _ _ _
      (and-implied _ _ _ _ (is_wanted-within (type_in f k) (type_in g k) (key_type tables t) (type_in-within f g w k)) (λ h. h))
      (with_var-within f g x (type_of d) w)
  step_grows (form.Has x t k) f g w = if_so-within _ _ _ _
      (is_wanted-within (type_in f k) (type_in g k) (key_type tables t) (type_in-within f g w k))
      (with_var-within f g x BoolTy w)
  step_grows (form.Put t k es) f g w = if_so-within _ _ _ _
      (and-implied _ _ _ _ (and-implied _ _ _ _ (is_wanted-within (type_in f k) (type_in g k) (key_type tables t) (type_in-within f g w k)) (λ h. h))
      (are_wanted-within f g w es (column_types tables t)))
      w
  step_grows (form.Set t k c e) f g w = if_so-within _ _ _ _
      (and-implied _ _ _ _ (is_wanted-within (type_in f k) (type_in g k) (key_type tables t) (type_in-within f g w k))
      (is_wanted-within (type_in f e) (type_in g e) (column_type tables t c) (type_in-within f g w e)))
      w
  step_grows (form.Delete t k) f g w = if_so-within _ _ _ _
      (is_wanted-within (type_in f k) (type_in g k) (key_type tables t) (type_in-within f g w k))
      w
  step_grows (form.AbortIf e) f g w = if_so-within _ _ _ _ (is_bool-within (type_in f e) (type_in g e) (type_in-within f g w e)) w
  step_grows (form.If x e first second) f g w =
      let inner : Within (with_var f x BoolTy) (with_var g x BoolTy) = with_var-within f g x BoolTy w in
      if_so-within _ _ _ _
      (and-implied _ _ _ _ (and-implied _ _ _ _ (is_bool-within (type_in f e) (type_in g e) (type_in-within f g w e))
      (is_some-within _ _ (in_order-within _ (pairs_grow first) _ _ inner)))
      (is_some-within _ _ (in_order-within _ (pairs_grow second) _ _ inner)))
      (without-within _ _ _ (without-within _ _ _ inner))
  step_grows (form.For x from to body) f g w = if_so-within _ _ _ _
      (is_some-within _ _ (in_order-within _ (pairs_grow body) _ _ (with_var-within _ _ x IntTy (without-within _ f g w))))
      (without-within _ f g w)

  pub check-grows : (s : Stmt) → Grows (check tables s)
  check-grows = ind-Stmt (λ s. Grows (check tables s)) (λ x y is. subst (λ z. Grows (check tables (roll-Stmt z))) is
      (subst (λ (c : Check). Grows c) (sym (fold-roll-Stmt Check (check_step tables) _)) (step_grows y)))

  all_grow : (stmts : List Stmt) → AllGrow (map (check tables) stmts)
  all_grow [] = tt
  all_grow (s ∷ ss) = (check-grows s, all_grow ss)

  pub scope_after_all-within : (stmts : List Stmt) (f g : Scope) → Within f g → ScopeWithin (scope_after_all tables stmts f) (scope_after_all tables stmts g)
  scope_after_all-within stmts = in_order-within (map (check tables) stmts) (all_grow stmts)
