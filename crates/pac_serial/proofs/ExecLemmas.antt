-- What statements leave visible, and what they keep.
use Rattle.std.proofs.Common.{◌≡◌, ℕ, zero, suc, ◌<◌, ◌==◌, ◌||◌, Bool, true, false, List, [], ◌∷◌, map, length, get_or, Option, Some, None, Result, Ok, Err, IsSome, OnOk, refl, sym, ap, ◌∙◌, subst, arith}
use Rattle.std.specs.Prelude.{if◌then◌else◌}
use Rattle.std.specs.Option.{option_map, option_and_then}
use Rattle.pac_value.specs.declared.values.Ty.{Ty}
use Rattle.pac_value.specs.Expressions.{Values, types_of, type_in}
use Rattle.pac_types.specs.declared.table.Table.{Table}
use Rattle.pac_types.specs.declared.statement.Stmt.{Stmt, Let, Read, Has, Put, Set, If}
use Rattle.pac_types.specs.declared.statement.Stmt.TheOpen as form
use Rattle.pac_types.specs.declared.statement.Stmt.TheOpen.{Stmt-F}
use Rattle.pac_value.specs.declared.values.Ty.TheVariants.{Bool as BoolTy}
use Rattle.pac_value.specs.declared.values.Value.{Value}
use Rattle.pac_value.specs.declared.expr.Expr.{Expr}
use Rattle.pac_value.specs.Values.{type_of}
use Rattle.pac_types.proofs.StmtForms.{at-Let, at-Read, at-Has, at-Put, at-Set, at-If}
use Rattle.pac_types.specs.WellFormed.{without, if_so, Check, check_step, check, any_defines, in_order, scope_after, scope_after_all}
use Rattle.pac_value.specs.Scopes.{Scope, with_var}
use Rattle.pac_types.proofs.WellFormedLemmas.{ScopeWithin, scope_after_all-within}
use Rattle.pac_serial.specs.Outcomes.{Sees, KeepsTypes}

pub sees-if_so : (b : Bool) (f : Scope) (env : Values) → IsSome (if_so b f) → types_of env ≡ f → Sees (if_so b f) env
sees-if_so true f env some e = λ x ty h. ap (λ (g : Scope). g x) e ∙ h
sees-if_so false f env some e = let no_way : ⊥ = cc in absurd no_way

pub keeps-define : (x : ℕ) (ty : Ty) (old new : Values) → types_of new ≡ with_var (types_of old) x ty → KeepsTypes (λ y. y == x) old new
keeps-define x ty old new e y h = ap (λ (g : Scope). g y) e ∙ ap (λ b. if b then Some ty else types_of old y) h

pub keeps-let : (x : ℕ) (o : Option Ty) (old new : Values) → option_map (with_var (types_of old) x) o ≡ Some (types_of new) → KeepsTypes (λ y. y == x) old new
keeps-let x None old new e = let no_way : ⊥ = cc in absurd no_way
keeps-let x (Some ty) old new e = let same : with_var (types_of old) x ty ≡ types_of new = cc in keeps-define x ty old new (sym same)

or-left : (a b : Bool) → (a || b) ≡ false → a ≡ false
or-left true b h = h
or-left false b h = refl

or-right : (a b : Bool) → (a || b) ≡ false → b ≡ false
or-right true b h = cc
or-right false b h = h

-- a conditional keeps what neither it nor a block defines
pub keeps-first : (x : ℕ) (ty : Ty) (first second : ℕ → Bool) (old mid new : Values) → types_of mid ≡ with_var (types_of old) x ty → KeepsTypes first mid new → KeepsTypes (λ y. y == x || (first y || second y)) old new
keeps-first x ty first second old mid new e k y h =
    let blocks : (first y || second y) ≡ false = or-right (y == x) (first y || second y) h in
    k y (or-left (first y) (second y) blocks) ∙ keeps-define x ty old mid e y (or-left (y == x) (first y || second y) h)

pub keeps-second : (x : ℕ) (ty : Ty) (first second : ℕ → Bool) (old mid new : Values) → types_of mid ≡ with_var (types_of old) x ty → KeepsTypes second mid new → KeepsTypes (λ y. y == x || (first y || second y)) old new
keeps-second x ty first second old mid new e k y h =
    let blocks : (first y || second y) ≡ false = or-right (y == x) (first y || second y) h in
    k y (or-right (first y) (second y) blocks) ∙ keeps-define x ty old mid e y (or-left (y == x) (first y || second y) h)

visible : (some : ℕ → Bool) (f : Scope) (y : ℕ) (ty : Ty) → without some f y ≡ Some ty → (some y ≡ false) × (f y ≡ Some ty)
visible some f y ty h = go (some y) refl h
  where
    go : (b : Bool) → some y ≡ b → (if b then None else f y) ≡ Some ty → (some y ≡ false) × (f y ≡ Some ty)
    go true e h = let no_way : ⊥ = cc in absurd no_way
    go false e h = (e, h)

-- after a conditional what no block defines is visible
pub sees-after : (b : Bool) (first second : ℕ → Bool) (g : Scope) (mid new : Values) → IsSome (if_so b (without first (without second g))) → types_of mid ≡ g
    → ((y : ℕ) → first y ≡ false → second y ≡ false → types_of new y ≡ types_of mid y) → Sees (if_so b (without first (without second g))) new
sees-after false first second g mid new some e k = let no_way : ⊥ = cc in absurd no_way
sees-after true first second g mid new some e k = λ y ty h.
    let one : (first y ≡ false) × (without second g y ≡ Some ty) = visible first (without second g) y ty h in
    let two : (second y ≡ false) × (g y ≡ Some ty) = visible second g y ty one.1 in
    k y one.0 two.0 ∙ ap (λ (f : Scope). f y) e ∙ two.1

pub some-within : (a b : Option Scope) → ScopeWithin a b → IsSome a → IsSome b
some-within None b w h = cc
some-within (Some f) None w h = absurd w
some-within (Some f) (Some g) w h = refl

-- what comes after a well-formed statement is well-formed where it ended
pub rest-well_formed : (tables : List Table) (stmt : Stmt) (rest : List Stmt) (types : Scope) (env : Values)
    → IsSome (scope_after_all tables (stmt ∷ rest) types) → Sees (scope_after tables stmt types) env → IsSome (scope_after_all tables rest (types_of env))
rest-well_formed tables stmt rest types env well_formed sees = go (scope_after tables stmt types) well_formed sees
  where
    go : (o : Option Scope) → IsSome (option_and_then (in_order (map (check tables) rest)) o) → Sees o env → IsSome (scope_after_all tables rest (types_of env))
    go None well_formed sees = absurd sees
    go (Some f) well_formed sees = some-within (scope_after_all tables rest f) (scope_after_all tables rest (types_of env)) (scope_after_all-within tables rest f (types_of env) sees) well_formed

pub defines-at : (tables : List Table) (stmts : List Stmt) (i : ℕ) (d : Stmt) (y : ℕ) → any_defines (map (check tables) stmts) y ≡ false → i < length stmts → (check tables (get_or stmts i d)).defines y ≡ false
defines-at tables [] i d y h inside = absurd (omega arith)
defines-at tables (s ∷ ss) zero d y h inside = or-left ((check tables s).defines y) (any_defines (map (check tables) ss) y) h
defines-at tables (s ∷ ss) (suc i) d y h inside = defines-at tables ss i d y (or-right ((check tables s).defines y) (any_defines (map (check tables) ss) y) h) (omega arith)

-- the same for each form of a statement
module _ (tables : List Table) (s : Stmt) (old new : Values) where
  sees_formed : (y : Stmt-F Check) → check tables s ≡ check_step tables y → (IsSome ((check_step tables y).after (types_of old)) → Sees ((check_step tables y).after (types_of old)) new)
      → IsSome (scope_after tables s (types_of old)) → Sees (scope_after tables s (types_of old)) new
  sees_formed y e h = subst (λ (c : Check). IsSome (c.after (types_of old)) → Sees (c.after (types_of old)) new) (sym e) h

  keeps_formed : (y : Stmt-F Check) → check tables s ≡ check_step tables y → KeepsTypes (check_step tables y).defines old new → KeepsTypes (check tables s).defines old new
  keeps_formed y e h = subst (λ (c : Check). KeepsTypes c.defines old new) (sym e) h

  pub keeps-Let : (x : ℕ) (e : Expr) → s ≡ Let x e → option_map (with_var (types_of old) x) (type_in (types_of old) e) ≡ Some (types_of new) → KeepsTypes (check tables s).defines old new
  keeps-Let x e is h = keeps_formed (form.Let x e) (at-Let Check (check_step tables) s x e is) (keeps-let x (type_in (types_of old) e) old new h)

  pub sees-Read : (x t : ℕ) (k : Expr) (c : ℕ) (d : Value) → s ≡ Read x t k c d → types_of new ≡ with_var (types_of old) x (type_of d) → IsSome (scope_after tables s (types_of old)) → Sees (scope_after tables s (types_of old)) new
  sees-Read x t k c d is h = sees_formed (form.Read x t k c d) (at-Read Check (check_step tables) s x t k c d is) (λ some. sees-if_so _ _ new some h)

  pub keeps-Read : (x t : ℕ) (k : Expr) (c : ℕ) (d : Value) → s ≡ Read x t k c d → types_of new ≡ with_var (types_of old) x (type_of d) → KeepsTypes (check tables s).defines old new
  keeps-Read x t k c d is h = keeps_formed (form.Read x t k c d) (at-Read Check (check_step tables) s x t k c d is) (keeps-define x (type_of d) old new h)

  pub sees-Has : (x t : ℕ) (k : Expr) → s ≡ Has x t k → types_of new ≡ with_var (types_of old) x BoolTy → IsSome (scope_after tables s (types_of old)) → Sees (scope_after tables s (types_of old)) new
  sees-Has x t k is h = sees_formed (form.Has x t k) (at-Has Check (check_step tables) s x t k is) (λ some. sees-if_so _ _ new some h)

  pub keeps-Has : (x t : ℕ) (k : Expr) → s ≡ Has x t k → types_of new ≡ with_var (types_of old) x BoolTy → KeepsTypes (check tables s).defines old new
  keeps-Has x t k is h = keeps_formed (form.Has x t k) (at-Has Check (check_step tables) s x t k is) (keeps-define x BoolTy old new h)

  pub keeps-If : (x : ℕ) (e : Expr) (first second : List Stmt) (mid : Values) → s ≡ If x e first second → types_of mid ≡ with_var (types_of old) x BoolTy
      → KeepsTypes (any_defines (map (check tables) first)) mid new → KeepsTypes (check tables s).defines old new
  keeps-If x e first second mid is h k = keeps_formed (form.If x e (map (check tables) first) (map (check tables) second)) (at-If Check (check_step tables) s x e first second is)
      (keeps-first x BoolTy (any_defines (map (check tables) first)) (any_defines (map (check tables) second)) old mid new h k)

  pub keeps-Else : (x : ℕ) (e : Expr) (first second : List Stmt) (mid : Values) → s ≡ If x e first second → types_of mid ≡ with_var (types_of old) x BoolTy
      → KeepsTypes (any_defines (map (check tables) second)) mid new → KeepsTypes (check tables s).defines old new
  keeps-Else x e first second mid is h k = keeps_formed (form.If x e (map (check tables) first) (map (check tables) second)) (at-If Check (check_step tables) s x e first second is)
      (keeps-second x BoolTy (any_defines (map (check tables) first)) (any_defines (map (check tables) second)) old mid new h k)

  pub sees-If : (x : ℕ) (e : Expr) (first second : List Stmt) (mid : Values) → s ≡ If x e first second → types_of mid ≡ with_var (types_of old) x BoolTy
      → ((y : ℕ) → any_defines (map (check tables) first) y ≡ false → any_defines (map (check tables) second) y ≡ false → types_of new y ≡ types_of mid y)
      → IsSome (scope_after tables s (types_of old)) → Sees (scope_after tables s (types_of old)) new
  sees-If x e first second mid is h k = sees_formed (form.If x e (map (check tables) first) (map (check tables) second)) (at-If Check (check_step tables) s x e first second is)
      (λ some. sees-after _ (any_defines (map (check tables) first)) (any_defines (map (check tables) second)) (with_var (types_of old) x BoolTy) mid new some h k)

module _ (tables : List Table) (s : Stmt) (env : Values) where
  pub sees-Put : (t : ℕ) (k : Expr) (es : List Expr) → s ≡ Put t k es → IsSome (scope_after tables s (types_of env)) → Sees (scope_after tables s (types_of env)) env
  sees-Put t k es is = sees_formed tables s env env (form.Put t k es) (at-Put Check (check_step tables) s t k es is) (λ some. sees-if_so _ _ env some refl)

  pub sees-Set : (t : ℕ) (k : Expr) (c : ℕ) (e : Expr) → s ≡ Set t k c e → IsSome (scope_after tables s (types_of env)) → Sees (scope_after tables s (types_of env)) env
  sees-Set t k c e is = sees_formed tables s env env (form.Set t k c e) (at-Set Check (check_step tables) s t k c e is) (λ some. sees-if_so _ _ env some refl)

pub on-ok : {A E : Type 0} (r : Result A E) (P Q : Type 0) → (P → Q) → OnOk r P → OnOk r Q
on-ok (Ok x) P Q f h = f h
on-ok (Err e) P Q f h = tt
