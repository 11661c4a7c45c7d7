-- What a check of a statement that is one operation says of the operation.
use Rattle.std.proofs.Common.{◌≡◌, ℕ, Bool, true, false, ◌&&◌, ◌||◌, ◌==◌, List, [], ◌∷◌, length, map, Option, Some, None, is_some, ◌⊎◌, inl, inr, refl, sym, ap, subst, ◌∙◌}
use Rattle.std.specs.Prelude.{slice_get, if◌then◌else◌}
use Rattle.std.specs.Option.{option_map, option_and_then}
use Rattle.std.proofs.lemmas.List.{length-map}
use Rattle.std.proofs.lemmas.Option.{slice_get-map}
use Rattle.pac_value.specs.declared.values.Ty.{Ty}
use Rattle.pac_value.specs.declared.values.Ty.TheVariants.{Bool as BoolTy}
use Rattle.pac_value.specs.declared.expr.Expr.{Expr}
use Rattle.pac_value.specs.Expressions.{type_in, type_step, operator_type, negated_type}
use Rattle.pac_value.specs.Scopes.{Scope, with_var, is_bool, is_wanted, are_wanted, is_width}
use Rattle.pac_value.specs.Values.{type_of}
use Rattle.pac_value.proofs.ByForms.{by_forms, fold-Lit, fold-Var, fold-Bin, fold-Not}
use Rattle.pac_ops.specs.declared.program.OpKind.{OpKind}
use Rattle.pac_ops.specs.declared.program.OpKind.TheVariants.{Let, Cond, Read, Has, Put, SetCol, Delete, AbortIf}
use Rattle.pac_ops.specs.declared.shapes.TableTypes.{TableTypes}
use Rattle.pac_ops.specs.Programs.{key_type_in, row_type_in, column_type_in, IsRowWanted, IsWellTyped, given_type}
use Rattle.pac_ops.specs.Uses.{use_step, expr_uses, exprs_use, kind_uses, defined_variable}
use Rattle.pac_types.specs.declared.table.Table.{Table}
use Rattle.pac_types.specs.Fits.{shape}
use Rattle.pac_types.specs.WellFormed.{key_type, column_types_of, column_types, column_type, if_so}
use Rattle.pac_types.proofs.PartLemmas.{equal}
use Rattle.pac_types.proofs.ScopeLemmas.{Within, TypeWithin, type_in-within, is_wanted-within, is_bool-within, are_wanted-within}
use Rattle.pac_flat.proofs.KindChecks.{single_check}

pub both : (a b : Bool) → (a && b) ≡ true → (a ≡ true) × (b ≡ true)
both true b h = (refl, h)
both false b h = absurd cc

pub either : (a b : Bool) → (a || b) ≡ true → (a ≡ true) ⊎ (b ≡ true)
either true b h = inl refl
either false b h = inr h

-- ---- what is well typed uses visible variables

bin_some : (k : Ty → Ty → Option Ty) (l r : Option Ty) → is_some (option_and_then (λ a. option_and_then (λ b. k a b) r) l) ≡ true → (is_some l ≡ true) × (is_some r ≡ true)
bin_some k None r h = absurd cc
bin_some k (Some a) None h = absurd cc
bin_some k (Some a) (Some b) h = (refl, refl)

not_some : (k : Ty → Option Ty) (o : Option Ty) → is_some (option_and_then k o) ≡ true → is_some o ≡ true
not_some k None h = h
not_some k (Some a) h = refl

pub visible-used : (f : Scope) (x : ℕ) (e : Expr) → is_some (type_in f e) ≡ true → expr_uses x e ≡ true → is_some (f x) ≡ true
visible-used f x = by_forms (λ e. is_some (type_in f e) ≡ true → expr_uses x e ≡ true → is_some (f x) ≡ true)
    (λ v typed uses. let wrong : false ≡ true = sym (fold-Lit Bool (use_step x) v) ∙ uses in absurd cc)
    (λ y typed uses.
    let same : y ≡ x = equal y x (sym (fold-Var Bool (use_step x) y) ∙ uses) in
    let there : is_some (f y) ≡ true = ap is_some (sym (fold-Var (Option Ty) (type_step f) y)) ∙ typed in
    ap (λ z. is_some (f z)) (sym same) ∙ there)
    (λ op l r p q typed uses.
    let parts = bin_some (operator_type op) (type_in f l) (type_in f r) (ap is_some (sym (fold-Bin (Option Ty) (type_step f) op l r)) ∙ typed) in
    use_either x f l r (either (expr_uses x l) (expr_uses x r) (sym (fold-Bin Bool (use_step x) op l r) ∙ uses)) (p parts.0) (q parts.1))
    (λ e p typed uses. p (not_some negated_type (type_in f e) (ap is_some (sym (fold-Not (Option Ty) (type_step f) e)) ∙ typed)) (sym (fold-Not Bool (use_step x) e) ∙ uses))
  where
    use_either : (x : ℕ) (f : Scope) (l r : Expr) → ((expr_uses x l ≡ true) ⊎ (expr_uses x r ≡ true)) → (expr_uses x l ≡ true → is_some (f x) ≡ true) → (expr_uses x r ≡ true → is_some (f x) ≡ true) → is_some (f x) ≡ true
    use_either x f l r (inl h) p q = p h
    use_either x f l r (inr h) p q = q h

wanted_some : (a b : Option Ty) → is_wanted a b ≡ true → is_some a ≡ true
wanted_some None b h = absurd cc
wanted_some (Some ty) b h = refl

bool_some : (a : Option Ty) → is_bool a ≡ true → is_some a ≡ true
bool_some None h = absurd cc
bool_some (Some ty) h = refl

pub from_either : {A B C : Type 0} → (A ⊎ B) → (A → C) → (B → C) → C
from_either (inl a) f g = f a
from_either (inr b) f g = g b

visible-all : (f : Scope) (x : ℕ) (es : List Expr) (tys : List Ty) → are_wanted (map (type_in f) es) tys ≡ true → exprs_use x es ≡ true → is_some (f x) ≡ true
visible-all f x [] tys typed uses = absurd cc
visible-all f x (e ∷ es) [] typed uses = absurd cc
visible-all f x (e ∷ es) (ty ∷ tys) typed uses =
    let parts = both (is_wanted (type_in f e) (Some ty)) (are_wanted (map (type_in f) es) tys) typed in
    from_either (either (expr_uses x e) (exprs_use x es) uses) (visible-used f x e (wanted_some (type_in f e) (Some ty) parts.0)) (visible-all f x es tys parts.1)

visible-row : (f : Scope) (x : ℕ) (es : List Expr) (columns : Option (List Ty)) → IsRowWanted (map (type_in f) es) columns → exprs_use x es ≡ true → is_some (f x) ≡ true
visible-row f x es None wanted uses = absurd wanted
visible-row f x es (Some tys) wanted uses = visible-all f x es tys wanted.1 uses

-- ---- tables

module _ (tables : List Table) where
  abbrev pub shapes : List TableTypes
  shapes = map shape tables

  key_is : (t : ℕ) → key_type tables t ≡ key_type_in shapes t
  key_is t = go (slice_get tables t) ∙ ap (option_map (λ (table : TableTypes). table.key)) (sym (slice_get-map shape tables t))
    where
      go : (o : Option Table) → option_map (λ (table : Table). table.key) o ≡ option_map (λ (table : TableTypes). table.key) (option_map shape o)
      go None = refl
      go (Some table) = refl

  column_is : (t c : ℕ) → column_type tables t c ≡ column_type_in shapes t c
  column_is t c = go (slice_get tables t) ∙ ap (λ o. option_and_then (λ columns. slice_get columns c) (option_map (λ (table : TableTypes). table.columns) o)) (sym (slice_get-map shape tables t))
    where
      go : (o : Option Table) → slice_get (column_types_of o) c ≡ option_and_then (λ columns. slice_get columns c) (option_map (λ (table : TableTypes). table.columns) (option_map shape o))
      go None = refl
      go (Some table) = refl

  row_is : (f : Scope) (t : ℕ) (es : List Expr) → is_width (length es) ≡ true → are_wanted (map (type_in f) es) (column_types tables t) ≡ true → IsRowWanted (map (type_in f) es) (row_type_in shapes t)
  row_is f t es width wanted = subst (λ (o : Option TableTypes). IsRowWanted (map (type_in f) es) (option_map (λ (table : TableTypes). table.columns) o)) (sym (slice_get-map shape tables t))
      (go (slice_get tables t) es width wanted)
    where
      go : (o : Option Table) (es : List Expr) → is_width (length es) ≡ true → are_wanted (map (type_in f) es) (column_types_of o) ≡ true
          → IsRowWanted (map (type_in f) es) (option_map (λ (table : TableTypes). table.columns) (option_map shape o))
      go None [] width wanted = absurd cc
      go None (e ∷ es) width wanted = absurd cc
      go (Some table) es width wanted = (ap is_width (length-map es (type_in f)) ∙ width, wanted)

  -- ---- one operation

  -- what is visible after an operation and was not before is its variable, of the type that it gives
  abbrev pub Adds : Scope → Scope → OpKind → Type 0
  Adds f g kind = (y : ℕ) (ty : Ty) → g y ≡ Some ty → (f y ≡ Some ty) ⊎ ((defined_variable kind ≡ Some y) × (given_type f kind ≡ Some ty))

  pub so_is : (ok : Bool) (f g : Scope) → if_so ok f ≡ Some g → (ok ≡ true) × (f ≡ g)
  so_is true f g h = (refl, cc)
  so_is false f g h = absurd cc

  adds_none : (f g : Scope) (kind : OpKind) → f ≡ g → Adds f g kind
  adds_none f g kind same y ty h = inl (ap (λ (s : Scope). s y) same ∙ h)

  pub adds_one : (f g : Scope) (kind : OpKind) (x : ℕ) (ty : Ty) → with_var f x ty ≡ g → defined_variable kind ≡ Some x → given_type f kind ≡ Some ty → Adds f g kind
  adds_one f g kind x ty same defines gives y t h = go (y == x) refl (ap (λ (s : Scope). s y) same ∙ h)
    where
      go : (b : Bool) → (y == x) ≡ b → (if b then Some ty else f y) ≡ Some t → (f y ≡ Some t) ⊎ ((defined_variable kind ≡ Some y) × (given_type f kind ≡ Some t))
      go true e is = inr (defines ∙ ap Some (sym (equal y x e)), gives ∙ is)
      go false e is = inl is

  pub single_well_formed : (kind : OpKind) (f g : Scope) → (single_check tables kind).after f ≡ Some g → IsWellTyped shapes f kind × Adds f g kind
  single_well_formed (Let x e) f g h = go (type_in f e) refl h
    where
      go : (o : Option Ty) → type_in f e ≡ o → option_map (with_var f x) o ≡ Some g → IsWellTyped shapes f (Let x e) × Adds f g (Let x e)
      go None is k = absurd cc
      go (Some ty) is k = (ap is_some is, adds_one f g (Let x e) x ty (cc) refl is)
  single_well_formed (Cond x e) f g h = absurd cc
  single_well_formed (Read x t k c d) f g h =
      let p = so_is (is_wanted (type_in f k) (key_type tables t) && is_wanted (Some (type_of d)) (column_type tables t c)) (with_var f x (type_of d)) g h in
      let q = both (is_wanted (type_in f k) (key_type tables t)) (is_wanted (Some (type_of d)) (column_type tables t c)) p.0 in
      ((subst (λ o. is_wanted (type_in f k) o ≡ true) (key_is t) q.0, subst (λ o. is_wanted (Some (type_of d)) o ≡ true) (column_is t c) q.1), adds_one f g (Read x t k c d) x (type_of d) p.1 refl refl)
  single_well_formed (Has x t k) f g h =
      let p = so_is (is_wanted (type_in f k) (key_type tables t)) (with_var f x BoolTy) g h in
      (subst (λ o. is_wanted (type_in f k) o ≡ true) (key_is t) p.0, adds_one f g (Has x t k) x BoolTy p.1 refl refl)
  single_well_formed (Put t k es) f g h =
      let p = so_is (is_wanted (type_in f k) (key_type tables t) && is_width (length es) && are_wanted (map (type_in f) es) (column_types tables t)) f g h in
      let q = both (is_wanted (type_in f k) (key_type tables t) && is_width (length es)) (are_wanted (map (type_in f) es) (column_types tables t)) p.0 in
      let r = both (is_wanted (type_in f k) (key_type tables t)) (is_width (length es)) q.0 in
      ((subst (λ o. is_wanted (type_in f k) o ≡ true) (key_is t) r.0, row_is f t es r.1 q.1), adds_none f g (Put t k es) p.1)
  single_well_formed (SetCol t k c e) f g h =
      let p = so_is (is_wanted (type_in f k) (key_type tables t) && is_wanted (type_in f e) (column_type tables t c)) f g h in
      let q = both (is_wanted (type_in f k) (key_type tables t)) (is_wanted (type_in f e) (column_type tables t c)) p.0 in
      ((subst (λ o. is_wanted (type_in f k) o ≡ true) (key_is t) q.0, subst (λ o. is_wanted (type_in f e) o ≡ true) (column_is t c) q.1), adds_none f g (SetCol t k c e) p.1)
  single_well_formed (Delete t k) f g h =
      let p = so_is (is_wanted (type_in f k) (key_type tables t)) f g h in
      (subst (λ o. is_wanted (type_in f k) o ≡ true) (key_is t) p.0, adds_none f g (Delete t k) p.1)
  single_well_formed (AbortIf e) f g h =
      let p = so_is (is_bool (type_in f e)) f g h in
      (p.0, adds_none f g (AbortIf e) p.1)

-- ---- any operation

module _ (shapes : List TableTypes) where
  -- what is well typed stays so where more is visible
  pub well_typed-within : (f g : Scope) → Within f g → (kind : OpKind) → IsWellTyped shapes f kind → IsWellTyped shapes g kind
  well_typed-within f g w (Let x e) h = some_within (type_in f e) (type_in g e) (type_in-within f g w e) h
    where
      some_within : (a b : Option Ty) → TypeWithin a b → is_some a ≡ true → is_some b ≡ true
      some_within None b p h = absurd cc
      some_within (Some ty) b p h = ap is_some (p ty refl)
  well_typed-within f g w (Cond x e) h = is_bool-within (type_in f e) (type_in g e) (type_in-within f g w e) h
  well_typed-within f g w (Read x t k c d) h = (is_wanted-within (type_in f k) (type_in g k) (key_type_in shapes t) (type_in-within f g w k) h.0, h.1)
  well_typed-within f g w (Has x t k) h = is_wanted-within (type_in f k) (type_in g k) (key_type_in shapes t) (type_in-within f g w k) h
  well_typed-within f g w (Put t k es) h = (is_wanted-within (type_in f k) (type_in g k) (key_type_in shapes t) (type_in-within f g w k) h.0, row (row_type_in shapes t) h.1)
    where
      row : (o : Option (List Ty)) → IsRowWanted (map (type_in f) es) o → IsRowWanted (map (type_in g) es) o
      row None r = r
      row (Some tys) r = (ap is_width (length-map es (type_in g) ∙ sym (length-map es (type_in f))) ∙ r.0, are_wanted-within f g w es tys r.1)
  well_typed-within f g w (SetCol t k c e) h =
      (is_wanted-within (type_in f k) (type_in g k) (key_type_in shapes t) (type_in-within f g w k) h.0, is_wanted-within (type_in f e) (type_in g e) (column_type_in shapes t c) (type_in-within f g w e) h.1)
  well_typed-within f g w (Delete t k) h = is_wanted-within (type_in f k) (type_in g k) (key_type_in shapes t) (type_in-within f g w k) h
  well_typed-within f g w (AbortIf e) h = is_bool-within (type_in f e) (type_in g e) (type_in-within f g w e) h

  -- it uses visible variables
  pub visible-kind : (f : Scope) (x : ℕ) (kind : OpKind) → IsWellTyped shapes f kind → kind_uses x kind ≡ true → is_some (f x) ≡ true
  visible-kind f x (Let y e) h uses = visible-used f x e h uses
  visible-kind f x (Cond y e) h uses = visible-used f x e (bool_some (type_in f e) h) uses
  visible-kind f x (Read y t k c d) h uses = visible-used f x k (wanted_some (type_in f k) (key_type_in shapes t) h.0) uses
  visible-kind f x (Has y t k) h uses = visible-used f x k (wanted_some (type_in f k) (key_type_in shapes t) h) uses
  visible-kind f x (Put t k es) h uses = from_either (either (expr_uses x k) (exprs_use x es) uses) (visible-used f x k (wanted_some (type_in f k) (key_type_in shapes t) h.0)) (visible-row f x es (row_type_in shapes t) h.1)
  visible-kind f x (SetCol t k c e) h uses = from_either (either (expr_uses x k) (expr_uses x e) uses) (visible-used f x k (wanted_some (type_in f k) (key_type_in shapes t) h.0)) (visible-used f x e (wanted_some (type_in f e) (column_type_in shapes t c) h.1))
  visible-kind f x (Delete t k) h uses = visible-used f x k (wanted_some (type_in f k) (key_type_in shapes t) h) uses
  visible-kind f x (AbortIf e) h uses = visible-used f x e (bool_some (type_in f e) h) uses

  -- it gives a type exactly where it has a variable
  abbrev pub SameThere : Option ℕ → Option Ty → Type 0
  SameThere None None = Unit {0}
  SameThere None (Some ty) = ⊥
  SameThere (Some x) None = ⊥
  SameThere (Some x) (Some ty) = Unit {0}

  pub gives_there : (f : Scope) (kind : OpKind) → IsWellTyped shapes f kind → SameThere (defined_variable kind) (given_type f kind)
  gives_there f (Let x e) h = go (type_in f e) h
    where
      go : (o : Option Ty) → is_some o ≡ true → SameThere (Some x) o
      go None k = absurd cc
      go (Some ty) k = tt
  gives_there f (Cond x e) h = tt
  gives_there f (Read x t k c d) h = tt
  gives_there f (Has x t k) h = tt
  gives_there f (Put t k es) h = tt
  gives_there f (SetCol t k c e) h = tt
  gives_there f (Delete t k) h = tt
  gives_there f (AbortIf e) h = tt
