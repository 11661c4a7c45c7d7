-- Variables that operations do not define keep their values, so conditions on them go on holding.
use Rattle.std.proofs.Common.{◌≡◌, ◌≢◌, ℕ, ◌+◌, ◌<◌, ◌≤◌, ◌==◌, Bool, true, false, cond, ◌&&◌, List, [], ◌∷◌, ◌++◌, Option, Some, None, Result, Ok, Err, refl, sym, ap, ◌∙◌, arith}
use Rattle.std.specs.Prelude.{slice_get}
use Rattle.std.specs.Cmp.{nat_cmp_total, unsigned_ties}
use Rattle.std.specs.FinMap.{get, insert, get-insert}
use Rattle.std.specs.List.{AllByRecursion}
use Rattle.std.proofs.lemmas.Bool.Decides.{nat_tests}
use Rattle.pac_value.specs.declared.values.Ty.{Ty}
use Rattle.pac_value.specs.declared.values.Value.{Value}
use Rattle.pac_value.specs.declared.values.Value.TheVariants.{Int, Text, Bool as Truth}
use Rattle.pac_value.specs.Expressions.{Values, value, ◌>>=◌}
use Rattle.pac_value.specs.State.{Cell, RowValues}
use Rattle.pac_ops.specs.declared.program.FlatOp.{FlatOp}
use Rattle.pac_ops.specs.declared.program.OpKind.{OpKind}
use Rattle.pac_ops.specs.declared.program.OpKind.TheVariants.{Let, Cond, Read, Has, Put, SetCol, Delete, AbortIf}
use Rattle.pac_ops.specs.declared.reason.Reason.{Reason}
use Rattle.pac_ops.specs.Reasons.{or_abort}
use Rattle.pac_ops.specs.Operations.{State, define, touched, Effect, Nothing, Gives, Leaves, values, replaced, unless_asked, effect, row_at, with_effect, done}
use Rattle.pac_ops.specs.Flat.{is_as_asked, all_hold, default_of, given_default, with_default, done_or_default, flat_done, flat_meaning}
use Rattle.pac_ops.specs.Uses.{defined_variable}
use Rattle.pac_types.proofs.RunsOnLemmas.{RunsOn, variable_list}
use Rattle.pac_flat.specs.FlatForm.{Conditions, inside}
use Rattle.pac_flat.proofs.FormLemmas.{defined_in}

-- ---- values of variables

same : (n : ℕ) → (n == n) ≡ true
same n = grind (arith, nat_tests)

unlike : (y x : ℕ) → y ≢ x → (y == x) ≡ false
unlike y x h = grind (arith, nat_tests)

insert-at : (env : Values) (x : ℕ) (v : Value) (y : ℕ) → get (insert env x v) y ≡ cond (y == x) (Some v) (get env y)
insert-at env x v y = get-insert nat_cmp_total env x v y ∙ ap (λ b. cond b (Some v) (get env y)) (sym (unsigned_ties y x))

pub get-defined : (s : State) (x : ℕ) (v : Value) → get (define x v s).env x ≡ Some v
get-defined s x v = insert-at s.env x v x ∙ ap (λ b. cond b (Some v) (get s.env x)) (same x)

pub get-others : (s : State) (x : ℕ) (v : Value) (y : ℕ) → y ≢ x → get (define x v s).env y ≡ get s.env y
get-others s x v y h = insert-at s.env x v y ∙ ap (λ b. cond b (Some v) (get s.env y)) (unlike y x h)

-- a property of the value of a result, if it has one
abbrev Of : {A E : Type 0} → (A → Type 0) → Result A E → Type 0
Of P (Ok x) = P x
Of P (Err e) = Unit {0}

of-then : {A B E : Type 0} (P : B → Type 0) (r : Result A E) (f : A → Result B E) → ((x : A) → Of P (f x)) → Of P (r >>= f)
of-then P (Ok x) f h = h x
of-then P (Err e) f h = tt

of-both : {A B E : Type 0} (Q : A → Type 0) (P : B → Type 0) (r : Result A E) (f : A → Result B E) → Of Q r → ((x : A) → Q x → Of P (f x)) → Of P (r >>= f)
of-both Q P (Ok x) f q h = h x q
of-both Q P (Err e) f q h = tt

module _ (y : ℕ) where
  -- the variable is none of these
  abbrev pub Differs : List ℕ → Type 0
  Differs xs = AllByRecursion (λ x. y ≢ x) xs

  abbrev Spares : Effect → Type 0
  Spares Nothing = Unit {0}
  Spares (Gives x v) = y ≢ x
  Spares (Leaves row) = Unit {0}

  asked_spares : (v : Value) → Of Spares (unless_asked v)
  asked_spares (Truth true) = tt
  asked_spares (Truth false) = tt
  asked_spares (Int n) = tt
  asked_spares (Text t) = tt

  effect_spares : (kind : OpKind) (env : Values) (row : Option RowValues) → Differs (variable_list (defined_variable kind)) → Of Spares (effect kind env row)
  effect_spares (Let x e) env row h = of-then Spares (or_abort (value e env)) _ (λ v. h.0)
  effect_spares (Cond x e) env row h = of-then Spares (or_abort (value e env)) _ (λ v. h.0)
  effect_spares (Read x t k c d) env row h = h.0
  effect_spares (Has x t k) env row h = h.0
  effect_spares (Put t k es) env row h = of-then Spares (or_abort (values es env)) _ (λ vs. tt)
  effect_spares (SetCol t k c e) env row h = of-then Spares (or_abort (value e env)) _ (λ v. of-then Spares (replaced row c v) _ (λ vs. tt))
  effect_spares (Delete t k) env row h = tt
  effect_spares (AbortIf e) env row h = of-then Spares (or_abort (value e env)) _ (λ v. asked_spares v)

  abbrev Keeps : State → State → Type 0
  Keeps s t = get t.env y ≡ get s.env y

  with_effect_keeps : (cell : Option Cell) (e : Effect) (s : State) → Spares e → Keeps s (with_effect cell e s)
  with_effect_keeps cell Nothing s h = refl
  with_effect_keeps cell (Gives x v) s h = get-others s x v y h
  with_effect_keeps None (Leaves row) s h = refl
  with_effect_keeps (Some cell) (Leaves row) s h = refl

  done_keeps : (kind : OpKind) (s : State) → Differs (variable_list (defined_variable kind)) → Of (Keeps s) (done kind s)
  done_keeps kind s h = of-then (Keeps s) (or_abort (touched kind s.env)) _ (λ cell.
      of-both Spares (Keeps s) (effect kind s.env (row_at s.tables cell)) _ (effect_spares kind s.env (row_at s.tables cell) h) (λ e spares. with_effect_keeps cell e s spares))

  default_keeps : (vars : List Ty) (o : Option ℕ) (s : State) → Differs (variable_list o) → Keeps s (with_default vars o s)
  default_keeps vars None s h = refl
  default_keeps vars (Some x) s h = go (slice_get vars x)
    where
      go : (ty : Option Ty) → Keeps s (given_default x ty s)
      go None = refl
      go (Some ty) = get-others s x (default_of ty) y h.0

  settled_keeps : (vars : List Ty) (kind : OpKind) (s : State) (r : Result State Reason) → Differs (variable_list (defined_variable kind)) → Of (Keeps s) r → Keeps s (done_or_default vars kind s r)
  settled_keeps vars kind s (Ok t) h k = k
  settled_keeps vars kind s (Err reason) h k = default_keeps vars (defined_variable kind) s h

  op_keeps : (vars : List Ty) (op : FlatOp) (s : State) → Differs (variable_list (defined_variable op.kind)) → Keeps s (flat_done vars op s)
  op_keeps vars op s h = go (all_hold s.env op.conds)
    where
      go : (b : Bool) → Keeps s (cond b (done_or_default vars op.kind s (done op.kind s)) s)
      go true = settled_keeps vars op.kind s (done op.kind s) h (done_keeps op.kind s h)
      go false = refl

  differs-parts : (xs ys : List ℕ) → Differs (xs ++ ys) → Differs xs × Differs ys
  differs-parts [] ys h = (tt, h)
  differs-parts (x ∷ xs) ys h = let p = differs-parts xs ys h.1 in ((h.0, p.0), p.1)

  -- a variable that no operation defines keeps its value
  pub kept : (vars : List Ty) (ops : List FlatOp) (s : State) → Differs (defined_in ops) → get (flat_meaning vars ops s).env y ≡ get s.env y
  kept vars [] s h = refl
  kept vars (op ∷ ops) s h =
      let p = differs-parts (variable_list (defined_variable op.kind)) (defined_in ops) h in
      kept vars ops (flat_done vars op s) p.1 ∙ op_keeps vars op s p.0

-- ---- numbers one after another

-- lower numbers are none of them
pub lower-differs : (y n : ℕ) (xs : List ℕ) → y < n → RunsOn n xs → Differs y xs
lower-differs y n [] lt h = tt
lower-differs y n (x ∷ xs) lt h = (λ e. let no_way : ⊥ = omega (arith, h.0, e) in no_way, lower-differs y (n + 1) xs (omega arith) h.1)

-- ---- conditions on lower variables

-- the conditions are on variables of lower numbers
abbrev pub Below : ℕ → Conditions → Type 0
Below n conds = AllByRecursion (λ (c : ℕ × Bool). c.0 < n) conds

pub below-more : (n m : ℕ) (conds : Conditions) → n ≤ m → Below n conds → Below m conds
below-more n m [] le h = tt
below-more n m (c ∷ cs) le h = (omega (arith, h.0), below-more n m cs le h.1)

pub below-inside : (n m x : ℕ) (value : Bool) (conds : Conditions) → n ≤ m → x < m → Below n conds → Below m (inside conds x value)
below-inside n m x value [] le lt h = (lt, tt)
below-inside n m x value (c ∷ cs) le lt h = (omega (arith, h.0), below-inside n m x value cs le lt h.1)

-- where the lower variables keep their values, as many conditions hold
pub all_hold-kept : (n : ℕ) (conds : Conditions) (env now : Values) → Below n conds → ((y : ℕ) → y < n → get now y ≡ get env y) → all_hold now conds ≡ all_hold env conds
all_hold-kept n [] env now h k = refl
all_hold-kept n (c ∷ cs) env now h k = ap (λ o. is_as_asked c.1 o && all_hold now cs) (k c.0 h.0) ∙ ap (λ b. is_as_asked c.1 (get env c.0) && b) (all_hold-kept n cs env now h.1 k)
