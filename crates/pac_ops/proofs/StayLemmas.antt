-- Operations in order each find what they use, and keep the state fit.
use Rattle.std.proofs.Common.{◌≡◌, ℕ, ◌==◌, Bool, true, false, cond, List, [], ◌∷◌, ◌++◌, refl, sym, ap, ◌∙◌, subst, true≢false, Option, Some, None, ◌⊎◌, inl, inr, ⊎_elim}
use Rattle.std.specs.Prelude.{slice_get, IsSomeAnd}
use Rattle.std.specs.Option.{option_map}
use Rattle.std.specs.FinMap.{get}
use Rattle.std.proofs.lemmas.Option.{same_Some}
use Rattle.pac_value.specs.declared.values.Ty.{Ty}
use Rattle.pac_value.specs.declared.values.Value.{Value}
use Rattle.pac_value.specs.Expressions.{Values, value, ◌>>=◌}
use Rattle.pac_value.specs.State.{RowValues}
use Rattle.pac_ops.specs.declared.reason.Reason.{Reason}
use Rattle.pac_ops.specs.declared.shapes.TableTypes.{TableTypes}
use Rattle.pac_ops.specs.declared.program.FlatOp.{FlatOp}
use Rattle.pac_ops.specs.declared.program.OpKind.{OpKind}
use Rattle.pac_ops.specs.declared.program.OpKind.TheVariants.{Let, Cond, Read, Has, Put, SetCol, Delete, AbortIf}
use Rattle.pac_ops.specs.Reasons.{or_abort}
use Rattle.pac_ops.specs.Programs.{IsPrefixOf, IsWellTyped, given_type, scope_in}
use Rattle.pac_ops.specs.Uses.{conds_use, kind_uses, op_uses, defined_variable}
use Rattle.pac_ops.specs.Operations.{State, touched, effect, row_at}
use Rattle.pac_ops.specs.Flat.{is_as_asked, all_hold, default_of, flat_done}
use Rattle.pac_base.specs.Members.{Mem}
use Rattle.pac_ops.specs.Effects.{FlatEffect, nothing, Same, default_in, effect_or_default, kind_effect, flat_effect, flat_cell, NumberedOp, numbered_meaning, defined_in}
use Rattle.pac_ops.specs.StaysFit.{IsFit, FindsUses, StaysFitAt}
use Rattle.pac_base.proofs.TestLemmas.{or_left, equal_number, and_left, and_right, and_both, unlike}
use Rattle.pac_ops.proofs.EffectLemmas.{form, holds-alike, then_law, flat_gives}
use Rattle.pac_ops.proofs.StateLemmas.{value_now, get-given}
use Rattle.pac_ops.proofs.DefinedLemmas.{undefined_op, var-named}
use Rattle.pac_ops.proofs.FitLemmas.{op_fit}

-- ---- an operation whose conditions hold gives its variable a value

HasGift : FlatEffect → Type 0
HasGift e = (g : ℕ × Value) × (e.gives ≡ Some g)

module _ (vars : List Ty) (x : ℕ) (ty : Ty) (at : slice_get vars x ≡ Some ty) where
  default_gift : (reason : Reason) → HasGift (record { gives = default_in vars (Some x); change = Same; reason = Some reason })
  unfolding HasGift
  default_gift reason = ((x, default_of ty), ap (option_map (λ ty. (x, default_of ty))) at)

  effect_gift : (kind : OpKind) (env : Values) (row : Option RowValues) → defined_variable kind ≡ Some x → HasGift (effect_or_default vars (Some x) (effect kind env row))
  unfolding HasGift
  effect_gift (Let y e) env row d = then_law vars (Some x) HasGift default_gift (or_abort (value e env)) _ (λ v. ((y, v), refl))
  effect_gift (Cond y e) env row d = then_law vars (Some x) HasGift default_gift (or_abort (value e env)) _ (λ v. ((y, v), refl))
  effect_gift (Read y t k c e) env row d = (_, refl)
  effect_gift (Has y t k) env row d = (_, refl)
  effect_gift (Put t k es) env row d = absurd cc
  effect_gift (SetCol t k c e) env row d = absurd cc
  effect_gift (Delete t k) env row d = absurd cc
  effect_gift (AbortIf e) env row d = absurd cc

  kind_gift : (kind : OpKind) (env : Values) (row : Option RowValues) → defined_variable kind ≡ Some x → HasGift (kind_effect vars kind env row)
  unfolding HasGift
  kind_gift kind env row d = subst (λ (o : Option ℕ). HasGift (effect_or_default vars o (or_abort (touched kind env) >>= λ cell. effect kind env row))) (sym d)
      (then_law vars (Some x) HasGift default_gift (or_abort (touched kind env)) _ (λ cell. effect_gift kind env row d))

  pub op_gift : (op : FlatOp) (s : State) → all_hold s.env op.conds ≡ true → defined_variable op.kind ≡ Some x → (v : Value) × (get (flat_done vars op s).env x ≡ Some v)
  unfolding HasGift
  op_gift op s held d =
      let gift : HasGift (kind_effect vars op.kind s.env (row_at s.tables (flat_cell op s.env))) = kind_gift op.kind s.env (row_at s.tables (flat_cell op s.env)) d in
      let made : (flat_effect vars op s.env (row_at s.tables (flat_cell op s.env))).gives ≡ Some gift.0 =
      ap (λ b. (cond b (kind_effect vars op.kind s.env (row_at s.tables (flat_cell op s.env))) nothing).gives) held ∙ gift.1 in
      let same : x ≡ gift.0.0 = same_Some x gift.0.0 (sym d ∙ flat_gives vars op s.env (row_at s.tables (flat_cell op s.env)) gift.0 made) in (
        gift.0.1,
        ap (λ (z : State). get z.env x) (form vars op s) ∙ get-given _ s.env x ∙ ap (λ g. value_now g (get s.env x) x) made
            ∙ ap (λ b. cond b (Some gift.0.1) (get s.env x)) (equal_number x gift.0.0 same),
      )

-- a value stays, or another one comes
pub stays_some : (vars : List Ty) (op : FlatOp) (s : State) (x : ℕ) (v : Value) → get s.env x ≡ Some v → (w : Value) × (get (flat_done vars op s).env x ≡ Some w)
stays_some vars op s x v e = go (flat_effect vars op s.env (row_at s.tables (flat_cell op s.env))).gives refl
  where
    here : (r : Option Value) → value_now (flat_effect vars op s.env (row_at s.tables (flat_cell op s.env))).gives (get s.env x) x ≡ r → get (flat_done vars op s).env x ≡ r
    here r h = ap (λ (z : State). get z.env x) (form vars op s) ∙ get-given _ s.env x ∙ h

    go : (g : Option (ℕ × Value)) → (flat_effect vars op s.env (row_at s.tables (flat_cell op s.env))).gives ≡ g → (w : Value) × (get (flat_done vars op s).env x ≡ Some w)
    go None is = (v, here (Some v) (ap (λ g. value_now g (get s.env x) x) is ∙ e))
    go (Some g) is = pick (x == g.0) refl
      where
        pick : (b : Bool) → (x == g.0) ≡ b → (w : Value) × (get (flat_done vars op s).env x ≡ Some w)
        pick true t = (g.1, here (Some g.1) (ap (λ g. value_now g (get s.env x) x) is ∙ ap (λ b. cond b (Some g.1) (get s.env x)) t))
        pick false t = (v, here (Some v) (ap (λ g. value_now g (get s.env x) x) is ∙ ap (λ b. cond b (Some g.1) (get s.env x)) t ∙ e))

prefix_holds : (env : Values) (prefix : List (ℕ × Bool)) (rest : List (ℕ × Bool)) → all_hold env (prefix ++ rest) ≡ true → all_hold env prefix ≡ true
prefix_holds env [] rest h = refl
prefix_holds env (c ∷ cs) rest h = and_both (is_as_asked c.1 (get env c.0)) (all_hold env cs) (and_left (is_as_asked c.1 (get env c.0)) (all_hold env (cs ++ rest)) h)
    (prefix_holds env cs rest (and_right (is_as_asked c.1 (get env c.0)) (all_hold env (cs ++ rest)) h))

pub prefix_hold : (env : Values) (prefix conds : List (ℕ × Bool)) → IsPrefixOf prefix conds → all_hold env conds ≡ true → all_hold env prefix ≡ true
prefix_hold env prefix conds (rest, is) h = prefix_holds env prefix rest (ap (all_hold env) (sym is) ∙ h)

-- ---- operations in order

module _ (tables : List TableTypes) (vars : List Ty) where
  -- the operation is well typed, and its variable has the type that it gives
  pub record Typable (o : NumberedOp) : Type 0 where
    pub typed : IsWellTyped tables (scope_in vars) o.1.kind
    pub gives : (x : ℕ) → defined_variable o.1.kind ≡ Some x → IsSomeAnd (slice_get vars x) (λ ty. given_type (scope_in vars) o.1.kind ≡ Some ty)

  -- operations whose conditions hold have given their variables values
  abbrev pub HaveGiven : List NumberedOp → Values → Type 0
  HaveGiven before env = (i : NumberedOp) → Mem i before → all_hold env i.1.conds ≡ true → (x : ℕ) → defined_variable i.1.kind ≡ Some x → (v : Value) × (get env x ≡ Some v)

  module _ (all : List NumberedOp) (Input : NumberedOp → ℕ → Type 0) (start : Values)
      (inputs : (o : NumberedOp) (x : ℕ) → Input o x → (env : Values) → ((y : ℕ) → defined_in all y ≡ false → get env y ≡ get start y) → all_hold env o.1.conds ≡ true → (v : Value) × (get env x ≡ Some v)) where
    -- what an operation uses is an input, or defined before under conditions among its own; it defines what none before it, nor it, uses
    pub record Follows (before : List NumberedOp) (o : NumberedOp) : Type 0 where
      pub can : Typable o
      pub uses : (x : ℕ) → op_uses x o.1 ≡ true → Input o x ⊎ ((i : NumberedOp) × Mem i before × (defined_variable i.1.kind ≡ Some x) × IsPrefixOf i.1.conds o.1.conds)
      pub own : (x : ℕ) → defined_variable o.1.kind ≡ Some x → op_uses x o.1 ≡ false
      pub later : (x : ℕ) → defined_variable o.1.kind ≡ Some x → (i : NumberedOp) → Mem i before → op_uses x i.1 ≡ false
      pub listed : (x : ℕ) → defined_variable o.1.kind ≡ Some x → defined_in all x ≡ true

    abbrev pub Follow : List NumberedOp → List NumberedOp → Type 0
    Follow before [] = Unit {0}
    Follow before (o ∷ os) = Follows before o × Follow (o ∷ before) os

    abbrev pub Elsewhere : Values → Type 0
    Elsewhere env = (y : ℕ) → defined_in all y ≡ false → get env y ≡ get start y

    finds : (before : List NumberedOp) (o : NumberedOp) (s : State) → Follows before o → IsFit tables vars s → HaveGiven before s.env → Elsewhere s.env → FindsUses vars o.1 s.env
    finds before o s follows fit given elsewhere held x u =
        let v : (v : Value) × (get s.env x ≡ Some v) = ⊎_elim
        (λ input. inputs o x input s.env elsewhere held)
        (λ i. given i.0 i.1 (prefix_hold s.env i.0.1.conds o.1.conds i.3 held) x i.2)
        (follows.uses x u) in
        (v.0, v.1, fit.types x v.0 v.1)

    -- conditions hold on where what they use isn't defined
    before_holds : (o i : NumberedOp) (s : State) → ((x : ℕ) → defined_variable o.1.kind ≡ Some x → op_uses x i.1 ≡ false) → all_hold (flat_done vars o.1 s).env i.1.conds ≡ true → all_hold s.env i.1.conds ≡ true
    before_holds o i s unused h = sym (holds-alike i.1.conds (flat_done vars o.1 s).env s.env (λ y u. undefined_op vars o.1 s y
        (unlike _ (λ e. true≢false (sym (or_left (conds_use y i.1.conds) (kind_uses y i.1.kind) u) ∙ unused y (var-named y (defined_variable o.1.kind) e)))))) ∙ h

    given_on : (before : List NumberedOp) (o : NumberedOp) (s : State) → Follows before o → HaveGiven before s.env → HaveGiven (o ∷ before) (flat_done vars o.1 s).env
    given_on before o s follows given i (inl e) held x d =
        let dx : defined_variable o.1.kind ≡ Some x = ap (λ (z : NumberedOp). defined_variable z.1.kind) (sym e) ∙ d in
        let held' : all_hold (flat_done vars o.1 s).env o.1.conds ≡ true = ap (λ (z : NumberedOp). all_hold (flat_done vars o.1 s).env z.1.conds) (sym e) ∙ held in
        let ty : (ty : Ty) × (slice_get vars x ≡ Some ty) = type_there (slice_get vars x) _ (follows.can.gives x dx) in
        op_gift vars x ty.0 ty.1 o.1 s (before_holds o o s follows.own held') dx
      where
        type_there : (o : Option Ty) (P : Ty → Type 0) → IsSomeAnd o P → (ty : Ty) × (o ≡ Some ty)
        type_there None P h = absurd h
        type_there (Some ty) P h = (ty, refl)
    given_on before o s follows given i (inr m) held x d =
        let v = given i m (before_holds o i s (λ y dy. follows.later y dy i m) held) x d in
        stays_some vars o.1 s x v.0 v.1

    elsewhere_on : (before : List NumberedOp) (o : NumberedOp) (s : State) → Follows before o → Elsewhere s.env → Elsewhere (flat_done vars o.1 s).env
    elsewhere_on before o s follows elsewhere y out =
        undefined_op vars o.1 s y (unlike _ (λ e. true≢false (sym (follows.listed y (var-named y (defined_variable o.1.kind) e)) ∙ out))) ∙ elsewhere y out

    pub stay_fit : (before os : List NumberedOp) (s : State) → Follow before os → IsFit tables vars s → HaveGiven before s.env → Elsewhere s.env → StaysFitAt tables vars os s
    stay_fit before [] s follow fit given elsewhere = fit
    stay_fit before (o ∷ os) s follow fit given elsewhere = (
      fit,
      finds before o s follow.0 fit given elsewhere,
      stay_fit (o ∷ before) os (flat_done vars o.1 s) follow.1
          (op_fit tables vars o.1 s follow.0.can.typed follow.0.can.gives (finds before o s follow.0 fit given elsewhere) fit)
          (given_on before o s follow.0 given) (elsewhere_on before o s follow.0 elsewhere),
    )

    -- after all of them each has given its variable a value where its conditions hold
    pub all_given : (before os : List NumberedOp) (s : State) → Follow before os → HaveGiven before s.env → (i : NumberedOp) → Mem i before ⊎ Mem i os
        → all_hold (numbered_meaning vars os s).env i.1.conds ≡ true → (x : ℕ) → defined_variable i.1.kind ≡ Some x → (v : Value) × (get (numbered_meaning vars os s).env x ≡ Some v)
    unfolding numbered_meaning
    all_given before [] s follow given i (inl m) held x d = given i m held x d
    all_given before [] s follow given i (inr m) held x d = absurd m
    all_given before (o ∷ os) s follow given i m held x d =
        all_given (o ∷ before) os (flat_done vars o.1 s) follow.1 (given_on before o s follow.0 given) i (turn m) held x d
      where
        turn : Mem i before ⊎ Mem i (o ∷ os) → Mem i (o ∷ before) ⊎ Mem i os
        turn (inl m) = inl (inr m)
        turn (inr (inl e)) = inl (inl e)
        turn (inr (inr m)) = inr m
