-- Operations that run again, over values that the first of them gave already, give the same.
use Rattle.std.proofs.Common.{◌≡◌, ℕ, zero, suc, ◌==◌, Bool, true, false, cond, ◌||◌, List, [], ◌∷◌, ◌++◌, take, Option, Some, None, refl, sym, ap, ap₂, ◌∙◌, true≢false}
use Rattle.std.specs.Cmp.{nat_cmp_total}
use Rattle.std.specs.FinMap.{get, insert, nat_cmp-IsAntisymmetric, same_map}
use Rattle.pac_value.specs.declared.values.Ty.{Ty}
use Rattle.pac_value.specs.declared.values.Value.{Value}
use Rattle.pac_value.specs.Expressions.{Values}
use Rattle.pac_ops.specs.declared.program.FlatOp.{FlatOp}
use Rattle.pac_ops.specs.Notes.{note_at}
use Rattle.pac_ops.specs.Uses.{op_uses, defined_variable}
use Rattle.pac_ops.specs.Operations.{State, row_at}
use Rattle.pac_ops.specs.Flat.{flat_done, flat_reason}
use Rattle.pac_ops.specs.Effects.{NumberedOp, numbered_meaning, numbered_notes, is_var, defined_in, flat_cell, flat_effect, given, changed, FlatEffect}
use Rattle.pac_base.proofs.TestLemmas.{same_number, or_none, or_right, unlike}
use Rattle.pac_ops.proofs.DefinedLemmas.{undefined_op, undefined_meaning, is_var-same}
use Rattle.pac_ops.proofs.EffectLemmas.{SameOn, op_reads, form, reason_form, flat_cell-alike, flat_effect-alike, flat_gives}
use Rattle.pac_ops.proofs.FrameLemmas.{effect_in}
use Rattle.pac_ops.proofs.StateLemmas.{get-given}

-- no operation uses what it or a later one defines, or defines what a later one defines
abbrev pub OnceEach : List NumberedOp → Type 0
OnceEach [] = Unit {0}
OnceEach (o ∷ os) = ((x : ℕ) → op_uses x o.1 ≡ true → defined_in (o ∷ os) x ≡ false) × ((x : ℕ) → is_var x (defined_variable o.1.kind) ≡ true → defined_in os x ≡ false) × OnceEach os

-- the state with other values
abbrev pub over : Values → State → State
over env s = record { env = env; tables = s.tables }

-- a value that stands is given again
given_again : (env : Values) (x : ℕ) (v : Value) → get env x ≡ Some v → insert env x v ≡ env
given_again env x v there = same_map nat_cmp_total nat_cmp-IsAntisymmetric _ _ (λ y. get-given (Some (x, v)) env y ∙ go y (y == x) refl)
  where
    go : (y : ℕ) (b : Bool) → (y == x) ≡ b → cond b (Some v) (get env y) ≡ get env y
    go y true same = sym there ∙ ap (get env) (sym (same_number y x same))
    go y false other = refl

self : (x : ℕ) → (x == x) ≡ true
self x = is_var-same x (Some x) refl

undefined_first : (n : ℕ) (os : List NumberedOp) (x : ℕ) → defined_in os x ≡ false → defined_in (take n os) x ≡ false
undefined_first zero os x none = refl
undefined_first (suc n) [] x none = refl
undefined_first (suc n) (o ∷ os) x none =
    let parts = or_none (is_var x (defined_variable o.1.kind)) (defined_in os x) none in
    ap₂ (λ a b. a || b) parts.0 (undefined_first n os x parts.1)

module _ (vars : List Ty) where
  -- what is defined by none of them stays, after the first of them too
  pub first_keep : (n : ℕ) (os : List NumberedOp) (s : State) (x : ℕ) → defined_in os x ≡ false → get (numbered_meaning vars (take n os) s).env x ≡ get s.env x
  first_keep n os s x none = undefined_meaning vars (take n os) s x (undefined_first n os x none)

  -- ---- one operation

  module _ (op : FlatOp) (s : State) (env : Values) (alike : SameOn (op_reads op) env s.env)
      (gave : (x : ℕ) → is_var x (defined_variable op.kind) ≡ true → get env x ≡ get (flat_done vars op s).env x) where
    cell : flat_cell op env ≡ flat_cell op s.env
    cell = flat_cell-alike op env s.env alike

    effect : effect_in vars op (over env s) ≡ effect_in vars op s
    effect = (λ i. effect_at i) ∙ flat_effect-alike vars op env s.env _ alike
      where
        effect_at : effect_in vars op (over env s) ≡ flat_effect vars op env (row_at s.tables (flat_cell op s.env))
        effect_at i = flat_effect vars op env (row_at s.tables (cell i))

    reason_again : flat_reason op (over env s) ≡ flat_reason op s
    reason_again = reason_form vars op (over env s) ∙ ap (λ (e : FlatEffect). e.reason) effect ∙ sym (reason_form vars op s)

    env_again : given (effect_in vars op s).gives env ≡ env
    env_again = go (effect_in vars op s).gives refl
      where
        go : (g : Option (ℕ × Value)) → (effect_in vars op s).gives ≡ g → given g env ≡ env
        go None is = refl
        go (Some (x, v)) is = given_again env x v
            (gave x (is_var-same x (defined_variable op.kind) (flat_gives vars op s.env _ (x, v) is))
            ∙ ap (λ (z : State). get z.env x) (form vars op s)
            ∙ ap (λ g. get (given g s.env) x) is
            ∙ get-given (Some (x, v)) s.env x
            ∙ ap (λ b. cond b (Some v) (get s.env x)) (self x))

    op_again : flat_done vars op (over env s) ≡ over env (flat_done vars op s)
    op_again =
        form vars op (over env s)
        ∙ (λ i. record { env = given (effect i).gives env; tables = changed (cell i) (effect i).change s.tables })
        ∙ (λ i. record { env = env_again i; tables = (sym (form vars op s) i).tables })

  -- ---- all of them

  module _ (o : NumberedOp) (os : List NumberedOp) (once : OnceEach (o ∷ os)) (n : ℕ) (s : State) where
    abbrev next : State
    next = flat_done vars o.1 s

    abbrev gone : Values
    gone = (numbered_meaning vars (take n os) next).env

    read : SameOn (op_reads o.1) gone s.env
    read x used =
        let none = or_none (is_var x (defined_variable o.1.kind)) (defined_in os x) (once.0 x used) in
        first_keep n os next x none.1 ∙ undefined_op vars o.1 s x none.0

    kept : (x : ℕ) → is_var x (defined_variable o.1.kind) ≡ true → get gone x ≡ get next.env x
    kept x own = first_keep n os next x (once.1 x own)

    pub one_again : flat_done vars o.1 (over gone s) ≡ over gone next
    one_again = op_again o.1 s gone read kept

    pub reason_same : flat_reason o.1 (over gone s) ≡ flat_reason o.1 s
    reason_same = reason_again o.1 s gone read kept

  -- the state at the end is the same
  pub all_again : (n : ℕ) (os : List NumberedOp) → OnceEach os → (s : State) → numbered_meaning vars os (over (numbered_meaning vars (take n os) s).env s) ≡ numbered_meaning vars os s
  unfolding numbered_meaning
  all_again zero os once s = refl
  all_again (suc n) [] once s = refl
  all_again (suc n) (o ∷ os) once s = ap (numbered_meaning vars os) (one_again o os once n s) ∙ all_again n os once.2 (flat_done vars o.1 s)

  -- and so are the notes
  pub notes_again : (txn n : ℕ) (os : List NumberedOp) → OnceEach os → (s : State) → numbered_notes vars txn os (over (numbered_meaning vars (take n os) s).env s) ≡ numbered_notes vars txn os s
  unfolding numbered_meaning numbered_notes
  notes_again txn zero os once s = refl
  notes_again txn (suc n) [] once s = refl
  notes_again txn (suc n) (o ∷ os) once s =
      ap₂ (λ r z. note_at txn o.0 r ++ numbered_notes vars txn os z) (reason_same o os once n s) (one_again o os once n s)
      ∙ ap (λ ns. note_at txn o.0 (flat_reason o.1 s) ++ ns) (notes_again txn n os once.2 (flat_done vars o.1 s))

  -- where only the first of them run again, the values are those after the first of them still
  pub first_again : (m n : ℕ) (os : List NumberedOp) → OnceEach os → (s : State)
      → (k : ℕ) × ((numbered_meaning vars (take n os) (over (numbered_meaning vars (take m os) s).env s)).env ≡ (numbered_meaning vars (take k os) s).env)
  unfolding numbered_meaning
  first_again zero n os once s = (n, refl)
  first_again (suc m) zero os once s = (suc m, refl)
  first_again (suc m) (suc n) [] once s = (zero, refl)
  first_again (suc m) (suc n) (o ∷ os) once s =
      let rest = first_again m n os once.2 (flat_done vars o.1 s) in
      (suc rest.0, ap (λ z. (numbered_meaning vars (take n os) z).env) (one_again o os once m s) ∙ rest.1)

  -- where none of what they define has a value before, the values after the first of them stand at the end
  pub first_stand : (n : ℕ) (os : List NumberedOp) → OnceEach os → (s : State) → ((x : ℕ) → defined_in os x ≡ true → get s.env x ≡ None)
      → (x : ℕ) (v : Value) → get (numbered_meaning vars (take n os) s).env x ≡ Some v → get (numbered_meaning vars os s).env x ≡ Some v
  unfolding numbered_meaning
  first_stand zero os once s fresh x v e = go (defined_in os x) refl
    where
      go : (b : Bool) → defined_in os x ≡ b → get (numbered_meaning vars os s).env x ≡ Some v
      go true own = let wrong : None ≡ Some v = sym (fresh x own) ∙ e in cc
      go false other = undefined_meaning vars os s x other ∙ e
  first_stand (suc n) [] once s fresh x v e = e
  first_stand (suc n) (o ∷ os) once s fresh x v e = first_stand n os once.2 (flat_done vars o.1 s)
      (λ y own. undefined_op vars o.1 s y (unlike _ (λ mine. true≢false (sym own ∙ once.1 y mine))) ∙ fresh y (or_right (is_var y (defined_variable o.1.kind)) (defined_in os y) own)) x v e
