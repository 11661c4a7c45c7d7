-- Operations, and lists of operations, within a footprint.
use Rattle.std.proofs.Common.{◌≡◌, ℕ, ◌==◌, Bool, true, false, cond, List, [], ◌∷◌, ◌++◌, refl, sym, ap, ap₂, ◌∙◌, Option, Some, None}
use Rattle.std.specs.Ordering.{eq_by_cmp}
use Rattle.std.specs.FinMap.{get}
use Rattle.pac_value.specs.declared.values.Ty.{Ty}
use Rattle.pac_value.specs.declared.values.Value.{Value}
use Rattle.pac_value.specs.State.{Cell, cell_cmp, RowValues}
use Rattle.pac_value.proofs.CellLemmas.{tied_same}
use Rattle.pac_ops.specs.declared.program.FlatOp.{FlatOp}
use Rattle.pac_ops.specs.Notes.{note_at}
use Rattle.pac_ops.specs.Uses.{op_uses, defined_variable, modifies}
use Rattle.pac_ops.specs.Operations.{State, row_at}
use Rattle.pac_ops.specs.Flat.{flat_done, flat_reason}
use Rattle.pac_base.specs.Members.{Each}
use Rattle.pac_ops.specs.Effects.{RowChange, Same, Now, FlatEffect, flat_cell, flat_effect, NumberedOp, numbered_meaning, numbered_notes, Spot, RowAt, VarAt, seen_in}
use Rattle.pac_base.proofs.TestLemmas.{same_number}
use Rattle.pac_ops.proofs.EffectLemmas.{SameOn, op_reads, form, reason_form, flat_cell-alike, flat_effect-alike, flat_same_row, flat_gives}
use Rattle.pac_ops.proofs.StateLemmas.{row_now, get-changed, value_now, get-given}

abbrev pub AlikeOn : (Spot → Bool) → State → State → Type 0
AlikeOn A s s' = (c : Spot) → A c ≡ true → seen_in s c ≡ seen_in s' c

pub unchanged : (a : Option Cell) (ch : RowChange) (r : Option RowValues) (q : Cell) → ((p : Cell) (n : Option RowValues) → a ≡ Some p → ch ≡ Now n → eq_by_cmp cell_cmp q p ≡ false) → row_now a ch r q ≡ r
unchanged None ch r q apart = refl
unchanged (Some p) Same r q apart = refl
unchanged (Some p) (Now n) r q apart = ap (λ b. cond b n r) (apart p n refl refl)

pub ungiven : (g : Option (ℕ × Value)) (r : Option Value) (y : ℕ) → ((h : ℕ × Value) → g ≡ Some h → (y == h.0) ≡ false) → value_now g r y ≡ r
ungiven None r y apart = refl
ungiven (Some g) r y apart = ap (λ b. cond b (Some g.1) r) (apart g refl)

pub not_now : (n : Option RowValues) → Same ≡ Now n → ⊥
not_now n e = cc

abbrev pub effect_in : List Ty → FlatOp → State → FlatEffect
effect_in vars op s = flat_effect vars op s.env (row_at s.tables (flat_cell op s.env))

module _ (vars : List Ty) (A W : Spot → Bool) (Good : State → Type 0) where
  pub record Fits (op : FlatOp) : Type 0 where
    pub reads : (x : ℕ) → op_uses x op ≡ true → A (VarAt x) ≡ true
    pub sets : (x : ℕ) → defined_variable op.kind ≡ Some x → W (VarAt x) ≡ true
    pub rows : (s : State) → Good s → (a : Cell) → flat_cell op s.env ≡ Some a → (A (RowAt a) ≡ true) × (modifies op.kind ≡ true → W (RowAt a) ≡ true)

  kept_row : (op : FlatOp) → Fits op → (s : State) → Good s → (q : Cell) → W (RowAt q) ≡ false
      → row_now (flat_cell op s.env) (effect_in vars op s).change (get s.tables q) q ≡ get s.tables q
  kept_row op fits s good q out = unchanged _ _ _ q apart
    where
      writes : (b : Bool) → modifies op.kind ≡ b → (p : Cell) (n : Option RowValues) → flat_cell op s.env ≡ Some p → (effect_in vars op s).change ≡ Now n → W (RowAt p) ≡ true
      writes true m p n at ch = (fits.rows s good p at).1 m
      writes false m p n at ch = absurd (not_now n (sym (flat_same_row vars op s.env _ m) ∙ ch))

      apart : (p : Cell) (n : Option RowValues) → flat_cell op s.env ≡ Some p → (effect_in vars op s).change ≡ Now n → eq_by_cmp cell_cmp q p ≡ false
      apart p n at ch = go (eq_by_cmp cell_cmp q p) refl
        where
          go : (b : Bool) → eq_by_cmp cell_cmp q p ≡ b → b ≡ false
          go true e = sym (writes _ refl p n at ch) ∙ ap (λ c. W (RowAt c)) (sym (tied_same q p e)) ∙ out
          go false e = refl

  kept_var : (op : FlatOp) → Fits op → (s : State) (y : ℕ) → W (VarAt y) ≡ false → value_now (effect_in vars op s).gives (get s.env y) y ≡ get s.env y
  kept_var op fits s y out = ungiven _ _ y apart
    where
      apart : (g : ℕ × Value) → (effect_in vars op s).gives ≡ Some g → (y == g.0) ≡ false
      apart g d = go (y == g.0) refl
        where
          go : (b : Bool) → (y == g.0) ≡ b → b ≡ false
          go true e = sym (fits.sets g.0 (flat_gives vars op s.env _ g d)) ∙ ap (λ z. W (VarAt z)) (sym (same_number y g.0 e)) ∙ out
          go false e = refl

  -- an operation changes no more than the row and the variable that it writes
  pub kept_op : (op : FlatOp) → Fits op → (s : State) → Good s → (c : Spot) → W c ≡ false → seen_in (flat_done vars op s) c ≡ seen_in s c
  kept_op op fits s good (RowAt q) out = ap (λ z. seen_in z (RowAt q)) (form vars op s) ∙ ap (λ r. (r, None)) (get-changed _ _ s.tables q ∙ kept_row op fits s good q out)
  kept_op op fits s good (VarAt y) out = ap (λ z. seen_in z (VarAt y)) (form vars op s) ∙ ap (λ v. (None, v)) (get-given _ s.env y ∙ kept_var op fits s y out)

  module _ (op : FlatOp) (fits : Fits op) (s s' : State) (good : Good s) (alike : AlikeOn A s s') where
    env_same : SameOn (op_reads op) s.env s'.env
    env_same x u = ap (λ p. p.1) (alike (VarAt x) (fits.reads x u))

    pub cell_same : flat_cell op s.env ≡ flat_cell op s'.env
    cell_same = flat_cell-alike op s.env s'.env env_same

    row_same : row_at s.tables (flat_cell op s.env) ≡ row_at s'.tables (flat_cell op s'.env)
    row_same = go (flat_cell op s.env) refl ∙ ap (row_at s'.tables) cell_same
      where
        go : (a : Option Cell) → flat_cell op s.env ≡ a → row_at s.tables a ≡ row_at s'.tables a
        go None e = refl
        go (Some a) e = ap (λ p. p.0) (alike (RowAt a) (fits.rows s good a e).0)

    pub effect_same : effect_in vars op s ≡ effect_in vars op s'
    effect_same = ap (flat_effect vars op s.env) row_same ∙ flat_effect-alike vars op s.env s'.env _ env_same

    pub reason_same : flat_reason op s ≡ flat_reason op s'
    reason_same = reason_form vars op s ∙ ap (λ e. e.reason) effect_same ∙ sym (reason_form vars op s')

    pub alike_op : AlikeOn A (flat_done vars op s) (flat_done vars op s')
    alike_op (RowAt q) a = ap (λ z. seen_in z (RowAt q)) (form vars op s) ∙ ap (λ r. (r, None))
        (get-changed _ _ s.tables q
        ∙ (λ i. row_now (cell_same i) (effect_same i).change (alike (RowAt q) a i).0 q)
        ∙ sym (get-changed _ _ s'.tables q)) ∙ sym (ap (λ z. seen_in z (RowAt q)) (form vars op s'))
    alike_op (VarAt y) a = ap (λ z. seen_in z (VarAt y)) (form vars op s) ∙ ap (λ v. (None, v))
        (get-given _ s.env y
        ∙ (λ i. value_now (effect_same i).gives (alike (VarAt y) a i).1 y)
        ∙ sym (get-given _ s'.env y)) ∙ sym (ap (λ z. seen_in z (VarAt y)) (form vars op s'))

  module _ (good_kept : (s s' : State) → Good s → ((c : Spot) → W c ≡ false → seen_in s' c ≡ seen_in s c) → Good s') where
    good_after : (op : FlatOp) → Fits op → (s : State) → Good s → Good (flat_done vars op s)
    good_after op fits s good = good_kept s _ good (kept_op op fits s good)

    pub kept_ops : (os : List NumberedOp) → Each (λ o. Fits o.1) os → (s : State) → Good s → (c : Spot) → W c ≡ false → seen_in (numbered_meaning vars os s) c ≡ seen_in s c
    unfolding numbered_meaning
    kept_ops [] fits s good c out = refl
    kept_ops (o ∷ os) fits s good c out =
        kept_ops os fits.1 (flat_done vars o.1 s) (good_after o.1 fits.0 s good) c out ∙ kept_op o.1 fits.0 s good c out

    pub alike_ops : (os : List NumberedOp) → Each (λ o. Fits o.1) os → (s s' : State) → Good s → AlikeOn A s s' → AlikeOn A (numbered_meaning vars os s) (numbered_meaning vars os s')
    unfolding numbered_meaning
    alike_ops [] fits s s' good alike = alike
    alike_ops (o ∷ os) fits s s' good alike =
        alike_ops os fits.1 (flat_done vars o.1 s) (flat_done vars o.1 s') (good_after o.1 fits.0 s good) (alike_op o.1 fits.0 s s' good alike)

    pub said_alike : (t : ℕ) (os : List NumberedOp) → Each (λ o. Fits o.1) os → (s s' : State) → Good s → AlikeOn A s s' → numbered_notes vars t os s ≡ numbered_notes vars t os s'
    unfolding numbered_notes
    said_alike t [] fits s s' good alike = refl
    said_alike t (o ∷ os) fits s s' good alike =
        ap₂ ◌++◌ (ap (note_at t o.0) (reason_same o.1 fits.0 s s' good alike))
        (said_alike t os fits.1 (flat_done vars o.1 s) (flat_done vars o.1 s') (good_after o.1 fits.0 s good) (alike_op o.1 fits.0 s s' good alike))
