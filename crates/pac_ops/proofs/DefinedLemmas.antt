-- What operations do not define stays as it was.
use Rattle.std.proofs.Common.{◌≡◌, ℕ, true, false, List, [], ◌∷◌, refl, sym, ap, ◌∙◌, true≢false, Option, Some, ◌==◌, None}
use Rattle.std.specs.FinMap.{get}
use Rattle.pac_value.specs.declared.values.Ty.{Ty}
use Rattle.pac_value.specs.declared.values.Value.{Value}
use Rattle.pac_ops.specs.declared.program.FlatOp.{FlatOp}
use Rattle.pac_ops.specs.Uses.{defined_variable}
use Rattle.pac_ops.specs.Operations.{State}
use Rattle.pac_ops.specs.Flat.{flat_done}
use Rattle.pac_ops.specs.Effects.{NumberedOp, numbered_meaning, is_var, defined_in}
use Rattle.pac_base.proofs.TestLemmas.{eq_self, same_number, or_none, unlike}
use Rattle.pac_ops.proofs.EffectLemmas.{form, flat_gives}
use Rattle.pac_ops.proofs.StateLemmas.{get-given}
use Rattle.pac_ops.proofs.FrameLemmas.{ungiven, effect_in}

pub var-named : (x : ℕ) (o : Option ℕ) → is_var x o ≡ true → o ≡ Some x
var-named x None e = absurd (true≢false (sym e))
var-named x (Some y) e = ap (λ z. Some z) (sym (same_number x y e))

pub is_var-same : (y : ℕ) (o : Option ℕ) → o ≡ Some y → is_var y o ≡ true
is_var-same y o e = rw e (eq_self y)

-- what an operation does not define stays
pub undefined_op : (vars : List Ty) (op : FlatOp) (s : State) (y : ℕ) → is_var y (defined_variable op.kind) ≡ false → get (flat_done vars op s).env y ≡ get s.env y
undefined_op vars op s y e = ap (λ (z : State). get z.env y) (form vars op s) ∙ get-given _ s.env y ∙ ungiven _ _ y apart
  where
    apart : (g : ℕ × Value) → (effect_in vars op s).gives ≡ Some g → (y == g.0) ≡ false
    apart g d = unlike _ (λ h. true≢false (sym (is_var-same y (defined_variable op.kind) (flat_gives vars op s.env _ g d ∙ ap (λ z. Some z) (sym (same_number y g.0 h)))) ∙ e))

pub undefined_meaning : (vars : List Ty) (os : List NumberedOp) (s : State) (y : ℕ) → defined_in os y ≡ false → get (numbered_meaning vars os s).env y ≡ get s.env y
unfolding numbered_meaning
undefined_meaning vars [] s y e = refl
undefined_meaning vars (o ∷ os) s y e =
    let parts : (is_var y (defined_variable o.1.kind) ≡ false) × (defined_in os y ≡ false) = or_none _ _ e in
    undefined_meaning vars os (flat_done vars o.1 s) y parts.1 ∙ undefined_op vars o.1 s y parts.0
