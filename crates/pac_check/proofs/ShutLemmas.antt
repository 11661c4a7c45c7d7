-- What stands in a slot that is shut.
use Rattle.std.proofs.Common.{◌≡◌, ◌≢◌, ℕ, Bool, true, false, if◌then◌else◌, eqb, List, [], ◌∷◌, Ok, refl, sym, subst}
use Rattle.std.proofs.lemmas.Bool.{eqb-true}
use Rattle.pac_types.specs.declared.table.Table.{Table}
use Rattle.pac_check.specs.declared.head.Head.{Head}
use Rattle.pac_check.specs.declared.state.SlotState.{SlotState}
use Rattle.pac_check.specs.declared.state.SlotState.TheVariants.{Empty, Closed, Open}
use Rattle.pac_check.specs.CheckpointReading.{next_checkpoint, head_alone}
use Rattle.pac_check.specs.Replacing.{BeginsAs}
use Rattle.pac_check.specs.SlotStates.{opened, IsSlot, OpensExactly}

no_byte : (b : ℕ) (bytes : List ℕ) → [] ≡ b ∷ bytes → ⊥
no_byte b bytes e = cc

same_byte : (a b : ℕ) (xs ys : List ℕ) → a ∷ xs ≡ b ∷ ys → a ≡ b
same_byte a b xs ys e = cc

abbrev NotOpen : SlotState → Type 0
NotOpen state = (head : Head) → state ≢ Open head

closed_read : (tables : List Table) (gate : ℕ) (bytes : List ℕ) → gate ≢ 1 → IsSlot tables Closed (gate ∷ bytes)
closed_read tables gate bytes shut = go (eqb gate 1) refl
  where
    go : (b : Bool) → eqb gate 1 ≡ b → (if b then opened (head_alone (next_checkpoint tables (record { at = 1; bytes = bytes }))) else Ok Closed) ≡ Ok Closed
    go true e = absurd (shut (eqb-true _ _ e))
    go false e = refl

pub shut_slot : (tables : List Table) (state : SlotState) (image : List ℕ) → NotOpen state → BeginsAs state image → IsSlot tables state image × OpensExactly tables state image
shut_slot tables Empty image shut is = subst (λ (bytes : List ℕ). IsSlot tables Empty bytes × OpensExactly tables Empty bytes) (sym is) (
  refl,
  record {
    there = λ head same. absurd (shut head same);
    open_there = λ checkpoint holds. absurd (no_byte _ _ holds.opens.split);
  },
)
shut_slot tables Closed image shut is = subst (λ (bytes : List ℕ). IsSlot tables Closed bytes × OpensExactly tables Closed bytes) (sym is.split) (
  closed_read tables is.gate is.rest is.shut,
  record {
    there = λ head same. absurd (shut head same);
    open_there = λ checkpoint holds. absurd (is.shut (same_byte _ _ _ _ holds.opens.split));
  },
)
shut_slot tables (Open head) image shut is = absurd (shut head refl)
