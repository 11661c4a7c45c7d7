-- A slot that is shut, and then opened with a new text.
use Rattle.std.proofs.Common.{◌≡◌, ◌≢◌, ◌∙◌, ◌⊎◌, inl, inr, ⊎_elim, ℕ, List, [], ◌∷◌, length, drop, Option, Some, None, refl, sym, ap, subst, arith}
use Rattle.std.proofs.lemmas.Bool.{cases_eq}
use Rattle.pac_outside.specs.Disk.{DiskState, DiskHistory, IsImage, BothKnown, IfKnown, LeavesOnly, LeavesTorn, IsDurable, wrote, settled}
use Rattle.pac_outside.specs.GateByte.{IsShut, OneImage, ShutOrOpen}
use Rattle.pac_outside.proofs.Images.{length_stays, back_stays, one_image}
use Rattle.pac_outside.proofs.Histories.{weaken, both, stays}
use Rattle.pac_check.specs.declared.state.SlotState.{SlotState}
use Rattle.pac_check.specs.declared.state.SlotState.TheVariants.{Empty, Closed, Open}
use Rattle.pac_check.specs.declared.head.Head.{Head}
use Rattle.pac_check.specs.declared.slots.ReadyText.{ReadyText}
use Rattle.pac_check.specs.Replacing.{BeginsAs, ClosesSlot, HasByte, IsClosed, IsOldOrShut, IsShutOrNew}

open_or_shut : (rest image : List ℕ) → length image ≡ length (1 ∷ rest) → drop 1 image ≡ rest → (image ≡ 1 ∷ rest) ⊎ IsShut [] image
open_or_shut rest [] long back = absurd (omega arith)
open_or_shut rest (gate ∷ after) long back = elim (cases_eq gate 1) [
  | inl is_open ↦ inl (ap (λ (g : ℕ). g ∷ after) is_open ∙ ap (λ (l : List ℕ). 1 ∷ l) back)
  | inr shut ↦ inr (record { gate = gate; rest = after; split = refl; shut = shut })
]

-- an open gate over which a 0 is written is open or shut
gate_torn : (rest image : List ℕ) → IsImage (wrote 0 (0 ∷ []) (settled (1 ∷ rest))) image → (image ≡ 1 ∷ rest) ⊎ IsShut [] image
gate_torn rest image is = open_or_shut rest image (length_stays 0 (0 ∷ []) (1 ∷ rest) image is (omega arith)) (back_stays 0 (0 ∷ []) (1 ∷ rest) image is (omega arith))

-- the gate is shut
pub shutting : (state : SlotState) → state ≢ Closed → HasByte state → (a b : DiskHistory) → LeavesTorn 0 (0 ∷ []) a b → ClosesSlot state a b
shutting Empty other some a b run = absurd some
shutting Closed other some a b run = absurd (other refl)
shutting (Open head) other some a b run = λ alone. weaken (IsImage (wrote 0 (0 ∷ []) a.now)) (IsOldOrShut a.now.seen) a b (λ image is.
    let whole : a.now ≡ settled (1 ∷ alone.has.0) = alone.one ∙ ap settled alone.has.1 in
    ⊎_elim (λ same. inl (same ∙ sym alone.has.1)) (λ shut. inr shut) (gate_torn alone.has.0 image (subst (λ (s : DiskState). IsImage (wrote 0 (0 ∷ []) s) image) whole is))) run

-- and then it is shut, also on a device that had no byte
pub shut : (a b : DiskHistory) → IsDurable 0 (0 ∷ []) a b → OneImage (IsShut []) b.now
shut a b durable =
    let seen_is : b.now.seen ≡ 0 ∷ drop 1 a.now.seen = ap (λ (state : DiskState). state.seen) durable in
    record { one = durable ∙ ap settled (sym seen_is); has = record { gate = 0; rest = drop 1 a.now.seen; split = seen_is; shut = omega arith } }

pub shutting_both : (state : SlotState) → state ≢ Closed → HasByte state → (a b : Option DiskHistory) → BothKnown (LeavesTorn 0 (0 ∷ [])) a b → BothKnown (ClosesSlot state) a b
shutting_both state other some = both (LeavesTorn 0 (0 ∷ [])) (ClosesSlot state) (shutting state other some)

pub shut_both : (state : SlotState) (a b : Option DiskHistory) → BothKnown (IsDurable 0 (0 ∷ [])) a b → BothKnown (IsClosed state) a b
shut_both state = both (IsDurable 0 (0 ∷ [])) (IsClosed state) (λ a b durable alone. shut a b durable)

-- a text after a shut gate is there whole, or isn't found
opening : (state : SlotState) (text : List ℕ) → state ≡ Closed → (a b : DiskHistory) → OneImage (BeginsAs state) a.now → ShutOrOpen [] text a b → LeavesOnly (IsShutOrNew text) a b
opening state text closed a b alone run = run (subst (λ (s : SlotState). OneImage (BeginsAs s) a.now) closed alone)

pub opening_known : (state : SlotState) (piece text : List ℕ) → state ≡ Closed → piece ≡ text → (a b : Option DiskHistory) → IfKnown (λ o. OneImage (BeginsAs state) o.now) a → BothKnown (ShutOrOpen [] piece) a b
    → BothKnown (λ old new. LeavesOnly (IsShutOrNew text) old new) a b
opening_known state piece text closed same None None alone run = tt
opening_known state piece text closed same None (Some b) alone run = absurd run
opening_known state piece text closed same (Some a) None alone run = absurd run
opening_known state piece text closed same (Some a) (Some b) alone run = subst (λ (t : List ℕ). LeavesOnly (IsShutOrNew t) a b) same (opening state piece closed a b alone run)

-- what was ready is what was taken
pub taken_text : (ready taken : Option ReadyText) (found : ReadyText) (head : Head) (text : List ℕ) → taken ≡ ready → taken ≡ Some found → ready ≡ Some (record { head = head; text = text }) → found.text ≡ text
taken_text ready taken found head text value is there = ap (λ (r : ReadyText). r.text) (one (sym is ∙ value ∙ there))
  where
    one : Some found ≡ Some (record { head = head; text = text }) → found ≡ record { head = head; text = text }
    one e = cc

-- a shut slot that isn't called stays so
resting : (a : DiskHistory) → ClosesSlot Closed a a
resting a alone = stays (IsOldOrShut a.now.seen) a (λ image is. inr (subst (λ (i : List ℕ). IsShut [] i) (sym (one_image a.now.seen image (subst (λ (s : DiskState). IsImage s image) alone.one is))) alone.has))

pub resting_both : (a : Option DiskHistory) → BothKnown (ClosesSlot Closed) a a
resting_both None = tt
resting_both (Some a) = resting a

pub rests_closed : (a : Option DiskHistory) → BothKnown (IsClosed Closed) a a
rests_closed None = tt
rests_closed (Some a) = λ alone. alone
