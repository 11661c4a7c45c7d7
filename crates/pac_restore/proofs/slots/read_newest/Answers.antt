-- A fault of the bytes of a slot is one of that slot.
use Rattle.std.proofs.Common.{◌≡◌, ◌∙◌, ℕ, ap, sym}
use Rattle.std.proofs.lemmas.Result.{err_from_is_err_and}
use Rattle.pac_check.specs.declared.damage.SlotDamageKind.{SlotDamageKind}
use Rattle.pac_check.specs.declared.errors.SlotError.TheVariants as slot_error
use Rattle.pac_check.specs.declared.info.SlotName.{SlotName}
use Rattle.pac_check.specs.declared.info.SlotName.TheVariants.{B}
use Rattle.pac_restore.specs.declared.errors.Damage.TheVariants.{Slot}
use Rattle.pac_restore.specs.declared.errors.LoadError.TheVariants as load
use Rattle.pac_restore.proofs.CauseLemmas.{as-error, the-error}
use Rattle.pac_restore.proofs.SlotLemmas.{broken-slot, slot-cause}
use Rattle.pac_restore.proofs.slots.read_newest.Goals as goal

pub returns-in_err-slots-clause-damaged : goal.returns-in_err-slots-clause-damaged
returns-in_err-slots-clause-damaged g c = λ slot at kind is.
    let p = err_from_is_err_and c.from_residual.result c.from_residual.ensures.1 in
    let cause = slot-cause c.in_err-slots.field-0.0 slot at kind (sym p.2 ∙ the-error c.from_residual.result p.0 (load.Damaged (Slot slot at kind)) p.1 is) in
    broken-slot c.args.cat.now.tables slot at kind (g.D.Disk.known c.args.a.now) (g.D.Disk.known c.args.b.now) (c.in_err-slots.ensures.damaged slot at kind (as-error _ _ cause))
    (λ b. c.in_err-slots.ensures.first at kind (as-error _ _ (cause ∙ the_same slot at kind b)))
  where
    the_same : (slot : SlotName) (at : ℕ) (kind : SlotDamageKind) → slot ≡ B → slot_error.Damaged slot at kind ≡ slot_error.Damaged B at kind
    the_same slot at kind b = ap (λ (s : SlotName). slot_error.Damaged s at kind) b
