-- Slots that were read are whole.
use Rattle.std.proofs.Common.{◌∙◌, sym}
use Rattle.std.proofs.lemmas.Result.{err_from_is_err_and}
use Rattle.pac_restore.specs.declared.errors.Damage.TheVariants.{Slot}
use Rattle.pac_restore.specs.declared.errors.LoadError.TheVariants as load
use Rattle.pac_restore.proofs.CauseLemmas.{as-error, the-error}
use Rattle.pac_restore.proofs.SlotLemmas.{slot-cause, known-whole}
use Rattle.pac_restore.proofs.TablesLemmas.{newest-known}
use Rattle.pac_restore.proofs.slots.read_tables.Goals as goal

pub returns-in_err-load_newest-clause-whole : goal.returns-in_err-load_newest-clause-whole
returns-in_err-load_newest-clause-whole g c = λ slot at kind is.
    let r = c.from_residual-in_err-load_newest in
    let p = err_from_is_err_and r.result r.ensures.1 in
    let cause = slot-cause c.in_err-load_newest.field-0.0 slot at kind (sym p.2 ∙ the-error r.result p.0 (load.Damaged (Slot slot at kind)) p.1 is) in
    known-whole slot (g.D.Disk.known c.args.a.now) (g.D.Disk.known c.args.b.now) (c.in_err-load_newest.ensures.whole slot at kind (as-error _ _ cause))

pub returns-clause-newest : goal.returns-clause-newest
returns-clause-newest g c =
    newest-known c.args.cat.now c.args.slots.now _ c.in_ok-load_newest.ensures.fits.rows c.in_ok-load_newest.ensures.none (g.D.Disk.known c.args.a.now) (g.D.Disk.known c.args.b.now)
    (λ info newest. c.in_ok-load_newest.ensures.loaded info newest)
