-- Each part that is refused is the first refusal.
use Rattle.std.proofs.Common.{◌∙◌, [], sym, ap, subst}
use Rattle.std.proofs.lemmas.Result.{err_from_is_err_and}
use Rattle.pac_outside.specs.Devices.{each}
use Rattle.pac_outside.specs.declared.devices.LogName.{LogName}
use Rattle.pac_types.specs.Typing.{CatalogueState}
use Rattle.pac_log.specs.declared.damage.DamageKind.TheVariants as log_kind
use Rattle.pac_log.specs.declared.header.Header.{Header}
use Rattle.pac_log.specs.Reading.{IsStore, StandsAfter}
use Rattle.pac_restore.specs.declared.errors.Damage.TheVariants.{Log}
use Rattle.pac_restore.specs.declared.errors.LoadError.TheVariants.{Damaged}
use Rattle.pac_restore.specs.Refusals.{AreRefusedAs}
use Rattle.pac_restore.proofs.CauseLemmas.{as-error}
use Rattle.pac_restore.proofs.KnownLemmas.{as-refused, moved-log}
use Rattle.pac_restore.proofs.RefusalLemmas.{refused-attach, refused-base, refused-front}
use Rattle.pac_restore.proofs.active.find_segment.Goals as goal

pub returns-in_err-heads-clause-refused : goal.returns-in_err-heads-clause-refused
returns-in_err-heads-clause-refused g c =
    let r = c.from_residual in
    let p = err_from_is_err_and r.result r.ensures.1 in
    let devices = each g.D.Disk.known c.args.devices.now in
    as-refused (AreRefusedAs devices) r.result p.0 p.1 (subst (λ e. AreRefusedAs devices e) (sym p.2)
    (refused-front devices c.in_err-heads.field-0.0 (λ name at kind is. c.in_err-heads.ensures.damaged name at kind (as-error _ _ is)) (λ at kind is. c.in_err-heads.ensures.first at kind (as-error _ _ is))))

pub returns-in_err-reader-clause-refused : goal.returns-in_err-reader-clause-refused
returns-in_err-reader-clause-refused g c =
    let r = c.from_residual-in_err-reader in
    let p = err_from_is_err_and r.result r.ensures.1 in
    let devices = each g.D.Disk.known c.args.devices.now in
    let heads = c.in_ok-heads.heads in
    as-refused (AreRefusedAs devices) r.result p.0 p.1 (subst (λ e. AreRefusedAs devices e) (sym p.2)
    (refused-attach heads.a heads.b devices c.in_err-reader.field-0.0 c.in_ok-heads.ensures.a c.in_ok-heads.ensures.b
    (λ is. moved-log (λ h. (header : Header) (catalogue : CatalogueState) → ¬ IsStore header catalogue h.now.seen) _ _ _ _ _ _ _ _ c.active.ensures (c.in_err-reader.ensures.no_store (as-error _ _ is)))
    (λ damage is. c.in_err-reader.ensures.whole damage (as-error _ _ is))))

pub returns-in_err-test_base-clause-refused : goal.returns-in_err-test_base-clause-refused
returns-in_err-test_base-clause-refused g c =
    let r = c.from_residual-in_err-test_base in
    let p = err_from_is_err_and r.result r.ensures.1 in
    let devices = each g.D.Disk.known c.args.devices.now in
    let heads = c.in_ok-heads.heads in
    let gate = c.in_ok-reader.reader.gate in
    let found = c.in_err-test_base.ensures.err in
    as-refused (AreRefusedAs devices) r.result p.0 p.1 (subst (λ e. AreRefusedAs devices e) (sym (p.2 ∙ found.0 ∙ ap (λ (n : LogName). Damaged (Log n 8 log_kind.Range)) c.active-2.ensures))
    (refused-base heads.a heads.b gate devices c.in_ok-heads.ensures.a c.in_ok-heads.ensures.b
    (moved-log (λ h. IsStore gate.header gate.catalogue h.now.seen × StandsAfter gate.header [] gate h.now.seen) _ _ _ _ _ _ _ _ c.active.ensures c.in_ok-reader.ensures.store)
    (sym c.newest.ensures ∙ found.1) found.2))
