-- What is spelled in the bytes that were read is spelled on the device.
use Rattle.std.proofs.Common.{◌≡◌, ◌∙◌, ℕ, List, drop, ap, subst}
use Rattle.std.specs.Prelude.{IfOk, IfSome}
use Rattle.pac_outside.specs.Disk.{IfKnown}
use Rattle.pac_log.specs.Looked.{IsLookedAt, IsSpelled}
use Rattle.pac_log.proofs.StepLemmas.{known_spelled}
use Rattle.pac_log.proofs.reader.LogReader.batch_at_gate.Goals as goal

pub returns-clause-spelled : goal.returns-clause-spelled
returns-clause-spelled g c =
    let place : c.place-place.result ≡ c.args.self.now.gate.place = c.place-place.ensures ∙ ap (λ p. p.gate.place) c.self.view_is in
    let looked = subst (λ (n : ℕ). IfKnown (λ old. IsLookedAt c.in_ok-bytes.bytes.items (drop n old.now.seen)) (g.D.Disk.known c.args.disk.now)) place c.in_ok-bytes.ensures.looked in
    let spelled = subst (λ (l : List ℕ). IfOk c.take_batch.result (λ found. IfSome found (λ batch. IsSpelled batch.txns l))) c.deref-2.ensures.value c.take_batch.ensures.spelled in
    known_spelled c.in_ok-bytes.bytes.items c.args.self.now.gate.place c.take_batch.result _ looked spelled
