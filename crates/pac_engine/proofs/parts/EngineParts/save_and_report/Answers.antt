-- What is reported is durable, and the checkpoint is saved.
use Rattle.std.proofs.Common.{◌∙◌, ◌++◌, ◌∷◌, [], ℕ, ap}
use Rattle.pac_request.specs.declared.request.Reply.TheVariants as reply
use Rattle.pac_engine.specs.declared.parts.EngineParts.{EngineParts}
use Rattle.pac_engine.proofs.Results.{if-ok, if-err}
use Rattle.pac_engine.proofs.SaveLemmas.{saved-durable}
use Rattle.pac_engine.proofs.StepLemmas.{known-saved, unknown-saved}
use Rattle.pac_engine.proofs.parts.EngineParts.save_and_report.Goals as goal

pub returns-in-Ok-clause-kept : goal.returns-in-Ok-clause-kept
returns-in-Ok-clause-kept g c =
    let known = c.with_reply.ensures.known in
    let number = c.txns-txns.ensures.value ∙ ap (λ gate. gate.txns) c.gate.ensures ∙ ap (λ (e : EngineParts). e.log.gate.txns) c.in-Ok.ensures.saved ∙ saved-durable c.args.self.now in
    if-ok c.with_reply.result known (λ given knows. known-saved c.args.self.now c.save.new.self c.args.replies given c.requires.working.saved c.requires.held c.in-Ok.ensures.saved (knows ∙ ap (λ (n : ℕ). c.args.replies ++ reply.Saved n ∷ []) number))

pub returns-in-Ok-clause-kept_before : goal.returns-in-Ok-clause-kept_before
returns-in-Ok-clause-kept_before g c =
    let unknown = c.with_reply.ensures.unknown in
    if-err c.with_reply.result unknown (λ fault same. unknown-saved c.args.self.now c.save.new.self c.args.replies fault.replies c.requires.held (ap (λ (e : EngineParts). e.log.gate.txns) c.in-Ok.ensures.saved ∙ saved-durable c.args.self.now) same)
