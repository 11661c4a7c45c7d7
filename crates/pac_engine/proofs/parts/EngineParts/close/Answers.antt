-- The device of the active segment is called, and the others stand still.
use Rattle.std.proofs.Common.{rules, arith, ap, subst, List, length}
use Rattle.pac_ops.specs.declared.transaction.Txn.{Txn}
use Rattle.pac_outside.specs.Devices.{log_at}
use Rattle.pac_outside.specs.Disk.{IfKnown}
use Rattle.pac_outside.specs.declared.devices.LogName.{LogName}
use Rattle.pac_log.specs.Bodies.{body_bytes}
use Rattle.pac_log.specs.Torn.{LogEndsAtEither}
use Rattle.pac_log.specs.declared.position.NextGate.{NextGate}
use Rattle.pac_engine.specs.Committing.{gate_past}
use Rattle.pac_engine.proofs.BodyLemmas.{body_len-bytes}
use Rattle.pac_engine.proofs.KnownLemmas.{closed-fails, closed-keeps, closed-stands}
use Rattle.pac_engine.proofs.Results.{on-err-all}
use Rattle.pac_engine.proofs.parts.EngineParts.close.Goals as goal

pub commit_active-requires-clause-short : goal.commit_active-requires-clause-short
commit_active-requires-clause-short g c =
    let same = ap (λ (l : List Txn). length (body_bytes l)) c.close-txns.ensures.txns in
    omega (arith, same, body_len-bytes c.args.self.now.session.txns, c.close-txns.ensures.short)

pub returns-in_err-stored-clause-keeps : goal.returns-in_err-stored-clause-keeps
returns-in_err-stored-clause-keeps g c = λ text history.
    closed-fails g.D.Disk.known text history c.args.self.now c.requires.working.same c.close-txns.result.0.items c.close-txns.ensures.txns c.active.result c.active.ensures c.args.devices.now c.commit_active.new.devices c.commit_active.ensures.others
    c.commit_active.ensures.moments _ (ap (λ (gate : NextGate). gate.txns) c.in_err-stored.ensures.kept) (search rules)

pub returns-in_err-stored-clause-torn : goal.returns-in_err-stored-clause-torn
returns-in_err-stored-clause-torn g c =
    let gate = c.args.self.now.log.gate in
    on-err-all c.from_residual.result (subst (λ (name : LogName). IfKnown (λ h. LogEndsAtEither gate (gate_past c.args.self.now.session.txns gate) h.now) (g.D.Disk.known (log_at name c.commit_active.new.devices))) c.active.ensures
    (subst (λ (txns : List Txn). IfKnown (λ h. LogEndsAtEither gate (gate_past txns gate) h.now) (g.D.Disk.known (log_at c.active.result c.commit_active.new.devices))) c.close-txns.ensures.txns c.in_err-stored.ensures.torn))

pub returns-clause-keeps : goal.returns-clause-keeps
returns-clause-keeps g c = λ text history.
    closed-keeps g.D.Disk.known text history c.args.self.now c.requires.working.same c.close-txns.result.0.items c.close-txns.ensures.txns c.active.result c.active.ensures c.args.devices.now c.commit_active.new.devices c.commit_active.ensures.others
    c.commit_active.ensures.moments c.in_ok-stored.ensures.added c.commit_active.new.log.gate c.in_ok-stored.ensures.after c.in_ok-stored.ensures.gate _ (search rules)

pub returns-clause-stands : goal.returns-clause-stands
returns-clause-stands g c = λ text history.
    closed-stands g.D.Disk.known text history c.args.self.now c.requires.working.same c.close-txns.result.0.items c.close-txns.ensures.txns c.active.result c.active.ensures c.args.devices.now c.commit_active.new.devices c.commit_active.ensures.others
    c.commit_active.ensures.moments c.in_ok-stored.ensures.added c.commit_active.new.log.gate c.in_ok-stored.ensures.after c.in_ok-stored.ensures.gate _ (search rules)

pub close-txns-requires : goal.close-txns-requires
close-txns-requires g c =
    let gate = ap (λ p. p.txns) c.gate.ensures in
    omega (arith, c.txns-txns.ensures.room, c.txns-txns.ensures.value, gate, c.requires.working.counted)
