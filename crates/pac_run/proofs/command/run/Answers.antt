-- The store is opened and served, or not.
use Rattle.std.proofs.Common.{◌∙◌, ℕ, subst}
use Rattle.pac_outside.specs.Devices.{OneFaulted, each}
use Rattle.pac_outside.specs.declared.devices.Devices.{Devices}
use Rattle.pac_run.proofs.RunLemmas.{active-ends, is-run, not-opened}
use Rattle.pac_run.proofs.ServedStops.{device-failed, fault-is, none-failed, refuses-none}
use Rattle.pac_run.proofs.command.run.Goals as goal

pub returns-in-Ok-clause-run : goal.returns-in-Ok-clause-run
returns-in-Ok-clause-run g c = is-run c.args.batch c.args.limit c.in-Ok.engine c.serve.new.engine _ _ _ _ (each g.D.Disk.known c.args.devices.now) _ _ _ c.serve.result c.in-Ok.ensures.fresh c.in-Ok.ensures.within c.in-Ok.ensures.opened c.in-Ok.ensures.begins c.in-Ok.ensures.moments c.in-Ok.ensures.seen c.serve.ensures.served (λ worked. active-ends g.D.Disk.known c.serve.new.engine c.serve.new.devices (c.serve.ensures.worked worked)) (λ bytes is. active-ends g.D.Disk.known c.serve.new.engine c.serve.new.devices (c.serve.ensures.large bytes is)) (λ need is. active-ends g.D.Disk.known c.serve.new.engine c.serve.new.devices (c.serve.ensures.full need is))

pub returns-in-Ok-clause-disk_fault : goal.returns-in-Ok-clause-disk_fault
returns-in-Ok-clause-disk_fault g c =
    let calm = c.in-Ok.ensures.quiet (none-failed _ _) in
    device-failed _ c.serve.result c.serve.ensures.served
    (λ is. subst (λ (faults : Devices ℕ). OneFaulted faults (each g.D.Disk.faults c.serve.new.devices)) calm (c.serve.ensures.disk_fault is))

pub returns-in-Ok-clause-quiet : goal.returns-in-Ok-clause-quiet
returns-in-Ok-clause-quiet g c = λ none. c.serve.ensures.quiet (λ is. none (fault-is c.serve.result is)) ∙ c.in-Ok.ensures.quiet (none-failed _ _)

pub returns-in-Ok-clause-settled : goal.returns-in-Ok-clause-settled
returns-in-Ok-clause-settled g c = refuses-none _ c.serve.result c.serve.ensures.served

pub returns-in-Ok-clause-unread : goal.returns-in-Ok-clause-unread
returns-in-Ok-clause-unread g c = refuses-none _ c.serve.result c.serve.ensures.served

pub returns-in-Ok-clause-silent : goal.returns-in-Ok-clause-silent
returns-in-Ok-clause-silent g c = refuses-none _ c.serve.result c.serve.ensures.served

pub returns-in-Err-clause-run : goal.returns-in-Err-clause-run
returns-in-Err-clause-run g c = not-opened c.args.batch c.args.limit _ _ (each g.D.Disk.known c.args.devices.now) _ _ c.in-Err.error c.in-Err.ensures.moments c.in-Err.ensures.seen c.from.result c.from.ensures
