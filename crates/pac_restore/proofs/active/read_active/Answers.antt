-- One of the two log devices is read.
use Rattle.std.proofs.Common.{sym, subst}
use Rattle.std.specs.Prelude.{IfErr}
use Rattle.pac_outside.specs.Devices.{each, log_at}
use Rattle.pac_outside.specs.declared.devices.LogName.{LogName}
use Rattle.pac_restore.specs.Opening.{IsRefusedOn}
use Rattle.pac_restore.proofs.active.read_active.Goals as goal

pub returns-in-Log-clause-refused : goal.returns-in-Log-clause-refused
returns-in-Log-clause-refused g c = subst (λ (n : LogName). IfErr c.read_log.result (IsRefusedOn c.args.active c.args.newest c.args.reader.now.gate (log_at n (each g.D.Disk.known c.args.devices.now)))) (sym c.in-Log.is) c.read_log.ensures.refused

pub returns-in-LogB-clause-refused : goal.returns-in-LogB-clause-refused
returns-in-LogB-clause-refused g c = subst (λ (n : LogName). IfErr c.read_log-in-LogB.result (IsRefusedOn c.args.active c.args.newest c.args.reader.now.gate (log_at n (each g.D.Disk.known c.args.devices.now)))) (sym c.in-LogB.is) c.read_log-in-LogB.ensures.refused
