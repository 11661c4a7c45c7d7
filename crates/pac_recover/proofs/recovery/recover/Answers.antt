-- Where the devices stand for a history, what is executed is a prefix of it.
use Rattle.pac_outside.specs.Devices.{each}
use Rattle.pac_recover.proofs.StandsLemmas.{recovers}
use Rattle.pac_recover.proofs.recovery.recover.Goals as goal

pub returns-clause-stands : goal.returns-clause-stands
returns-clause-stands g c =
    let h = c.recover_by_windows.ensures in
    recovers c.args.limit c.recover_by_windows.result (each g.D.Disk.known c.args.devices.now) h.recovered h.refused
