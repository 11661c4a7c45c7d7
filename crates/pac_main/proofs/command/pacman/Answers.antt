-- Where there is no memory for the arguments, nothing is read and no device is called.
use Rattle.pac_outside.specs.Devices.{each}
use Rattle.pac_main.proofs.RunLemmas.{run-idle}
use Rattle.pac_main.proofs.command.pacman.Goals as goal

pub returns-in-Err-clause-run : goal.returns-in-Err-clause-run
returns-in-Err-clause-run g c = λ group_size limit asks.
    run-idle group_size limit _ (g.I.Source.left c.args.input.now) (g.O.Sink.held c.args.output.now) (g.I.Source.faults c.args.input.now) (g.O.Sink.faults c.args.output.now)
    (each g.D.Disk.known c.args.devices.now) (each g.D.Disk.faults c.args.devices.now)
    _ c.refuse_arguments-in-Err.ensures.status
