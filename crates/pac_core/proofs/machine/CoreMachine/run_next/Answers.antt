-- One less is left, where a piece was run.
use Rattle.pac_core.proofs.NextRun.{ran_left}
use Rattle.pac_core.proofs.machine.CoreMachine.run_next.Goals as goal

pub returns-clause-ran : goal.returns-clause-ran
returns-clause-ran g c = ran_left c.args.self.now c.run_next.new.self c.run_next.result c.run_next.ensures.ok
