-- The parts of a text are its accepted catalogue and its batches, or its first fault.
use Rattle.pac_script.proofs.ReadingLemmas.{few-parts}
use Rattle.pac_script.proofs.script.read_parts.Goals as goal

pub returns-in-Ok : goal.returns-in-Ok
returns-in-Ok c = few-parts c.args.prefix.now c.args.after.now c.in-Ok.catalogue c.with_batches.result c.in-Ok.ensures.ok c.with_batches.ensures.ok c.with_batches.ensures.fault
