-- What is executed from no rows on is the script's.
use Rattle.std.proofs.Common.{arith}
use Rattle.pac_main.proofs.BatchLemmas.{few-run}
use Rattle.pac_main.proofs.execution.executed.Goals as goal

pub execute_by-requires-clause-few : goal.execute_by-requires-clause-few
execute_by-requires-clause-few g c κs within = few-run 0 c.args.batches c.requires.runs c.requires.small (omega arith)
