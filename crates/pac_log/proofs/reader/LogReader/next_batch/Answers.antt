-- What the answer says of the batches in the image.
use Rattle.pac_log.proofs.StepLemmas.{known_on, known_again}
use Rattle.pac_log.proofs.reader.LogReader.next_batch.Goals as goal

pub returns-clause-reads_on : goal.returns-clause-reads_on
returns-clause-reads_on g c = λ text batches. known_on text batches _ _ _ _ c.batch_at_gate.ensures.exact c.batch_at_gate.ensures.spelled c.batch_at_gate.ensures.batch

pub returns-clause-again : goal.returns-clause-again
returns-clause-again g c = λ text before after. known_again text before after _ _ _ c.batch_at_gate.ensures.exact
