use Rattle.pac_commute.proofs.BatchLemmas.{numbers_tied}
use Rattle.pac_commute.proofs.batches_run_on.Goals as goal

pub returns : goal.returns
returns c = numbers_tied
