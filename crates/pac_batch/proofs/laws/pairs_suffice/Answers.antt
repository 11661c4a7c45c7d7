-- The law of lists.
use Rattle.pac_batch.proofs.ListLaws.{pairs_suffice}
use Rattle.pac_batch.proofs.laws.pairs_suffice.Goals as goal

pub returns : goal.returns
returns c = pairs_suffice
