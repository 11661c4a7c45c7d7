-- The law of lists.
use Rattle.pac_batch.proofs.ListLaws.{one_list}
use Rattle.pac_batch.proofs.laws.one_list.Goals as goal

pub returns : goal.returns
returns c = one_list
