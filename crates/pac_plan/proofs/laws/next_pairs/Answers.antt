use Rattle.pac_plan.proofs.NextLemmas.{next_pairs, closed_by_next}
use Rattle.pac_plan.proofs.laws.next_pairs.Goals as goal

pub returns : goal.returns
returns c = record { chain = next_pairs; closed = closed_by_next }
