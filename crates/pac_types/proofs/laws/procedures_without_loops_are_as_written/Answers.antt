use Rattle.pac_types.proofs.AsWrittenLemmas.{unrolled-as_written}
use Rattle.pac_types.proofs.laws.procedures_without_loops_are_as_written.Goals as goal

pub returns : goal.returns
returns c = unrolled-as_written
