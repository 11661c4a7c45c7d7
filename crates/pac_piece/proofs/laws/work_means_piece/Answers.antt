use Rattle.pac_piece.proofs.MeaningLemmas.{work_means_piece}
use Rattle.pac_piece.proofs.WithinLemmas.{writes_within_access}
use Rattle.pac_piece.proofs.laws.work_means_piece.Goals as goal

pub returns : goal.returns
returns c = record { meaning = work_means_piece; within = writes_within_access }
