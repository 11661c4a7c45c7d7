use Rattle.pac_piece.proofs.MeaningLemmas.{code_means_piece}
use Rattle.pac_piece.proofs.UseLemmas.{same_by_access}
use Rattle.pac_piece.proofs.laws.code_means_piece.Goals as goal

pub returns : goal.returns
returns c = record { meaning = code_means_piece; by_access = same_by_access }
