-- By the one catalogue of the text, and the one number of pieces.
use Rattle.pac_stress.proofs.OneSummary.{none-aborts, one-summary}
use Rattle.pac_stress.proofs.laws.one_summary.Goals as goal

pub returns : goal.returns
returns c = record { one = one-summary; ends = none-aborts }
