use Rattle.pac_lanes.proofs.LoanLemmas.{cut_lends, cut_loans_apart}
use Rattle.pac_lanes.proofs.cut_loans.Goals as goal

pub returns : goal.returns
returns c = record { lends = cut_lends; apart = cut_loans_apart }
