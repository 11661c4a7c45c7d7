use Rattle.pac_lanes.proofs.LoanLemmas.{opens_home, load_keeps_home, lend_keeps_home, loan_has_inputs, return_keeps_home, all_at_home, home_ends, loan_fits, return_fits}
use Rattle.pac_lanes.proofs.loans.Goals as goal

pub returns : goal.returns
returns c = record { opens = opens_home; load = load_keeps_home; lend = lend_keeps_home; inputs = loan_has_inputs; back = return_keeps_home; home = all_at_home; ends = home_ends; fits = loan_fits; fits_home = return_fits }
