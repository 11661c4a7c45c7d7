-- The name and the number stand one after another.
use Rattle.pac_log.proofs.HeaderLemmas.{later_again, later_found}
use Rattle.pac_log.proofs.header.form_of.Goals as goal

pub returns-clause-some : goal.returns-clause-some
returns-clause-some c = later_found c.args.start.now c.in_ok-after.after.now c.in-Ok.base c.in-Ok.end c.in_ok-after.ensures.cases.0 c.in_ok-after.ensures.cases.1 c.in-Ok.ensures.found

pub returns-clause-again : goal.returns-clause-again
returns-clause-again c = λ form rest few e. later_again c.args.start.now c.in_ok-after.after.now c.in-Ok.base c.in-Ok.end c.in_default.ensures.cases c.in_ok-after.ensures.cases.1 c.in-Ok.ensures.again form rest few e
