-- The length stands after the name.
use Rattle.pac_log.proofs.HeaderLemmas.{head_found}
use Rattle.pac_log.proofs.header.head_of.Goals as goal

pub returns-clause-some : goal.returns-clause-some
returns-clause-some c = head_found c.args.start.now c.in_ok-form.form _ c.in_ok-form.after _ c.in_ok-form.ensures.some.0 c.in_ok-form.ensures.some.1 c.in_ok-form.ensures.some.2 c.in-Ok.ensures.found
