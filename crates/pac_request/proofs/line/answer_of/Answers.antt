use Rattle.pac_request.proofs.RequestFitLemmas.{answer_fits}
use Rattle.pac_request.proofs.line.answer_of.Goals as goal

pub returns-clause-fits : goal.returns-clause-fits
returns-clause-fits c = answer_fits c.args.catalogue.now _ c.request_of.result c.request_of.ensures
