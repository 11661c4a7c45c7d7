use Rattle.pac_request.proofs.MeaningLemmas.{count_of, stored_of}
use Rattle.pac_request.proofs.meaning.stored_values.Goals as goal

pub returns-clause-count : goal.returns-clause-count
returns-clause-count c = count_of (λ v. v.items) c.args.columns.now c.args.literals.now c.values_of.result c.requires c.values_of.ensures

pub returns-clause-stored : goal.returns-clause-stored
returns-clause-stored c = stored_of (λ v. v.items) c.args.columns.now c.args.literals.now c.values_of.result c.requires c.values_of.ensures
