use Rattle.std.proofs.Common.{arith}
use Rattle.pac_request.proofs.MeaningLemmas.{no_types, no_literals}
use Rattle.pac_request.proofs.meaning.split_pair.Goals as goal

pub returns-in_default-clause-pair : goal.returns-in_default-clause-pair
returns-in_default-clause-pair c = no_types c.args.columns.now _ (omega (arith, c.in_default.len_below))

pub returns-in_default-literals-clause-pair : goal.returns-in_default-literals-clause-pair
returns-in_default-literals-clause-pair c = no_literals _ c.args.literals.now (omega (arith, c.in_default-literals.len_below))
