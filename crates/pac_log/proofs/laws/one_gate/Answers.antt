-- An offset is that of one gate.
use Rattle.pac_log.proofs.OneGate.{one_number, few, stays}
use Rattle.pac_log.proofs.laws.one_gate.Goals as goal

pub returns-clause-number : goal.returns-clause-number
returns-clause-number c = λ text batches place m n is other. one_number text batches place m n is other

pub returns-clause-few : goal.returns-clause-few
returns-clause-few c = λ text batches place n is. few text batches place n is

pub returns-clause-stays : goal.returns-clause-stays
returns-clause-stays c = λ text batches more place n is. stays text batches more place n is
