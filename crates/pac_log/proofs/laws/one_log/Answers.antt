-- An image is that of one log.
use Rattle.pac_log.proofs.OneLog.{one_log, no_damage, one_damage}
use Rattle.pac_log.proofs.laws.one_log.Goals as goal

pub returns-clause-batches : goal.returns-clause-batches
returns-clause-batches c = λ image s t d e a b is other. one_log s t d e a b image is other

pub returns-clause-whole : goal.returns-clause-whole
returns-clause-whole c = λ image s t d e a b fault is damaged. no_damage s t d e a b fault image is damaged

pub returns-clause-damage : goal.returns-clause-damage
returns-clause-damage c = λ image s t d e a b fault other is damaged. one_damage s t d e a b fault other image is damaged
