-- All that is read is right.
use Rattle.pac_store.proofs.RefusalLemmas.{not-refused}
use Rattle.pac_store.proofs.laws.what_stands_is_not_refused.Goals as goal

pub returns : goal.returns
returns k = λ text c h least images refused is first. not-refused text c h least images is refused first
