-- What is laid are the lists that were written.
use Rattle.pac_main.proofs.AgreementLemmas.{log-in-limit, same-dump}
use Rattle.pac_main.proofs.laws.a_log_gives_the_dump_of_its_script.Goals as goal

pub returns-clause-laid : goal.returns-clause-laid
returns-clause-laid k = log-in-limit

pub returns-clause-same : goal.returns-clause-same
returns-clause-same k = λ limit text log laid replayed recorded. same-dump limit text log recorded laid replayed
