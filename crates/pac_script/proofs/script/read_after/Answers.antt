use Rattle.std.proofs.Common.{arith}
use Rattle.std.proofs.lemmas.List.{take_rest}
use Rattle.pac_script.proofs.ReadingLemmas.{none-after, some-after}
use Rattle.pac_script.proofs.script.read_after.Goals as goal

pub returns-in-empty-clause-ok : goal.returns-in-empty-clause-ok
returns-in-empty-clause-ok c = none-after _ c.args.text.now _ (omega (arith, c.in-empty.len_below)) c.new.ensures.items

pub returns-in-len1-up-clause-fault : goal.returns-in-len1-up-clause-fault
returns-in-len1-up-clause-fault c = λ fault is. some-after _ c.args.text.now fault (omega (arith, c.in-len1-up.len_at_least)) ((simp take_rest at c.read_lines.ensures.fault) fault is)
