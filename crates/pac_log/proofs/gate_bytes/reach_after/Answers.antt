-- The two numbers say how far reading looks.
use Rattle.pac_log.proofs.ReachLemmas.{len_enough, too_long}
use Rattle.pac_log.proofs.gate_bytes.reach_after.Goals as goal

pub returns-in-Ok-clause-enough : goal.returns-in-Ok-clause-enough
returns-in-Ok-clause-enough c = λ catalogue all is. len_enough c.args.prefix.now c.in-Ok.len _ c.in-Ok.ensures.exact catalogue all is

pub returns-in_default-clause-enough : goal.returns-in_default-clause-enough
returns-in_default-clause-enough c = λ catalogue all is. too_long c.args.prefix.now c.in-Ok.len _ c.in-Ok.ensures.exact c.if-len-le-MAX_ENTRIES_LEN.false catalogue all is
