-- One byte is written over the gate.
use Rattle.pac_check.proofs.ReplacingLemmas.{shutting_both}
use Rattle.pac_check.proofs.replacing.close_gate.Goals as goal

pub returns-in-Ok-clause-any_moment : goal.returns-in-Ok-clause-any_moment
returns-in-Ok-clause-any_moment g c = λ some. shutting_both c.args.state.now c.requires.not_closed some _ _ c.write_and_sync.ensures.moments

pub returns-in-Err-clause-any_moment : goal.returns-in-Err-clause-any_moment
returns-in-Err-clause-any_moment g c = λ some. shutting_both c.args.state.now c.requires.not_closed some _ _ c.write_and_sync.ensures.moments
