-- A slot that was read whole is in the state that it begins with.
use Rattle.std.proofs.lemmas.Result.{on_ok_weaker}
use Rattle.pac_check.proofs.FrontLemmas.{whole_known}
use Rattle.pac_check.proofs.reading.look_at.Goals as goal

pub returns-in-Open-clause-state : goal.returns-in-Open-clause-state
returns-in-Open-clause-state g c = on_ok_weaker c.look_at_open.result (λ whole. whole_known c.args.cat.now.tables c.args.state _ c.requires whole) c.look_at_open.ensures.state
