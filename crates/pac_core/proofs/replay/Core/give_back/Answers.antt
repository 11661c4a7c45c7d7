-- The work is given back, or all is as it was.
use Rattle.std.proofs.Common.{subst}
use Rattle.pac_core.specs.Calls.{IsGivenBack}
use Rattle.pac_core.specs.Links.{core_of}
use Rattle.pac_core.specs.Replay.{Replay}
use Rattle.pac_core.proofs.replay.Core.give_back.Goals as goal

pub returns-clause-back : goal.returns-clause-back
returns-clause-back g c = subst (λ (r : Replay). IsGivenBack r c.args.work (core_of c.give_back.new.progress c.self.inside.rows)) c.self.view_is c.give_back.ensures.back
