use Rattle.std.proofs.Common.{rules}
use Rattle.std.proofs.lemmas.List.Elements.{All-drop}
use Rattle.pac_workers.proofs.hand.Hand.run_all.Goals as goal

pub loop-work-preserved : goal.loop-work-preserved
loop-work-preserved g c = let rest = All-drop g.M.Machine.can_run 1 c.loop-work.self.works.items c.loop-work.invariant in search rules
