-- A way back would make one class of the two.
use Rattle.pac_graph.proofs.CondensedLemmas.{cycle_free}
use Rattle.pac_graph.proofs.laws.no_cycle.Goals as goal

pub returns : goal.returns
returns c = cycle_free c.args.graph.now c.args.classes.now c.requires
