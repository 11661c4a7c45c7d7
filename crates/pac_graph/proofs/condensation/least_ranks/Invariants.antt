-- The ranks of the nodes so far are taken into their classes.
use Rattle.pac_graph.specs.Classes.{class_count}
use Rattle.pac_graph.proofs.CondensedLemmas.{AreRanked}
use Rattle.pac_graph.proofs.condensation.least_ranks.Given as goal

abbrev pub invariant-loop-node : goal.invariant-loop-node
invariant-loop-node l = AreRanked l.classes l.order l.ranks.items (class_count l.classes) l.node
