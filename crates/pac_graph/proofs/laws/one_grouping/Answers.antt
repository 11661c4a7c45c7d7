-- The groups of a graph are those of its nodes, and an edge leads between nodes.
use Rattle.pac_graph.proofs.OneGrouping.{one_grouping}
use Rattle.pac_graph.proofs.laws.one_grouping.Goals as goal

pub returns : goal.returns
returns c = one_grouping c.args.graph.now c.args.groups.now c.args.others.now c.requires.groups c.requires.others
