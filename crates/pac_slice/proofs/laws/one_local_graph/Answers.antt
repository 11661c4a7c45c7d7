-- The operations make one grouping.
use Rattle.pac_slice.proofs.OneLocalGraph.{one_local_graph}
use Rattle.pac_slice.proofs.laws.one_local_graph.Goals as goal

pub returns : goal.returns
returns c = one_local_graph c.args.program.now.ops c.args.graph.now c.args.other.now c.requires.graph c.requires.other
