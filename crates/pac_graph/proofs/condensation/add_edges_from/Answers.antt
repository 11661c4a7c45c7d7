-- The classes of both ends are classes.
use Rattle.std.proofs.Common.{arith}
use Rattle.pac_graph.proofs.condensation.add_edges_from.Goals as goal

pub edge-requires-clause-from : goal.edge-requires-clause-from
edge-requires-clause-from c = omega (arith, c.from-source.ensures, c.requires.below c.args.from (omega (arith, c.requires.from, c.requires.each)), c.loop-to.invariant.nodes)

pub edge-requires-clause-to : goal.edge-requires-clause-to
edge-requires-clause-to c = let to = c.in-Some.to in
    omega (arith, c.from-target.ensures, c.requires.below to (omega (arith, c.in-Some.ensures.1, c.requires.each)), c.loop-to.invariant.nodes)
