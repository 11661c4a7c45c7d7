-- The class of a node is one of the classes.
use Rattle.std.proofs.Common.{◌<◌, length, get_or, ap, arith}
use Rattle.pac_graph.proofs.ClassLemmas.{below_count}
use Rattle.pac_graph.proofs.condensation.Condensation.new.Goals as goal

pub edges_between-requires-clause-below : goal.edges_between-requires-clause-below
edges_between-requires-clause-below c = let cs = c.args.classes.now in
    let e = c.items.ensures in
    λ u lt. (let within : u < length cs = omega (arith, lt, ap length e) in omega (arith, below_count cs u within, c.count.ensures.count, ap (λ ns. get_or ns u 0) e))
