-- A class is ready only once those with an edge into it had their turns.
use Rattle.std.proofs.Common.{◌<◌, length, get_or, refl, arith}
use Rattle.pac_graph.proofs.GraphLemmas.{leads_to}
use Rattle.pac_graph.proofs.ClassLemmas.{below_count}
use Rattle.pac_graph.proofs.laws.numbers_rise.Goals as goal

pub returns : goal.returns
returns c = let cs = c.args.classes.now in λ u v e ne.
    let within : v < length cs = omega (arith, leads_to c.args.graph.now u v e, c.requires.classes.each) in
    (c.requires.numbers.ready (get_or cs v 0) (below_count cs v within)).1 (get_or cs u 0) (ne, (u, v, e, refl, refl))
