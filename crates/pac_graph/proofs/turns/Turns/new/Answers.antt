-- Before the first turn no class has a number.
use Rattle.std.proofs.Common.{◌≡◌, arith, replicate}
use Rattle.std.proofs.lemmas.Grind.{common_steps}
use Rattle.pac_graph.specs.Graph.{HasEdge}
use Rattle.pac_graph.specs.Turns.{RanksUpTo}
use Rattle.pac_graph.proofs.TurnLemmas.{started}
use Rattle.pac_graph.proofs.turns.Turns.new.Goals as goal

pub returns : goal.returns
returns c = let g = c.args.graph.now.edges in
    let en : c.in_ok-numbers.numbers.items ≡ replicate g.nodes g.nodes = grind (arith, common_steps, c.in_ok-numbers.ensures, c.nodes-count.ensures.nodes, c.nodes-count.ensures.few) in
    let ep : c.in_ok-passed.passed.items ≡ replicate g.nodes 0 = grind (arith, common_steps, c.in_ok-passed.ensures, c.nodes-count.ensures.nodes) in
    started (HasEdge g) (RanksUpTo c.args.graph.now.ranks.items) g.nodes c.in_ok-numbers.numbers.items c.in_ok-passed.passed.items c.nodes-count.ensures.few en ep
