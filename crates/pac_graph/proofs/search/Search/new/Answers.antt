-- Before the first visit every node is fresh.
use Rattle.std.proofs.Common.{◌≡◌, arith, replicate}
use Rattle.std.proofs.lemmas.Grind.{common_steps}
use Rattle.pac_graph.specs.declared.search.Mark.TheVariants.{Fresh}
use Rattle.pac_graph.specs.Graph.{HasEdge}
use Rattle.pac_graph.proofs.SearchLemmas.{begun}
use Rattle.pac_graph.proofs.search.Search.new.Goals as goal

pub returns-clause-search : goal.returns-clause-search
returns-clause-search c = let g = c.args.graph.now in
    let e : c.in_ok-marks.marks.items ≡ replicate g.nodes Fresh = grind (arith, common_steps, c.in_ok-marks.ensures) in
    begun (HasEdge g) g.nodes c.in_ok-marks.marks.items _ c.nodes.ensures.few e c.new.ensures.items
