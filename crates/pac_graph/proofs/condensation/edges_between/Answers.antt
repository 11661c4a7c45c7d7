-- There are no more classes than nodes; in the end the edges of all nodes are there.
use Rattle.std.proofs.Common.{◌<◌, get_or, arith, subst, sym, ◌∙◌}
use Rattle.pac_graph.specs.Graph.{HasEdge}
use Rattle.pac_graph.proofs.GraphLemmas.{leads_from}
use Rattle.pac_graph.proofs.condensation.edges_between.Goals as goal

pub new-requires : goal.new-requires
new-requires c = omega (arith, c.requires.few, c.nodes-nodes.ensures.few)

pub returns-clause-edges : goal.returns-clause-edges
returns-clause-edges c = let g = c.args.graph.now in
    let cs = c.args.numbers.now in
    let edges = c.loop-from.edges in
    λ a b. (
      c.loop-from.invariant.well_formed a b,
      λ (ne, (u, v, e, eu, ev)).
          let within : u < c.loop-from.from = omega (arith, leads_from g u v e, c.loop-from-test.false, c.nodes-nodes.ensures.nodes) in
          subst (λ k. HasEdge edges k b) eu (subst (λ k. HasEdge edges (get_or cs u 0) k) ev (c.loop-from.invariant.complete u v within e (λ same. ne (sym eu ∙ (same ∙ ev))))),
    )
