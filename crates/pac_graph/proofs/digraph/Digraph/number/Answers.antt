-- The turns of the classes are the numbering: least ranks stand for the classes' nodes.
use Rattle.std.proofs.Common.{arith, subst, ◌∙◌}
use Rattle.pac_graph.specs.Graph.{HasEdge}
use Rattle.pac_graph.specs.Classes.{class_count}
use Rattle.pac_graph.specs.Numbering.{IsClassEdge, HasLesserNode, IsInTurn}
use Rattle.pac_graph.specs.Turns.{RanksUpTo}
use Rattle.pac_graph.proofs.GraphLemmas.{by_edges}
use Rattle.pac_graph.proofs.CondensedLemmas.{cycle_free, ranks_apart, by_ranks, in_other_words}
use Rattle.pac_graph.proofs.digraph.Digraph.number.Goals as goal

pub run-requires : goal.run-requires
run-requires c = let g = c.args.self.now in
    let cs = c.args.classes.now in
    let e = c.in_ok-graph.ensures in
    record {
      size = e.ranks.size ∙ omega (arith, e.nodes);
      acyclic = λ a b edge back. cycle_free g cs c.requires.classes a b ((e.edges a b).0 edge) (by_edges (λ x y. (e.edges x y).0) back);
      apart = λ k o lk lo same. ranks_apart cs c.args.order.now c.in_ok-graph.graph.ranks.items g.nodes c.requires.classes.each c.requires.different e.ranks k o (omega (arith, lk, e.nodes)) (omega (arith, lo, e.nodes)) same;
    }

pub returns : goal.returns
returns c = let g = c.args.self.now in
    let cs = c.args.classes.now in
    let order = c.args.order.now in
    let graph = c.in_ok-graph.graph in
    let e = c.in_ok-graph.ensures in
    let numbers = c.in_ok-turns.turns.numbers.items in
    let done = subst (λ k. IsInTurn (HasEdge graph.edges) (RanksUpTo graph.ranks.items) k numbers) e.nodes c.in_ok-turns.ensures in
    in_other_words (HasEdge graph.edges) (IsClassEdge g cs) (RanksUpTo graph.ranks.items) (HasLesserNode cs order) (class_count cs) numbers e.edges
    (λ k o lt ne le. by_ranks cs order graph.ranks.items g.nodes c.requires.classes.each c.requires.different e.ranks k o lt ne le) done
