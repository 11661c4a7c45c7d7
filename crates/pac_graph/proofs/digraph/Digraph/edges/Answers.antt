-- No edge is listed at first, and in the end all are.
use Rattle.std.proofs.Common.{◌↔◌, ℕ, sym, subst, arith}
use Rattle.std.specs.Prelude.{Contains}
use Rattle.pac_graph.specs.Graph.{HasEdge}
use Rattle.pac_graph.specs.Groups.{ArePairsAscending}
use Rattle.pac_graph.specs.Listing.{AreEdgesBelow}
use Rattle.pac_graph.proofs.ListingLemmas.{none_listed, all_listed}
use Rattle.pac_graph.proofs.digraph.Digraph.edges.Goals as goal

pub loop-from-init : goal.loop-from-init
loop-from-init c = subst (λ xs. AreEdgesBelow c.args.self.now xs 0 0) (sym c.new-pairs.ensures.items) (none_listed c.args.self.now)

pub returns-clause-each : goal.returns-clause-each
returns-clause-each c = let g = c.args.self.now in
    subst (λ xs. (a b : ℕ) → Contains xs (a, b) ↔ HasEdge g a b) (sym c.listed.ensures)
    (all_listed g c.loop-from.pairs.items c.loop-from.from (omega (arith, c.loop-from-test.false, c.nodes-from-end.ensures.nodes)) c.loop-from.invariant)

pub returns-clause-ascending : goal.returns-clause-ascending
returns-clause-ascending c = subst (λ xs. ArePairsAscending xs) (sym c.listed.ensures) c.loop-from.invariant.ascends
