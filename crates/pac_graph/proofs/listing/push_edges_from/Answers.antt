-- The next edge is listed after those so far, and in the end the node has no edge more.
use Rattle.std.proofs.Common.{◌+◌, sym, subst}
use Rattle.pac_graph.specs.Listing.{AreEdgesBelow}
use Rattle.pac_graph.proofs.ListingLemmas.{one_listed, row_listed}
use Rattle.pac_graph.proofs.listing.push_edges_from.Goals as goal

pub loop-to-preserved : goal.loop-to-preserved
loop-to-preserved c = let g = c.args.graph.now in
    let l = c.loop-to in
    let next = c.in-Some.ensures in
    subst (λ xs. AreEdgesBelow g xs c.args.from (c.in-Some.to + 1)) (sym c.in_ok-push.ensures.items) (one_listed g l.pairs.items c.args.from c.in-Some.to l.at next.0 next.2 next.3 l.invariant)

pub returns : goal.returns
returns c = row_listed c.args.graph.now c.loop-to.pairs.items c.args.from c.loop-to.at c.in_default.ensures c.loop-to.invariant
