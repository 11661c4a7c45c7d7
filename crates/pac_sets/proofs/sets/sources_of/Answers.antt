-- One edge more is known.
use Rattle.std.proofs.Common.{ℕ, List, get_or, sym, subst}
use Rattle.std.proofs.lemmas.List.{take_more}
use Rattle.std.proofs.Common.{take}
use Rattle.pac_sets.specs.Sets.{AreAllSources}
use Rattle.pac_sets.proofs.SourceLemmas.{one_source}
use Rattle.pac_sets.proofs.sets.sources_of.Goals as goal

pub loop-edge-preserved : goal.loop-edge-preserved
loop-edge-preserved c =
    let edges = c.args.edges.now in
    let i = c.loop-edge.edge-index in
    let none : ℕ × ℕ = (0, 0) in
    subst (λ (seen : List (ℕ × ℕ)). AreAllSources seen c.args.blocks c.add_source.new.sources.items) (sym (take_more edges i none c.loop-edge-test.true))
    (one_source (take i edges) (get_or edges i none) c.args.blocks c.loop-edge.sources.items c.add_source.new.sources.items c.in_ok-add_source.ensures c.loop-edge.invariant)
