-- The front's set is looked at, and its sources.
use Rattle.std.proofs.Common.{sym, ◌∙◌, subst}
use Rattle.std.specs.Prelude.{◌↔◌, IsTrue}
use Rattle.pac_sets.specs.Sets.{Setting, IsFront, IsOpenSet, are_done}
use Rattle.pac_sets.proofs.FrontLemmas.{open_by}
use Rattle.pac_sets.proofs.sets.Sets.is_passed.Goals as goal

pub returns : goal.returns
returns g c =
    let in_it = c.self.inside in
    let e = c.index.result.now in
    let list = c.index-sources.result.now in
    let tested = c.are_done.ensures ∙ (λ i. are_done e.0.batch (c.deref-2.ensures.value i) (c.deref.ensures.value i)) in
    subst (λ (v : Setting g.row.P.Denot). IsTrue c.are_done.result ↔ IsOpenSet v.edges v.sets c.args.at) c.self.view_is
    (open_by in_it.edges in_it.sets.items in_it.sources.items _ c.args.at c.self.invariant.0 c.self.invariant.1 (subst (λ (v : Setting g.row.P.Denot). IsFront v.sets c.args.at) (sym c.self.view_is) c.requires)
    e c.index.ensures c.from.result c.from.ensures list c.index-sources.ensures c.are_done.result tested)
