-- The sets stand as they stood, and the front of the block moves.
use Rattle.std.proofs.Common.{◌≡◌, ◌<◌, ℕ, rules, Some, None, sym, ap, ◌∙◌, subst, length}
use Rattle.std.specs.Prelude.{vec_len}
use Rattle.std.proofs.lemmas.Option.{slice_get_within}
use Rattle.std.proofs.lemmas.List.{length-set}
use Rattle.pac_sets.specs.Sets.{Setting, IsOpenSet, IsUnfinished, with_kept_at}
use Rattle.pac_sets.proofs.KeptLemmas.{holds_finish}
use Rattle.pac_sets.proofs.FrontLemmas.{none_left, open_block}
use Rattle.pac_sets.proofs.sets.Sets.finish.Goals as goal

pub set_kept-requires : goal.set_kept-requires
set_kept-requires g c =
    let it = subst (λ (v : Setting g.row.P.Denot). IsOpenSet v.edges v.sets c.args.at) (sym c.self.view_is) c.requires in
    slice_get_within c.self.inside.sets.items c.args.at (it.set, Some it.kept) it.there

pub index_mut-requires : goal.index_mut-requires
index_mut-requires g c =
    let in_it = c.self.inside in
    let it = subst (λ (v : Setting g.row.P.Denot). IsOpenSet v.edges v.sets c.args.at) (sym c.self.view_is) c.requires in
    let len : vec_len in_it.fronts ≡ length in_it.fronts.items = search rules in
    subst (λ (n : ℕ). c.from.result < n) (sym len)
    (open_block in_it.edges (length in_it.fronts.items) c.args.at c.from.result in_it.sets.items c.self.invariant.0 it c.index.result.now c.index.ensures c.from.ensures)

pub front_from-requires : goal.front_from-requires
front_from-requires g c =
    let in_it = c.self.inside in
    let it = subst (λ (v : Setting g.row.P.Denot). IsOpenSet v.edges v.sets c.args.at) (sym c.self.view_is) c.requires in
    none_left in_it.edges (length in_it.fronts.items) c.args.at in_it.sets.items c.deref.result.now c.self.invariant.0 it (c.deref.ensures.value ∙ c.set_kept.ensures) c.index.result.now c.index.ensures

pub invariant_of-self : goal.invariant_of-self
invariant_of-self g c =
    let in_it = c.self.inside in
    let it = subst (λ (v : Setting g.row.P.Denot). IsOpenSet v.edges v.sets c.args.at) (sym c.self.view_is) c.requires in
    let left : IsUnfinished in_it.sets.items c.args.at = (it.set, it.kept, it.there) in
    holds_finish in_it.edges in_it.sources.items in_it.fronts.items in_it.sets.items c.set_kept.new.sets.items c.deref.result.now c.args.at c.from.result c.index.result.now c.front_from.result left
    c.index.ensures c.from.ensures c.set_kept.ensures c.deref.ensures.value c.front_from.ensures c.self.invariant

pub returns : goal.returns
returns g c =
    let seen = c.self.view_is in
    let sets = c.set_kept.ensures ∙ ap (λ (v : Setting g.row.P.Denot). with_kept_at v.sets c.args.at None) seen in
    let blocks = length-set c.self.inside.fronts.items c.from.result c.front_from.result ∙ ap (λ (v : Setting g.row.P.Denot). v.blocks) seen in
    λ i. record { edges = (seen i).edges; blocks = blocks i; sets = sets i }
