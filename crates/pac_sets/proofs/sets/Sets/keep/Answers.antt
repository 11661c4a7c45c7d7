-- The sets stand as they stood, and so do the fronts.
use Rattle.std.proofs.Common.{Some, sym, ap, ◌∙◌, subst}
use Rattle.std.proofs.lemmas.Option.{slice_get_within}
use Rattle.pac_sets.specs.Sets.{Setting, IsUnfinished, with_kept_at}
use Rattle.pac_sets.proofs.KeptLemmas.{holds_keep}
use Rattle.pac_sets.proofs.sets.Sets.keep.Goals as goal

pub set_kept-requires : goal.set_kept-requires
set_kept-requires g c =
    let left = subst (λ (v : Setting g.row.P.Denot). IsUnfinished v.sets c.args.at) (sym c.self.view_is) c.requires in
    slice_get_within c.self.inside.sets.items c.args.at (left.0, Some left.1) left.2

pub invariant_of-self : goal.invariant_of-self
invariant_of-self g c =
    let in_it = c.self.inside in
    let left = subst (λ (v : Setting g.row.P.Denot). IsUnfinished v.sets c.args.at) (sym c.self.view_is) c.requires in
    holds_keep in_it.edges in_it.sources.items in_it.fronts.items in_it.sets.items c.set_kept.new.sets.items c.args.at c.args.kept left c.set_kept.ensures c.self.invariant

pub returns : goal.returns
returns g c =
    let seen = c.self.view_is in
    let sets = c.set_kept.ensures ∙ ap (λ (v : Setting g.row.P.Denot). with_kept_at v.sets c.args.at (Some c.args.kept)) seen in
    λ i. record { edges = (seen i).edges; blocks = (seen i).blocks; sets = sets i }
