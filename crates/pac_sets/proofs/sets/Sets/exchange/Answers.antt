-- The sets stand as they stood, and so do the fronts.
use Rattle.std.proofs.Common.{Some, sym, ap, ◌∙◌, subst}
use Rattle.pac_sets.specs.Sets.{Setting, IsUnfinished, IsKeptAt, with_kept_at}
use Rattle.pac_sets.proofs.KeptLemmas.{holds_keep}
use Rattle.pac_sets.proofs.sets.Sets.exchange.Goals as goal

pub exchange_kept-requires : goal.exchange_kept-requires
exchange_kept-requires g c = subst (λ (v : Setting g.row.P.Denot). IsUnfinished v.sets c.args.at) (sym c.self.view_is) c.requires

pub invariant_of-self : goal.invariant_of-self
invariant_of-self g c =
    let in_it = c.self.inside in
    let left = subst (λ (v : Setting g.row.P.Denot). IsUnfinished v.sets c.args.at) (sym c.self.view_is) c.requires in
    holds_keep in_it.edges in_it.sources.items in_it.fronts.items in_it.sets.items c.exchange_kept.new.sets.items c.args.at c.args.kept left c.exchange_kept.ensures.new c.self.invariant

pub returns-clause-old : goal.returns-clause-old
returns-clause-old g c = subst (λ (v : Setting g.row.P.Denot). IsKeptAt v.sets c.args.at c.exchange_kept.result) c.self.view_is c.exchange_kept.ensures.old

pub returns-clause-new : goal.returns-clause-new
returns-clause-new g c =
    let seen = c.self.view_is in
    let sets = c.exchange_kept.ensures.new ∙ ap (λ (v : Setting g.row.P.Denot). with_kept_at v.sets c.args.at (Some c.args.kept)) seen in
    λ i. record { edges = (seen i).edges; blocks = (seen i).blocks; sets = sets i }
