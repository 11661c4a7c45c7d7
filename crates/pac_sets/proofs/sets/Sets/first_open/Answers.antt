-- With all blocks, it is the first of all.
use Rattle.std.proofs.Common.{◌≡◌, ℕ, length, ap, ◌∙◌, subst, arith, rules}
use Rattle.pac_sets.specs.Sets.{Setting, AreSets, IsFirstBelow}
use Rattle.pac_sets.proofs.OpenLemmas.{first_of_all}
use Rattle.pac_sets.proofs.sets.Sets.first_open.Goals as goal

pub returns : goal.returns
returns g c =
    let kept = subst (λ (v : Setting g.row.P.Denot). AreSets v.blocks v.sets) c.self.view_is c.self.invariant.0 in
    let now = c.args.self.now in
    let len : c.len-block-end.result ≡ length c.self.inside.fronts.items = search rules in
    let end : c.loop-block.block ≡ c.len-block-end.result = omega arith in
    let blocks : c.loop-block.block ≡ now.blocks = end ∙ len ∙ ap (λ (v : Setting g.row.P.Denot). v.blocks) c.self.view_is in
    first_of_all now.edges now.sets now.blocks kept c.args.from c.loop-block.first (subst (λ (n : ℕ). IsFirstBelow n now.edges now.sets c.args.from c.loop-block.first) blocks c.loop-block.invariant)
