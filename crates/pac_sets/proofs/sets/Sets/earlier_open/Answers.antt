-- The front of the block comes before the first so far, or doesn't.
use Rattle.std.proofs.Common.{◌≡◌, ◌≤◌, ℕ, Some, None, sym, ap, ◌∙◌, subst}
use Rattle.pac_sets.specs.Sets.{Setting, AreSets, AreFronts, IsOpenSet, is_earlier}
use Rattle.pac_sets.proofs.OpenLemmas.{stays, moves, front_there, front_read}
use Rattle.pac_sets.proofs.sets.Sets.earlier_open.Goals as goal

pub is_earlier_open-requires : goal.is_earlier_open-requires
is_earlier_open-requires g c =
    let fronts = subst (λ (v : Setting g.row.P.Denot). AreFronts v.blocks c.self.inside.fronts.items v.sets) c.self.view_is c.self.invariant.2 in
    let front = front_read c.args.self.now.sets c.args.self.now.blocks c.self.inside.fronts.items fronts c.args.block c.requires.inside c.index.result.now c.index.ensures in
    front_there c.args.self.now.sets c.args.block c.in-Some.at (front ∙ c.in-Some.is)

pub returns-then-is_earlier_open : goal.returns-then-is_earlier_open
returns-then-is_earlier_open g c =
    let kept = subst (λ (v : Setting g.row.P.Denot). AreSets v.blocks v.sets) c.self.view_is c.self.invariant.0 in
    let fronts = subst (λ (v : Setting g.row.P.Denot). AreFronts v.blocks c.self.inside.fronts.items v.sets) c.self.view_is c.self.invariant.2 in
    let front = front_read c.args.self.now.sets c.args.self.now.blocks c.self.inside.fronts.items fronts c.args.block c.requires.inside c.index.result.now c.index.ensures in
    let passes = c.is_earlier_open.ensures.passes c.if-is_earlier_open.true in
    moves c.args.self.now.edges c.args.self.now.sets c.args.self.now.blocks kept c.args.block c.args.from c.args.first c.requires.first c.in-Some.at (front ∙ c.in-Some.is) passes.0 passes.1 passes.2

pub returns-else-is_earlier_open : goal.returns-else-is_earlier_open
returns-else-is_earlier_open g c =
    let kept = subst (λ (v : Setting g.row.P.Denot). AreSets v.blocks v.sets) c.self.view_is c.self.invariant.0 in
    let fronts = subst (λ (v : Setting g.row.P.Denot). AreFronts v.blocks c.self.inside.fronts.items v.sets) c.self.view_is c.self.invariant.2 in
    let front = front_read c.args.self.now.sets c.args.self.now.blocks c.self.inside.fronts.items fronts c.args.block c.requires.inside c.index.result.now c.index.ensures in
    stays c.args.self.now.edges c.args.self.now.sets c.args.self.now.blocks kept c.args.block c.args.from c.args.first c.requires.first
    (λ j is least before it. let same : Some j ≡ Some c.in-Some.at = sym is ∙ front ∙ c.in-Some.is in
    let one : c.in-Some.at ≡ j = cc same in
    let yes = c.is_earlier_open.ensures.fails (subst (λ (n : ℕ). c.args.from ≤ n) (sym one) least) (ap (λ (n : ℕ). is_earlier n c.args.first) one ∙ before) (subst (λ (n : ℕ). IsOpenSet c.args.self.now.edges c.args.self.now.sets n) (sym one) it) in
    cc (yes, c.if-is_earlier_open.false))

pub returns-in-None : goal.returns-in-None
returns-in-None g c =
    let kept = subst (λ (v : Setting g.row.P.Denot). AreSets v.blocks v.sets) c.self.view_is c.self.invariant.0 in
    let fronts = subst (λ (v : Setting g.row.P.Denot). AreFronts v.blocks c.self.inside.fronts.items v.sets) c.self.view_is c.self.invariant.2 in
    let front = front_read c.args.self.now.sets c.args.self.now.blocks c.self.inside.fronts.items fronts c.args.block c.requires.inside c.index.result.now c.index.ensures in
    stays c.args.self.now.edges c.args.self.now.sets c.args.self.now.blocks kept c.args.block c.args.from c.args.first c.requires.first
    (λ j is least before it. let same : Some j ≡ None = sym is ∙ front ∙ c.in-None.is in cc same)
