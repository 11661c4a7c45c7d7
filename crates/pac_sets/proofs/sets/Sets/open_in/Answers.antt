-- The first unfinished set of the block is open, or none is.
use Rattle.std.proofs.Common.{◌≡◌, Some, None, sym, ◌∙◌, subst}
use Rattle.pac_sets.specs.Sets.{Setting, AreSets, AreFronts, IsOpenSet}
use Rattle.pac_sets.proofs.FrontLemmas.{front_block}
use Rattle.pac_sets.proofs.OpenLemmas.{own, front_there, front_read}
use Rattle.pac_sets.proofs.sets.Sets.open_in.Goals as goal

pub is_passed-requires : goal.is_passed-requires
is_passed-requires g c =
    let fronts = subst (λ (v : Setting g.row.P.Denot). AreFronts v.blocks c.self.inside.fronts.items v.sets) c.self.view_is c.self.invariant.2 in
    let front = front_read c.args.self.now.sets c.args.self.now.blocks c.self.inside.fronts.items fronts c.args.block c.requires c.index.result.now c.index.ensures in
    front_there c.args.self.now.sets c.args.block c.in-Some.at (front ∙ c.in-Some.is)

pub returns-then-is_passed-clause-open : goal.returns-then-is_passed-clause-open
returns-then-is_passed-clause-open g c =
    let fronts = subst (λ (v : Setting g.row.P.Denot). AreFronts v.blocks c.self.inside.fronts.items v.sets) c.self.view_is c.self.invariant.2 in
    let front = front_read c.args.self.now.sets c.args.self.now.blocks c.self.inside.fronts.items fronts c.args.block c.requires c.index.result.now c.index.ensures in
    let it = c.is_passed.ensures.0 c.if-is_passed.true in
    (it, front_block c.args.self.now.sets c.args.block c.in-Some.at (front ∙ c.in-Some.is) it.set it.kept it.there)

pub returns-else-is_passed-clause-none : goal.returns-else-is_passed-clause-none
returns-else-is_passed-clause-none g c at it =
    let kept = subst (λ (v : Setting g.row.P.Denot). AreSets v.blocks v.sets) c.self.view_is c.self.invariant.0 in
    let fronts = subst (λ (v : Setting g.row.P.Denot). AreFronts v.blocks c.self.inside.fronts.items v.sets) c.self.view_is c.self.invariant.2 in
    let front = front_read c.args.self.now.sets c.args.self.now.blocks c.self.inside.fronts.items fronts c.args.block c.requires c.index.result.now c.index.ensures in
    let same : Some at ≡ Some c.in-Some.at = sym (own c.args.self.now.edges c.args.self.now.sets c.args.self.now.blocks kept c.args.block at it.0 it.1) ∙ front ∙ c.in-Some.is in
    let one : c.in-Some.at ≡ at = cc same in
    let yes = c.is_passed.ensures.1 (subst (IsOpenSet c.args.self.now.edges c.args.self.now.sets) (sym one) it.0) in
    cc (yes, c.if-is_passed.false)

pub returns-in-None-clause-none : goal.returns-in-None-clause-none
returns-in-None-clause-none g c at it =
    let kept = subst (λ (v : Setting g.row.P.Denot). AreSets v.blocks v.sets) c.self.view_is c.self.invariant.0 in
    let fronts = subst (λ (v : Setting g.row.P.Denot). AreFronts v.blocks c.self.inside.fronts.items v.sets) c.self.view_is c.self.invariant.2 in
    let front = front_read c.args.self.now.sets c.args.self.now.blocks c.self.inside.fronts.items fronts c.args.block c.requires c.index.result.now c.index.ensures in
    let same : Some at ≡ None = sym (own c.args.self.now.edges c.args.self.now.sets c.args.self.now.blocks kept c.args.block at it.0 it.1) ∙ front ∙ c.in-None.is in
    cc same
