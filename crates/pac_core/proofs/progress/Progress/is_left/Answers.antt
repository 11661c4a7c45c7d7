-- One block more; and each set is in one of the blocks.
use Rattle.std.proofs.Common.{◌≡◌, ◌⊎◌, ℕ, ◌+◌, ◌<◌, sym, ap, subst, ◌∙◌, true≢false, inl, inr, arith}
use Rattle.pac_plan.specs.declared.parts.PlanParts.{PlanParts}
use Rattle.pac_sets.specs.declared.set_id.SetId.{SetId}
use Rattle.pac_core.specs.Moves.{IsSetUnfinished}
use Rattle.pac_core.proofs.progress.Progress.is_left.Goals as goal

below_more : (n m : ℕ) → n < m + 1 → (n < m) ⊎ (n ≡ m)
below_more n m lt = grind arith

pub loop-block-init : goal.loop-block-init
loop-block-init c = λ set batch lt left. omega (arith, lt)

pub loop-block-preserved : goal.loop-block-preserved
loop-block-preserved c = λ set batch lt left. go set batch left (below_more set.block c.loop-block.block lt)
  where
    go : (set : SetId) → set.batch ≡ c.args.batch → IsSetUnfinished c.args.self.now.sets.sets set → (set.block < c.loop-block.block) ⊎ (set.block ≡ c.loop-block.block) → ⊥
    go set batch left (inl less) = c.loop-block.invariant set batch less left
    go set batch left (inr e) = true≢false (sym (c.is_unfinished.ensures.1 (subst (IsSetUnfinished c.args.self.now.sets.sets) (λ k. record { batch = batch k; block = e k }) left)) ∙ c.if-is_unfinished.false)

pub returns : goal.returns
returns c = (
  (λ t. absurd (true≢false (sym t))),
  (λ u.
      let set = u.1 in
      let inside : set.block < c.args.self.now.pieces.blocks = c.requires.blocks u.0 _ u.3 in
      let blocks : c.blocks-block-end.result ≡ c.args.self.now.pieces.blocks = c.blocks-block-end.ensures ∙ ap (λ (p : PlanParts). p.blocks) (c.plan.ensures ∙ c.get.ensures) in
      let end = c.loop-block-test.false in
      let lt : set.block < c.loop-block.block = omega (arith, inside, blocks, end) in
      absurd (c.loop-block.invariant set u.4 lt (u.0, u.2, u.3))),
)
