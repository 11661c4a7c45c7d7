-- A block that is passed has no piece.
use Rattle.std.proofs.Common.{◌≡◌, ◌≤◌, ◌<◌, ◌+◌, ℕ, Bool, true, false, nat_lt, ap, sym, ◌∙◌, refl, arith}
use Rattle.std.proofs.lemmas.Bool.Decides.{nat_tests}
use Rattle.pac_plan.specs.Pieces.{has_ops}
use Rattle.pac_plan.specs.Codes.{piece_ops}
use Rattle.pac_plan.specs.declared.parts.PlanParts.{PlanParts}
use Rattle.pac_in_order.proofs.blocks.first_block.Goals as goal

pub loop-block-preserved : goal.loop-block-preserved
loop-block-preserved c = λ x low high. pick x low high (nat_lt x c.loop-block.block) refl
  where
    pick : (x : ℕ) → c.args.from ≤ x → x < c.loop-block.block + 1 → (b : Bool) → nat_lt x c.loop-block.block ≡ b → has_ops (piece_ops c.args.plan.now x c.args.txn.now) ≡ false
    pick x low high true h = c.loop-block.invariant x low (grind (arith, nat_tests))
    pick x low high false h =
        let ge : c.loop-block.block ≤ x = grind (arith, nat_tests) in
        let same : x ≡ c.loop-block.block = omega (arith, ge, high) in
        ap (λ n. has_ops (piece_ops c.args.plan.now n c.args.txn.now)) same ∙ sym c.has_piece.ensures ∙ c.if-has_piece.false

pub returns : goal.returns
returns c = λ x low high.
    let end : c.blocks-block-end.result ≡ c.args.plan.now.blocks = c.blocks-block-end.ensures ∙ ap (λ (p : PlanParts). p.blocks) c.plan.ensures in
    let last = c.loop-block-test.false in
    c.loop-block.invariant x low (omega (arith, end, last, high))
