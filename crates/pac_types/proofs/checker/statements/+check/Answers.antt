-- A conditional or a loop is itself and the statements in its blocks.
use Rattle.std.proofs.Common.{◌≡◌, ◌+◌, suc, arith, ap, ◌∙◌}
use Rattle.pac_syntax.specs.Limits.{size, sizes}
use Rattle.pac_types.proofs.CheckLemmas.{size_of_if, size_of_for}
use Rattle.pac_types.specs.Checking.{ScopeState}
use Rattle.pac_types.proofs.checker.statements.+check.Goals as goal

pub check_stmt-check_block-requires : goal.check_stmt-check_block-requires
check_stmt-check_block-requires t c =
    let parts : size c.args.node.now ≡ suc (sizes c.in-If.first + sizes c.in-If.second) = ap size c.in-If.is ∙ size_of_if c.in-If.test c.in-If.first c.in-If.second in
    let here = ap sizes c.as_slice-in-If.ensures in
    (omega (arith, c.decreases, parts, here), omega (arith, c.requires.fits, parts, here, ap (λ (s : ScopeState). s.next) c.hide-var.ensures.known))

pub check_stmt-check_block-requires-in-If : goal.check_stmt-check_block-requires-in-If
check_stmt-check_block-requires-in-If t c =
    let parts : size c.args.node.now ≡ suc (sizes c.in-If.first + sizes c.in-If.second) = ap size c.in-If.is ∙ size_of_if c.in-If.test c.in-If.first c.in-If.second in
    let here = ap sizes c.as_slice-in-If.ensures in
    let there = ap sizes c.as_slice-in-If-2.ensures in
    (omega (arith, c.decreases, parts, there), omega (arith, c.requires.fits, parts, here, there, c.in_ok-first-in-If.ensures.room, ap (λ (s : ScopeState). s.next) c.hide-var.ensures.known))

pub check_stmt-check_block-requires-in-For : goal.check_stmt-check_block-requires-in-For
check_stmt-check_block-requires-in-For t c =
    let parts : size c.args.node.now ≡ suc (sizes c.in-For.body) = ap size c.in-For.is ∙ size_of_for c.in-For.name c.in-For.from c.in-For.to c.in-For.body in
    let here = ap sizes c.as_slice-in-For.ensures in
    (omega (arith, c.decreases, parts, here), omega (arith, c.requires.fits, parts, here, ap (λ (s : ScopeState). s.next) c.in_ok-var-in-For.ensures.known))
