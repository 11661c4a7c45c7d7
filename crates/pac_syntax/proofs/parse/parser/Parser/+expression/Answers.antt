use Rattle.std.proofs.Common.{ℕ, ◌≡◌, ◌∙◌, ap, arith}
use Rattle.std.proofs.lemmas.Result.{err_from_is_err_and}
use Rattle.pac_syntax.specs.Grammar.{precedence}
use Rattle.pac_syntax.specs.Machine.{Begun, Steps, begun_binary, run}
use Rattle.pac_syntax.specs.Views.{begun_at, rests, next_precedence}
use Rattle.pac_syntax.proofs.Stepping.{level_begins, right_begins, negation_next, negation_past, paren_next, paren_past, fails_along, gives_along}
use Rattle.pac_syntax.proofs.parse.parser.Parser.+expression.Goals as goal
use Rattle.pac_syntax.proofs.parse.parser.Parser.+expression.Goals.{chain-then-sees_operator+in_ok-right-2, chain-else-sees_operator}

-- ---- a name, a literal, a negation or parentheses

pub other_operand-returns-in_err-count-clause-run : goal.other_operand-returns-in_err-count-clause-run
other_operand-returns-in_err-count-clause-run t c =
    let p = err_from_is_err_and c.from_residual.result c.from_residual.ensures.1 in
    let sign = c.in-Some.ensures in
    λ k. rw (p.1, p.2, c.in_err-count.ensures.err.1) (negation_past _ _ _ _ _ k _ _ sign.operators c.in_err-count.ensures.err.0 sign.token)

pub other_operand-returns-in-Some-clause-run : goal.other_operand-returns-in-Some-clause-run
other_operand-returns-in-Some-clause-run t c = λ k.
    let sign = c.in-Some.ensures in
    let count = c.in_ok-count.ensures in
    gives_along _ c.negation.result _ _
    (negation_next _ _ _ _ _ _ _ k _ _ _ (count.end ∙ sign.end) sign.operators count.ok.1 count.ok.0 (ap (λ r. r.now) count.rest) sign.token)
    (c.negation.ensures.run k)

pub other_operand-returns-then-parens-ge-MAX_PARENS-clause-run : goal.other_operand-returns-then-parens-ge-MAX_PARENS-clause-run
other_operand-returns-then-parens-ge-MAX_PARENS-clause-run t c = λ k.
    let not = c.in_default.ensures in
    paren_past _ _ _ _ k _ _ c.if-parens-ge-MAX_PARENS.true (rw not.token.0 at c.in-Some-takes_symbol.ensures.token)

pub other_operand-returns-in-Some-takes_symbol-clause-run : goal.other_operand-returns-in-Some-takes_symbol-clause-run
other_operand-returns-in-Some-takes_symbol-clause-run t c = λ k.
    let not = c.in_default.ensures in
    let sign = c.in-Some-takes_symbol.ensures in
    gives_along _ c.enclosed.result _ _
    (paren_next _ _ _ _ _ _ k _ _ (sign.end ∙ not.end) (sign.operators ∙ not.operators) c.if-parens-ge-MAX_PARENS.false (rw not.token.0 at sign.token))
    (c.enclosed.ensures.run k)

-- ---- whole expressions

pub whole-returns-in_err-left-clause-run : goal.whole-returns-in_err-left-clause-run
whole-returns-in_err-left-clause-run t c =
    let p = err_from_is_err_and c.from_residual.result c.from_residual.ensures.1 in
    λ k. rw (p.1, p.2) (fails_along _ _ _ (level_begins _ _ 5 _ k _) (c.in_err-left.ensures.run _))

pub whole-returns-clause-run : goal.whole-returns-clause-run
whole-returns-clause-run t c = λ k. gives_along _ c.chain.result _ _ (level_begins _ _ 5 _ k _ ∙ c.in_ok-left.ensures.run _) (c.chain.ensures.run k)

pub whole-returns-then-not-sees_operator-clause-run : goal.whole-returns-then-not-sees_operator-clause-run
whole-returns-then-not-sees_operator-clause-run t c = λ k. level_begins _ _ 5 _ k _ ∙ c.in_ok-left.ensures.run _ ∙ c.sees_operator.ensures _ _ k _ c.if-not-sees_operator.true

-- ---- operators and their right operands

pub chain-returns-in_err-right-clause-run : goal.chain-returns-in_err-right-clause-run
chain-returns-in_err-right-clause-run t c =
    let p = err_from_is_err_and c.from_residual-in_err-right.result c.from_residual-in_err-right.ensures.1 in
    λ k. rw (p.1, p.2) (fails_along _ _ _
    (c.loop-left.invariant.run k ∙ (rw c.in-Some.is at c.in_ok-op.ensures.run c.args.parens (begun_at c.loop-left.left) k) ∙ right_begins _ _ _ _ _ _ _ c.precedence_of-own.ensures)
    (c.in_err-right.ensures.run _))

pub chain-returns-in_err-right-2-clause-run : goal.chain-returns-in_err-right-2-clause-run
chain-returns-in_err-right-2-clause-run t c =
    let p = err_from_is_err_and c.from_residual-in_err-right-2.result c.from_residual-in_err-right-2.ensures.1 in
    λ k. rw (p.1, p.2) (fails_along _ _ _
    (c.loop-left.invariant.run k ∙ (rw c.in-Some.is at c.in_ok-op.ensures.run c.args.parens (begun_at c.loop-left.left) k) ∙ right_begins _ _ _ _ _ _ _ c.precedence_of-own.ensures ∙ c.in_ok-right.ensures.run _)
    (c.in_err-right-2.ensures.run _))

pub chain-loop-left-preserved : goal.chain-loop-left-preserved
chain-loop-left-preserved t c =
    let read : (k : Begun → ℕ → Steps) → run c.args.self.now.end (rests c.args.parens 0 c.args.level k (begun_at c.args.first) c.args.self.now.operators) c.args.self.now.rest.now
    ≡ run c.unary.new.self.end (rests c.args.parens 0 c.precedence_of-own.result (λ y o. rests c.args.parens (next_precedence (precedence c.in-Some.op)) c.args.level k (begun_binary c.in-Some.op (begun_at c.loop-left.left) y) o) (begun_at c.in_ok-right.right) c.unary.new.self.operators) c.unary.new.self.rest.now
    = λ k. c.loop-left.invariant.run k ∙ (rw c.in-Some.is at c.in_ok-op.ensures.run c.args.parens (begun_at c.loop-left.left) k) ∙ right_begins _ _ _ _ _ _ _ c.precedence_of-own.ensures ∙ c.in_ok-right.ensures.run _ in
    elim c.if-sees_operator.branch [
      | chain-then-sees_operator+in_ok-right-2 w ↦ record { left = rw w.self-is (omega (arith, c.loop-left.invariant.left, c.in_ok-op.ensures.left, c.in_ok-right.ensures.shorter, w.in_ok-right-2.ensures.left)); run = λ k. rw (c.in_ok-left.ensures, c.next_precedence-precedence.ensures, c.precedence_of-own.ensures, w.self-is, w.right-is) (read k ∙ w.in_ok-right-2.ensures.run _) }
      | chain-else-sees_operator w ↦ record { left = rw w.self-is (omega (arith, c.loop-left.invariant.left, c.in_ok-op.ensures.left, c.in_ok-right.ensures.shorter)); run = λ k. rw (c.in_ok-left.ensures, c.next_precedence-precedence.ensures, c.precedence_of-own.ensures, w.self-is, w.right-is) (read k ∙ c.sees_operator.ensures _ _ _ _ w.if-sees_operator.false) }
    ]
