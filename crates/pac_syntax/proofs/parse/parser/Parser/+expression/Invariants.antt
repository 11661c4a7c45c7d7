use Rattle.std.proofs.Common.{◌≡◌, ℕ, ◌≤◌, ◌+◌, ◌*◌, length}
use Rattle.pac_syntax.specs.Machine.{Steps, Begun, run}
use Rattle.pac_syntax.specs.Views.{begun_at, rests}
use Rattle.pac_syntax.proofs.parse.parser.Parser.+expression.Given as goal

-- first the tokens that are left, then how far the descent is from an operand

abbrev pub decreases-other_operand : goal.decreases-other_operand
decreases-other_operand l = 8 * length l.self.now.rest.now

abbrev pub decreases-unary : goal.decreases-unary
decreases-unary l = 8 * length l.self.now.rest.now + 1

abbrev pub decreases-negation : goal.decreases-negation
decreases-negation l = 8 * length l.self.now.rest.now + 2

abbrev pub decreases-enclosed : goal.decreases-enclosed
decreases-enclosed l = 8 * length l.self.now.rest.now + 3

abbrev pub decreases-whole : goal.decreases-whole
decreases-whole l = 8 * length l.self.now.rest.now + 2

abbrev pub decreases-chain : goal.decreases-chain
decreases-chain l = 8 * length l.self.now.rest.now

-- to read on after what was read is to read the whole
abbrev pub invariant-chain-loop-left : goal.invariant-chain-loop-left
invariant-chain-loop-left l = record {
  left : length l.self.rest.now ≤ length l.fn.self.rest.now;
  run : (k : Begun → ℕ → Steps) → run l.fn.self.end (rests l.parens 0 l.level k (begun_at l.fn.first) l.fn.self.operators) l.fn.self.rest.now ≡ run l.self.end (rests l.parens l.precedence l.level k (begun_at l.left) l.self.operators) l.self.rest.now;
}

abbrev pub decreases-chain-loop-left : goal.decreases-chain-loop-left
decreases-chain-loop-left l = length l.self.rest.now
