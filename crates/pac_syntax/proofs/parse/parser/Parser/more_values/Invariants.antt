use Rattle.std.proofs.Common.{◌≡◌, ◌≤◌, List, [], ◌∷◌, length}
use Rattle.pac_syntax.specs.declared.tree.ExprNode.{ExprNode}
use Rattle.pac_syntax.specs.Machine.{Steps, MoreValues, run}
use Rattle.pac_syntax.proofs.parse.parser.Parser.more_values.Given as goal

-- to read on after what was read is to read the whole
abbrev pub invariant-loop-self : goal.invariant-loop-self
invariant-loop-self l = record {
  left : length l.self.rest.now ≤ length l.fn.self.rest.now;
  run : (k : List ExprNode → Steps) → run l.fn.self.end (MoreValues (l.fn.first ∷ []) k) l.fn.self.rest.now ≡ run l.self.end (MoreValues l.values.items k) l.self.rest.now;
}

abbrev pub decreases-loop-self : goal.decreases-loop-self
decreases-loop-self l = length l.self.rest.now
