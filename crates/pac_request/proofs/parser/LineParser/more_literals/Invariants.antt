use Rattle.std.proofs.Common.{◌≡◌, ◌≤◌, List, [], ◌∷◌, length}
use Rattle.pac_request.specs.declared.node.PlacedLiteral.{PlacedLiteral}
use Rattle.pac_request.specs.LineSteps.{LineSteps, MoreLiterals, line_run}
use Rattle.pac_request.proofs.parser.LineParser.more_literals.Given as goal

-- to read on after what was read is to read the whole
abbrev pub invariant-loop-self : goal.invariant-loop-self
invariant-loop-self l = record {
  left : length l.self.rest.now ≤ length l.fn.self.rest.now;
  run : (k : List PlacedLiteral → LineSteps) → line_run l.fn.self.end (MoreLiterals (record { at = l.fn.at; value = l.fn.value } ∷ []) k) l.fn.self.rest.now ≡ line_run l.self.end (MoreLiterals l.literals.items k) l.self.rest.now;
}

abbrev pub decreases-loop-self : goal.decreases-loop-self
decreases-loop-self l = length l.self.rest.now
