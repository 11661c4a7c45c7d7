use Rattle.std.proofs.Common.{◌≡◌, ◌≤◌, ◌+◌, ◌*◌, List, [], length}
use Rattle.pac_syntax.specs.declared.tree.StmtNode.{StmtNode}
use Rattle.pac_syntax.specs.Machine.{Steps, MoreStmts, run}
use Rattle.pac_syntax.proofs.parse.parser.Parser.+statement.Given as goal

-- first the tokens that are left, then how far the descent is from a block

abbrev pub decreases-if_rest : goal.decreases-if_rest
decreases-if_rest l = 8 * length l.self.now.rest.now + 4

abbrev pub decreases-for_rest : goal.decreases-for_rest
decreases-for_rest l = 8 * length l.self.now.rest.now + 4

abbrev pub decreases-otherwise : goal.decreases-otherwise
decreases-otherwise l = 8 * length l.self.now.rest.now + 1

abbrev pub decreases-block : goal.decreases-block
decreases-block l = 8 * length l.self.now.rest.now + 3

abbrev pub decreases-statement_rest : goal.decreases-statement_rest
decreases-statement_rest l = 8 * length l.self.now.rest.now + 5

abbrev pub decreases-statements : goal.decreases-statements
decreases-statements l = 8 * length l.self.now.rest.now + 2

-- to read on after what was read is to read the whole
abbrev pub invariant-statements-loop-statements : goal.invariant-statements-loop-statements
invariant-statements-loop-statements l = record {
  left : length l.self.rest.now ≤ length l.fn.self.rest.now;
  run : (k : List StmtNode → Steps) → run l.fn.self.end (MoreStmts l.around [] k) l.fn.self.rest.now ≡ run l.self.end (MoreStmts l.around l.statements.items k) l.self.rest.now;
}

abbrev pub decreases-statements-loop-statements : goal.decreases-statements-loop-statements
decreases-statements-loop-statements l = length l.self.rest.now
