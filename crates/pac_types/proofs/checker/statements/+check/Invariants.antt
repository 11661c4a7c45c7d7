use Rattle.std.proofs.Common.{◌≡◌, ◌≤◌, ◌+◌, ◌*◌, ◌++◌, drop, length, Ok}
use Rattle.pac_value.specs.Expressions.{◌>>=◌}
use Rattle.pac_syntax.specs.Limits.{size, sizes}
use Rattle.pac_types.specs.Checking.{checked_run}
use Rattle.pac_types.proofs.checker.statements.+check.Given as goal

-- the blocks of a statement have fewer statements
abbrev pub decreases-check_stmt : goal.decreases-check_stmt
decreases-check_stmt l = 2 * size l.node.now

abbrev pub decreases-check_block : goal.decreases-check_block
decreases-check_block l = 2 * sizes l.nodes.now + 1

-- what is left gives what is after the statements so far
abbrev pub invariant-check_block-loop-i : goal.invariant-check_block-loop-i
invariant-check_block-loop-i l = record {
  left : sizes (drop l.i l.nodes) ≤ sizes l.nodes;
  room : l.scope.next + sizes (drop l.i l.nodes) ≤ l.fn.scope.next + sizes l.nodes;
  start : l.start ≡ length l.fn.scope.known;
  rest : checked_run l.tables l.nodes l.fn.scope ≡ (checked_run l.tables (drop l.i l.nodes) l.scope >>= λ more. Ok (l.stmts.items ++ more.0, more.1));
}
