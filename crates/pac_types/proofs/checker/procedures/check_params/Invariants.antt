use Rattle.std.proofs.Common.{◌≡◌, ◌+◌, drop}
use Rattle.pac_types.specs.Checking.{checked_params}
use Rattle.pac_types.proofs.checker.procedures.check_params.Given as goal

-- what is left gives what all give
abbrev pub invariant-loop-node : goal.invariant-loop-node
invariant-loop-node l = record {
  next : l.scope.next ≡ l.fn.scope.next + l.node-index;
  rest : checked_params l.nodes l.fn.scope ≡ checked_params (drop l.node-index l.nodes) l.scope;
}
