use Rattle.std.proofs.Common.{◌≡◌, take, map}
use Rattle.pac_types.proofs.checker.names_of_procs.Given as goal

-- the names so far
abbrev pub invariant-loop-node : goal.invariant-loop-node
invariant-loop-node l = l.names.items ≡ map (λ node. node.name.name) (take l.node-index l.nodes)
