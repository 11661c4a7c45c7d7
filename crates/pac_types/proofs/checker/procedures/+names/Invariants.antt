use Rattle.std.proofs.Common.{◌≡◌, ◌++◌, take}
use Rattle.std.specs.List.{flat_map}
use Rattle.pac_types.specs.Numbering.{defined}
use Rattle.pac_types.proofs.checker.procedures.+names.Given as goal

-- the names so far
abbrev pub invariant-add_names-loop-node : goal.invariant-add_names-loop-node
invariant-add_names-loop-node l = l.names.items ≡ l.fn.names.items ++ flat_map defined (take l.node-index l.nodes)
