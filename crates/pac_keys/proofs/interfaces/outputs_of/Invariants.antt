-- Of the operations so far, the variables that they define and others use are there.
use Rattle.std.proofs.Common.{◌&&◌, [], take}
use Rattle.std.specs.List.{list_any}
use Rattle.pac_ops.specs.Effects.{NumberedOp, is_var}
use Rattle.pac_ops.specs.Uses.{defined_variable}
use Rattle.pac_keys.specs.Interfaces.{AddsVars, is_used_outside}
use Rattle.pac_keys.proofs.interfaces.outputs_of.Given as goal

abbrev pub invariant-loop-op : goal.invariant-loop-op
invariant-loop-op l = AddsVars (λ x. list_any (λ (o : NumberedOp). is_var x (defined_variable o.1.kind) && is_used_outside l.fn.code l.fn.proc l.fn.block x) (take l.op-index l.op-items)) [] l.vars.items
