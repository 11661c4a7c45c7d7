-- The variables of the items so far are added.
use Rattle.std.proofs.Common.{take}
use Rattle.pac_ops.specs.Effects.{used_in}
use Rattle.pac_keys.specs.Interfaces.{AddsVars}
use Rattle.pac_keys.proofs.uses.add_ops.Given as goal

abbrev pub invariant-loop-op : goal.invariant-loop-op
invariant-loop-op l = AddsVars (used_in (take l.op-index l.ops)) l.fn.vars.items l.vars.items
