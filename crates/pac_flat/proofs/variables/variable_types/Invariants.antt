-- The types so far.
use Rattle.std.proofs.Common.{◌≡◌, drop, take}
use Rattle.pac_flat.specs.FlatForm.{types_after}
use Rattle.pac_flat.proofs.variables.variable_types.Given as goal

abbrev pub invariant-loop-ty : goal.invariant-loop-ty
invariant-loop-ty l = l.vars.items ≡ take l.ty-index l.params

abbrev pub invariant-loop-op : goal.invariant-loop-op
invariant-loop-op l = types_after l.vars.items (drop l.op-index l.ops) ≡ types_after l.params l.ops
