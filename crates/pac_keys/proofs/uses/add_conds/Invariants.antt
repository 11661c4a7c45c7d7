-- The variables of the items so far are added.
use Rattle.std.proofs.Common.{take}
use Rattle.pac_ops.specs.Uses.{conds_use}
use Rattle.pac_keys.specs.Interfaces.{AddsVars}
use Rattle.pac_keys.proofs.uses.add_conds.Given as goal

abbrev pub invariant-loop-cond : goal.invariant-loop-cond
invariant-loop-cond l = AddsVars (λ x. conds_use x (take l.cond-index l.conds)) l.fn.vars.items l.vars.items
