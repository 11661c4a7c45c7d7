-- The variables of the items so far are added.
use Rattle.std.proofs.Common.{take}
use Rattle.pac_ops.specs.Uses.{exprs_use}
use Rattle.pac_keys.specs.Interfaces.{AddsVars}
use Rattle.pac_keys.proofs.uses.add_exprs.Given as goal

abbrev pub invariant-loop-expr : goal.invariant-loop-expr
invariant-loop-expr l = AddsVars (λ x. exprs_use x (take l.expr-index l.exprs)) l.fn.vars.items l.vars.items
