-- The values of the variables so far.
use Rattle.std.proofs.Common.{take}
use Rattle.pac_value.specs.Restricted.{HasOnly}
use Rattle.pac_core.proofs.values.find_values.Given as goal

abbrev pub invariant-loop-var : goal.invariant-loop-var
invariant-loop-var l = HasOnly (take l.var-index l.vars) l.kept l.env
