-- The conditions so far, and those of the ones that are left, are all.
use Rattle.std.proofs.Common.{◌≡◌, ◌++◌, drop}
use Rattle.pac_keys.specs.Probes.{outer_conds}
use Rattle.pac_keys.proofs.defines.outer_conds.Given as goal

abbrev pub invariant-loop-cond : goal.invariant-loop-cond
invariant-loop-cond l = l.outer ++ outer_conds l.ops (drop l.cond-index l.conds) ≡ outer_conds l.ops l.conds
