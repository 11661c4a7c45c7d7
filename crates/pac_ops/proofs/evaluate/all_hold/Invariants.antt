-- All conditions hold where those hold that are left.
use Rattle.std.proofs.Common.{◌≡◌, drop}
use Rattle.pac_ops.specs.Flat.{all_hold}
use Rattle.pac_ops.proofs.evaluate.all_hold.Given as goal

abbrev pub invariant-loop-cond : goal.invariant-loop-cond
invariant-loop-cond l = all_hold l.env (drop l.cond-index l.conds) ≡ all_hold l.env l.conds
