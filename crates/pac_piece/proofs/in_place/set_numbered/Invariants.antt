-- The values that are left make of those so far what all make.
use Rattle.std.proofs.Common.{◌≡◌, drop}
use Rattle.std.specs.FinMap.{empty}
use Rattle.pac_ops.specs.Operations.{with_values}
use Rattle.pac_piece.proofs.in_place.set_numbered.Given as goal

abbrev pub invariant-loop-i : goal.invariant-loop-i
invariant-loop-i l = with_values l.i (drop l.i l.values) l.env ≡ with_values 0 l.values empty
