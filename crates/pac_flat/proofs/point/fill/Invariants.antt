-- The list grows up to the variable, and says the same.
use Rattle.std.proofs.Common.{◌≡◌, ◌+◌, ◌-◌, length}
use Rattle.pac_flat.specs.Names.{standing}
use Rattle.pac_flat.proofs.point.fill.Given as goal

abbrev pub invariant-loop-names : goal.invariant-loop-names
invariant-loop-names l = standing l.names.items ≡ standing l.initial.names.items

abbrev pub decreases-loop-names : goal.decreases-loop-names
decreases-loop-names l = l.var + 1 - length l.names.items
