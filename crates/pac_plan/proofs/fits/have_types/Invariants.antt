-- The values have the types exactly where those that are left do.
use Rattle.std.proofs.Common.{◌≡◌, ◌↔◌, map, drop}
use Rattle.pac_value.specs.Values.{type_of}
use Rattle.pac_plan.proofs.fits.have_types.Given as goal

abbrev pub invariant-loop-i : goal.invariant-loop-i
invariant-loop-i l = (map type_of l.values ≡ l.types) ↔ (map type_of (drop l.i l.values) ≡ drop l.i l.types)
