use Rattle.std.proofs.Common.{◌≡◌, ℕ, List, drop}
use Rattle.std.specs.Prelude.{bytes_eq, nat_eq}
use Rattle.std.specs.List.{position_from}
use Rattle.std.specs.Cmp.Lexicographic.{pointwise}
use Rattle.std.specs.HashMap.{get}
use Rattle.pac_types.proofs.names.map_of.Given as goal

-- the map has the numbers of the names from here on
abbrev pub invariant-loop-i : goal.invariant-loop-i
invariant-loop-i l = (name : List ℕ) → get (pointwise nat_eq) l.numbers name ≡ position_from (bytes_eq name) l.i (drop l.i l.names)
