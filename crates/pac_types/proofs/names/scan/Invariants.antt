use Rattle.std.proofs.Common.{◌≡◌, drop}
use Rattle.std.specs.Prelude.{bytes_eq}
use Rattle.std.specs.List.{position_from}
use Rattle.pac_types.specs.Numbering.{number_of}
use Rattle.pac_types.proofs.names.scan.Given as goal

-- the number is that among the names from here on
abbrev pub invariant-loop-i : goal.invariant-loop-i
invariant-loop-i l = number_of l.names l.name ≡ position_from (bytes_eq l.name) l.i (drop l.i l.names)
