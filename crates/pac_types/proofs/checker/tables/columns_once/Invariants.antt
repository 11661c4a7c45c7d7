use Rattle.std.proofs.Common.{◌≡◌, drop}
use Rattle.pac_types.specs.Checking.{all_once, names_of}
use Rattle.pac_types.proofs.checker.tables.columns_once.Given as goal

-- what is left gives what all give
abbrev pub invariant-loop-i : goal.invariant-loop-i
invariant-loop-i l = all_once (names_of l.nodes) 0 l.nodes ≡ all_once (names_of l.nodes) l.i (drop l.i l.nodes)
