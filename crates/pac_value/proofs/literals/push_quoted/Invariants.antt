-- What is written, and what is left.
use Rattle.std.proofs.Common.{◌≡◌, ◌++◌, ◌∷◌, [], drop}
use Rattle.pac_value.specs.Literals.{escaped}
use Rattle.pac_value.proofs.literals.push_quoted.Given as goal

abbrev pub invariant-loop-byte : goal.invariant-loop-byte
invariant-loop-byte l = l.out.items ++ escaped (drop l.byte-index l.byte-items) ≡ (l.fn.out.items ++ 34 ∷ []) ++ escaped l.byte-items
