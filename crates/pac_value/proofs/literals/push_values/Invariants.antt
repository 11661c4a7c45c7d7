-- What is written, and what is left.
use Rattle.std.proofs.Common.{◌≡◌, ◌++◌, drop, flat_map}
use Rattle.pac_value.specs.Literals.{further_value_text, values_text}
use Rattle.pac_value.proofs.literals.push_values.Given as goal

abbrev pub invariant-loop-value : goal.invariant-loop-value
invariant-loop-value l = l.out.items ++ flat_map further_value_text (drop l.value-index l.others) ≡ l.fn.out.items ++ values_text l.fn.values
