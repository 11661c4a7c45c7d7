use Rattle.std.proofs.Common.{take}
use Rattle.std.specs.List.{AllByRecursion}
use Rattle.pac_lines.specs.Lines.{HasNoFeed}
use Rattle.pac_value.specs.Literals.{value_text}
use Rattle.pac_run.proofs.text.plain_values.Given as goal

abbrev pub invariant-loop-value : goal.invariant-loop-value
invariant-loop-value l = AllByRecursion (λ value. HasNoFeed (value_text value)) (take l.value-index l.values)
