-- A list with no changes is a map with none.
use Rattle.std.proofs.Common.{ap, ◌∙◌}
use Rattle.std.specs.FinMap as map
use Rattle.pac_serial.proofs.WriteSetLemmas.{no-changes}
use Rattle.pac_serial.proofs.write_set.WriteSet.new.Goals as goal

pub returns : goal.returns
returns c = ap map.from_sorted c.new.ensures.items ∙ no-changes
