-- A list with no changes is a map with none.
use Rattle.std.proofs.Common.{ap, ◌∙◌}
use Rattle.std.specs.FinMap as map
use Rattle.pac_serial.proofs.WriteSetLemmas.{no-changes}
use Rattle.pac_serial.proofs.write_set.WriteSet.clear.Goals as goal

pub returns : goal.returns
returns c = ap map.from_sorted c.clear.ensures.items ∙ no-changes
