-- The keys all differ, so there are as many entries as keys.
use Rattle.std.proofs.Common.{ap, ◌∙◌}
use Rattle.std.specs.FinMap as map
use Rattle.pac_tables.proofs.HashedLemmas.{length-keys}
use Rattle.pac_tables.proofs.hashed.HashedTableTableRows.count.Goals as goal

pub returns : goal.returns
returns c = c.len.ensures.len ∙ length-keys c.self.inside.rows.entries c.len.ensures.unique ∙ ap map.len c.self.view_is
