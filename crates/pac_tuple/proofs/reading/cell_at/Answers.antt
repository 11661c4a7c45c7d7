-- The key stands within the bytes.
use Rattle.pac_tuple.proofs.CellLemmas.{cell_within}
use Rattle.pac_tuple.proofs.reading.cell_at.Goals as goal

pub returns-clause-within : goal.returns-clause-within
returns-clause-within c = cell_within c.args.cat.now.tables c.args.bytes.now c.args.at c.changed_cell_at.result c.changed_cell_at.ensures
