-- What is read is a row of the table.
use Rattle.std.proofs.Common.{arith}
use Rattle.pac_check.proofs.LoadingLemmas.{row-unless-memory}
use Rattle.pac_check.proofs.rows.keyed_row_at.Goals as goal

pub returns-clause-row : goal.returns-clause-row
returns-clause-row c = row-unless-memory c.args.table.now _ c.args.bytes.now c.args.at (λ i. omega (arith, c.type_inv.bytes i)) c.read_keyed_row.result c.read_keyed_row.ensures
