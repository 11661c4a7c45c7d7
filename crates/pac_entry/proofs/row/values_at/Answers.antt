-- What is read has the types of the columns.
use Rattle.std.proofs.Common.{arith}
use Rattle.pac_entry.proofs.RowLemmas.{count_read, stored_read}
use Rattle.pac_entry.proofs.row.values_at.Goals as goal

pub returns-clause-count : goal.returns-clause-count
returns-clause-count c = count_read (λ v. v.items) c.args.columns.now c.args.bytes.now c.args.at c.read_values.result (λ i. omega (arith, c.type_inv.bytes i)) c.read_values.ensures

pub returns-clause-stored : goal.returns-clause-stored
returns-clause-stored c = stored_read (λ v. v.items) c.args.columns.now c.args.bytes.now c.args.at c.read_values.result (λ i. omega (arith, c.type_inv.bytes i)) c.read_values.ensures
