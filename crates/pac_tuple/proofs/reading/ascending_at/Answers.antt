-- What is read are as many images, and they ascend.
use Rattle.pac_tuple.proofs.ReadingLemmas.{count_read, order_read}
use Rattle.pac_tuple.proofs.reading.ascending_at.Goals as goal

pub returns-clause-count : goal.returns-clause-count
returns-clause-count c = count_read c.args.cat.now.tables c.args.count c.args.bytes.now c.args.at (λ v. v.items) c.read_ascending.result c.read_ascending.ensures

pub returns-clause-ascend : goal.returns-clause-ascend
returns-clause-ascend c = order_read c.args.cat.now.tables c.args.count c.args.bytes.now c.args.at (λ v. v.items) c.read_ascending.result c.read_ascending.ensures
