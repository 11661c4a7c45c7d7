use Rattle.pac_commute.proofs.OneTxn.{blocks_in_order, blocks_give_txn}
use Rattle.pac_commute.proofs.inside_one_transaction.Goals as goal

pub returns : goal.returns
returns c = record { blocks = blocks_in_order; meaning = blocks_give_txn }
