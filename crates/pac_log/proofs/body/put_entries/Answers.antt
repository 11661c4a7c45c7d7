-- Each step writes one entry.
use Rattle.std.proofs.lemmas.List.Elements.{All-more}
use Rattle.pac_entry.specs.Entries.{txn_bytes, TxnHasBytes}
use Rattle.pac_entry.proofs.WrittenLemmas.{one_more}
use Rattle.pac_log.proofs.body.put_entries.Goals as goal

pub loop-txn-preserved : goal.loop-txn-preserved
loop-txn-preserved c = record {
  bytes = one_more txn_bytes _ _ _ c.args.txns.now c.loop-txn.txn-index c.txn-item.result c.loop-txn-test.true c.txn-item.is c.in_ok-write_entry.ensures.bytes c.loop-txn.invariant.bytes;
  form = All-more TxnHasBytes c.args.txns.now c.loop-txn.txn-index c.txn-item.result c.loop-txn-test.true c.loop-txn.invariant.form (rw (← c.txn-item.is) c.in_ok-write_entry.ensures.form);
}
