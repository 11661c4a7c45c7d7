-- What is written so far are the entries so far.
use Rattle.std.proofs.Common.{◌≡◌, ◌++◌, take}
use Rattle.std.specs.List.{All}
use Rattle.pac_entry.specs.Entries.{TxnHasBytes}
use Rattle.pac_log.specs.Bodies.{entries_bytes}
use Rattle.pac_log.proofs.body.put_entries.Given as goal

abbrev pub invariant-loop-txn : goal.invariant-loop-txn
invariant-loop-txn l = record {
  bytes : l.out.items ≡ l.fn.out.items ++ entries_bytes (take l.txn-index l.txns);
  form : All TxnHasBytes (take l.txn-index l.txns);
}
