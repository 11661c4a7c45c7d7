-- The bytes so far are those of the transactions so far.
use Rattle.std.proofs.Common.{◌≡◌, ◌≤◌, ◌*◌, length, take}
use Rattle.pac_entry.specs.declared.length.TheConstants.{MAX_ENTRY_LEN}
use Rattle.pac_log.specs.Bodies.{entries_bytes}
use Rattle.pac_log.proofs.body.entries_len.Given as goal

abbrev pub invariant-loop-txn : goal.invariant-loop-txn
invariant-loop-txn l = record {
  exact : l.len ≡ length (entries_bytes (take l.txn-index l.txns));
  few : l.len ≤ MAX_ENTRY_LEN * l.txn-index;
}
