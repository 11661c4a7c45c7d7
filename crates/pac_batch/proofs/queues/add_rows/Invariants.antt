-- The accesses so far, and those that are left, are all.
use Rattle.std.proofs.Common.{◌≡◌, ◌++◌, drop}
use Rattle.pac_batch.specs.Queues.{rows_from}
use Rattle.pac_batch.proofs.queues.add_rows.Given as goal

abbrev pub invariant-loop-i : goal.invariant-loop-i
invariant-loop-i l = l.queued.items ++ rows_from l.i (drop l.i l.accesses) ≡ l.fn.queued.items ++ rows_from 0 l.accesses
