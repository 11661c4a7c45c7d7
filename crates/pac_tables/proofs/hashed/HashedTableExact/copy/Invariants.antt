-- What is left, put before what is copied, is the table.
use Rattle.std.proofs.Common.{◌≡◌, length}
use Rattle.pac_tables.proofs.CopyLemmas.{preceding}
use Rattle.pac_tables.proofs.hashed.HashedTableExact.copy.Given as goal

abbrev pub invariant-loop-key : goal.invariant-loop-key
invariant-loop-key l = preceding l.left l.copy ≡ l.fn.self

abbrev pub decreases-loop-key : goal.decreases-loop-key
decreases-loop-key l = length l.left
