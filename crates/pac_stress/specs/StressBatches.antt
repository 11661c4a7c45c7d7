-- The transactions of the stress test in batches of 64.
use Rattle.std.specs.Prelude.{ℕ, zero, suc, ◌+◌, ◌*◌, ◌/◌, ◌%◌, List, [], ◌∷◌, ◌++◌, map}
use Rattle.std.specs.List.{range_with_len}
use Rattle.pac_ops.specs.declared.batch.Batch.{Batch}
use Rattle.pac_ops.specs.declared.transaction.Txn.{Txn}
use Rattle.pac_script.specs.Stress.{stress_txn}

-- that many transactions, from a number on
abbrev pub stress_txns : ℕ → ℕ → List Txn
stress_txns first count = map stress_txn (range_with_len first count)

-- the same as a batch
abbrev pub stress_batch : ℕ → ℕ → Batch
stress_batch first count = record { first = first; txns = stress_txns first count }

-- the whole batch with a number, from 0 on
abbrev pub whole_batch : ℕ → Batch
whole_batch k = stress_batch (k * 64 + 1) 64

-- that many whole batches, from one on
abbrev pub whole_batches : ℕ → ℕ → List Batch
whole_batches k count = map whole_batch (range_with_len k count)

-- what is left after them, if anything is
abbrev pub last_batch : ℕ → ℕ → List Batch
last_batch first zero = []
last_batch first (suc more) = stress_batch first (suc more) ∷ []

-- the transactions from 1 to a number: as many whole batches as they make, and what is left
abbrev pub stress_batches : ℕ → List Batch
stress_batches count = whole_batches 0 (count / 64) ++ last_batch (count / 64 * 64 + 1) (count % 64)
