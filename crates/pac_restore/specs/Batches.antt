-- Batches that run on.
use Rattle.std.specs.Prelude.{◌≡◌, ◌+◌, ℕ, List, [], ◌∷◌, length, map}
use Rattle.std.specs.List.{AllByRecursion}
use Rattle.pac_ops.specs.declared.batch.Batch.{Batch}
use Rattle.pac_ops.specs.declared.transaction.Txn.{Txn}
use Rattle.pac_types.specs.Fits.{TxnFits}
use Rattle.pac_types.specs.Typing.{CatalogueState}
use Rattle.pac_log.specs.Logs.{all_txns}

-- the transactions of each batch
abbrev pub txns_by_batch : List Batch → List (List Txn)
txns_by_batch batches = map (λ batch. batch.txns) batches

-- the transactions of batches, one after another
abbrev pub txns_in : List Batch → List Txn
txns_in batches = all_txns (txns_by_batch batches)

-- each batch begins after the transactions of the one before, and the first after that many
abbrev pub RunOn : ℕ → List Batch → Type 0
RunOn before [] = Unit {0}
RunOn before (batch ∷ batches) = (batch.first ≡ before + 1) × RunOn (before + length batch.txns) batches

-- each transaction of each batch fits the catalogue
abbrev pub FitBatches : CatalogueState → List Batch → Type 0
FitBatches catalogue batches = AllByRecursion (λ batch. AllByRecursion (TxnFits catalogue) batch.txns) batches
