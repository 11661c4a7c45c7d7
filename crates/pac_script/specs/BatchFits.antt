-- Batches that fit a catalogue.
use Rattle.std.specs.Prelude.{◌+◌, ◌^◌, ◌<◌, List, length}
use Rattle.std.specs.List.{AllByRecursion}
use Rattle.pac_ops.specs.declared.batch.Batch.{Batch}
use Rattle.pac_types.specs.Fits.{TxnFits}
use Rattle.pac_types.specs.Typing.{CatalogueState}

-- each transaction of the batches fits the catalogue
abbrev pub BatchesFit : CatalogueState → List Batch → Type 0
BatchesFit catalogue batches = AllByRecursion (λ batch. AllByRecursion (TxnFits catalogue) batch.txns) batches

-- the number of each transaction of the batches, and the one after each batch, has 64 bits
abbrev pub BatchesHaveNumbers : List Batch → Type 0
BatchesHaveNumbers batches = AllByRecursion (λ batch. batch.first + length batch.txns < 2 ^ 64) batches
