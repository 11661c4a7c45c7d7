-- The number after those of one batch more.
use Rattle.std.proofs.Common.{◌≡◌, ◌+◌, List, length, ap, ◌∙◌, arith}
use Rattle.std.proofs.lemmas.List.{length-append}
use Rattle.pac_ops.specs.declared.batch.Batch.{Batch}
use Rattle.pac_ops.specs.declared.transaction.Txn.{Txn}
use Rattle.pac_commute.specs.Loads.{Job, and_batch, next_in_job}
use Rattle.pac_commute.specs.PlanLaws.{txns_of}
use Rattle.pac_commute.proofs.BatchLemmas.{txns-more}

pub next_after : (job : Job) (batches : List Batch) (batch : Batch) → next_in_job job (and_batch batches batch) ≡ next_in_job job batches + length batch.txns
next_after job batches batch =
    let more : length (txns_of (and_batch batches batch)) ≡ length (txns_of batches) + length batch.txns = ap (λ (txns : List Txn). length txns) (txns-more batches batch) ∙ length-append (txns_of batches) batch.txns in
    omega (arith, more)
