-- The batches of a script run on from the first transaction.
use Rattle.std.proofs.Common.{◌≡◌, ℕ, ◌+◌, ◌-◌, ◌^◌, ◌<◌, List, [], ◌∷◌, length, refl, subst, arith}
use Rattle.std.proofs.lemmas.List.{length-append}
use Rattle.pac_ops.specs.declared.batch.Batch.{Batch}
use Rattle.pac_ops.specs.declared.transaction.Txn.{Txn}
use Rattle.pac_restore.specs.Batches.{RunOn, txns_in}
use Rattle.pac_script.specs.Batches.{as_batches}
use Rattle.pac_script.specs.BatchFits.{BatchesHaveNumbers}

made : (before : ℕ) (parts : List (List Txn)) → RunOn before (as_batches (before + 1) parts)
made before [] = tt
made before (part ∷ parts) = (refl, subst (λ (n : ℕ). RunOn (before + length part) (as_batches n parts)) (omega arith) (made (before + length part) parts))

-- batches that parts are made into run on
pub running-batches : (parts : List (List Txn)) (batches : List Batch) → as_batches 1 parts ≡ batches → RunOn 0 batches
running-batches parts batches is = subst (RunOn 0) is (made 0 parts)

-- their transactions are few, where the last one has a number
pub few-run : (before : ℕ) (batches : List Batch) → RunOn before batches → BatchesHaveNumbers batches → before < 2 ^ 64 - 1 → before + length (txns_in batches) < 2 ^ 64 - 1
few-run before [] runs small few = omega (arith, few)
few-run before (batch ∷ batches) runs small few =
    let rest = few-run (before + length batch.txns) batches runs.1 small.1 (omega (arith, runs.0, small.0)) in
    omega (arith, rest, length-append batch.txns (txns_in batches))
