-- The transactions of the test fit the bank's catalogue.
use Rattle.std.proofs.Common.{ℕ, zero, suc, ◌+◌, ◌*◌, ◌/◌, ◌%◌, Bool, true, false, List, [], ◌∷◌, ◌++◌, refl, sym, subst}
use Rattle.std.specs.Prelude.{nat_eq, nat_le, if◌then◌else◌}
use Rattle.std.specs.List.{AllByRecursion}
use Rattle.pac_ops.specs.declared.batch.Batch.{Batch}
use Rattle.pac_types.specs.Fits.{TxnFits}
use Rattle.pac_types.specs.Typing.{CatalogueState}
use Rattle.pac_restore.specs.Batches.{FitBatches}
use Rattle.pac_script.specs.Stress.{deposit, family, mixed, stress_txn, transfer}
use Rattle.pac_stress.specs.BankCatalogue.{bank_catalogue}
use Rattle.pac_stress.specs.StressBatches.{last_batch, stress_batches, stress_txns, whole_batches}
use Rattle.pac_stress.proofs.BankTyping.{is-written, written}

of_turn : (m : ℕ) (last early : Bool) → TxnFits written (if last then family m else (if early then transfer m else deposit m))
of_turn m true early = ((refl, refl), tt)
of_turn m false true = refl
of_turn m false false = refl

one_fits : (i : ℕ) → TxnFits written (stress_txn i)
one_fits i = of_turn (mixed i) (nat_eq (i % 8) 0) (nat_le (i % 8) 3)

txns_fit : (first count : ℕ) → AllByRecursion (TxnFits written) (stress_txns first count)
txns_fit first zero = tt
txns_fit first (suc count) = (one_fits first, txns_fit (first + 1) count)

whole_fit : (k count : ℕ) → FitBatches written (whole_batches k count)
whole_fit k zero = tt
whole_fit k (suc count) = (txns_fit (k * 64 + 1) 64, whole_fit (k + 1) count)

last_fits : (first left : ℕ) → FitBatches written (last_batch first left)
last_fits first zero = tt
last_fits first (suc more) = (txns_fit first (suc more), tt)

both_fit : (xs ys : List Batch) → FitBatches written xs → FitBatches written ys → FitBatches written (xs ++ ys)
both_fit [] ys a b = b
both_fit (x ∷ xs) ys a b = (a.0, both_fit xs ys a.1 b)

pub stress-fits : (count : ℕ) → FitBatches bank_catalogue (stress_batches count)
stress-fits count = subst (λ (c : CatalogueState). FitBatches c (stress_batches count)) (sym is-written)
    (both_fit (whole_batches 0 (count / 64)) (last_batch (count / 64 * 64 + 1) (count % 64)) (whole_fit 0 (count / 64)) (last_fits (count / 64 * 64 + 1) (count % 64)))
