-- What a feed gave, and how far it has been loaded.
use Rattle.std.specs.Prelude.{◌≡◌, ◌++◌, ℕ, Bool, false, List}
use Rattle.pac_value.specs.declared.values.Ty.{Ty}
use Rattle.pac_ops.specs.declared.batch.Batch.{Batch}
use Rattle.pac_ops.specs.declared.shapes.TableTypes.{TableTypes}
use Rattle.atomic_table.specs.Seated.{TableId}
use Rattle.atomic_table.specs.declared.shared.Seat.{Seat}
use Rattle.pac_workers.specs.Shown.{Tells, with_each}

-- between these states a feed gave these batches, and what its type says is known of that
pub record HasFed {F : Type 0} (so_far : F → List Batch) (gives : F → List Batch → F → Type 0) (old : F) (batches : List Batch) (new : F) : Type 0 where
  pub added : so_far new ≡ so_far old ++ batches
  pub known : gives old batches new

-- what a feed and a job have in common: the number of the next transaction, and the types
pub record AreAlikeIn {F M : Type 0} (feed_next : F → ℕ) (feed_params : F → List (List Ty)) (feed_tables : F → List TableTypes) (next_txn : M → ℕ) (params : M → List (List Ty)) (tables : M → List TableTypes) (feed : F) (all : M) : Type 0 where
  pub next_is : feed_next feed ≡ next_txn all
  pub params_are : feed_params feed ≡ params all
  pub tables_are : feed_tables feed ≡ tables all

-- From the old feed on these batches were given, and loaded: the twin told the job before, and tells the job with them.
pub record IsLoadedSoFar {F M : Type 0} (gives : F → List Batch → F → Type 0) (alike : F → M → Type 0) (job : M → M) (is_closed : M → Bool) (with_batch : M → Batch → M) (id : TableId) (old now : F) (before twin : Seat M (List M)) : Type 0 where
  pub all : M
  pub told : Tells job is_closed id all false before
  pub batches : List Batch
  pub given : gives old batches now
  pub tells : Tells job is_closed id (with_each with_batch all batches) false twin
  pub same : alike now (with_each with_batch all batches)
