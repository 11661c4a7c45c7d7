-- What a twin shows of a machine: its job, and whether no more pieces come.
use Rattle.std.specs.Prelude.{◌≡◌, ◌+◌, ℕ, Bool, true, false, List, [], ◌∷◌, length}
use Rattle.std.specs.Coded.{Coded}
use base.Stored.{Gv, gnil}
use Rattle.atomic_table.specs.Seated.{TableId}
use Rattle.atomic_table.specs.declared.shared.Seat.{Seat}
use Rattle.pac_value.specs.declared.values.Ty.{Ty}
use Rattle.pac_ops.specs.declared.batch.Batch.{Batch}
use Rattle.pac_ops.specs.declared.shapes.TableTypes.{TableTypes}

module _ {M : Type 0} where
  -- a twin of this pair shows a machine of this job
  pub record TellsJob (job : M → M) (id : TableId) (all : M) (twin : Seat M (List M)) : Type 0 where
    pub of : twin.table_id ≡ id
    pub machine : M
    pub shows : twin.me ≡ (machine ∷ [], [])
    pub job_is : job machine ≡ all

  -- the same, and whether it is closed
  pub record Tells (job : M → M) (is_closed : M → Bool) (id : TableId) (all : M) (closed : Bool) (twin : Seat M (List M)) : Type 0 where
    pub of : twin.table_id ≡ id
    pub machine : M
    pub shows : twin.me ≡ (machine ∷ [], [])
    pub job_is : job machine ≡ all
    pub closed_is : is_closed machine ≡ closed

  -- the job of the machine that is shown, by its code
  abbrev pub shown_job : (M → M) → Coded M → List M → Gv
  shown_job job coded [] = gnil
  shown_job job coded (m ∷ ms) = coded.code (job m)

  -- whether the machine that is shown is closed
  abbrev pub shown_closed : (M → Bool) → List M → Bool
  shown_closed is_closed [] = true
  shown_closed is_closed (m ∷ ms) = is_closed m

  -- a job with these batches, one after another
  abbrev pub with_each : (M → Batch → M) → M → List Batch → M
  with_each with_batch all [] = all
  with_each with_batch all (batch ∷ batches) = with_each with_batch (with_batch all batch) batches

  -- a twin tells an open job with one batch more, of the same types, whose next batch comes after it
  pub record TellsMore (job : M → M) (is_closed : M → Bool) (with_batch : M → Batch → M) (next_txn : M → ℕ) (params : M → List (List Ty)) (tables : M → List TableTypes) (id : TableId) (all : M) (batch : Batch) (twin : Seat M (List M)) : Type 0 where
    pub tells : Tells job is_closed id (with_batch all batch) false twin
    pub next_is : next_txn (with_batch all batch) ≡ batch.first + length batch.txns
    pub params_are : params (with_batch all batch) ≡ params all
    pub tables_are : tables (with_batch all batch) ≡ tables all

  -- a feed gave some batches, and a twin tells the job with these, and whether it is closed
  pub record IsFed {F : Type 0} (gives : F → List Batch → F → Type 0) (job : M → M) (is_closed : M → Bool) (with_batch : M → Batch → M) (id : TableId) (all : M) (closed : Bool) (old new : F) (twin : Seat M (List M)) : Type 0 where
    pub batches : List Batch
    pub given : gives old batches new
    pub tells : Tells job is_closed id (with_each with_batch all batches) closed twin

  -- a feed gave some batches, and the job is the one with these
  pub record IsJobFed {F : Type 0} (gives : F → List Batch → F → Type 0) (with_batch : M → Batch → M) (all : M) (old new : F) (job : M) : Type 0 where
    pub batches : List Batch
    pub given : gives old batches new
    pub job_is : job ≡ with_each with_batch all batches
