-- What is left once a piece is run where it comes next, and which number comes next once a batch is loaded.
use Rattle.std.proofs.Common.{◌≡◌, ◌+◌, length, Option, Some, None, Result, Ok, Err, ap, sym, ◌∙◌, arith}
use Rattle.std.specs.Prelude.{IfOk}
use Rattle.pac_ops.specs.declared.batch.Batch.{Batch}
use Rattle.pac_ops.specs.declared.piece.PieceId.{PieceId}
use Rattle.pac_commute.specs.Loads.{next_in_job}
use Rattle.pac_core.specs.Calls.{IsNextFinished}
use Rattle.pac_core.specs.Replay.{Replay, left, with_batch_loaded}
use Rattle.pac_core.proofs.BatchLoads.{next_more}
use Rattle.pac_core.proofs.DrainSteps.{left_after}
use Rattle.pac_workers.specs.Takes.{run_now}

module _ (old new : Replay) where
  left_of : (next : Option PieceId) → IsNextFinished old next new → left old ≡ left new + run_now next
  left_of (Some piece) is = sym (left_after old piece is.0) ∙ ap (λ (r : Replay). left r + 1) (sym is.1)
  left_of None is = let same = ap left is.1 in omega (arith, same)

  -- one less is left, where there was one
  pub ran_left : {E : Type 0} (r : Result (Option PieceId) E) → IfOk r (λ next. IsNextFinished old next new) → IfOk r (λ next. left old ≡ left new + run_now next)
  ran_left (Ok next) ok = left_of next ok
  ran_left (Err e) ok = tt

  -- the number after the batch
  pub next_loaded : (batch : Batch) → batch.first ≡ next_in_job old.job old.batches → new ≡ with_batch_loaded old batch → next_in_job new.job new.batches ≡ batch.first + length batch.txns
  next_loaded batch first is = ap (λ (r : Replay). next_in_job r.job r.batches) is ∙ next_more old.job old.batches batch ∙ ap (λ n. n + length batch.txns) (sym first)
