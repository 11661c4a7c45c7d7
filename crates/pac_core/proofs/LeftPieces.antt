-- How many pieces are left after a take, and after a result was handed in.
use Rattle.std.proofs.Common.{◌≡◌, ◌+◌, Result, Ok, Err, ap, arith}
use Rattle.std.specs.Prelude.{IfOk}
use Rattle.pac_piece.specs.Results.{WorkDone}
use Rattle.pac_undo.specs.Undo.{Undoable}
use Rattle.pac_core.specs.declared.answers.Finish.{Finish}
use Rattle.pac_core.specs.declared.answers.Finish.TheVariants as finish
use Rattle.pac_core.specs.declared.answers.Take.{Take}
use Rattle.pac_core.specs.declared.answers.Take.TheVariants.{Given, Ran, NotReady, Done}
use Rattle.pac_core.specs.declared.progress.Progress.{Progress}
use Rattle.pac_core.specs.Calls.{IsHandedIn, IsTakenPiece, handed_in_by, run_by}
use Rattle.pac_core.specs.Links.{IsCore, core_of}
use Rattle.pac_core.specs.Replay.{Replay, left}
use Rattle.pac_core.proofs.DrainSteps.{left_after, left_less}

module _ (old new : Replay) where
  after_take : (take : Take) → IsTakenPiece old take new → left old ≡ left new + run_by take
  after_take (Given work) is = let same : left new ≡ left old = ap left is.4 in omega (arith, same)
  after_take (Ran piece) is =
      let same = ap left is.2 in
      let less = left_after old piece is.0 in
      omega (arith, same, less)
  after_take NotReady is = let same : left new ≡ left old = ap left is.2 in omega (arith, same)
  after_take Done is = let same : left new ≡ left old = ap left is.1 in omega (arith, same)

  pub left_taken : {E : Type 0} (r : Result Take E) → IfOk r (λ take. IsTakenPiece old take new) → IfOk r (λ take. left old ≡ left new + run_by take)
  left_taken (Ok take) is = after_take take is
  left_taken (Err e) is = tt

module _ (p : Progress) (u : Undoable) (core : IsCore p u) (done : WorkDone) (new : Replay) where
  pub left_handed_in : (answer : Finish) → IsHandedIn (core_of p u) done answer new → left (core_of p u) ≡ left new + handed_in_by answer
  left_handed_in finish.Kept is =
      let r = core_of p u in
      let piece = done.work.piece in
      let out = core.progress.machine.outs piece is.0.0 in
      let same = ap left is.1 in
      let less = left_less r piece out.there out.unfinished in
      omega (arith, same, less)
  left_handed_in (finish.Foreign back) is = let same : left new ≡ left (core_of p u) = ap left is.2 in omega (arith, same)
  left_handed_in (finish.NoMemory back) is = let same : left new ≡ left (core_of p u) = ap left is.2 in omega (arith, same)
