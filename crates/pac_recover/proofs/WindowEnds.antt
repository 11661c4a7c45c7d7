-- How the reading of a window ended, and what the window is then.
use Rattle.std.proofs.Common.{◌≡◌, ◌≤◌, ◌<◌, ◌+◌, ℕ, true, false, true≢false, List, [], ◌∷◌, length, Option, Some, None, is_some, refl, sym, ap, subst, arith}
use Rattle.pac_value.specs.State.{Tables}
use Rattle.pac_ops.specs.declared.batch.Batch.{Batch}
use Rattle.pac_outside.specs.Disk.{DiskHistory}
use Rattle.pac_outside.specs.declared.devices.LogName.{LogName}
use Rattle.pac_types.specs.declared.procedure.Proc.{Proc}
use Rattle.pac_types.specs.Execution.{serial}
use Rattle.pac_log.specs.declared.errors.LogError.{LogError}
use Rattle.pac_log.specs.declared.errors.LogError.TheVariants as error
use Rattle.pac_log.specs.declared.position.NextGate.{NextGate}
use Rattle.pac_restore.specs.declared.execution.Execution.{Execution}
use Rattle.pac_restore.specs.Batches.{txns_in}
use Rattle.pac_restore.specs.Causes.{log_not_loaded}
use Rattle.pac_restore.specs.Opening.{IsInLog}
use Rattle.pac_restore.specs.Outcomes.{outcome_of}
use Rattle.pac_recover.specs.declared.log_feed.FeedEnd.{FeedEnd}
use Rattle.pac_recover.specs.declared.log_feed.FeedEnd.TheVariants.{Window, End, Refused}
use Rattle.pac_recover.specs.FedLogs.{AreBodiesCounted, AreLast, EndsAs, FillsAs, IsDamagedThere, IsGivenOfLog, bodies_len, is_end, refusal_of}
use Rattle.pac_recover.specs.Windows.{IsExecutedWindow}

-- what was given, from what is known at the call
pub given-from : (known was now : Option DiskHistory) (old from new : NextGate) (given : List Batch) (first end : Option FeedEnd) → was ≡ known → from ≡ old → first ≡ None → IsGivenOfLog was now from new given first end
    → IsGivenOfLog known now old new given None end
given-from known was now old from new given first end k o f is = subst (λ (t : Option DiskHistory × NextGate × Option FeedEnd). IsGivenOfLog t.0 now t.1 new given t.2 end) (λ i. (k i, o i, f i)) is

-- ---- it was refused

refused-is : (end : Option FeedEnd) (cause : LogError) → refusal_of end ≡ Some cause → end ≡ Some (Refused cause)
refused-is None cause e = absurd cc
refused-is (Some Window) cause e = absurd cc
refused-is (Some End) cause e = absurd cc
refused-is (Some (Refused other)) cause e = let same : Some other ≡ Some cause = e in let is : other ≡ cause = cc in ap (λ (c : LogError). Some (Refused c)) is

module _ (known now : Option DiskHistory) (old new : NextGate) (given : List Batch) (end : Option FeedEnd) (is : IsGivenOfLog known now old new given None end) where
  ends-so : (cause : LogError) → refusal_of end ≡ Some cause → EndsAs known old new given (Some (Refused cause))
  ends-so cause e = subst (EndsAs known old new given) (refused-is end cause e) (is.ends refl)

  -- as the reading of a segment is
  pub refused-there : (name : LogName) (cause : LogError) → refusal_of end ≡ Some cause → IsInLog name (IsDamagedThere known old) (log_not_loaded name cause)
  refused-there name cause e = go cause (ends-so cause e)
    where
      go : (cause : LogError) → EndsAs known old new given (Some (Refused cause)) → IsInLog name (IsDamagedThere known old) (log_not_loaded name cause)
      go error.NoStore ends = absurd ends
      go (error.Damaged at kind) ends = (refl, ends)
      go error.DiskFault ends = tt
      go error.NoMemory ends = tt

-- ---- it was executed

module _ {T : Type 0} (known now : Option DiskHistory) (procs : List Proc) (old new : NextGate) (base : Tables) (executed : Execution T) (batches : List Batch) (missing left : ℕ) (some : 1 ≤ missing) where
  last-window : (end : Option FeedEnd) → EndsAs known old new batches end → is_end end ≡ true → AreLast known old new batches
  last-window None ends is = absurd (true≢false (sym is))
  last-window (Some Window) ends is = absurd (true≢false (sym is))
  last-window (Some End) ends is = ends
  last-window (Some (Refused cause)) ends is = absurd (true≢false (sym is))

  some-given : (given : List Batch) → 1 ≤ bodies_len given → 1 ≤ length given
  some-given [] long = absurd (omega (arith, long))
  some-given (b ∷ given) long = omega arith

  full-window : (end : Option FeedEnd) → is_some end ≡ true → refusal_of end ≡ None → FillsAs missing (bodies_len batches) end → old.txns + length batches ≤ new.txns → is_end end ≡ false → old.txns < new.txns
  full-window None ended whole fills grows is = absurd (true≢false (sym ended))
  full-window (Some Window) ended whole fills grows is = let given = some-given batches (omega (arith, some, fills)) in omega (arith, grows, given)
  full-window (Some End) ended whole fills grows is = absurd (true≢false is)
  full-window (Some (Refused cause)) ended whole fills grows is = absurd cc

  -- a window that was read without a refusal
  pub executed-window : (end : Option FeedEnd) → IsGivenOfLog known now old new batches None end → AreBodiesCounted missing left batches None end → is_some end ≡ true → refusal_of end ≡ None
      → outcome_of executed ≡ serial procs (old.txns + 1) (txns_in batches) base → IsExecutedWindow known procs old new base executed (is_end end)
  executed-window end given bodies ended whole outcome = record {
    window = batches;
    read = given.read;
    outcome = outcome;
    further = given.further;
    last = last-window end (given.ends refl);
    more = full-window end ended whole (bodies.ends refl) given.grows;
  }
