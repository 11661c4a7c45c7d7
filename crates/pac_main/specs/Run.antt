-- How `run` ends.
use Rattle.std.specs.Prelude.{◌≡◌, ◌≢◌, ◌≤◌, ℕ, List, [], ◌∷◌, length, IsSomeAnd, Result, Ok, IsErrAnd, IsErrOf}
use Rattle.std.specs.List.{AllByRecursion}
use Rattle.pac_ops.specs.declared.note.Note.{Note}
use Rattle.pac_ops.specs.declared.transaction.Txn.{Txn}
use Rattle.pac_outside.specs.Devices.{AreSettled, IfAllKnown, OneFaulted, WhileAllKnown}
use Rattle.pac_types.specs.Typing.{CatalogueState}
use Rattle.pac_store.specs.Images.{IfImagesKnown}
use Rattle.pac_store.specs.Stands.{StandsFor}
use Rattle.pac_restore.specs.Restoring.{AbortsIn, IsOverIn}
use Rattle.pac_restore.specs.Prefixes.{IsPrefixOverLimit}
use Rattle.pac_restore.specs.declared.errors.RecoverError.TheVariants as recover
use Rattle.pac_request.specs.declared.request.Reply.{Reply}
use Rattle.pac_request.specs.declared.request.Request.{Request}
use Rattle.pac_session.specs.Groups.{LogSpot, cut}
use Rattle.pac_session.specs.Session.{Rules, SessionState}
use Rattle.pac_engine.specs.Closing.{GroupFits, IsTooLarge}
use Rattle.pac_run.specs.declared.limits.TheConstants.{MAX_INPUT}
use Rattle.pac_run.specs.Run.{IsRun}
use Rattle.pac_run.specs.Stopping.{DeviceFailed, RefusesStore, closed_groups}
use Rattle.pac_run.specs.declared.stop.RunStop.{RunStop}
use Rattle.pac_run.specs.declared.stop.RunStop.TheVariants as run
use Rattle.pac_main.specs.Histories.{FoundStanding, LeavesHistory}
use Rattle.pac_main.specs.Recover.{IsRefusedStore, StoredInLimit}
use Rattle.pac_main.specs.Stop.{abort_line, full_line, rows_line, too_large_line}
use Rattle.pac_main.specs.Streams.{Observed, ObservedDevices, AnyFaulted, IsFaultless, IsReported, IsOneOf}

-- How `run` ends on devices that stand for a history of at least that many transactions. Nothing is damaged, nothing that is
-- stored aborts, and a table over the limit is one of a prefix of the history.
pub record RunsOnPrefix (limit status : ℕ) (catalogue : CatalogueState) (history : List Txn) (least : ℕ) : Type 0 where
  pub undamaged : status ≢ 3
  pub executes : status ≢ 4
  pub over_limit : status ≡ 5 → (name : List ℕ) × (rows : ℕ) × IsPrefixOverLimit catalogue history least name rows limit

-- the devices hold what a read of them gave, and the input and the output are as they were
pub record LeavesStore (input output : Observed) (devices : ObservedDevices) : Type 0 where
  pub settled : IfAllKnown AreSettled devices.before devices.after
  pub unread : input.after ≡ input.before
  pub unwritten : output.after ≡ output.before

-- These requests meet no limit of the store: each group that they close fits the log's segment, and no checkpoint is too large for a
-- slot.
pub record HaveRoom (rules : Rules) (spot : LogSpot) (start : SessionState) (requests : List Request) : Type 0 where
  pub log : AllByRecursion GroupFits (closed_groups rules spot start requests)
  pub slots : (bytes : ℕ) (given : List Reply) → ¬ IsTooLarge rules spot start (cut rules start requests).closed bytes given

-- How `run` ends, with that many replies in a group at most and under a limit of rows: the statuses that it may have, what was
-- read, written and left on the devices, and a line for each status that has a cause.
pub record RunEnds (group_size limit status : ℕ) (input output errors : Observed) (devices : ObservedDevices) : Type 0 where
  pub statuses : IsOneOf status (0 ∷ 3 ∷ 4 ∷ 5 ∷ 6 ∷ 7 ∷ 8 ∷ 9 ∷ 10 ∷ 11 ∷ 12 ∷ [])
  -- why the run stopped before its end, if it did, and its parts; one of them says by this where it stopped
  pub end : Result (Unit {0}) RunStop
  pub is : IsRun group_size limit input.before input.after output.before output.after devices.before devices.after (AnyFaulted output) end
  -- what it leaves of a history
  pub leaves : (text : List ℕ) (catalogue : CatalogueState) (history : List Txn) (least : ℕ)
      → WhileAllKnown (FoundStanding text catalogue history least) (LeavesHistory text catalogue history least is.rules is.start is.requests is.out) devices.before devices.after
  pub stands : (text : List ℕ) (catalogue : CatalogueState) (history : List Txn) (least : ℕ)
      → IfImagesKnown (λ images. StandsFor text catalogue history least images → RunsOnPrefix limit status catalogue history least) devices.before
  -- the cause of each status, and its line
  pub done : status ≡ 0 → end ≡ Ok tt
  pub refused : status ≡ 3 → IsErrAnd end RefusesStore × IsRefusedStore devices.before errors
  pub aborted : status ≡ 4 → (note : Note) × IsErrOf end (run.Opening (recover.AbortInLog note)) × IfImagesKnown (AbortsIn note) devices.before × IsReported errors (abort_line note)
  pub over_limit : status ≡ 5 → (name : List ℕ) × (rows : ℕ) × IsErrOf end (run.Opening (recover.RowsOver name rows limit)) × IfImagesKnown (IsOverIn name rows limit) devices.before × IsReported errors (rows_line name rows limit)
  pub unserved : IsOneOf status (3 ∷ 4 ∷ 5 ∷ []) → is.out ≡ []
  pub input_fault : status ≡ 6 → IsErrOf end run.InputFault × AnyFaulted input
  pub output_fault : status ≡ 7 → IsErrOf end run.OutputFault × AnyFaulted output
  pub disk_fault : status ≡ 8 → IsErrAnd end DeviceFailed × OneFaulted devices.faults_before devices.faults_after
  pub log_full : status ≡ 10 → (need : ℕ) × IsErrOf end (run.LogFull need) × IsReported errors (full_line need)
  pub too_long : status ≡ 11 → IsErrOf end run.TooLong
  pub too_large : status ≡ 12 → (bytes : ℕ) × IsErrOf end (run.TooLarge bytes) × IsReported errors (too_large_line bytes)
  -- a store that is refused is left as it was, no input is taken, and nothing is written
  pub untouched : IsOneOf status (3 ∷ 4 ∷ 5 ∷ []) → LeavesStore input output devices
  -- no count of a device rose but with 8
  pub quiet : status ≢ 8 → devices.faults_after ≡ devices.faults_before
  -- On devices that stand for a history, whose tables stay within the limit, where no fault was counted, nothing that was asked
  -- meets a limit of the store, and the input isn't too long, all is done, or there was no memory.
  pub complete : (text : List ℕ) (catalogue : CatalogueState) (history : List Txn) (least : ℕ)
      → IfImagesKnown (λ images. StandsFor text catalogue history least images → StoredInLimit limit images → IsFaultless devices output → ¬ AnyFaulted input
      → HaveRoom is.rules is.spot is.start is.requests → IsSomeAnd input.before (λ bytes. length bytes ≤ MAX_INPUT) → IsOneOf status (0 ∷ 9 ∷ [])) devices.before
