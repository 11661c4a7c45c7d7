-- What a run reads, writes and leaves.
use Rattle.std.specs.Prelude.{◌≡◌, ◌⊎◌, ◌<◌, ◌≤◌, ℕ, List, [], ◌∷◌, ◌++◌, length, take, Option, None, Result, IfErr, IsErrOf, OnOk}
use Rattle.std.specs.Io.KnownBytes.{prepend_known}
use Rattle.std.specs.List.{AllByRecursion}
use Rattle.pac_ops.specs.declared.transaction.Txn.{Txn}
use Rattle.pac_outside.specs.Content.{Took}
use Rattle.pac_outside.specs.Devices.{AllLeave, AreImages, RunLeaves, WhileAllKnown, log_at}
use Rattle.pac_outside.specs.Disk.{DiskHistory, DiskState, Leaves, settled}
use Rattle.pac_outside.specs.declared.devices.Devices.{Devices}
use Rattle.pac_outside.specs.GateByte.{OneImage}
use Rattle.pac_outside.specs.Parts.{known_reads, reads_of, slots_of}
use Rattle.pac_lines.specs.Lines.{HasNoFeed}
use Rattle.pac_lines.specs.declared.limits.TheConstants.{MAX_READ}
use Rattle.pac_types.specs.Execution.{first_over}
use Rattle.pac_types.specs.Typing.{CatalogueState}
use Rattle.pac_log.specs.declared.header.Header.{Header}
use Rattle.pac_log.specs.declared.header.HeaderForm.TheVariants.{Later}
use Rattle.pac_log.specs.declared.limits.TheConstants.{MAX_BASE}
use Rattle.pac_log.specs.Logs.{HoldsLog, header_bytes, header_with, log_prefix, number_after}
use Rattle.pac_check.specs.declared.state.SlotState.{SlotState}
use Rattle.pac_check.specs.SlotStates.{newest_among, IsSlot}
use Rattle.pac_store.specs.Images.{Images, IfImagesKnown}
use Rattle.pac_store.specs.Stands.{reach_of, StandsFor}
use Rattle.pac_store.specs.Stored.{active_among}
use Rattle.pac_request.specs.declared.request.Request.{Request}
use Rattle.pac_request.specs.declared.request.Request.TheVariants as request
use Rattle.pac_request.specs.declared.request.Reply.{Reply}
use Rattle.pac_session.specs.Groups.{LogSpot}
use Rattle.pac_session.specs.Session.{Rules, SessionState, committed, replies}
use Rattle.pac_restore.specs.Restoring.{IsRecoveredFrom}
use Rattle.pac_engine.specs.Closing.{GivesFitting, GroupFits}
use Rattle.pac_engine.specs.Standing.{StandsWith}
use Rattle.pac_run.specs.declared.limits.TheConstants.{MAX_INPUT}
use Rattle.pac_run.specs.declared.stop.RunStop.{RunStop}
use Rattle.pac_run.specs.declared.stop.RunStop.TheVariants.{DiskFault, InputFault, LogFull, NoMemory, TooLarge, TooLong}
use Rattle.pac_run.specs.Acked.{Acknowledges, ReportsSaved}
use Rattle.pac_run.specs.Asked.{NoSave, WereAsked, IsOverLong, StopsLast, TookAtMost, WereHandled}
use Rattle.pac_run.specs.Opening.{AllStand}
use Rattle.pac_run.specs.Stopping.{BeforeLast, HasWorked, StopsOpening, IsStopped, IsUnopened, SavesFit, StopsThere, OfActive, OfNewest, closed_groups, closed_number, place_closed, place_unsaved}
use Rattle.pac_run.specs.Texts.{IsTextPrefix, texts}

-- ---- where the session begins

-- The session begins with what is stored in these images: with the tables after it, which are within the limit, and as many
-- transactions. The log stands at the gate after the batches of the active segment, the newest slot reaches so far, and the next
-- segment has its first gate there.
pub record IsBegun (rules : Rules) (spot : LogSpot) (start : SessionState) (images : Images) : Type 0 where
  pub recovered : IsRecoveredFrom rules.catalogue start.tables start.number images
  pub a : SlotState
  pub b : SlotState
  pub is_a : IsSlot rules.catalogue.tables a images.slot_a
  pub is_b : IsSlot rules.catalogue.tables b images.slot_b
  pub header : Header
  pub batches : List (List Txn)
  pub log : HoldsLog header rules.catalogue batches (log_at (active_among a b) images)
  pub there : spot.place ≡ length (log_prefix header batches)
  pub reach : spot.reach ≡ reach_of (newest_among a b)
  pub next : spot.next ≡ length (header_bytes (header_with (Later start.number) header.text))
  pub within : first_over rules.limit (length rules.catalogue.tables) start.tables ≡ None

-- ---- what the devices hold

-- the committed transactions after a run: of those before it the first, which the log had, and then those of the session
abbrev pub history_after : List Txn → Rules → SessionState → List Request → List Txn
history_after history rules start requests = take start.number history ++ committed rules start requests

-- Each image that a crash may leave at the exit stands for the history. The log has what it had at entry, and each
-- transaction that the output acknowledges; where that says `saved N`, some slot is open with a checkpoint of at least N, unless N is
-- more than may come before a segment.
pub record IsExit (text : List ℕ) (catalogue : CatalogueState) (history : List Txn) (entered : ℕ) (out : List ℕ) (now : Devices DiskHistory) : Type 0 where
  pub least : ℕ
  pub saved : ℕ
  pub more : entered ≤ least
  pub acknowledged : (number : ℕ) → Acknowledges out number → number ≤ least
  pub kept : (number : ℕ) → ReportsSaved out number → number ≤ MAX_BASE → number < saved
  pub stands : AllLeave (StandsWith text catalogue history least saved) now

-- Each image at the exit is one of entry, and the output took nothing; or the session began with what is stored at entry, and
-- the devices stand for the history with what it commits.
abbrev pub AtExit : List ℕ → CatalogueState → List Txn → Rules → LogSpot → SessionState → List Request → List ℕ → Devices DiskHistory → Devices DiskHistory → Type 0
AtExit text catalogue history rules spot start requests out entry now =
    ((out ≡ []) × AllLeave (AreImages entry) now)
    ⊎ (IsBegun rules spot start (reads_of entry) × IsExit text catalogue (history_after history rules start requests) start.number out now)

-- a crash leaves one image of a segment: its last transaction has the number of those that there were at the start and in the groups
-- that these requests close, and its closed gate is at this offset
pub record LogHas (rules : Rules) (start : SessionState) (requests : List Request) (place : ℕ) (state : DiskState) : Type 0 where
  pub header : Header
  pub catalogue : CatalogueState
  pub batches : List (List Txn)
  pub log : OneImage (HoldsLog header catalogue batches) state
  pub exactly : number_after header batches ≡ closed_number rules start requests
  pub there : length (log_prefix header batches) ≡ place

-- each image of a segment that a crash may leave is so with the groups that the first of these lists closes, or the second, before a
-- save that ends the last
abbrev pub LogHasEither : Rules → LogSpot → SessionState → List Request → List Request → DiskState → Type 0
LogHasEither rules spot start before requests = Leaves (λ image. LogHas rules start before (place_closed rules spot start before) (settled image) ⊎ LogHas rules start requests (place_unsaved rules spot start requests) (settled image))

-- and each image that a crash at a moment of the run might have left is one of entry, or stands for the history
abbrev pub AtMoments : List ℕ → CatalogueState → List Txn → ℕ → Rules → SessionState → List Request → Devices DiskHistory → Devices DiskHistory → Type 0
AtMoments text catalogue history least rules start requests entry now =
    RunLeaves (λ images. AreImages entry images ⊎ StandsFor text catalogue (history_after history rules start requests) least images) entry now

-- where the devices' histories are known, and each image at entry stands for a history, this is so of what they hold then and now
abbrev pub WhileAllStand : (List ℕ → CatalogueState → List Txn → ℕ → Devices DiskHistory → Devices DiskHistory → Type 0) → Devices (Option DiskHistory) → Devices (Option DiskHistory) → Type 0
WhileAllStand R known known' = (text : List ℕ) (catalogue : CatalogueState) (history : List Txn) (least : ℕ) → WhileAllKnown (AllStand text catalogue history least) (R text catalogue history least) known known'

-- ---- the run

-- all replies were written, the last request is a stop, and each group has room
pub record IsWholeRun (rules : Rules) (spot : LogSpot) (start : SessionState) (requests : List Request) (out : List ℕ) : Type 0 where
  pub before : List Request
  pub stops : requests ≡ before ++ request.Stop ∷ []
  pub written : out ≡ texts rules.catalogue (replies rules start requests)
  pub fit : AllByRecursion GroupFits (closed_groups rules spot start requests)

-- A run, whatever its answer.
pub record IsRun (batch limit : ℕ) (left left' held held' : Option (List ℕ)) (known known' : Devices (Option DiskHistory)) (faulted : Type 0) (result : Result (Unit {0}) RunStop) : Type 0 where
  -- what it read and wrote
  pub lines : List (List ℕ)
  pub ahead : List ℕ  -- taken, and not handled
  pub handled : WereHandled left lines ahead left'
  pub few : ¬ IsErrOf result TooLong → TookAtMost MAX_INPUT left left'
  pub long : IsErrOf result TooLong → IsOverLong ahead left left'
  pub cut : IsErrOf result InputFault → HasNoFeed ahead  -- no whole line was taken and not handled
  -- nothing was read after the last line: what was taken and not handled is of the read that gave its end
  pub no_further : ¬ IsErrOf result InputFault → ¬ IsErrOf result TooLong → ¬ IsErrOf result NoMemory → length ahead < MAX_READ
  pub rules : Rules
  pub requests : List Request
  pub asked : WereAsked rules.catalogue lines (prepend_known ahead left') requests
  pub last : StopsLast requests
  pub out : List ℕ
  pub took : Took held out held'
  -- the session of the requests
  pub limited : rules.limit ≡ limit
  pub most : rules.most ≡ batch
  pub start : SessionState
  pub spot : LogSpot
  pub begun : IfImagesKnown (λ images. IsUnopened result requests ⊎ IsBegun rules spot start images) known
  -- (a) the output is a prefix of the texts of its replies, and all of them with Ok
  pub prefix : IsTextPrefix out (texts rules.catalogue (replies rules start requests))
  pub whole : OnOk result (IsWholeRun rules spot start requests out)
  -- (b) and (e) what the devices hold at the exit, (c) and at each moment
  -- the active segment ends with as many transactions as were in the groups that were closed: the open one is dropped; where a
  -- checkpoint is too large, after the group that the save ends; a full log has those of the groups that were closed before the
  -- last request, and where a device failed it is one or the other
  pub exact : HasWorked result → OfActive (LogHas rules start requests (place_closed rules spot start requests)) known'
  pub large : (bytes : ℕ) → IsErrOf result (TooLarge bytes) → OfActive (LogHas rules start requests (place_unsaved rules spot start requests)) known'
  pub full : (need : ℕ) → IsErrOf result (LogFull need) → BeforeLast (λ before. OfActive (LogHas rules start before (place_closed rules spot start before)) known') requests
  pub torn : IsErrOf result DiskFault → BeforeLast (λ before. OfNewest (LogHasEither rules spot start before requests) known') requests
  -- a read of a slot gives what it gave, unless a save was asked for; of each device it does, where nothing was
  pub slots : NoSave requests → slots_of (known_reads known') ≡ slots_of (known_reads known)
  pub still : requests ≡ [] → known_reads known' ≡ known_reads known
  pub exit : WhileAllStand (λ text catalogue history least. AtExit text catalogue history rules spot start requests out) known known'
  pub moments : WhileAllStand (λ text catalogue history least. AtMoments text catalogue history least rules start requests) known known'
  -- (d) where it stopped: the output is the texts of these replies, unless the output's count of faults rose
  pub given : List Reply
  pub written : IsTextPrefix out (texts rules.catalogue given)
  pub all : (out ≡ texts rules.catalogue given) ⊎ faulted
  -- the groups whose replies these are fit the log, and the saves that were handled to their end fit a slot
  pub fit : GivesFitting (closed_groups rules spot start requests) given
  pub saves : SavesFit rules spot start requests result
  pub stopped : IfErr result (λ stop. IsStopped rules spot start requests given stop)
  -- and within which request: all that was due before it was written
  pub there : IfErr result (λ stop. (StopsOpening stop × (requests ≡ [])) ⊎ StopsThere rules spot start requests given out stop)
