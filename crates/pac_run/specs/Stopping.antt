-- Where a run stops.
use Rattle.std.specs.Prelude.{◌≡◌, ◌⊎◌, ◌≤◌, ℕ, true, List, [], ◌∷◌, ◌++◌, Option, Some, None, Result, Ok, Err}
use Rattle.pac_outside.specs.Disk.{DiskHistory, DiskState, IfKnown}
use Rattle.pac_outside.specs.GateByte.{OneImage}
use Rattle.pac_outside.specs.declared.devices.Devices.{Devices}
use Rattle.pac_outside.specs.Parts.{OfLog}
use Rattle.pac_log.specs.declared.position.NextGate.{NextGate}
use Rattle.pac_log.specs.Torn.{LogEndsAtEither}
use Rattle.pac_check.specs.declared.head.Head.{Head}
use Rattle.pac_check.specs.declared.info.SlotInfo.{SlotInfo}
use Rattle.pac_check.specs.declared.limits.TheConstants.{MAX_SLOT_LEN}
use Rattle.pac_check.specs.declared.state.SlotState.{SlotState}
use Rattle.pac_check.specs.declared.state.SlotState.TheVariants.{Open}
use Rattle.pac_check.specs.SlotStates.{active_in, by_slot, info_with, IsSlotFront}
use Rattle.pac_store.specs.Stored.{active_among}
use Rattle.pac_request.specs.declared.request.Request.{Request}
use Rattle.pac_request.specs.declared.request.Request.TheVariants as request
use Rattle.pac_request.specs.declared.request.Reply.{Reply}
use Rattle.pac_session.specs.Session.{Rules, SessionState, ends}
use Rattle.pac_session.specs.Groups.{Group, LogSpot, all_replies, all_requests, cut, cut_one, described, saves_anew, spot_after}
use Rattle.pac_restore.specs.declared.errors.LoadError.TheVariants as load
use Rattle.pac_restore.specs.declared.errors.RecoverError.{RecoverError}
use Rattle.pac_restore.specs.declared.errors.RecoverError.TheVariants as recover
use Rattle.pac_engine.specs.declared.fault.EngineCause.TheVariants as cause
use Rattle.pac_engine.specs.Closing.{IsGateAfter, IsGateUnsaved, StopsAt, slot_len, spot_unsaved}
use Rattle.pac_run.specs.Asked.{NoStop}
use Rattle.pac_run.specs.Texts.{texts}
use Rattle.pac_run.specs.declared.stop.RunStop.{RunStop}
use Rattle.pac_run.specs.declared.stop.RunStop.TheVariants.{Opening, InputFault, OutputFault, DiskFault, NoMemory, LogFull, TooLong, TooLarge}

-- the groups that closings cut off
abbrev pub closed_groups : Rules → LogSpot → SessionState → List Request → List Group
closed_groups rules spot start requests = described rules spot start (cut rules start requests).closed

-- how many transactions there are with those of the groups that were closed
abbrev pub closed_number : Rules → SessionState → List Request → ℕ
closed_number rules start requests = (ends rules start (all_requests (cut rules start requests).closed)).number

-- the offset of the log's gate after the groups that these requests close
abbrev pub place_closed : Rules → LogSpot → SessionState → List Request → ℕ
place_closed rules spot start requests = (spot_after spot (closed_groups rules spot start requests)).place

-- and before a save that ends the last of them
abbrev pub place_unsaved : Rules → LogSpot → SessionState → List Request → ℕ
place_unsaved rules spot start requests = (spot_unsaved spot (closed_groups rules spot start requests)).place

-- the log's gate stands after the groups that these requests close
abbrev pub EndsGroups : Rules → LogSpot → SessionState → List Request → NextGate → Type 0
EndsGroups rules spot start requests gate = IsGateAfter rules spot start (cut rules start requests).closed gate

-- or before a save that ends the last of them
abbrev pub EndsUnsaved : Rules → LogSpot → SessionState → List Request → NextGate → Type 0
EndsUnsaved rules spot start requests gate = IsGateUnsaved rules spot start (cut rules start requests).closed gate

-- Slots begin in two states, and the device of the segment that is active by these is in a state that has P; of each device it is said
-- where that is known.
pub record OfActive (P : DiskState → Type 0) (devices : Devices (Option DiskHistory)) : Type 0 where
  pub a : SlotState
  pub b : SlotState
  pub begins_a : IfKnown (λ h. OneImage (IsSlotFront a) h.now) devices.slot_a
  pub begins_b : IfKnown (λ h. OneImage (IsSlotFront b) h.now) devices.slot_b
  pub log : OfLog P (active_among a b) devices

-- the slot begins as one of which this is known
pub record BeginsWith (info : SlotInfo) (image : List ℕ) : Type 0 where
  pub head : Head
  pub front : IsSlotFront (Open head) image
  pub is : info ≡ info_with info.slot head

-- the newest slot that there was begins as it did
abbrev pub NewestStays : Option SlotInfo → Devices (Option DiskHistory) → Type 0
NewestStays None devices = Unit {0}
NewestStays (Some info) devices = IfKnown (λ h. OneImage (BeginsWith info) h.now) (by_slot info.slot devices.slot_a devices.slot_b)

-- the newest slot that there was begins as it did, and the device of the segment that it names is in a state that has P
pub record OfNewest (P : DiskState → Type 0) (devices : Devices (Option DiskHistory)) : Type 0 where
  pub newest : Option SlotInfo
  pub stays : NewestStays newest devices
  pub log : OfLog P (active_in newest) devices

-- each image of the segment that was active that a crash may leave ends after the groups that the first of these lists closes, or the
-- second, before a save that ends the last
pub record IsTorn (rules : Rules) (spot : LogSpot) (start : SessionState) (before requests : List Request) (devices : Devices (Option DiskHistory)) : Type 0 where
  pub gate : NextGate
  pub next : NextGate
  pub ended : EndsGroups rules spot start before gate
  pub ends : EndsUnsaved rules spot start requests next
  pub either : OfNewest (LogEndsAtEither gate next) devices

-- Each group that was closed is in the log, and no other: all was done, or the run stopped at a fault of the input or of the
-- output, or since the input was too long. An open group was dropped then.
abbrev pub HasWorked : {A : Type 0} → Result A RunStop → Type 0
HasWorked (Ok done) = Unit {0}
HasWorked (Err InputFault) = Unit {0}
HasWorked (Err OutputFault) = Unit {0}
HasWorked (Err TooLong) = Unit {0}
HasWorked (Err (Opening error)) = ⊥
HasWorked (Err DiskFault) = ⊥
HasWorked (Err NoMemory) = ⊥
HasWorked (Err (LogFull need)) = ⊥
HasWorked (Err (TooLarge bytes)) = ⊥

-- Which replies were to be written before a stop, where these requests were handled.
abbrev pub IsStoppedAt : Rules → LogSpot → SessionState → List Request → List Reply → RunStop → Type 0
-- a store is opened once
IsStoppedAt rules spot start requests given (Opening error) = ⊥
-- those of all groups that were closed; no request was a stop
IsStoppedAt rules spot start requests given InputFault = (given ≡ all_replies (closed_groups rules spot start requests)) × NoStop requests
IsStoppedAt rules spot start requests given TooLong = (given ≡ all_replies (closed_groups rules spot start requests)) × NoStop requests
-- those of all groups that were closed
IsStoppedAt rules spot start requests given OutputFault = given ≡ all_replies (closed_groups rules spot start requests)
-- those of the groups before the first that needs too much
IsStoppedAt rules spot start requests given (LogFull need) = StopsAt rules spot start (cut rules start requests).closed given (cause.LogFull need)
-- those up to the group that the save ends, but for its own
IsStoppedAt rules spot start requests given (TooLarge bytes) = StopsAt rules spot start (cut rules start requests).closed given (cause.TooLarge bytes)
-- those of the groups before one that has transactions, or up to one that a save ends, but for its own
IsStoppedAt rules spot start requests given DiskFault = StopsAt rules spot start (cut rules start requests).closed given cause.DiskFault
-- those of any first groups, or up to one that a save ends, but for its own
IsStoppedAt rules spot start requests given NoMemory = StopsAt rules spot start (cut rules start requests).closed given cause.NoMemory

-- the store is refused: there is none, or it is damaged, aborts or is over the limit
abbrev pub RefusesStore : RunStop → Type 0
RefusesStore (Opening (recover.Load load.NoStore)) = Unit {0}
RefusesStore (Opening (recover.Load (load.Damaged damage))) = Unit {0}
RefusesStore (Opening (recover.Load load.DiskFault)) = ⊥
RefusesStore (Opening (recover.Load load.NoMemory)) = ⊥
RefusesStore (Opening (recover.AbortInLog note)) = Unit {0}
RefusesStore (Opening (recover.RowsOver table rows limit)) = Unit {0}
RefusesStore InputFault = ⊥
RefusesStore OutputFault = ⊥
RefusesStore DiskFault = ⊥
RefusesStore NoMemory = ⊥
RefusesStore (LogFull need) = ⊥
RefusesStore TooLong = ⊥
RefusesStore (TooLarge bytes) = ⊥

-- a call of a device failed, while the store was opened or later
abbrev pub DeviceFailed : RunStop → Type 0
DeviceFailed (Opening error) = error ≡ recover.Load load.DiskFault
DeviceFailed DiskFault = Unit {0}
DeviceFailed InputFault = ⊥
DeviceFailed OutputFault = ⊥
DeviceFailed NoMemory = ⊥
DeviceFailed (LogFull need) = ⊥
DeviceFailed TooLong = ⊥
DeviceFailed (TooLarge bytes) = ⊥

-- a run stops so while it opens its store
abbrev pub StopsOpening : RunStop → Type 0
StopsOpening stop = (error : RecoverError) × (stop ≡ Opening error)

-- a run ended so before its store was open: no request was handled
abbrev pub IsUnopened : Result (Unit {0}) RunStop → List Request → Type 0
IsUnopened (Ok done) requests = ⊥
IsUnopened (Err stop) requests = StopsOpening stop × (requests ≡ [])

-- a run stopped while it opened its store, or after that as `IsStoppedAt` says
abbrev pub IsStopped : Rules → LogSpot → SessionState → List Request → List Reply → RunStop → Type 0
IsStopped rules spot start requests given stop = (StopsOpening stop × (requests ≡ []) × (given ≡ [])) ⊎ IsStoppedAt rules spot start requests given stop

-- a save after these requests has room in a slot, where it writes a checkpoint
abbrev pub SaveFits : Rules → LogSpot → SessionState → List Request → Type 0
SaveFits rules spot start before = saves_anew (spot_after spot (closed_groups rules spot start before)).reach (ends rules start before).number ≡ true → slot_len rules (ends rules start before) ≤ MAX_SLOT_LEN

-- each save among the requests that was handled to its end has room in a slot
abbrev pub SavesFit : {A : Type 0} → Rules → LogSpot → SessionState → List Request → Result A RunStop → Type 0
SavesFit rules spot start requests result = (first rest : List Request) → requests ≡ first ++ request.Save ∷ rest → (rest ≡ [] → HasWorked result) → SaveFits rules spot start first

-- which replies were to be written where a request was not answered, and these groups were to be closed
abbrev pub StepStops : Rules → LogSpot → SessionState → List (List Request) → List Reply → RunStop → Type 0
StepStops rules spot start closed more (Opening error) = ⊥
StepStops rules spot start closed more InputFault = ⊥
StepStops rules spot start closed more TooLong = ⊥
StepStops rules spot start closed more OutputFault = more ≡ all_replies (described rules spot start closed)
StepStops rules spot start closed more (LogFull need) = StopsAt rules spot start closed more (cause.LogFull need)
StepStops rules spot start closed more (TooLarge bytes) = StopsAt rules spot start closed more (cause.TooLarge bytes)
StepStops rules spot start closed more DiskFault = StopsAt rules spot start closed more cause.DiskFault
StepStops rules spot start closed more NoMemory = StopsAt rules spot start closed more cause.NoMemory

-- The last of these requests was not answered to its end: with the groups that it closes the run stops so. Before it all
-- replies were written that were due.
pub record StopsInLast (rules : Rules) (spot : LogSpot) (start : SessionState) (requests : List Request) (given : List Reply) (out : List ℕ) (stop : RunStop) : Type 0 where
  pub before : List Request
  pub asked : Request
  pub split : requests ≡ before ++ asked ∷ []
  pub more : List Reply
  pub replied : given ≡ all_replies (closed_groups rules spot start before) ++ more
  pub rest : List ℕ
  pub written : out ≡ texts rules.catalogue (all_replies (closed_groups rules spot start before)) ++ rest
  pub here : StepStops rules (spot_after spot (closed_groups rules spot start before)) (ends rules start (all_requests (cut rules start before).closed))
      (cut_one rules (ends rules start (all_requests (cut rules start before).closed)) (cut rules start before).rest asked).closed more stop

-- Where a run stopped whose store was open. All replies were written that were due, and no more was read; or the last request
-- was not answered to its end.
abbrev pub StopsThere : Rules → LogSpot → SessionState → List Request → List Reply → List ℕ → RunStop → Type 0
StopsThere rules spot start requests given out (Opening error) = ⊥
StopsThere rules spot start requests given out InputFault = out ≡ texts rules.catalogue given
StopsThere rules spot start requests given out TooLong = out ≡ texts rules.catalogue given
StopsThere rules spot start requests given out NoMemory = (out ≡ texts rules.catalogue given) ⊎ StopsInLast rules spot start requests given out NoMemory
StopsThere rules spot start requests given out OutputFault = StopsInLast rules spot start requests given out OutputFault
StopsThere rules spot start requests given out DiskFault = StopsInLast rules spot start requests given out DiskFault
StopsThere rules spot start requests given out (LogFull need) = StopsInLast rules spot start requests given out (LogFull need)
StopsThere rules spot start requests given out (TooLarge bytes) = StopsInLast rules spot start requests given out (TooLarge bytes)

-- this is said of the requests before the last
abbrev pub BeforeLast : (List Request → Type 0) → List Request → Type 0
BeforeLast P requests = (before : List Request) × (asked : Request) × (requests ≡ before ++ asked ∷ []) × P before

-- the replies are the first of these
pub record AreFirst (given all : List Reply) : Type 0 where
  pub rest : List Reply
  pub split : all ≡ given ++ rest
