-- Which replies a step returns, and where it stops.
use Rattle.std.specs.Prelude.{◌≡◌, ◌⊎◌, ◌+◌, ◌<◌, ◌≤◌, ℕ, Bool, false, true, List, [], ◌∷◌, ◌++◌, length, Option}
use Rattle.std.specs.List.{AllByRecursion}
use Rattle.pac_outside.specs.Devices.{OneFaulted}
use Rattle.pac_outside.specs.Disk.{DiskHistory}
use Rattle.pac_outside.specs.declared.devices.Devices.{Devices}
use Rattle.pac_outside.specs.declared.devices.LogName.{LogName}
use Rattle.pac_outside.specs.declared.devices.LogName.TheVariants.{Log}
use Rattle.pac_outside.specs.Parts.{OfLog}
use Rattle.pac_request.specs.declared.request.Request.{Request}
use Rattle.pac_request.specs.declared.request.Request.TheVariants as request
use Rattle.pac_request.specs.declared.request.Reply.{Reply}
use Rattle.pac_request.specs.declared.request.Reply.TheVariants as reply
use Rattle.pac_check.specs.declared.limits.TheConstants.{MAX_SLOT_LEN}
use Rattle.pac_check.specs.Checkpoints.{checkpoint_bytes, head_with}
use Rattle.pac_check.specs.Saved.{checkpoint_of}
use Rattle.pac_log.specs.declared.limits.TheConstants.{MAX_BASE}
use Rattle.pac_log.specs.declared.position.NextGate.{NextGate}
use Rattle.pac_log.specs.Torn.{LogEndsAtEither}
use Rattle.pac_session.specs.Session.{Rules, SessionState, ends}
use Rattle.pac_session.specs.Groups.{Group, GroupCut, LogSpot, all_replies, all_requests, described, saves_anew, spot_after, spot_after_group, spot_committed}
use Rattle.pac_session.specs.Open.{IsInGroup, rules_of}
use Rattle.pac_engine.specs.declared.fault.EngineCause.{EngineCause}
use Rattle.pac_engine.specs.declared.fault.EngineCause.TheVariants.{DiskFault, LogFull, TooLarge, Ended, NoMemory}
use Rattle.pac_engine.specs.declared.parts.EngineParts.{EngineParts}
use Rattle.pac_engine.specs.Committing.{HasRoomAt, IsCalledFor, IsOverFull}
use Rattle.pac_engine.specs.Standing.{durable_of, saved_of, spot_of}

-- ---- groups that were closed

-- the log has room for the group
abbrev pub GroupFits : Group → Type 0
GroupFits group = HasRoomAt group.spot.place group.txns

-- the gate stands after these groups: after their transactions, and at the offset up to which they reach
pub record IsGateAfter (rules : Rules) (spot : LogSpot) (start : SessionState) (closed : List (List Request)) (gate : NextGate) : Type 0 where
  pub counted : gate.txns ≡ (ends rules start (all_requests closed)).number
  pub there : gate.place ≡ (spot_after spot (described rules spot start closed)).place

-- where a log stands after groups, once the transactions of the last are committed, and before a save that ends that
abbrev pub spot_unsaved : LogSpot → List Group → LogSpot
spot_unsaved spot [] = spot
spot_unsaved spot (group ∷ []) = spot_committed group.spot group.txns
spot_unsaved spot (group ∷ next ∷ more) = spot_unsaved (spot_after_group group) (next ∷ more)

-- there are such groups, and the gate stands so
pub record IsGateUnsaved (rules : Rules) (spot : LogSpot) (start : SessionState) (closed : List (List Request)) (gate : NextGate) : Type 0 where
  pub some : 0 < length closed
  pub counted : gate.txns ≡ (ends rules start (all_requests closed)).number
  pub there : gate.place ≡ (spot_unsaved spot (described rules spot start closed)).place

-- each image of this log device that a crash may leave ends at this gate, or after the transactions of these groups
pub record MayEndAfter (name : LogName) (rules : Rules) (spot : LogSpot) (start : SessionState) (closed : List (List Request)) (gate : NextGate) (devices : Devices (Option DiskHistory)) : Type 0 where
  pub next : NextGate
  pub after : IsGateUnsaved rules spot start closed next
  pub either : OfLog (LogEndsAtEither gate next) name devices

-- Groups were closed: each fits the log, and their replies were given out. The engine is within the next one, goes by the same
-- rules, and its log stands where the groups leave it.
pub record Closes (rules : Rules) (spot : LogSpot) (start : SessionState) (cut : GroupCut) (given : List Reply) (engine : EngineParts) : Type 0 where
  pub replied : given ≡ all_replies (described rules spot start cut.closed)
  pub fit : AllByRecursion GroupFits (described rules spot start cut.closed)
  pub there : spot_of engine ≡ spot_after spot (described rules spot start cut.closed)
  pub same : rules_of engine.session ≡ rules
  pub within : IsInGroup (ends rules start (all_requests cut.closed)) cut.rest engine.session

-- ---- replies that were given out

-- a reply that was given out: the transaction is durable, and so is the checkpoint, unless a segment may not begin after so many
-- transactions
abbrev pub IsKept : EngineParts → Reply → Type 0
IsKept engine (reply.Committed txn) = txn ≤ durable_of engine
IsKept engine (reply.Aborted op reason) = Unit {0}
IsKept engine (reply.AbortedFull table) = Unit {0}
IsKept engine (reply.Shown table key row) = Unit {0}
IsKept engine (reply.Refused fault) = Unit {0}
IsKept engine (reply.Saved txns) = txns ≤ MAX_BASE → txns < saved_of engine

-- ---- where a step stops

-- the replies are those of the first of these groups, and each of those fits the log
pub record IsUpToSome (groups : List Group) (given : List Reply) : Type 0 where
  pub before : List Group
  pub rest : List Group
  pub split : groups ≡ before ++ rest
  pub replied : given ≡ all_replies before
  pub fit : AllByRecursion GroupFits before

-- they are those of the groups before one of which this is said, and each of those fits the log
pub record IsUpToGroup (P : Group → Type 0) (groups : List Group) (given : List Reply) : Type 0 where
  pub before : List Group
  pub group : Group
  pub rest : List Group
  pub split : groups ≡ before ++ (group ∷ rest)
  pub replied : given ≡ all_replies before
  pub fit : AllByRecursion GroupFits before
  pub here : P group

-- a device is called for the group: it has transactions, and fits the log
abbrev pub CallsDevice : Group → Type 0
CallsDevice group = IsCalledFor group.spot.place group.txns

-- the log would have this many bytes with the group, which is too many
abbrev pub NeedsTooMuch : ℕ → Group → Type 0
NeedsTooMuch need group = IsOverFull group.spot.place group.txns need

-- A save ends the last of these groups, all of which fit the log. The replies are those of all of them, without that of the
-- save.
pub record IsUnsaved (groups : List Group) (given : List Reply) : Type 0 where
  pub before : List Group
  pub group : Group
  pub asked : List Request
  pub held : List Reply
  pub number : ℕ
  pub split : groups ≡ before ++ (group ∷ [])
  pub saving : group.requests ≡ asked ++ (request.Save ∷ [])
  pub answers : group.replies ≡ held ++ (reply.Saved number ∷ [])
  pub replied : given ≡ all_replies before ++ held
  pub fit : AllByRecursion GroupFits groups

-- and the save writes a checkpoint
pub record IsUnwritten (groups : List Group) (given : List Reply) : Type 0 where
  pub unsaved : IsUnsaved groups given
  pub writes : saves_anew unsaved.group.spot.reach unsaved.group.number ≡ true

-- The groups whose replies were given out fit the log: they are the first of these groups, or all of them, without the reply of
-- a save that ends the last.
abbrev pub GivesFitting : List Group → List Reply → Type 0
GivesFitting groups given = IsUpToSome groups given ⊎ IsUnsaved groups given

-- how many bytes a slot has with the checkpoint of these tables, whichever segment it names, and at whichever offset
abbrev pub slot_len : Rules → SessionState → ℕ
slot_len rules state = 1 + length (checkpoint_bytes (checkpoint_of (length rules.catalogue.tables) (head_with state.number 0 Log) state.tables))

-- and with the checkpoint after these groups a slot would have this many bytes, which is too many
pub record IsTooLarge (rules : Rules) (spot : LogSpot) (start : SessionState) (closed : List (List Request)) (bytes : ℕ) (given : List Reply) : Type 0 where
  pub unwritten : IsUnwritten (described rules spot start closed) given
  pub is : bytes ≡ slot_len rules (ends rules start (all_requests closed))
  pub over : MAX_SLOT_LEN < bytes

-- Requests are cut into these groups, and it stops at one of them for this cause, with these replies given out.
abbrev pub StopsAt : Rules → LogSpot → SessionState → List (List Request) → List Reply → EngineCause → Type 0
StopsAt rules spot start closed given DiskFault = IsUpToGroup CallsDevice (described rules spot start closed) given ⊎ IsUnwritten (described rules spot start closed) given
StopsAt rules spot start closed given (LogFull need) = IsUpToGroup (NeedsTooMuch need) (described rules spot start closed) given
StopsAt rules spot start closed given (TooLarge bytes) = IsTooLarge rules spot start closed bytes given
StopsAt rules spot start closed given Ended = ⊥
StopsAt rules spot start closed given NoMemory = GivesFitting (described rules spot start closed) given

-- Of a fault of a device the count of one device rose by one, and no call of any came after it. Else no call failed.
abbrev pub CountsFault : EngineCause → Devices ℕ → Devices ℕ → Type 0
CountsFault DiskFault before now = OneFaulted before now
CountsFault (LogFull need) before now = now ≡ before
CountsFault (TooLarge bytes) before now = now ≡ before
CountsFault Ended before now = now ≡ before
CountsFault NoMemory before now = now ≡ before

-- the request ends the engine
abbrev pub is_stop : Request → Bool
is_stop (request.Call call) = false
is_stop (request.AdHoc records) = false
is_stop request.Flush = false
is_stop (request.Show table key) = false
is_stop request.Save = false
is_stop request.Stop = true
is_stop (request.Refused fault) = false
