-- What an engine does while lines are served, from one to the next.
use Rattle.std.specs.Prelude.{◌≡◌, ◌⊎◌, ◌<◌, ◌≤◌, ℕ, Bool, true, false, List, [], ◌∷◌, ◌++◌, length, Option, Some, IfErr, IfSome, Result, MatchResult, IsErrOf}
use Rattle.std.specs.Io.KnownBytes.{prepend_known}
use Rattle.std.specs.List.{AllByRecursion, fold}
use Rattle.pac_ops.specs.declared.transaction.Txn.{Txn}
use Rattle.pac_outside.specs.Content.{Gave, Took}
use Rattle.pac_outside.specs.Devices.{WhileAllKnown}
use Rattle.pac_outside.specs.Disk.{DiskHistory}
use Rattle.pac_outside.specs.declared.devices.Devices.{Devices}
use Rattle.pac_outside.specs.Parts.{slots_of}
use Rattle.pac_lines.specs.Calls.{known}
use Rattle.pac_lines.specs.Lines.{HandsOut, HasNoFeed}
use Rattle.pac_lines.specs.Reading.{ReaderState}
use Rattle.pac_lines.specs.declared.limits.TheConstants.{MAX_READ}
use Rattle.pac_types.specs.Typing.{CatalogueState}
use Rattle.pac_request.specs.declared.request.Request.{Request}
use Rattle.pac_request.specs.declared.request.Request.TheVariants as request
use Rattle.pac_request.specs.declared.request.Reply.{Reply}
use Rattle.pac_session.specs.Session.{Rules, SessionState, committed, replies}
use Rattle.pac_session.specs.Groups.{GroupCut, LogSpot, cut, cut_on, cut_one, saves_anew}
use Rattle.pac_session.specs.Open.{IsInGroup, Open, rules_of, state_now}
use Rattle.pac_check.specs.declared.limits.TheConstants.{MAX_SLOT_LEN}
use Rattle.pac_check.specs.SlotStates.{active_of, newest_of}
use Rattle.pac_engine.specs.declared.parts.EngineParts.{EngineParts}
use Rattle.pac_engine.specs.Closing.{Closes, GivesFitting, GroupFits, IsKept, MayEndAfter, slot_len}
use Rattle.pac_engine.specs.Committing.{gate_past}
use Rattle.pac_engine.specs.Standing.{OnlyGrows, KeepsHistory, StandsOn, durable_of, saved_of, spot_of}
use Rattle.pac_run.specs.declared.limits.TheConstants.{MAX_INPUT}
use Rattle.pac_run.specs.declared.stop.RunStop.{RunStop}
use Rattle.pac_run.specs.declared.stop.RunStop.TheVariants.{Opening, InputFault, OutputFault, DiskFault, NoMemory, LogFull, TooLong, TooLarge}
use Rattle.pac_run.specs.Asked.{WereAsked, IsOverLong, LineAsks, LinesAsk, NoSave, NoStop, StopsLast, TookAtMost, WereHandled}
use Rattle.pac_run.specs.Stopping.{AreFirst, BeforeLast, EndsGroups, EndsUnsaved, HasWorked, IsStoppedAt, IsTorn, NewestStays, SaveFits, SavesFit, StepStops, StopsThere, closed_groups}
use Rattle.pac_run.specs.Texts.{IsTextPrefix, IsPlain, texts}

-- ---- one line

-- the engine keeps each history with these transactions after it, and stands for it afterwards
abbrev pub KeepsEach : List Txn → EngineParts → EngineParts → Devices (Option DiskHistory) → Devices (Option DiskHistory) → Type 0
KeepsEach more old new histories histories' = (text : List ℕ) (history : List Txn) → WhileAllKnown (StandsOn text history old) (KeepsHistory text (history ++ more) old new) histories histories'

-- where the engine and the devices stood for a history, they stand for it with these transactions after it
abbrev pub StandsForEach : List Txn → EngineParts → EngineParts → Devices (Option DiskHistory) → Devices (Option DiskHistory) → Type 0
StandsForEach more old new histories histories' = (text : List ℕ) (history : List Txn) → WhileAllKnown (StandsOn text history old) (λ was is. StandsOn text (history ++ more) new is) histories histories'

-- Requests were answered, of one line and so at most one, with these replies.
pub record Answered (asked : List Request) (more : List Reply) (old new : EngineParts) (histories histories' : Devices (Option DiskHistory)) : Type 0 where
  pub closes : (rules : Rules) (spot : LogSpot) (start : SessionState) (whole : GroupCut) (given : List Reply) → Closes rules spot start whole given old
      → Closes rules spot start (fold (cut_on rules start) whole asked) (given ++ more) new
  pub keeps : KeepsEach (committed (rules_of old.session) (state_now old.session) asked) old new histories histories'
  pub stands : StandsForEach (committed (rules_of old.session) (state_now old.session) asked) old new histories histories'
  pub same : rules_of new.session ≡ rules_of old.session
  pub grows : OnlyGrows old new
  pub kept : AllByRecursion (IsKept new) more
  pub plain : AllByRecursion IsPlain more
  pub few : length asked ≤ 1
  pub saves : asked ≡ request.Save ∷ [] → saves_anew (saved_of old) (state_now old.session).number ≡ true → slot_len (rules_of old.session) (state_now old.session) ≤ MAX_SLOT_LEN
  pub durable : durable_of old ≡ old.session.before → durable_of new ≡ new.session.before
  pub slots : NoSave asked → slots_of histories' ≡ slots_of histories
  pub still : asked ≡ [] → histories' ≡ histories

-- and their texts were written
pub record Replied (catalogue : CatalogueState) (asked : List Request) (old new : EngineParts) (held held' : Option (List ℕ)) (histories histories' : Devices (Option DiskHistory)) : Type 0 where
  pub more : List Reply
  pub took : Took held (texts catalogue more) held'
  pub answered : Answered asked more old new histories histories'

-- a request was handled, and the groups that it closes were, though their replies could not be written; a save had room
pub record WasHandled (asked : Request) (more : List Reply) (old new : EngineParts) : Type 0 where
  pub closes : (rules : Rules) (spot : LogSpot) (start : SessionState) (whole : GroupCut) (given : List Reply) → Closes rules spot start whole given old
      → Closes rules spot start (cut_on rules start whole asked) (given ++ more) new
  pub saves : asked ≡ request.Save → saves_anew (saved_of old) (state_now old.session).number ≡ true → slot_len (rules_of old.session) (state_now old.session) ≤ MAX_SLOT_LEN
  pub durable : durable_of new ≡ new.session.before

-- what a save may give out of the open group before a device fails; of another request nothing is said
abbrev pub IsAhead : CatalogueState → Request → Open → List ℕ → Type 0
IsAhead catalogue asked session ahead = asked ≡ request.Save → ahead ≡ texts catalogue session.held

-- Where the log ends where there was no room: where it ended, or after the group that a save ends.
abbrev pub KeepsGate : Request → EngineParts → EngineParts → RunStop → Type 0
KeepsGate asked old new (LogFull need) = new.log.gate ≡ old.log.gate
KeepsGate asked old new (TooLarge bytes) = (asked ≡ request.Save) × (new.log.gate ≡ gate_past old.session.txns old.log.gate)
KeepsGate asked old new (Opening error) = Unit {0}
KeepsGate asked old new InputFault = Unit {0}
KeepsGate asked old new OutputFault = Unit {0}
KeepsGate asked old new DiskFault = Unit {0}
KeepsGate asked old new NoMemory = Unit {0}
KeepsGate asked old new TooLong = Unit {0}

-- One request was not answered, and a prefix of the texts of those replies was written, all of it unless the sink's count rose.
pub record Broke (catalogue : CatalogueState) (asked : Request) (old new : EngineParts) (held held' : Option (List ℕ)) (histories histories' : Devices (Option DiskHistory)) (faulted : Type 0) (stop : RunStop) : Type 0 where
  pub more : List Reply
  pub out : List ℕ
  pub took : Took held out held'
  pub prefix : IsTextPrefix out (texts catalogue more)
  pub whole : (out ≡ texts catalogue more) ⊎ faulted
  pub stops : (start : SessionState) (group : List Request) → IsInGroup start group old.session
      → StepStops (rules_of old.session) (spot_of old) start (cut_one (rules_of old.session) start group asked).closed more stop
  pub keeps : KeepsEach (committed (rules_of old.session) (state_now old.session) (asked ∷ [])) old new histories histories'
  pub grows : OnlyGrows old new
  pub kept : AllByRecursion (IsKept new) more
  pub plain : AllByRecursion IsPlain more
  pub handled : stop ≡ OutputFault → WasHandled asked more old new
  pub room : KeepsGate asked old new stop
  pub slots : (asked ≡ request.Save → ⊥) → slots_of histories' ≡ slots_of histories
  pub newest : NewestStays (newest_of old.slots) histories'
  pub torn : stop ≡ DiskFault → (start : SessionState) (group : List Request) → IsInGroup start group old.session
      → MayEndAfter (active_of old.slots) (rules_of old.session) (spot_of old) start (cut_one (rules_of old.session) start group asked).closed old.log.gate histories'

-- all is as it was: there was no memory to know what the line asks
pub record IsUntouched (old new : EngineParts) (held held' : Option (List ℕ)) (histories histories' : Devices (Option DiskHistory)) (stop : RunStop) : Type 0 where
  pub stopped : stop ≡ NoMemory
  pub engine : new ≡ old
  pub output : held' ≡ held
  pub devices : histories' ≡ histories

-- a line was not served: it wasn't known what it asks, or that was not answered
abbrev pub LineBroke : CatalogueState → List ℕ → EngineParts → EngineParts → Option (List ℕ) → Option (List ℕ) → Devices (Option DiskHistory) → Devices (Option DiskHistory) → Type 0 → RunStop → Type 0
LineBroke catalogue line old new held held' histories histories' faulted stop =
    IsUntouched old new held held' histories histories' stop ⊎ ((asked : Request) × LineAsks catalogue line (asked ∷ []) × Broke catalogue asked old new held held' histories histories' faulted stop)

-- where it stops, the requests are one stop; else none of them is a stop
abbrev pub StopsWhere : Bool → List Request → Type 0
StopsWhere true asked = asked ≡ request.Stop ∷ []
StopsWhere false asked = NoStop asked

-- a line was served, and is a stop or not
pub record LineServed (catalogue : CatalogueState) (line : List ℕ) (stops : Bool) (old new : EngineParts) (held held' : Option (List ℕ)) (histories histories' : Devices (Option DiskHistory)) : Type 0 where
  pub asked : List Request
  pub asks : LineAsks catalogue line asked
  pub stop : StopsWhere stops asked
  pub replied : Replied catalogue asked old new held held' histories histories'

-- ---- all lines

-- An engine that began so has served these requests, and has given these replies.
pub record GoesFrom (first now : EngineParts) (requests : List Request) (given : List Reply) (histories histories' : Devices (Option DiskHistory)) : Type 0 where
  pub closes : Closes (rules_of first.session) (spot_of first) (state_now first.session) (cut (rules_of first.session) (state_now first.session) requests) given now
  pub keeps : KeepsEach (committed (rules_of first.session) (state_now first.session) requests) first now histories histories'
  pub stands : StandsForEach (committed (rules_of first.session) (state_now first.session) requests) first now histories histories'
  pub grows : OnlyGrows first now
  pub kept : AllByRecursion (IsKept now) given
  pub plain : AllByRecursion IsPlain given
  pub saves : (before rest : List Request) → requests ≡ before ++ request.Save ∷ rest → SaveFits (rules_of first.session) (spot_of first) (state_now first.session) before
  pub durable : durable_of now ≡ now.session.before
  pub slots : NoSave requests → slots_of histories' ≡ slots_of histories
  pub still : requests ≡ [] → histories' ≡ histories

-- lines were handed out, and that many bytes were taken, not too many; those ahead are of one read
pub record HasRead (left left' : Option (List ℕ)) (reader : ReaderState) (lines : List (List ℕ)) : Type 0 where
  pub handed : IfSome left (λ text. (rest : List ℕ) × (known reader left' ≡ Some rest) × HandsOut text lines rest)
  pub bytes : List ℕ
  pub gave : Gave left bytes left'
  pub counted : length bytes ≡ reader.taken
  pub limit : reader.limit ≡ MAX_INPUT
  pub within : reader.taken ≤ MAX_INPUT
  pub short : length reader.ahead < MAX_READ

-- between two lines
pub record Serving (first now : EngineParts) (left left' : Option (List ℕ)) (reader : ReaderState) (held held' : Option (List ℕ)) (histories histories' : Devices (Option DiskHistory)) : Type 0 where
  pub lines : List (List ℕ)
  pub read : HasRead left left' reader lines
  pub requests : List Request
  pub asked : LinesAsk first.session.catalogue lines requests
  pub unstopped : NoStop requests
  pub given : List Reply
  pub took : Took held (texts first.session.catalogue given) held'
  pub goes : GoesFrom first now requests given histories histories'

-- all was done: the last request is a stop, all replies were written, and each group has room
pub record IsDone (rules : Rules) (spot : LogSpot) (start : SessionState) (requests : List Request) (given : List Reply) (out : List ℕ) : Type 0 where
  pub before : List Request
  pub stops : requests ≡ before ++ request.Stop ∷ []
  pub replied : given ≡ replies rules start requests
  pub written : out ≡ texts rules.catalogue given
  pub fit : AllByRecursion GroupFits (closed_groups rules spot start requests)

-- What was served, whatever the end.
pub record Served (first now : EngineParts) (left left' held held' : Option (List ℕ)) (histories histories' : Devices (Option DiskHistory)) (faulted : Type 0) (result : Result (Unit {0}) RunStop) : Type 0 where
  pub lines : List (List ℕ)
  pub ahead : List ℕ  -- taken, and not handled
  pub handled : WereHandled left lines ahead left'
  pub few : ¬ IsErrOf result TooLong → TookAtMost MAX_INPUT left left'
  pub long : IsErrOf result TooLong → IsOverLong ahead left left'
  pub cut : IsErrOf result InputFault → HasNoFeed ahead
  pub no_further : ¬ IsErrOf result InputFault → ¬ IsErrOf result TooLong → ¬ IsErrOf result NoMemory → length ahead < MAX_READ
  pub requests : List Request
  pub asked : WereAsked first.session.catalogue lines (prepend_known ahead left') requests
  pub last : StopsLast requests
  pub given : List Reply
  pub out : List ℕ
  pub took : Took held out held'
  pub prefix : IsTextPrefix out (texts first.session.catalogue given)
  pub whole : (out ≡ texts first.session.catalogue given) ⊎ faulted
  pub keeps : KeepsEach (committed (rules_of first.session) (state_now first.session) requests) first now histories histories'
  pub grows : OnlyGrows first now
  pub kept : AllByRecursion (IsKept now) given
  pub plain : AllByRecursion IsPlain given
  pub firsts : AreFirst given (replies (rules_of first.session) (state_now first.session) requests)
  pub durable : HasWorked result → EndsGroups (rules_of first.session) (spot_of first) (state_now first.session) requests now.log.gate
  pub large : (bytes : ℕ) → IsErrOf result (TooLarge bytes) → EndsUnsaved (rules_of first.session) (spot_of first) (state_now first.session) requests now.log.gate
  pub full : (need : ℕ) → IsErrOf result (LogFull need) → BeforeLast (λ before. EndsGroups (rules_of first.session) (spot_of first) (state_now first.session) before now.log.gate) requests
  pub torn : IsErrOf result DiskFault → BeforeLast (λ before. IsTorn (rules_of first.session) (spot_of first) (state_now first.session) before requests histories') requests
  pub slots : NoSave requests → slots_of histories' ≡ slots_of histories
  pub still : requests ≡ [] → histories' ≡ histories
  pub fit : GivesFitting (closed_groups (rules_of first.session) (spot_of first) (state_now first.session) requests) given
  pub saves : SavesFit (rules_of first.session) (spot_of first) (state_now first.session) requests result
  pub there : IfErr result (λ stop. StopsThere (rules_of first.session) (spot_of first) (state_now first.session) requests given out stop)
  pub ending : MatchResult result (λ _. IsDone (rules_of first.session) (spot_of first) (state_now first.session) requests given out) (λ stop. IsStoppedAt (rules_of first.session) (spot_of first) (state_now first.session) requests given stop)
