-- Runs one after another, and what is recovered after them.
use Rattle.std.specs.Prelude.{◌≡◌, ◌≤◌, ◌⊎◌, ℕ, List, [], ◌∷◌, take, Some}
use Rattle.std.specs.List.{AllZip}
use Rattle.pac_ops.specs.declared.transaction.Txn.{Txn}
use Rattle.pac_outside.specs.Content.{Took}
use Rattle.pac_outside.specs.Devices.{AllLeave, AreImages, OnEach, OneFaulted, all_known}
use Rattle.pac_outside.specs.Disk.{DiskHistory, settled}
use Rattle.pac_outside.specs.Parts.{reads_of}
use Rattle.pac_outside.specs.declared.devices.Devices.{Devices}
use Rattle.pac_types.specs.Accepted.{IsAccepted}
use Rattle.pac_types.specs.Typing.{CatalogueState}
use Rattle.pac_request.specs.declared.request.Request.{Request}
use Rattle.pac_session.specs.Session.{Rules, SessionState}
use Rattle.pac_run.specs.Acked.{Acknowledges}
use Rattle.pac_run.specs.Opening.{AllStand}
use Rattle.pac_run.specs.Run.{history_after}
use Rattle.pac_main.specs.Histories.{FoundStanding, StandsForNone, LeavesHistory}
use Rattle.pac_main.specs.Recover.{Recovery, RecoversPrefix}
use Rattle.pac_main.specs.Run.{RunEnds}
use Rattle.pac_main.specs.Streams.{AnyFaulted, IsOneOf, Observed, ObservedDevices}

-- ---- what a run is begun on

-- Devices are found as they were left: each image that a crash may leave of them, and what a read of them gives, is one that
-- a crash might have left of the devices before. So it is after a power cut, which leaves one image and nothing that isn't
-- synced, and after a process was killed, which leaves the devices as they were.
pub record AreFound (left found : Devices DiskHistory) : Type 0 where
  pub images : AllLeave (AreImages left) found
  pub read : AreImages left (reads_of found)

-- the devices hold these images: a read gives them, and a crash leaves nothing else
abbrev pub HoldImages : Devices (List ℕ) → Devices DiskHistory → Type 0
HoldImages images devices = OnEach (λ image device. device.now ≡ settled image) images devices

-- each device is in the state that it was left in
abbrev pub AreAsLeft : Devices DiskHistory → Devices DiskHistory → Type 0
AreAsLeft left found = OnEach (λ old new. new.now ≡ old.now) left found

-- ---- runs one after another

-- A run, however it ended, over devices whose histories are known: the requests of its session and what its output took. A stop at
-- any moment is a run whose devices fail from that call on. `leaves` is a part of what is said of the command.
pub record OneRun : Type 0 where
  pub rules : Rules
  pub start : SessionState
  pub requests : List Request
  pub out : List ℕ
  pub entry : Devices DiskHistory
  pub exit : Devices DiskHistory
  pub leaves : (text : List ℕ) (catalogue : CatalogueState) (history : List Txn) (least : ℕ)
      → FoundStanding text catalogue history least entry → LeavesHistory text catalogue history least rules start requests out entry exit

-- this is the run that ended so, on devices with these histories: its session is that of the command, and the output took its text
pub record IsRunThat {group_size limit status : ℕ} {input output errors : Observed} {devices : ObservedDevices} (ends : RunEnds group_size limit status input output errors devices) (entry exit : Devices DiskHistory) (run : OneRun) : Type 0 where
  pub rules : run.rules ≡ ends.is.rules
  pub start : run.start ≡ ends.is.start
  pub requests : run.requests ≡ ends.is.requests
  pub entered : run.entry ≡ entry
  pub left : run.exit ≡ exit
  pub took : Took output.before run.out output.after

-- Each run is begun on devices as the one before it left them, the first on these, and the last leaves those.
abbrev pub AreRuns : Devices DiskHistory → List OneRun → Devices DiskHistory → Type 0
AreRuns first [] last = last ≡ first
AreRuns first (run ∷ runs) last = AreFound first run.entry × AreRuns run.exit runs last

-- ---- what is committed

-- The transactions that are committed after a run: either those before it, and then the output took nothing; or the first of
-- those before it, which its log had, and then those that its session commits.
abbrev pub IsNextRun : List Txn → OneRun → List Txn → Type 0
IsNextRun history run next = ((run.out ≡ []) × (next ≡ history)) ⊎ (next ≡ history_after history run.rules run.start run.requests)

-- after each of the runs, and in the end
abbrev pub AreNext : List Txn → List OneRun → List (List Txn) → List Txn → Type 0
AreNext history [] nexts last = (nexts ≡ []) × (last ≡ history)
AreNext history (run ∷ runs) [] last = ⊥
AreNext history (run ∷ runs) (next ∷ nexts) last = IsNextRun history run next × AreNext next runs nexts last

-- ---- what is kept

-- each transaction that the run's output acknowledges is among the first n of the last history, and is there what it was
-- after that run
abbrev pub IsKeptFrom : ℕ → List Txn → OneRun → List Txn → Type 0
IsKeptFrom kept last run next = (number : ℕ) → Acknowledges run.out number → (number ≤ kept) × (take number last ≡ take number next)

-- What the last run left stands for the transactions that are committed in the end, and the store has all that the outputs
-- of the runs acknowledge.
pub record KeepsAll (text : List ℕ) (catalogue : CatalogueState) (history : List Txn) (least : ℕ) (runs : List OneRun) (left : Devices DiskHistory) : Type 0 where
  pub nexts : List (List Txn)
  pub last : List Txn
  pub are : AreNext history runs nexts last
  pub kept : ℕ
  pub more : least ≤ kept
  pub same : take least last ≡ take least history
  pub acknowledged : AllZip (IsKeptFrom kept last) runs nexts
  pub stands : AllStand text catalogue last kept left

-- ---- recovery is exact

-- A store's life: it was made of a text, these runs went over it, one after another, and then a recovery ended, which was begun on
-- what the last of them left.
pub record Life : Type 0 where
  pub text : List ℕ
  pub catalogue : CatalogueState
  pub first : Devices DiskHistory
  pub made : StandsForNone text catalogue first
  pub runs : List OneRun
  pub left : Devices DiskHistory
  pub ran : AreRuns first runs left
  pub found : Devices DiskHistory
  pub begun : AreFound left found
  pub limit : ℕ
  pub status : ℕ
  pub devices : ObservedDevices
  pub output : Observed
  pub known : all_known devices.before ≡ Some found
  pub recovery : Recovery limit status devices output

-- Recovery is exact. The catalogue is that of the text. What the last run left stands for the committed transactions in the order of
-- their numbers, and has all that the runs acknowledged. The recovery wrote the dump of the tables that serial execution
-- gives for a prefix of these with at least as many, or its status says why not: a table over the limit, a fault of the output or of
-- a device that rose, or no memory.
pub record RecoversExactly (life : Life) : Type 0 where
  pub accepted : IsAccepted life.text life.catalogue
  pub keeps : KeepsAll life.text life.catalogue [] 0 life.runs life.left
  pub statuses : IsOneOf life.status (0 ∷ 5 ∷ 7 ∷ 8 ∷ 9 ∷ [])
  pub recovers : RecoversPrefix life.limit life.status life.catalogue keeps.last keeps.kept life.devices life.output
  pub output_fault : life.status ≡ 7 → AnyFaulted life.output
  pub disk_fault : life.status ≡ 8 → OneFaulted life.devices.faults_before life.devices.faults_after
