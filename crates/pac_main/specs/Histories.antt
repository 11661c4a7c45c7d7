-- What a command leaves of the history that a store stands for.
use Rattle.std.specs.Prelude.{◌≡◌, ◌≤◌, ◌⊎◌, ℕ, List, [], length, take}
use Rattle.pac_ops.specs.declared.transaction.Txn.{Txn}
use Rattle.pac_outside.specs.Devices.{AllLeave, AreImages}
use Rattle.pac_outside.specs.Disk.{DiskHistory}
use Rattle.pac_outside.specs.Parts.{reads_of}
use Rattle.pac_outside.specs.declared.devices.Devices.{Devices}
use Rattle.pac_types.specs.Accepted.{IsAccepted}
use Rattle.pac_types.specs.Typing.{CatalogueState}
use Rattle.pac_store.specs.Stands.{EndsWith, StandsFor}
use Rattle.pac_request.specs.declared.request.Request.{Request}
use Rattle.pac_session.specs.Session.{Rules, SessionState}
use Rattle.pac_run.specs.Acked.{Acknowledges}
use Rattle.pac_run.specs.Opening.{AllStand}
use Rattle.pac_run.specs.Run.{history_after}

-- ---- a new store

-- The devices have a new store of this text: the catalogue is that of the text, and each image that a crash may leave stands
-- for no transactions.
pub record StandsForNone (text : List ℕ) (catalogue : CatalogueState) (devices : Devices DiskHistory) : Type 0 where
  pub accepted : IsAccepted text catalogue
  pub stands : AllStand text catalogue [] 0 devices

-- ---- a run

-- devices stand for a history as a command finds them: each image that a crash may leave does, and what a read of them gives
pub record FoundStanding (text : List ℕ) (catalogue : CatalogueState) (history : List Txn) (least : ℕ) (devices : Devices DiskHistory) : Type 0 where
  pub images : AllStand text catalogue history least devices
  pub read : StandsFor text catalogue history least (reads_of devices)

-- A session of these requests began after the first transactions of the history, which are at least that many, with the tables
-- that serial execution of these gives. Each image that a crash may leave at the exit stands for them and then those that the
-- session commits, and has at least as many as the output acknowledges.
pub record Commits (text : List ℕ) (catalogue : CatalogueState) (history : List Txn) (least : ℕ) (rules : Rules) (start : SessionState) (requests : List Request) (out : List ℕ) (exit : Devices DiskHistory) : Type 0 where
  pub same : rules.catalogue ≡ catalogue
  pub enough : least ≤ start.number
  pub within : start.number ≤ length history
  pub begun : EndsWith catalogue (take start.number history) start.tables
  pub kept : ℕ
  pub more : start.number ≤ kept
  pub acknowledged : (number : ℕ) → Acknowledges out number → number ≤ kept
  pub stands : AllStand text catalogue (history_after history rules start requests) kept exit

-- the output took nothing, and each image at the exit is one of entry; or the session's transactions are committed
abbrev pub LeavesHistory : List ℕ → CatalogueState → List Txn → ℕ → Rules → SessionState → List Request → List ℕ → Devices DiskHistory → Devices DiskHistory → Type 0
LeavesHistory text catalogue history least rules start requests out entry exit =
    ((out ≡ []) × AllLeave (AreImages entry) exit) ⊎ Commits text catalogue history least rules start requests out exit
