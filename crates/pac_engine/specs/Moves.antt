-- What an engine keeps between requests, and what single moves make of it.
use Rattle.std.specs.Prelude.{◌≡◌, ◌<◌, ◌≤◌, ◌+◌, ℕ, Bool, false, if◌then◌else◌, List, length, Some}
use Rattle.std.specs.List.{AllByRecursion}
use Rattle.pac_ops.specs.declared.transaction.Txn.{Txn}
use Rattle.pac_types.specs.Fits.{TxnFits}
use Rattle.pac_request.specs.declared.request.Request.{Request}
use Rattle.pac_request.specs.declared.request.Reply.{Reply}
use Rattle.pac_request.specs.declared.request.Reply.TheVariants as reply
use Rattle.pac_log.specs.declared.log.Stage.TheVariants.{Waiting}
use Rattle.pac_check.specs.declared.head.Head.{Head}
use Rattle.pac_check.specs.declared.limits.TheConstants.{MAX_SAVED_ROWS}
use Rattle.pac_check.specs.Checkpoints.{checkpoint_bytes}
use Rattle.pac_check.specs.Saved.{checkpoint_of}
use Rattle.pac_check.specs.SlotStates.{closed_slots, coming_head, newest_of, published_slots}
use Rattle.pac_log.specs.Gates.{next_segment}
use Rattle.pac_session.specs.Session.{txn_of}
use Rattle.pac_session.specs.Groups.{is_closing, is_save, lacks_room, saves_anew}
use Rattle.pac_session.specs.Open.{Open, with_asked, with_closed}
use Rattle.pac_engine.specs.declared.parts.EngineParts.{EngineParts}
use Rattle.pac_engine.specs.Committing.{gate_past}
use Rattle.pac_engine.specs.Standing.{durable_of, saved_of}

-- a reply that is held: its transaction is among the first n
abbrev pub IsHeldBy : ℕ → Reply → Type 0
IsHeldBy number (reply.Committed txn) = txn ≤ number
IsHeldBy number (reply.Aborted op reason) = Unit {0}
IsHeldBy number (reply.AbortedFull table) = Unit {0}
IsHeldBy number (reply.Shown table key row) = Unit {0}
IsHeldBy number (reply.Refused fault) = Unit {0}
IsHeldBy number (reply.Saved txns) = ⊥

-- the replies that a session holds are of its transactions
abbrev pub AreHeld : Open → Type 0
AreHeld now = AllByRecursion (IsHeldBy (now.before + length now.txns)) now.held

-- An engine that works: neither its log nor its slots have failed; the log is of the session's catalogue and has as many
-- transactions as were committed before the open group, which has no fewer replies than transactions. The limit on rows allows
-- tables to be saved, and no checkpoint is ahead of the log.
pub record IsWorking (engine : EngineParts) : Type 0 where
  pub waits : engine.log.stage ≡ Waiting
  pub works : engine.slots.has_failed ≡ false
  pub same : engine.log.gate.catalogue ≡ engine.session.catalogue
  pub counted : engine.log.gate.txns ≡ engine.session.before
  pub some : 0 < engine.session.most
  pub fewer : length engine.session.txns ≤ length engine.session.held
  pub held : AreHeld engine.session
  pub limit : engine.session.limit ≤ MAX_SAVED_ROWS
  pub saved : saved_of engine ≤ durable_of engine + 1

-- between requests the open group isn't full
pub record IsLive (engine : EngineParts) : Type 0 where
  pub working : IsWorking engine
  pub unfull : length engine.session.held < engine.session.most

-- a request after those of the open group
abbrev pub with_request : Request → EngineParts → EngineParts
with_request asked engine = record engine { session = with_asked asked engine.session }

-- the open group closed, and committed
abbrev pub committed_parts : EngineParts → EngineParts
committed_parts engine = record engine { session = with_closed engine.session; log = record { gate = gate_past engine.session.txns engine.log.gate; stage = Waiting } }

-- the head of the checkpoint that a save writes
abbrev pub saved_head : EngineParts → Head
saved_head engine = coming_head engine.slots engine.log.gate.txns (next_segment engine.log.gate).place

-- and the checkpoint's bytes
abbrev pub saved_bytes : EngineParts → List ℕ
saved_bytes engine = checkpoint_bytes (checkpoint_of (length engine.session.catalogue.tables) (saved_head engine) engine.session.tables)

-- a checkpoint is written, and the next segment begun
abbrev pub written_parts : EngineParts → EngineParts
written_parts engine = record engine { slots = published_slots (saved_head engine) (closed_slots engine.slots); log = record { gate = next_segment engine.log.gate; stage = Waiting } }

-- a save writes a checkpoint, or leaves all as it is
abbrev pub saved_parts : EngineParts → EngineParts
saved_parts engine = if saves_anew (saved_of engine) (durable_of engine) then written_parts engine else engine

-- what is durable and saved is as it was, and the same segment is active
pub record IsUnmoved (before now : EngineParts) : Type 0 where
  pub gate : now.log.gate ≡ before.log.gate
  pub newest : newest_of now.slots ≡ newest_of before.slots

-- A request was executed after those of the open group, which had room for its transaction; what is known of the request, which is
-- no save, and of whether it closes its group.
pub record IsAsked (before : EngineParts) (asked : Request) (closing : Bool) (now : EngineParts) : Type 0 where
  pub live : IsLive before
  pub fits : (txn : Txn) → txn_of asked ≡ Some txn → TxnFits before.session.catalogue txn
  pub room : lacks_room before.session.txns (txn_of asked) ≡ false
  pub closes : closing ≡ is_closing asked
  pub unsaved : is_save asked ≡ false
  pub becomes : now ≡ with_request asked before
