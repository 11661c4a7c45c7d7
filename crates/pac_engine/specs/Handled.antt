-- What an engine does with one request, whatever its answer.
use Rattle.std.specs.Prelude.{◌≡◌, ◌⊎◌, ℕ, List, [], Option, Result, IfErr, IfOk, MatchResult, OnOk}
use Rattle.std.specs.List.{AllByRecursion}
use Rattle.pac_outside.specs.Devices.{each}
use Rattle.pac_outside.specs.Disk.{DiskHistory}
use Rattle.pac_outside.specs.declared.devices.Devices.{Devices}
use Rattle.pac_check.specs.SlotStates.{active_of, by_slot, spare_of}
use Rattle.pac_request.specs.declared.request.Request.{Request}
use Rattle.pac_request.specs.declared.request.Request.TheVariants.{Save}
use Rattle.pac_request.specs.declared.request.Reply.{Reply}
use Rattle.pac_session.specs.Session.{SessionState, commits}
use Rattle.pac_session.specs.Groups.{cut_one}
use Rattle.pac_session.specs.Open.{IsInGroup, Open, rules_of, state_now}
use Rattle.pac_engine.specs.declared.fault.EngineCause.{EngineCause}
use Rattle.pac_engine.specs.declared.fault.EngineCause.TheVariants.{DiskFault, LogFull, TooLarge, Ended, NoMemory}
use Rattle.pac_engine.specs.declared.fault.EngineFault.{EngineFault}
use Rattle.pac_engine.specs.declared.parts.EngineParts.{EngineParts}
use Rattle.pac_engine.specs.Closing.{Closes, CountsFault, IsKept, MayEndAfter, StopsAt}
use Rattle.pac_engine.specs.Committing.{gate_past}
use Rattle.pac_engine.specs.Moves.{IsLive}
use Rattle.pac_engine.specs.Standing.{HasDevices, KeepsMore, OnlyGrows, StandsForMore, spot_of}

-- What a step leaves where there is no room. Where the log has none for a group, no device is called, and the log ends where it
-- ended. Where a slot has none for the checkpoint of a save, no slot is called, and the log ends after the group that the save ends.
-- The engine knows what the devices hold then.
abbrev pub StopsForRoom : {D : Type 0} → (D → Option DiskHistory) → Request → EngineCause → EngineParts → EngineParts → Devices D → Devices D → Type 0
StopsForRoom known asked (LogFull need) before now old new = (new ≡ old) × (now.log.gate ≡ before.log.gate) × HasDevices known now new
StopsForRoom known asked (TooLarge bytes) before now old new = (asked ≡ Save) × (new.slot_a ≡ old.slot_a) × (new.slot_b ≡ old.slot_b) × (now.log.gate ≡ gate_past before.session.txns before.log.gate) × HasDevices known now new
StopsForRoom known asked DiskFault before now old new = Unit {0}
StopsForRoom known asked NoMemory before now old new = Unit {0}
StopsForRoom known asked Ended before now old new = Unit {0}

-- What is given out of an open group before a device fails: nothing, or the replies of the group that a save closes.
abbrev pub GivesBefore : Request → Open → List Reply → Type 0
GivesBefore asked session given = (given ≡ []) ⊎ ((asked ≡ Save) × (given ≡ session.held))

-- The request was handled by the engine as it was before. The replies are those of the groups that it closes, or it stops at
-- one of these; what they report is durable; the devices stand for the history at each moment, and the engine for that with
-- the transactions of the request; only a save calls a slot, and only a save gives out replies before a device fails; what has
-- no room is not begun; where a device failed the log ends where it ended, or after the group; and no call of a device comes
-- after one that failed.
pub record IsHandled {D : Type 0} (known : D → Option DiskHistory) (faults : D → ℕ) (asked : Request) (before now : EngineParts) (old new : Devices D) (result : Result (List Reply) EngineFault) : Type 0 where
  pub closes : (start : SessionState) (group : List Request) → IsInGroup start group before.session
      → IfOk result (λ given. Closes (rules_of before.session) (spot_of before) start (cut_one (rules_of before.session) start group asked) given now)
  pub stops : (start : SessionState) (group : List Request) → IsInGroup start group before.session
      → IfErr result (λ fault. StopsAt (rules_of before.session) (spot_of before) start (cut_one (rules_of before.session) start group asked).closed fault.replies fault.cause)
  pub kept : IfOk result (λ given. AllByRecursion (IsKept now) given)
  pub kept_before : IfErr result (λ fault. AllByRecursion (IsKept now) fault.replies)
  pub live : OnOk result (IsLive now)
  pub grows : OnlyGrows before now
  pub same : OnOk result (rules_of now.session ≡ rules_of before.session)
  pub ready : OnOk result (HasDevices known now new)
  pub keeps : KeepsMore known (commits (rules_of before.session) (state_now before.session) asked) before now old new
  pub stands : OnOk result (StandsForMore known (commits (rules_of before.session) (state_now before.session) asked) before now old new)
  pub goes_on : IfErr result (λ fault. ¬ (fault.cause ≡ Ended))
  pub given : IfErr result (λ fault. fault.cause ≡ DiskFault → GivesBefore asked before.session fault.replies)
  pub slots : (asked ≡ Save → ⊥) → (new.slot_a ≡ old.slot_a) × (new.slot_b ≡ old.slot_b)
  pub newest : by_slot (spare_of before.slots) (known new.slot_b) (known new.slot_a) ≡ by_slot (spare_of before.slots) (known old.slot_b) (known old.slot_a)
  pub room : IfErr result (λ fault. StopsForRoom known asked fault.cause before now old new)
  pub torn : IfErr result (λ fault. fault.cause ≡ DiskFault → (start : SessionState) (group : List Request) → IsInGroup start group before.session
      → MayEndAfter (active_of before.slots) (rules_of before.session) (spot_of before) start (cut_one (rules_of before.session) start group asked).closed before.log.gate (each known new))
  pub counted : MatchResult result (λ _. each faults new ≡ each faults old) (λ fault. CountsFault fault.cause (each faults old) (each faults new))
