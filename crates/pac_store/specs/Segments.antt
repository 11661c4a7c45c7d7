-- How a store's active segment is told apart from those before it.
use Rattle.std.specs.Prelude.{◌≡◌, ◌<◌, ◌≤◌, ℕ, List, [], ◌∷◌, Option, Some, None}
use Rattle.pac_outside.specs.Devices.{other_log}
use Rattle.pac_outside.specs.declared.devices.LogName.{LogName}
use Rattle.pac_outside.specs.declared.devices.LogName.TheVariants.{Log}
use Rattle.pac_check.specs.declared.info.SlotInfo.{SlotInfo}
use Rattle.pac_check.specs.declared.state.SlotState.{SlotState}
use Rattle.pac_check.specs.SlotStates.{newest_among}
use Rattle.pac_store.specs.Stored.{active_among}

-- the active segment: its device, how many transactions came before it, and the number of the newest slot, where one is open
pub record Segment : Type 0 where
  pub name : LogName
  pub base : ℕ
  pub newest : Option ℕ

-- the newest slot has a number of the segment; where no slot is open, it is the log, before which no transaction came
abbrev pub IsWithinSegment : LogName → ℕ → Option ℕ → Type 0
IsWithinSegment name base None = (name ≡ Log) × (base ≡ 0)
IsWithinSegment name base (Some number) = base ≤ number

abbrev pub IsPossible : Segment → Type 0
IsPossible segment = IsWithinSegment segment.name segment.base segment.newest

-- the number of a slot
abbrev pub saved_number : Option SlotInfo → Option ℕ
saved_number None = None
saved_number (Some info) = Some info.txns

-- the segment that is active by two slots, where it has this base
abbrev pub segment_by : SlotState → SlotState → ℕ → Segment
segment_by a b base = record { name = active_among a b; base = base; newest = saved_number (newest_among a b) }

-- the number is above the newest slot's, where there is one
abbrev pub IsAboveNewest : Option ℕ → ℕ → Type 0
IsAboveNewest None number = Unit {0}
IsAboveNewest (Some newest) number = newest < number

-- a checkpoint of this number was published
abbrev pub after_one : ℕ → Segment → Segment
after_one number segment = record { name = other_log segment.name; base = number; newest = Some number }

-- checkpoints of these numbers were, one after another
abbrev pub after_each : List ℕ → Segment → Segment
after_each [] segment = segment
after_each (number ∷ numbers) segment = after_each numbers (after_one number segment)

-- each of the numbers is above the one before
abbrev pub CanBePublished : List ℕ → Segment → Type 0
CanBePublished [] segment = Unit {0}
CanBePublished (number ∷ numbers) segment = IsAboveNewest segment.newest number × CanBePublished numbers (after_one number segment)
