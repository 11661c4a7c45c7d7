-- What is observed of the streams and devices that a command was given.
use Rattle.std.specs.Prelude.{◌⊎◌, ◌==◌, ℕ, List, Option, IsTrue}
use Rattle.std.specs.List.{list_any}
use Rattle.pac_outside.specs.Causes.{Faulted}
use Rattle.pac_outside.specs.Content.{Took, TookPrefix}
use Rattle.pac_outside.specs.Devices.{OneFaulted, each}
use Rattle.pac_outside.specs.Disk.{DiskHistory}
use Rattle.pac_outside.specs.declared.devices.Devices.{Devices}

-- a stream before and after a command: the bytes that a source has left or that a sink holds, where that is known, and its
-- count of faults
pub record Observed : Type 0 where
  pub before : Option (List ℕ)
  pub after : Option (List ℕ)
  pub faults_before : ℕ
  pub faults_after : ℕ

-- a stream by its known bytes and its count of faults, observed as it was and as it is
abbrev pub observed : {S : Type 0} → (S → Option (List ℕ)) → (S → ℕ) → S → S → Observed
observed bytes faults old new = record { before = bytes old; after = bytes new; faults_before = faults old; faults_after = faults new }

-- its count of faults rose
abbrev pub AnyFaulted : Observed → Type 0
AnyFaulted stream = Faulted stream.faults_before stream.faults_after

-- the sink took the text
abbrev pub IsTaken : Observed → List ℕ → Type 0
IsTaken sink text = Took sink.before text sink.after

-- the sink took a prefix of the text
abbrev pub IsPrefixTaken : Observed → List ℕ → Type 0
IsPrefixTaken sink text = TookPrefix sink.before text sink.after

-- the sink took the line, or its count of faults rose and it took a prefix of it
abbrev pub IsReported : Observed → List ℕ → Type 0
IsReported sink line = IsTaken sink line ⊎ (AnyFaulted sink × IsPrefixTaken sink line)

-- a command has one of these statuses
abbrev pub IsOneOf : ℕ → List ℕ → Type 0
IsOneOf status statuses = IsTrue (list_any (λ s. s == status) statuses)

-- the devices of a store before and after a command: what is known of each, and its count of faults
pub record ObservedDevices : Type 0 where
  pub before : Devices (Option DiskHistory)
  pub after : Devices (Option DiskHistory)
  pub faults_before : Devices ℕ
  pub faults_after : Devices ℕ

-- no fault was counted: it isn't so that the count of exactly one device rose by one, nor that of the stream did
abbrev pub IsFaultless : ObservedDevices → Observed → Type 0
IsFaultless devices stream = ¬ OneFaulted devices.faults_before devices.faults_after × ¬ AnyFaulted stream

-- devices by what is known of them and their counts of faults, observed as they were and as they are
abbrev pub observed_devices : {D : Type 0} → (D → Option DiskHistory) → (D → ℕ) → Devices D → Devices D → ObservedDevices
observed_devices known faults old new = record { before = each known old; after = each known new; faults_before = each faults old; faults_after = each faults new }
