-- How `recover` ends.
use Rattle.std.specs.Prelude.{◌≡◌, ◌≢◌, ◌≤◌, ◌⊎◌, ℕ, List, [], ◌∷◌, length, take, Option, None, codes}
use Rattle.pac_value.specs.State.{Tables}
use Rattle.pac_ops.specs.declared.note.Note.{Note}
use Rattle.pac_ops.specs.declared.transaction.Txn.{Txn}
use Rattle.pac_outside.specs.Devices.{OneFaulted}
use Rattle.pac_outside.specs.Disk.{DiskHistory}
use Rattle.pac_outside.specs.declared.devices.Devices.{Devices}
use Rattle.pac_types.specs.Execution.{first_over}
use Rattle.pac_types.specs.Typing.{CatalogueState}
use Rattle.pac_store.specs.Images.{Images, IfImagesKnown}
use Rattle.pac_store.specs.Stands.{EndsWith, StandsFor}
use Rattle.pac_restore.specs.declared.errors.Damage.{Damage}
use Rattle.pac_restore.specs.declared.errors.LoadError.TheVariants as load
use Rattle.pac_restore.specs.Restoring.{AbortsIn, IsOverIn, IsRecoveredFrom}
use Rattle.pac_restore.specs.Prefixes.{IsPrefixOverLimit}
use Rattle.pac_restore.specs.Refusals.{AreRefusedAs}
use Rattle.pac_report.specs.Dump.{tables_text}
use Rattle.pac_main.specs.Stop.{abort_line, damaged_line, rows_line}
use Rattle.pac_main.specs.Streams.{Observed, ObservedDevices, AnyFaulted, IsFaultless, IsTaken, IsPrefixTaken, IsReported, IsOneOf}

-- These tables of this catalogue are within the limit, and their dump has this property. Where the devices' histories are known, they are
-- those with which serial execution of what is stored ends.
pub record IsRecovery (limit : ℕ) (devices : Devices (Option DiskHistory)) (P : List ℕ → Type 0) : Type 0 where
  pub catalogue : CatalogueState
  pub tables : Tables
  pub txns : ℕ
  pub is : IfImagesKnown (IsRecoveredFrom catalogue tables txns) devices
  pub within : first_over limit (length catalogue.tables) tables ≡ None
  pub has : P (tables_text tables 0 catalogue.tables)

-- ---- devices that stand for a history

-- tables with which serial execution of the first n transactions of a history ends, from no rows on; these are at
-- least that many
pub record AreOfPrefix (catalogue : CatalogueState) (history : List Txn) (least : ℕ) (tables : Tables) : Type 0 where
  pub count : ℕ
  pub enough : least ≤ count
  pub within : count ≤ length history
  pub ends : EndsWith catalogue (take count history) tables

-- the dump of such tables, which are within the limit, has this property
pub record IsDumpOfPrefix (limit : ℕ) (catalogue : CatalogueState) (history : List Txn) (least : ℕ) (P : List ℕ → Type 0) : Type 0 where
  pub tables : Tables
  pub are : AreOfPrefix catalogue history least tables
  pub within : first_over limit (length catalogue.tables) tables ≡ None
  pub has : P (tables_text tables 0 catalogue.tables)

-- no such tables are over the limit
abbrev pub StaysInLimit : ℕ → CatalogueState → List Txn → ℕ → Type 0
StaysInLimit limit catalogue history least = (tables : Tables) → AreOfPrefix catalogue history least tables → first_over limit (length catalogue.tables) tables ≡ None

-- How `recover` ends on devices that stand for a history of at least that many transactions. The output takes the dump of
-- the tables that serial execution gives for a prefix of the history with at least that many, or an outside fault rose, a
-- table is over the limit, or there was no memory. Nothing is damaged, and nothing aborts.
pub record RecoversPrefix (limit status : ℕ) (catalogue : CatalogueState) (history : List Txn) (least : ℕ) (devices : ObservedDevices) (output : Observed) : Type 0 where
  pub done : status ≡ 0 → IsDumpOfPrefix limit catalogue history least (IsTaken output)
  pub undamaged : status ≢ 3
  pub executes : status ≢ 4
  pub over_limit : status ≡ 5 → (name : List ℕ) × (rows : ℕ) × IsPrefixOverLimit catalogue history least name rows limit
  pub output_fault : status ≡ 7 → IsDumpOfPrefix limit catalogue history least (IsPrefixTaken output)
  pub complete : IsFaultless devices output → StaysInLimit limit catalogue history least → IsOneOf status (0 ∷ 9 ∷ [])

-- ---- the statuses

-- there is no store, or this is its first damage, and the line that is reported says so
abbrev pub IsRefusedStore : Devices (Option DiskHistory) → Observed → Type 0
IsRefusedStore devices errors = (AreRefusedAs devices load.NoStore × IsReported errors (codes "no store\n")) ⊎ ((damage : Damage) × AreRefusedAs devices (load.Damaged damage) × IsReported errors (damaged_line damage))

-- after all that is stored in these images no table has more rows than the limit
abbrev pub StoredInLimit : ℕ → Images → Type 0
StoredInLimit limit images = (name : List ℕ) (rows : ℕ) → ¬ IsOverIn name rows limit images

-- What a recovery says where its devices stand for a history, whatever its cause: the statuses that it may have, what it wrote
-- there, and that a fault of a device or of the output is an outside one.
pub record Recovery (limit status : ℕ) (devices : ObservedDevices) (output : Observed) : Type 0 where
  pub statuses : IsOneOf status (0 ∷ 3 ∷ 4 ∷ 5 ∷ 7 ∷ 8 ∷ 9 ∷ [])
  pub stands : (text : List ℕ) (catalogue : CatalogueState) (history : List Txn) (least : ℕ)
      → IfImagesKnown (λ images. StandsFor text catalogue history least images → RecoversPrefix limit status catalogue history least devices output) devices.before
  pub output_fault : status ≡ 7 → AnyFaulted output
  pub disk_fault : status ≡ 8 → OneFaulted devices.faults_before devices.faults_after

-- how `recover` ends under a limit of rows: the statuses that it may have, and a line for each that has a cause; the devices
-- are only read
pub record RecoverEnds (limit status : ℕ) (devices : ObservedDevices) (output errors : Observed) : Type 0 where
  pub is : Recovery limit status devices output
  pub done : status ≡ 0 → IsRecovery limit devices.before (IsTaken output)
  pub refused : status ≡ 3 → IsRefusedStore devices.before errors
  pub aborted : status ≡ 4 → (note : Note) × IfImagesKnown (AbortsIn note) devices.before × IsReported errors (abort_line note)
  pub over_limit : status ≡ 5 → (name : List ℕ) × (rows : ℕ) × IfImagesKnown (IsOverIn name rows limit) devices.before × IsReported errors (rows_line name rows limit)
  pub output_fault : status ≡ 7 → IsRecovery limit devices.before (IsPrefixTaken output)
  pub untouched : devices.after ≡ devices.before
  -- on devices that stand for a history, whose tables stay within the limit, where no fault was counted, they are recovered, or
  -- there was no memory
  pub complete : (text : List ℕ) (catalogue : CatalogueState) (history : List Txn) (least : ℕ)
      → IfImagesKnown (λ images. StandsFor text catalogue history least images → StoredInLimit limit images → IsFaultless devices output → IsOneOf status (0 ∷ 9 ∷ [])) devices.before
  pub quiet : status ≢ 8 → devices.faults_after ≡ devices.faults_before
