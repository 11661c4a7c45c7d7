-- Why a command stops, by its stop. The clauses of public calls don't name these: they say the same by the status.
use Rattle.std.specs.Prelude.{◌≡◌, ◌≢◌, ℕ, Bool, List, Ok, Err}
use Rattle.pac_value.specs.State.{Tables}
use Rattle.pac_ops.specs.declared.transaction.Txn.{Txn}
use Rattle.pac_outside.specs.Devices.{OneFaulted, IfAllKnown}
use Rattle.pac_store.specs.Images.{IfImagesKnown}
use Rattle.pac_store.specs.Made.{IsInUse}
use Rattle.pac_types.specs.declared.table.Table.{Table}
use Rattle.pac_types.specs.Typing.{CatalogueState}
use Rattle.pac_store.specs.Stands.{StandsFor}
use Rattle.pac_restore.specs.Limits.{IsFirstOver}
use Rattle.pac_restore.specs.Restoring.{AbortsIn, IsOverIn}
use Rattle.pac_restore.specs.Prefixes.{IsPrefixOverLimit}
use Rattle.pac_restore.specs.declared.errors.LoadError.TheVariants as load
use Rattle.pac_restore.specs.declared.errors.RecoverError.TheVariants as recover
use Rattle.pac_restore.specs.Refusals.{AreRefusedAs}
use Rattle.pac_restore.specs.Restoring.{AreRefused}
use Rattle.pac_flat.specs.declared.acceptance.AcceptFault.{AcceptFault}
use Rattle.pac_script.specs.declared.script.Script.{Script}
use Rattle.pac_script.specs.declared.script_fault.ScriptFault.{ScriptFault}
use Rattle.pac_script.specs.declared.script_fault.ScriptFault.TheVariants.{Unaccepted, Line}
use Rattle.pac_run.specs.declared.stop.RunStop.{RunStop}
use Rattle.pac_run.specs.declared.stop.RunStop.TheVariants as run
use Rattle.pac_stress.specs.Stressed.{IsSummaryOf}
use Rattle.pac_main.specs.declared.input.InputError.{InputError}
use Rattle.pac_main.specs.declared.input.InputError.TheVariants as input
use Rattle.pac_main.specs.declared.stop.Stop.{Stop}
use Rattle.pac_main.specs.declared.stop.Stop.TheVariants as stop
use Rattle.pac_main.specs.Streams.{Observed, ObservedDevices, AnyFaulted, IsTaken, IsPrefixTaken}
use Rattle.pac_main.specs.Init.{IsAcceptedInput, AreUntouched, IsNoStoreFor}
use Rattle.pac_main.specs.Replay.{IsReadAs, IsRefusedAs, IsLongScript, outcome, IsAbortOf, IsOverOf}
use Rattle.pac_main.specs.Lay.{IsFirstListFault, IsLaidDumpOf, IsLaidOverOf, IsNoLogFor, laid_tables}
use Rattle.pac_main.specs.declared.image_log.ImageLog.{ImageLog}
use Rattle.pac_main.specs.declared.image_log.LogFault.{LogFault}
use Rattle.pac_main.specs.declared.image_log.LogFault.TheVariants as log
use Rattle.pac_main.specs.Explained.{IsExplanationOf, IsUnexplainedAs}
use Rattle.pac_main.specs.Recover.{IsDumpOfPrefix, IsRecovery}

-- ---- `replay`

-- an input that isn't read whole
abbrev pub IsUnread : Observed → InputError → Type 0
IsUnread source input.Failed = AnyFaulted source
IsUnread source input.TooLong = IsLongScript source.before
IsUnread source (input.Script fault) = ⊥
IsUnread source input.NoMemory = Unit {0}

-- an input that gives no script
abbrev pub GivesNoScript : Observed → InputError → Type 0
GivesNoScript source input.Failed = AnyFaulted source
GivesNoScript source input.TooLong = IsLongScript source.before
GivesNoScript source (input.Script fault) = IsRefusedAs source.before fault
GivesNoScript source input.NoMemory = Unit {0}

-- a text that is no script
abbrev pub IsNoScript : List ℕ → InputError → Type 0
IsNoScript text input.Failed = ⊥
IsNoScript text input.TooLong = ⊥
IsNoScript text (input.Script fault) = IsReadAs text (Err fault)
IsNoScript text input.NoMemory = Unit {0}

-- a script whose transactions abort, end with tables over the limit, or find no memory
abbrev pub ScriptStops : ℕ → Script → Stop → Type 0
ScriptStops limit script (stop.Aborted note) = outcome script ≡ Err note
ScriptStops limit script (stop.RowsOver name rows most) = ((tables : Tables) × (outcome script ≡ Ok tables) × IsFirstOver limit script.catalogue.tables tables name rows) × (most ≡ limit)
ScriptStops limit script stop.NoMemory = Unit {0}
ScriptStops limit script _ = ⊥

-- the whole command, which writes a text; `IsWritten` says of which one something holds
abbrev pub ReplayStops : ℕ → ((List ℕ → Type 0) → Type 0) → Observed → Observed → Stop → Type 0
ReplayStops limit IsWritten source sink stop.Usage = ⊥
ReplayStops limit IsWritten source sink (stop.Script fault) = IsRefusedAs source.before fault
ReplayStops limit IsWritten source sink (stop.NotEmpty device length) = ⊥
ReplayStops limit IsWritten source sink stop.NoStore = ⊥
ReplayStops limit IsWritten source sink (stop.Damaged damage) = ⊥
ReplayStops limit IsWritten source sink (stop.Aborted note) = IsAbortOf source.before note
ReplayStops limit IsWritten source sink (stop.RowsOver name rows most) = IsOverOf limit source.before name rows × (most ≡ limit)
ReplayStops limit IsWritten source sink stop.InputFault = AnyFaulted source
ReplayStops limit IsWritten source sink stop.OutputFault = AnyFaulted sink × IsWritten (IsPrefixTaken sink)
ReplayStops limit IsWritten source sink stop.DiskFault = ⊥
ReplayStops limit IsWritten source sink stop.NoMemory = Unit {0}
ReplayStops limit IsWritten source sink (stop.LogFull need) = ⊥
ReplayStops limit IsWritten source sink stop.TooLong = IsLongScript source.before
ReplayStops limit IsWritten source sink (stop.TooLarge bytes) = ⊥
ReplayStops limit IsWritten source sink (stop.Image fault) = ⊥

-- ---- `lay`

-- a fault of a catalogue's text, with this property
abbrev pub IsOfCatalogue : (AcceptFault → Type 0) → ScriptFault → Type 0
IsOfCatalogue P (Unaccepted fault) = P fault
IsOfCatalogue P (Line number fault) = ⊥

-- the bytes have this first fault of lists
abbrev pub IsListFault : List Table → List ℕ → LogFault → Type 0
IsListFault tables bytes (log.Unaccepted fault) = ⊥
IsListFault tables bytes (log.Image fault) = IsFirstListFault tables bytes fault

-- a log whose tables are over the limit, or find no memory
abbrev pub LayingStops : ℕ → ImageLog → Stop → Type 0
LayingStops limit laid (stop.RowsOver name rows most) = IsFirstOver limit laid.catalogue.tables (laid_tables laid) name rows × (most ≡ limit)
LayingStops limit laid stop.NoMemory = Unit {0}
LayingStops limit laid _ = ⊥

-- the whole command
abbrev pub LayStops : ℕ → Observed → Observed → Stop → Type 0
LayStops limit source sink (stop.Script fault) = IsOfCatalogue (λ f. IsNoLogFor source.before (log.Unaccepted f)) fault
LayStops limit source sink (stop.Image fault) = IsNoLogFor source.before (log.Image fault)
LayStops limit source sink (stop.RowsOver name rows most) = IsLaidOverOf limit source.before name rows × (most ≡ limit)
LayStops limit source sink stop.InputFault = AnyFaulted source
LayStops limit source sink stop.OutputFault = AnyFaulted sink × IsLaidDumpOf limit source.before (IsPrefixTaken sink)
LayStops limit source sink stop.NoMemory = Unit {0}
LayStops limit source sink stop.TooLong = IsLongScript source.before
LayStops limit source sink _ = ⊥

-- ---- `stress`

-- the whole command
abbrev pub StressStops : ℕ → Observed → Stop → Type 0
StressStops count sink stop.OutputFault = AnyFaulted sink × IsSummaryOf count (IsPrefixTaken sink)
StressStops count sink stop.NoMemory = Unit {0}
StressStops count sink _ = ⊥

-- ---- `explain`

-- an input whose catalogue isn't explained
abbrev pub GivesNoExplanation : Observed → InputError → Type 0
GivesNoExplanation source input.Failed = AnyFaulted source
GivesNoExplanation source input.TooLong = ⊥
GivesNoExplanation source (input.Script fault) = IsOfCatalogue (IsUnexplainedAs source.before) fault
GivesNoExplanation source input.NoMemory = Unit {0}

-- the whole command
abbrev pub ExplainStops : Bool → Observed → Observed → Stop → Type 0
ExplainStops with_text source sink (stop.Script fault) = IsOfCatalogue (IsUnexplainedAs source.before) fault
ExplainStops with_text source sink stop.InputFault = AnyFaulted source
ExplainStops with_text source sink stop.OutputFault = AnyFaulted sink × IsExplanationOf with_text source.before (IsPrefixTaken sink)
ExplainStops with_text source sink stop.NoMemory = Unit {0}
ExplainStops with_text source sink _ = ⊥

-- ---- `init`

-- an input that no store can be made of
abbrev pub GivesNoText : Observed → InputError → Type 0
GivesNoText source input.Failed = AnyFaulted source
GivesNoText source input.TooLong = ⊥
GivesNoText source (input.Script fault) = IsOfCatalogue (IsNoStoreFor source.before) fault
GivesNoText source input.NoMemory = Unit {0}

-- the whole command
abbrev pub InitStops : Observed → ObservedDevices → Stop → Type 0
InitStops source devices (stop.Script fault) = AreUntouched devices × IsOfCatalogue (IsNoStoreFor source.before) fault
InitStops source devices (stop.NotEmpty device length) = IsAcceptedInput source.before × AreUntouched devices × IfAllKnown (IsInUse device length) devices.before devices.after
InitStops source devices stop.InputFault = AreUntouched devices × AnyFaulted source
InitStops source devices stop.DiskFault = IsAcceptedInput source.before × OneFaulted devices.faults_before devices.faults_after
InitStops source devices stop.NoMemory = AreUntouched devices
InitStops source devices _ = ⊥

-- ---- `recover`

-- why nothing is recovered
abbrev pub IsUnrecovered : ℕ → ObservedDevices → Observed → Stop → Type 0
IsUnrecovered limit devices sink stop.NoStore = AreRefusedAs devices.before load.NoStore
IsUnrecovered limit devices sink (stop.Damaged damage) = AreRefusedAs devices.before (load.Damaged damage)
IsUnrecovered limit devices sink (stop.Aborted note) = IfImagesKnown (AbortsIn note) devices.before
IsUnrecovered limit devices sink (stop.RowsOver name rows most) = (most ≡ limit) × IfImagesKnown (IsOverIn name rows limit) devices.before
IsUnrecovered limit devices sink stop.OutputFault = AnyFaulted sink × IsRecovery limit devices.before (IsPrefixTaken sink)
IsUnrecovered limit devices sink stop.DiskFault = OneFaulted devices.faults_before devices.faults_after
IsUnrecovered limit devices sink stop.NoMemory = Unit {0}
IsUnrecovered limit devices sink _ = ⊥

-- the same on devices that stand for a history
abbrev pub IsPrefixUnrecovered : ℕ → CatalogueState → List Txn → ℕ → Observed → Stop → Type 0
IsPrefixUnrecovered limit catalogue history least sink stop.NoStore = ⊥
IsPrefixUnrecovered limit catalogue history least sink (stop.Damaged damage) = ⊥
IsPrefixUnrecovered limit catalogue history least sink (stop.Aborted note) = ⊥
IsPrefixUnrecovered limit catalogue history least sink (stop.RowsOver name rows most) = IsPrefixOverLimit catalogue history least name rows limit
IsPrefixUnrecovered limit catalogue history least sink stop.OutputFault = IsDumpOfPrefix limit catalogue history least (IsPrefixTaken sink)
IsPrefixUnrecovered limit catalogue history least sink _ = Unit {0}

-- the whole command
pub record RecoverStops (limit : ℕ) (devices : ObservedDevices) (sink : Observed) (why : Stop) : Type 0 where
  pub cause : IsUnrecovered limit devices sink why
  pub stands : (text : List ℕ) (catalogue : CatalogueState) (history : List Txn) (least : ℕ)
      → IfImagesKnown (λ images. StandsFor text catalogue history least images → IsPrefixUnrecovered limit catalogue history least sink why) devices.before
  pub quiet : why ≢ stop.DiskFault → devices.faults_after ≡ devices.faults_before

-- or it is done
pub record IsRecovered (limit : ℕ) (devices : ObservedDevices) (sink : Observed) : Type 0 where
  pub dump : IsRecovery limit devices.before (IsTaken sink)
  pub stands : (text : List ℕ) (catalogue : CatalogueState) (history : List Txn) (least : ℕ)
      → IfImagesKnown (λ images. StandsFor text catalogue history least images → IsDumpOfPrefix limit catalogue history least (IsTaken sink)) devices.before
  pub quiet : devices.faults_after ≡ devices.faults_before

-- ---- `run`

-- why a run stops before its end, by its own stop; where it stopped is said by the run
abbrev pub RunCause : ℕ → Observed → Observed → ObservedDevices → RunStop → Type 0
RunCause limit source sink devices (run.Opening error) = AreRefused limit devices.before error × (error ≡ recover.Load load.DiskFault → OneFaulted devices.faults_before devices.faults_after)
RunCause limit source sink devices run.InputFault = AnyFaulted source
RunCause limit source sink devices run.OutputFault = AnyFaulted sink
RunCause limit source sink devices run.DiskFault = OneFaulted devices.faults_before devices.faults_after
RunCause limit source sink devices run.NoMemory = Unit {0}
RunCause limit source sink devices (run.LogFull need) = Unit {0}
RunCause limit source sink devices run.TooLong = Unit {0}
RunCause limit source sink devices (run.TooLarge bytes) = Unit {0}
