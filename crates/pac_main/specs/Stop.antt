-- The exit status of each stop, and what is reported.
use Rattle.std.specs.Prelude.{ℕ, Bool, true, false, List, codes}
use Rattle.pac_types.specs.declared.text.CatalogueFault.{CatalogueFault}
use Rattle.pac_types.specs.CatalogueText.{fault_offset, fault_kind}
use Rattle.pac_ops.specs.declared.note.Note.{Note}
use Rattle.pac_ops.specs.Reasons.{reason_name}
use Rattle.pac_serial.specs.declared.serial.AllError.{AllError}
use Rattle.pac_serial.specs.declared.serial.AllError.TheVariants as serial
use Rattle.pac_request.specs.declared.fault.LineFault.{LineFault}
use Rattle.pac_flat.specs.declared.acceptance.AcceptFault.{AcceptFault}
use Rattle.pac_flat.specs.declared.acceptance.AcceptFault.TheVariants.{Catalogue, TooManyOps}
use Rattle.pac_script.specs.declared.script_fault.ScriptFault.{ScriptFault}
use Rattle.pac_script.specs.declared.script_fault.ScriptFault.TheVariants.{Unaccepted, Line}
use Rattle.pac_request.specs.LineKinds.{line_kind_name}
use Rattle.pac_outside.specs.declared.devices.LogName.{LogName}
use Rattle.pac_outside.specs.declared.devices.LogName.TheVariants as segment
use Rattle.pac_store.specs.Made.{device_name}
use Rattle.pac_store.specs.declared.device.DeviceName.{DeviceName}
use Rattle.pac_store.specs.declared.device.DeviceName.TheVariants.{Log as TheLog, LogB as TheLogB, SlotA, SlotB}
use Rattle.pac_store.specs.declared.errors.MakeError.{MakeError}
use Rattle.pac_store.specs.declared.errors.MakeError.TheVariants as make
use Rattle.pac_log.specs.Damages.{damage_name}
use Rattle.pac_check.specs.Kinds.{slot_damage_name}
use Rattle.pac_check.specs.declared.info.SlotName.{SlotName}
use Rattle.pac_check.specs.declared.info.SlotName.TheVariants.{A, B}
use Rattle.pac_restore.specs.declared.errors.Damage.{Damage}
use Rattle.pac_restore.specs.declared.errors.Damage.TheVariants.{Log, Slot}
use Rattle.pac_restore.specs.declared.errors.LoadError.{LoadError}
use Rattle.pac_restore.specs.declared.errors.LoadError.TheVariants as load
use Rattle.pac_restore.specs.declared.errors.RecoverError.{RecoverError}
use Rattle.pac_restore.specs.declared.errors.RecoverError.TheVariants as recover
use Rattle.pac_restore.specs.declared.limit.TooManyRows.{TooManyRows}
use Rattle.pac_run.specs.declared.stop.RunStop.{RunStop}
use Rattle.pac_run.specs.declared.stop.RunStop.TheVariants as run
use Rattle.pac_report.specs.Status.{abort_words, as_line, catalogue_words, damage_words, full_words, image_words, not_empty_words, operations_words, rows_words, script_words, too_large_words}
use Rattle.pac_base.specs.declared.refusal.Refusal.{Refusal}
use Rattle.pac_base.specs.declared.refusal.Refusal.TheVariants as refusal
use Rattle.pac_tuple.specs.Kinds.{image_kind_name}
use Rattle.pac_tuple.specs.declared.fault.ImageFault.{ImageFault}
use Rattle.pac_main.specs.declared.image_log.LogFault.{LogFault}
use Rattle.pac_main.specs.declared.image_log.LogFault.TheVariants as log
use Rattle.pac_main.specs.declared.input.InputError.{InputError}
use Rattle.pac_main.specs.declared.input.InputError.TheVariants as input
use Rattle.pac_main.specs.declared.stop.Stop.{Stop}
use Rattle.pac_main.specs.declared.stop.Stop.TheVariants.{Usage, Script, NotEmpty, NoStore, Damaged, Aborted, RowsOver, InputFault, OutputFault, DiskFault, NoMemory, LogFull, TooLong, TooLarge, Image}
use Rattle.pac_main.specs.declared.reporting.ArgumentsError.{ArgumentsError}
use Rattle.pac_main.specs.declared.reporting.ArgumentsError.TheVariants as arguments

-- the exit status of a stop
abbrev pub status_of : Stop → ℕ
status_of Usage = 1
status_of (Script fault) = 2
status_of (NotEmpty device length) = 3
status_of NoStore = 3
status_of (Damaged damage) = 3
status_of (Aborted note) = 4
status_of (RowsOver name rows limit) = 5
status_of InputFault = 6
status_of OutputFault = 7
status_of DiskFault = 8
status_of NoMemory = 9
status_of (LogFull need) = 10
status_of TooLong = 11
status_of (TooLarge bytes) = 12
status_of (Image fault) = 2

-- the transaction's number, the operation's, and the reason
abbrev pub abort_line : Note → List ℕ
abort_line note = as_line (abort_words note.txn note.op (reason_name note.reason))

-- the offset of a catalogue's fault, and its kind
abbrev pub catalogue_line : CatalogueFault → List ℕ
catalogue_line fault = as_line (catalogue_words (fault_offset fault) (fault_kind fault))

-- the name of a procedure, and how many operations are too many there
abbrev pub operations_line : List ℕ → ℕ → List ℕ
operations_line name count = as_line (operations_words name count)

-- the number of a refused line, the offset of its fault in it, and the kind
abbrev pub script_line : ℕ → LineFault → List ℕ
script_line number fault = as_line (script_words number fault.at (line_kind_name fault.kind))

-- the name of a table over the limit, its rows, and the limit
abbrev pub rows_line : List ℕ → ℕ → ℕ → List ℕ
rows_line name rows limit = as_line (rows_words name rows limit)

-- the name of a device that isn't empty, and how many bytes it has
abbrev pub not_empty_line : DeviceName → ℕ → List ℕ
not_empty_line device length = as_line (not_empty_words (device_name device) length)

-- the device of a slot
abbrev pub slot_device : SlotName → DeviceName
slot_device A = SlotA
slot_device B = SlotB

-- the device of a segment of the log
abbrev pub log_device : LogName → DeviceName
log_device segment.Log = TheLog
log_device segment.LogB = TheLogB

-- the name of a damaged device, the offset of its first damage, and the kind
abbrev pub damaged_at : DeviceName → ℕ → List ℕ → List ℕ
damaged_at device at kind = as_line (damage_words (device_name device) at kind)

-- the same of damage in a segment of the log, or in a slot
abbrev pub damaged_line : Damage → List ℕ
damaged_line (Log name at kind) = damaged_at (log_device name) at (damage_name kind)
damaged_line (Slot slot at kind) = damaged_at (slot_device slot) at (slot_damage_name kind)

-- how many bytes a log that is full would have
abbrev pub full_line : ℕ → List ℕ
full_line need = as_line (full_words need)

-- how many bytes a slot would have with a checkpoint that is too large
abbrev pub too_large_line : ℕ → List ℕ
too_large_line bytes = as_line (too_large_words bytes)

-- the offset of the first fault of after-images, and its kind
abbrev pub image_line : ImageFault → List ℕ
image_line fault = as_line (image_words fault.at (image_kind_name fault.kind))

-- whether a stop's line has numbers, and is made
abbrev pub takes_memory : Stop → Bool
takes_memory (Script fault) = true
takes_memory (NotEmpty device length) = true
takes_memory (Damaged damage) = true
takes_memory (Aborted note) = true
takes_memory (RowsOver name rows limit) = true
takes_memory (LogFull need) = true
takes_memory (TooLarge bytes) = true
takes_memory (Image fault) = true
takes_memory _ = false

-- the first fault of the catalogue that is refused, or too many operations
abbrev pub unaccepted_line : AcceptFault → List ℕ
unaccepted_line (Catalogue fault) = catalogue_line fault
unaccepted_line (TooManyOps name count) = operations_line name count

-- why the catalogue isn't accepted, or the first line that is refused
abbrev pub script_fault_line : ScriptFault → List ℕ
script_fault_line (Unaccepted fault) = unaccepted_line fault
script_fault_line (Line number fault) = script_line number fault

-- the line that is reported for a stop
abbrev pub line_of : Stop → List ℕ
line_of Usage = as_line (codes "usage: pacman init, run, recover, explain, replay, stress or lay")
line_of (Script fault) = script_fault_line fault
line_of (NotEmpty device length) = not_empty_line device length
line_of NoStore = as_line (codes "no store")
line_of (Damaged damage) = damaged_line damage
line_of (Aborted note) = abort_line note
line_of (RowsOver name rows limit) = rows_line name rows limit
line_of InputFault = as_line (codes "input fault")
line_of OutputFault = as_line (codes "output fault")
line_of DiskFault = as_line (codes "disk fault")
line_of NoMemory = as_line (codes "no memory")
line_of (LogFull need) = full_line need
line_of TooLong = as_line (codes "input too long")
line_of (TooLarge bytes) = too_large_line bytes
line_of (Image fault) = image_line fault

-- a text that is no log stops with its first fault
abbrev pub stop_of_log : Refusal LogFault → Stop
stop_of_log (refusal.Fault (log.Unaccepted fault)) = Script (Unaccepted fault)
stop_of_log (refusal.Fault (log.Image fault)) = Image fault
stop_of_log refusal.NoMemory = NoMemory

-- arguments that can't be read are no command's, or there was no memory for them
abbrev pub stop_of_arguments : ArgumentsError → Stop
stop_of_arguments arguments.Usage = Usage
stop_of_arguments arguments.NoMemory = NoMemory

-- an input that holds no script stops with its cause
abbrev pub stop_of_input : InputError → Stop
stop_of_input input.Failed = InputFault
stop_of_input input.TooLong = TooLong
stop_of_input (input.Script fault) = Script fault
stop_of_input input.NoMemory = NoMemory

-- an execution that doesn't end with rows stops with its cause
abbrev pub stop_of_serial : AllError → Stop
stop_of_serial (serial.Abort note) = Aborted note
stop_of_serial serial.NoMemory = NoMemory

-- a store that isn't made stops with its cause
abbrev pub stop_of_make : MakeError → Stop
stop_of_make (make.NotEmpty device length) = NotEmpty device length
stop_of_make make.DiskFault = DiskFault
stop_of_make make.NoMemory = NoMemory

-- tables over the limit stop with the first such one
abbrev pub stop_of_excess : TooManyRows → Stop
stop_of_excess excess = RowsOver excess.table excess.rows excess.limit

-- a store that isn't read stops with its cause
abbrev pub stop_of_load : LoadError → Stop
stop_of_load load.NoStore = NoStore
stop_of_load (load.Damaged damage) = Damaged damage
stop_of_load load.DiskFault = DiskFault
stop_of_load load.NoMemory = NoMemory

-- and so does one that isn't recovered
abbrev pub stop_of_recover : RecoverError → Stop
stop_of_recover (recover.Load cause) = stop_of_load cause
stop_of_recover (recover.AbortInLog note) = Aborted note
stop_of_recover (recover.RowsOver name rows limit) = RowsOver name rows limit

-- a run that stops before its end does so with its cause
abbrev pub stop_of_run : RunStop → Stop
stop_of_run (run.Opening error) = stop_of_recover error
stop_of_run run.InputFault = InputFault
stop_of_run run.OutputFault = OutputFault
stop_of_run run.DiskFault = DiskFault
stop_of_run run.NoMemory = NoMemory
stop_of_run (run.LogFull need) = LogFull need
stop_of_run run.TooLong = TooLong
stop_of_run (run.TooLarge bytes) = TooLarge bytes
