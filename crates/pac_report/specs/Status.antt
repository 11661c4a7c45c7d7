-- The line that is reported for a status.
use Rattle.std.specs.Prelude.{ℕ, Bool, true, false, List, ◌++◌, codes}
use Rattle.std.specs.Fmt.{decimal}
use Rattle.pac_report.specs.declared.status.StatusLine.{StatusLine}
use Rattle.pac_report.specs.declared.status.StatusLine.TheVariants.{Usage, Catalogue, Operations, Script, NotEmpty, NoStore, Damaged, Abort, Rows, InputFault, OutputFault, DiskFault, NoMemory, LogFull, InputTooLong, TooLarge, Image}

-- ---- the words of lines with names and numbers

-- the offset of a catalogue's first fault, and its kind
abbrev pub catalogue_words : ℕ → List ℕ → List ℕ
catalogue_words at kind = codes "catalogue " ++ decimal at ++ codes " " ++ kind

-- the name of a procedure, and how many operations are too many there
abbrev pub operations_words : List ℕ → ℕ → List ℕ
operations_words proc count = codes "operations " ++ proc ++ codes " " ++ decimal count

-- the number of a refused line, the offset of its fault in it, and the kind
abbrev pub script_words : ℕ → ℕ → List ℕ → List ℕ
script_words line at kind = codes "script " ++ decimal line ++ codes " " ++ decimal at ++ codes " " ++ kind

-- the name of a device that isn't empty, and how many bytes it has
abbrev pub not_empty_words : List ℕ → ℕ → List ℕ
not_empty_words device length = codes "not empty " ++ device ++ codes " " ++ decimal length

-- the name of a damaged device, the offset of its first damage, and the kind
abbrev pub damage_words : List ℕ → ℕ → List ℕ → List ℕ
damage_words device at kind = codes "damaged " ++ device ++ codes " " ++ decimal at ++ codes " " ++ kind

-- the transaction's number, the operation's, and the reason
abbrev pub abort_words : ℕ → ℕ → List ℕ → List ℕ
abort_words txn op reason = codes "abort " ++ decimal txn ++ codes " " ++ decimal op ++ codes " " ++ reason

-- the name of a table over the limit, its rows, and the limit
abbrev pub rows_words : List ℕ → ℕ → ℕ → List ℕ
rows_words table rows limit = codes "rows " ++ table ++ codes " " ++ decimal rows ++ codes " " ++ decimal limit

-- how many bytes a log that is full would have
abbrev pub full_words : ℕ → List ℕ
full_words need = codes "log full " ++ decimal need

-- how many bytes a slot would have with a checkpoint that is too large
abbrev pub too_large_words : ℕ → List ℕ
too_large_words bytes = codes "checkpoint too large " ++ decimal bytes

-- the offset of the first fault of after-images, and its kind
abbrev pub image_words : ℕ → List ℕ → List ℕ
image_words at kind = codes "image " ++ decimal at ++ codes " " ++ kind

-- ---- the lines

-- words with a line feed after them
abbrev pub as_line : List ℕ → List ℕ
as_line words = words ++ codes "\n"

-- a status without its line feed
abbrev pub fault_words : StatusLine → List ℕ
fault_words Usage = codes "usage: pacman init, run, recover, explain, replay, stress or lay"
fault_words (Catalogue at kind) = catalogue_words at kind.now
fault_words (Operations proc count) = operations_words proc.now count
fault_words (Script line at kind) = script_words line at kind.now
fault_words (NotEmpty device length) = not_empty_words device.now length
fault_words NoStore = codes "no store"
fault_words (Damaged device at kind) = damage_words device.now at kind.now
fault_words (Abort txn op reason) = abort_words txn op reason.now
fault_words (Rows table rows limit) = rows_words table.now rows limit
fault_words InputFault = codes "input fault"
fault_words OutputFault = codes "output fault"
fault_words DiskFault = codes "disk fault"
fault_words NoMemory = codes "no memory"
fault_words (LogFull need) = full_words need
fault_words InputTooLong = codes "input too long"
fault_words (TooLarge bytes) = too_large_words bytes
fault_words (Image at kind) = image_words at kind.now

-- a status is one line
abbrev pub fault_text : StatusLine → List ℕ
fault_text line = as_line (fault_words line)

-- whether it has names or numbers, and is made
abbrev pub is_made : StatusLine → Bool
is_made Usage = false
is_made NoStore = false
is_made InputFault = false
is_made OutputFault = false
is_made DiskFault = false
is_made NoMemory = false
is_made InputTooLong = false
is_made _ = true
