-- How `replay` ends.
use Rattle.std.specs.Prelude.{◌≡◌, ◌≤◌, ◌<◌, ℕ, List, [], ◌∷◌, length, Option, None, IfSome, IsSomeAnd, Result, Ok, Err}
use Rattle.std.specs.FinMap.{empty}
use Rattle.pac_value.specs.State.{Tables}
use Rattle.pac_ops.specs.declared.note.Note.{Note}
use Rattle.pac_tables.specs.Joined.{Held}
use Rattle.pac_types.specs.Execution.{serial, first_over}
use Rattle.pac_serial.specs.declared.serial.AllError.{AllError}
use Rattle.pac_serial.specs.declared.serial.AllError.TheVariants.{Abort, NoMemory}
use Rattle.pac_restore.specs.Limits.{IsFirstOver}
use Rattle.pac_report.specs.Dump.{tables_text}
use Rattle.pac_restore.specs.Batches.{txns_in}
use Rattle.pac_script.specs.declared.script.Script.{Script}
use Rattle.pac_script.specs.declared.script_fault.ScriptFault.{ScriptFault}
use Rattle.pac_script.specs.Script.{ScriptSays}
use Rattle.pac_run.specs.declared.limits.TheConstants.{MAX_INPUT}
use Rattle.pac_main.specs.declared.stop.Stop.TheVariants as stop
use Rattle.pac_main.specs.Streams.{Observed, AnyFaulted, IsTaken, IsPrefixTaken, IsReported, IsOneOf}
use Rattle.pac_main.specs.Stop.{line_of, abort_line, rows_line}

-- ---- what the input is

-- the text has at most 67,108,864 bytes, and is read as this and as nothing else: a script, or its first fault
pub record IsReadAs (text : List ℕ) (answer : Result Script ScriptFault) : Type 0 where
  pub short : length text ≤ MAX_INPUT
  pub says : ScriptSays text answer
  pub only : (other : Result Script ScriptFault) → ScriptSays text other → other ≡ answer

-- the input is this script, where the source's bytes are known
abbrev pub IsScriptOf : Script → Option (List ℕ) → Type 0
IsScriptOf script input = IfSome input (λ text. IsReadAs text (Ok script))

-- the input is no script, and this is its first fault, where the source's bytes are known
abbrev pub IsRefusedAs : Option (List ℕ) → ScriptFault → Type 0
IsRefusedAs input fault = IfSome input (λ text. IsReadAs text (Err fault))

-- the input has more than 67,108,864 bytes, where the source's bytes are known
abbrev pub IsLongScript : Option (List ℕ) → Type 0
IsLongScript input = IfSome input (λ text. MAX_INPUT < length text)

-- ---- what its transactions give

-- the tables with which serial execution of a script's transactions ends, from no rows on, or its abort
abbrev pub outcome : Script → Result Tables Note
outcome script = serial script.catalogue.procs 1 (txns_in script.batches) empty

-- the transactions end with these tables, abort so, or find no memory
abbrev pub DoesEnd : Result Held AllError → Result Tables Note → Type 0
DoesEnd (Ok held) meaning = meaning ≡ Ok held.rows
DoesEnd (Err (Abort note)) meaning = meaning ≡ Err note
DoesEnd (Err NoMemory) meaning = Unit {0}

-- the number of the first of a script's tables that has more rows than the limit, and how many it has
abbrev pub first_over_in : ℕ → Script → Tables → Option (ℕ × ℕ)
first_over_in limit script tables = first_over limit (length script.catalogue.tables) tables

-- the text of the tables, in the catalogue's order
abbrev pub dump : Script → Tables → List ℕ
dump script tables = tables_text tables 0 script.catalogue.tables

-- ---- the causes of the statuses

-- the input is a script whose transactions end with tables within the limit, and their dump has this property
pub record IsDumpOf (limit : ℕ) (input : Option (List ℕ)) (P : List ℕ → Type 0) : Type 0 where
  pub script : Script
  pub tables : Tables
  pub is : IsScriptOf script input
  pub ends : outcome script ≡ Ok tables
  pub within : first_over_in limit script tables ≡ None
  pub has : P (dump script tables)

-- the input is a script whose transactions abort so
abbrev pub IsAbortOf : Option (List ℕ) → Note → Type 0
IsAbortOf input note = (script : Script) × IsScriptOf script input × (outcome script ≡ Err note)

-- the input is a script whose transactions end with tables of which the first over the limit has this name and that many rows
pub record IsOverOf (limit : ℕ) (input : Option (List ℕ)) (name : List ℕ) (rows : ℕ) : Type 0 where
  pub script : Script
  pub tables : Tables
  pub is : IsScriptOf script input
  pub ends : outcome script ≡ Ok tables
  pub over : IsFirstOver limit script.catalogue.tables tables name rows

-- the text is a script whose transactions end with tables within the limit
pub record EndsInLimit (limit : ℕ) (text : List ℕ) : Type 0 where
  pub script : Script
  pub tables : Tables
  pub is : IsReadAs text (Ok script)
  pub ends : outcome script ≡ Ok tables
  pub within : first_over_in limit script tables ≡ None

-- how a command ends that executes a script under a limit of rows and writes a text, of which `IsWritten` says whether something
-- holds: the statuses that it may have, and a line for each that has a cause
pub record ScriptEnds (limit : ℕ) (IsWritten : (List ℕ → Type 0) → Type 0) (status : ℕ) (input output errors : Observed) : Type 0 where
  pub statuses : IsOneOf status (0 ∷ 2 ∷ 4 ∷ 5 ∷ 6 ∷ 7 ∷ 9 ∷ 11 ∷ [])
  pub done : status ≡ 0 → IsWritten (IsTaken output)
  pub refused : status ≡ 2 → (fault : ScriptFault) × IsRefusedAs input.before fault × IsReported errors (line_of (stop.Script fault))
  pub aborted : status ≡ 4 → (note : Note) × IsAbortOf input.before note × IsReported errors (abort_line note)
  pub over_limit : status ≡ 5 → (name : List ℕ) × (rows : ℕ) × IsOverOf limit input.before name rows × IsReported errors (rows_line name rows limit)
  pub input_fault : status ≡ 6 → AnyFaulted input
  pub output_fault : status ≡ 7 → AnyFaulted output × IsWritten (IsPrefixTaken output)
  pub too_long : status ≡ 11 → IsLongScript input.before
  -- such a script is executed, where no fault was counted, or there was no memory
  pub complete : IsSomeAnd input.before (EndsInLimit limit) → ¬ AnyFaulted input → ¬ AnyFaulted output → IsOneOf status (0 ∷ 9 ∷ [])

-- how `replay` ends without `--images`: it writes the dump
abbrev pub ReplayEnds : ℕ → ℕ → Observed → Observed → Observed → Type 0
ReplayEnds limit status input output errors = ScriptEnds limit (IsDumpOf limit input.before) status input output errors
