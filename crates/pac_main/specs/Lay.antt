-- How `lay` ends.
use Rattle.std.specs.Prelude.{◌≡◌, ◌≤◌, ◌<◌, ◌+◌, ℕ, List, [], ◌∷◌, ◌++◌, drop, length, Option, Some, None, IfSome, IsSomeAnd, Result, Ok, Err}
use Rattle.std.specs.FinMap.{empty}
use Rattle.pac_value.specs.State.{Tables}
use Rattle.pac_ops.specs.declared.transaction.Change.{Change}
use Rattle.pac_types.specs.declared.table.Table.{Table}
use Rattle.pac_types.specs.Accepted.{IsAccepted}
use Rattle.pac_types.specs.Execution.{first_over}
use Rattle.pac_types.specs.Typing.{CatalogueState}
use Rattle.pac_bytes.specs.Reading.{from}
use Rattle.pac_flat.specs.Unaccepted.{IsUnaccepted}
use Rattle.pac_script.specs.Script.{MarkOf, text_before}
use Rattle.pac_restore.specs.Limits.{IsFirstOver}
use Rattle.pac_report.specs.Dump.{tables_text}
use Rattle.pac_run.specs.declared.limits.TheConstants.{MAX_INPUT}
use Rattle.pac_tuple.specs.declared.fault.ImageFault.{ImageFault}
use Rattle.pac_tuple.specs.ImageReading.{next_images}
use Rattle.pac_tuple.specs.Laying.{tables_laid}
use Rattle.pac_main.specs.declared.image_log.ImageLog.{ImageLog}
use Rattle.pac_main.specs.declared.image_log.LogFault.{LogFault}
use Rattle.pac_main.specs.declared.image_log.LogFault.TheVariants.{Unaccepted, Image}
use Rattle.pac_main.specs.Record.{AreListsOf, lists_bytes}
use Rattle.pac_main.specs.Replay.{IsLongScript}
use Rattle.pac_main.specs.Stop.{image_line, rows_line, unaccepted_line}
use Rattle.pac_main.specs.Streams.{Observed, AnyFaulted, IsTaken, IsPrefixTaken, IsReported, IsOneOf}

-- ---- what the input is

-- what a text is read as
abbrev pub LogAnswer : Type 0
LogAnswer = Result ImageLog LogFault

-- the bytes behind the line feed of the line `---`; none where there is no such line
abbrev pub bytes_behind : List ℕ → Option ℕ → List ℕ
bytes_behind text None = []
bytes_behind text (Some at) = drop (at + 4) text

-- the first lists of the bytes are read, more follows, and the next list has this fault
pub record IsFirstListFault (tables : List Table) (bytes : List ℕ) (fault : ImageFault) : Type 0 where
  pub before : List (List Change)
  pub rest : List ℕ
  pub parts : bytes ≡ lists_bytes before ++ rest
  pub are : AreListsOf tables before
  pub more : 0 < length rest
  pub fault_is : next_images tables (from bytes (length (lists_bytes before))) ≡ Err fault

-- what the catalogue's text and the bytes are read as: this log, or this first fault
abbrev pub LogPartsSay : List ℕ → List ℕ → LogAnswer → Type 0
LogPartsSay prefix bytes (Ok log) = IsAccepted prefix log.catalogue × AreListsOf log.catalogue.tables log.images × (bytes ≡ lists_bytes log.images)
LogPartsSay prefix bytes (Err (Unaccepted fault)) = IsUnaccepted prefix fault
LogPartsSay prefix bytes (Err (Image fault)) = (catalogue : CatalogueState) × IsAccepted prefix catalogue × IsFirstListFault catalogue.tables bytes fault

-- what a text is read as: what stands before the first line that is `---`, or all of it, is the catalogue's text, and the
-- bytes behind that line's line feed are the lists
pub record LogSays (text : List ℕ) (answer : LogAnswer) : Type 0 where
  pub mark : Option ℕ
  pub is_mark : MarkOf text mark
  pub parts : LogPartsSay (text_before text mark) (bytes_behind text mark) answer

-- the text has at most 67,108,864 bytes, and is read as this and as nothing else
pub record IsLogReadAs (text : List ℕ) (answer : LogAnswer) : Type 0 where
  pub short : length text ≤ MAX_INPUT
  pub says : LogSays text answer
  pub only : (other : LogAnswer) → LogSays text other → other ≡ answer

-- ---- what its lists give

-- the tables that the lists give, laid over no rows
abbrev pub laid_tables : ImageLog → Tables
laid_tables log = tables_laid empty log.images

-- the number of the first of a log's tables that has more rows than the limit, and how many it has
abbrev pub first_laid_over : ℕ → ImageLog → Option (ℕ × ℕ)
first_laid_over limit log = first_over limit (length log.catalogue.tables) (laid_tables log)

-- the text of these tables, in the catalogue's order
abbrev pub laid_dump : ImageLog → List ℕ
laid_dump log = tables_text (laid_tables log) 0 log.catalogue.tables

-- ---- the causes of the statuses

-- the input is a log whose tables are within the limit, and their dump has this property
pub record IsLaidDumpOf (limit : ℕ) (input : Option (List ℕ)) (P : List ℕ → Type 0) : Type 0 where
  pub log : ImageLog
  pub is : IfSome input (λ text. IsLogReadAs text (Ok log))
  pub within : first_laid_over limit log ≡ None
  pub has : P (laid_dump log)

-- the input is no log, for this fault
abbrev pub IsNoLogFor : Option (List ℕ) → LogFault → Type 0
IsNoLogFor input fault = IfSome input (λ text. IsLogReadAs text (Err fault))

-- the input is a log, and the first of its tables over the limit has this name and that many rows
abbrev pub IsLaidOverOf : ℕ → Option (List ℕ) → List ℕ → ℕ → Type 0
IsLaidOverOf limit input name rows = (log : ImageLog) × IfSome input (λ text. IsLogReadAs text (Ok log)) × IsFirstOver limit log.catalogue.tables (laid_tables log) name rows

-- the text is a log whose tables are within the limit
pub record IsLaidInLimit (limit : ℕ) (text : List ℕ) : Type 0 where
  pub log : ImageLog
  pub short : length text ≤ MAX_INPUT
  pub says : LogSays text (Ok log)
  pub within : first_laid_over limit log ≡ None

-- the line that reports why the input is no log
abbrev pub log_fault_line : LogFault → List ℕ
log_fault_line (Unaccepted fault) = unaccepted_line fault
log_fault_line (Image fault) = image_line fault

-- how `lay` ends under a limit of rows: the statuses that it may have, and a line for each that has a cause
pub record LayEnds (limit status : ℕ) (input output errors : Observed) : Type 0 where
  pub statuses : IsOneOf status (0 ∷ 2 ∷ 5 ∷ 6 ∷ 7 ∷ 9 ∷ 11 ∷ [])
  pub done : status ≡ 0 → IsLaidDumpOf limit input.before (IsTaken output)
  pub refused : status ≡ 2 → (fault : LogFault) × IsNoLogFor input.before fault × IsReported errors (log_fault_line fault)
  pub over_limit : status ≡ 5 → (name : List ℕ) × (rows : ℕ) × IsLaidOverOf limit input.before name rows × IsReported errors (rows_line name rows limit)
  pub input_fault : status ≡ 6 → AnyFaulted input
  pub output_fault : status ≡ 7 → AnyFaulted output × IsLaidDumpOf limit input.before (IsPrefixTaken output)
  pub too_long : status ≡ 11 → IsLongScript input.before
  -- such a log is laid, where no fault was counted, or there was no memory
  pub complete : IsSomeAnd input.before (IsLaidInLimit limit) → ¬ AnyFaulted input → ¬ AnyFaulted output → IsOneOf status (0 ∷ 9 ∷ [])
