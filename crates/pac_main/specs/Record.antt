-- How `replay --images` ends: it writes the log of a script's after-images.
use Rattle.std.specs.Prelude.{◌≡◌, ◌+◌, ℕ, List, ◌++◌, take, Option, Some, None, IfSome, Ok}
use Rattle.std.specs.FinMap.{empty}
use Rattle.std.specs.List.{AllByRecursion, flat_map}
use Rattle.pac_value.specs.State.{Tables}
use Rattle.pac_ops.specs.declared.transaction.Change.{Change}
use Rattle.pac_types.specs.declared.table.Table.{Table}
use Rattle.pac_restore.specs.Batches.{txns_in}
use Rattle.pac_script.specs.declared.script.Script.{Script}
use Rattle.pac_script.specs.Script.{MarkOf}
use Rattle.pac_tuple.specs.AfterImages.{all_after_images}
use Rattle.pac_tuple.specs.Images.{AreTxnImagesOf, images_bytes}
use Rattle.pac_main.specs.Replay.{IsReadAs, ScriptEnds, first_over_in, outcome}
use Rattle.pac_main.specs.Streams.{Observed}

-- a text up to and with its line `---` and that line's line feed; or all of it, where it has no such line
abbrev pub catalogue_part : List ℕ → Option ℕ → List ℕ
catalogue_part text None = text
catalogue_part text (Some at) = take (at + 4) text

-- the after-images of a script's transactions, executed from no rows on: a list for each, in commit order
abbrev pub lists_of : Script → List (List Change)
lists_of script = all_after_images script.catalogue.procs (txns_in script.batches) empty

-- the bytes of lists, one after another
abbrev pub lists_bytes : List (List Change) → List ℕ
lists_bytes lists = flat_map images_bytes lists

-- the log of a text that is this script, with its line `---` there
abbrev pub log_text : List ℕ → Option ℕ → Script → List ℕ
log_text text mark script = catalogue_part text mark ++ lists_bytes (lists_of script)

-- each list may be left by a transaction over these tables, and has bytes
abbrev pub AreListsOf : List Table → List (List Change) → Type 0
AreListsOf tables lists = AllByRecursion (AreTxnImagesOf tables) lists

-- the input is a script whose transactions end with tables within the limit, and its log has this property
pub record IsLogOf (limit : ℕ) (input : Option (List ℕ)) (P : List ℕ → Type 0) : Type 0 where
  pub text : List ℕ
  pub mark : Option ℕ
  pub script : Script
  pub tables : Tables
  pub whole : IfSome input (λ all. all ≡ text)
  pub is : IsReadAs text (Ok script)
  pub is_mark : MarkOf text mark
  pub ends : outcome script ≡ Ok tables
  pub within : first_over_in limit script tables ≡ None
  -- what is read of its bytes are its lists
  pub lists : AreListsOf script.catalogue.tables (lists_of script)
  pub has : P (log_text text mark script)

-- how `replay --images` ends: as `replay` does, but that it writes the log
abbrev pub RecordEnds : ℕ → ℕ → Observed → Observed → Observed → Type 0
RecordEnds limit status input output errors = ScriptEnds limit (IsLogOf limit input.before) status input output errors
