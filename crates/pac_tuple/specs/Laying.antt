-- What laying lists of after-images makes of the tables, and what one share of the keys is of it.
use Rattle.std.specs.Prelude.{◌<◌, ℕ, List, [], ◌∷◌}
use Rattle.std.specs.List.{All}
use Rattle.pac_value.specs.State.{Tables}
use Rattle.pac_ops.specs.declared.transaction.Change.{Change}
use Rattle.pac_ops.specs.Transactions.{with_changes}
use Rattle.pac_serial.specs.Writes.{image_cell}

-- the tables after lists of after-images: list after list, each cell that is named gets its row, or none
abbrev pub tables_laid : Tables → List (List Change) → Tables
tables_laid tables [] = tables
tables_laid tables (images ∷ lists) = tables_laid (with_changes tables images) lists

-- each image is in one of that many tables
abbrev pub AreLaidWithin : ℕ → List (List Change) → Type 0
AreLaidWithin tables lists = All (λ images. All (λ image. (image_cell image).0 < tables) images) lists
