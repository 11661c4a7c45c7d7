-- Shares of the cells, and what the last of the after-images at a cell leaves there.
use Rattle.std.specs.Prelude.{◌≡◌, ◌+◌, ◌*◌, ◌/◌, ◌%◌, ◌<◌, ℕ, true, List, [], ◌∷◌, Option, Some, None, is_some, nat_eq, if◌then◌else◌}
use Rattle.std.specs.Coded.{Coded, coded×, coded_ℕ, coded_list, coded_option}
use Rattle.std.specs.FinMap.{FinMap, code, get}
use Rattle.std.specs.Int.{w64, cast_unsigned}
use Rattle.std.specs.Option.{option_or}
use Rattle.std.specs.Ordering.{eq_by_cmp}
use Rattle.pac_value.specs.contracts.values.Key as key_type
use Rattle.pac_value.specs.contracts.values.Value as value_type
use Rattle.pac_value.specs.declared.values.Key.{Key}
use Rattle.pac_value.specs.declared.values.Key.TheVariants as key
use Rattle.pac_value.specs.State.{Cell, cell_cmp, RowValues}
use Rattle.pac_ops.specs.declared.transaction.Change.{Change}
use Rattle.pac_serial.specs.Writes.{image_cell}
use Rattle.pac_tuple.specs.Images.{image_row}
use Rattle.pac_tuple.specs.declared.share.CellShare.{CellShare}

-- a number with bytes mixed in, one after another
abbrev pub bytes_mixed : ℕ → List ℕ → ℕ
bytes_mixed n [] = n
bytes_mixed n (b ∷ bs) = bytes_mixed ((n * 31 + b) % 4294967296) bs

-- a number for a key
abbrev pub key_number : Key → ℕ
key_number (key.Int z) = cast_unsigned w64 z % 4294967296
key_number (key.Text bytes) = bytes_mixed 0 bytes

-- the number of the share in which a cell is, of that many: by the upper bits of a product, so that keys in steps are spread
abbrev pub share_number : ℕ → Cell → ℕ
share_number count cell = ((key_number cell.1 + cell.0) % 4294967296 * 2654435761 % 4294967296) / 65536 % count

-- what an image leaves at a cell: a row, or none; and nothing is said where it stands at another
abbrev pub image_left_at : Cell → Change → Option (Option RowValues)
image_left_at cell image = if eq_by_cmp cell_cmp cell (image_cell image) then Some (image_row image) else None

-- what the last of these images at a cell leaves there
abbrev pub last_at : Cell → List Change → Option (Option RowValues)
last_at cell [] = None
last_at cell (image ∷ images) = option_or (last_at cell images) (image_left_at cell image)

-- the same of lists one after another
abbrev pub last_in : Cell → List (List Change) → Option (Option RowValues)
last_in cell [] = None
last_in cell (images ∷ lists) = option_or (last_in cell lists) (last_at cell images)

-- what is left at a cell, where it is in the share
abbrev pub in_share : CellShare → Cell → Option (Option RowValues) → Option (Option RowValues)
in_share share cell left = if nat_eq (share_number share.count cell) share.number then left else None

-- for each of some cells the row that is left there, or none
abbrev pub LastRows : Type 0
LastRows = FinMap cell_cmp (Option RowValues)

-- how these are told apart
abbrev pub last_code : Coded LastRows
last_code = code (coded× coded_ℕ key_type.the_row.coded) (coded_option (coded_list value_type.the_row.coded))

-- at each cell of the share that lists name, what the last image leaves there; and no other cell
abbrev pub AreLastOf : CellShare → List (List Change) → LastRows → Type 0
AreLastOf share lists last = (cell : Cell) → get last cell ≡ in_share share cell (last_in cell lists)

-- each cell is in one of that many tables
abbrev pub AreRowsWithin : ℕ → LastRows → Type 0
AreRowsWithin tables last = (cell : Cell) → is_some (get last cell) ≡ true → cell.0 < tables
