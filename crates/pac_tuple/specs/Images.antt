-- The after-images of a transaction, and their bytes.
use Rattle.std.specs.Prelude.{◌≤◌, ℕ, Bool, true, List, [], ◌∷◌, ◌++◌, length, Option, Some, None, IsTrue}
use Rattle.std.specs.Ordering.{is_lt}
use Rattle.std.specs.Int.{w16, to_le_bytes}
use Rattle.std.specs.List.{flat_map, AllByRecursion}
use Rattle.pac_value.specs.State.{Cell, cell_cmp, RowValues}
use Rattle.pac_ops.specs.declared.transaction.Change.{Change}
use Rattle.pac_ops.specs.declared.transaction.Change.TheVariants.{Put, Delete}
use Rattle.pac_types.specs.declared.table.Table.{Table}
use Rattle.pac_entry.specs.Entries.{change_bytes, IsRecord}
use Rattle.pac_serial.specs.Writes.{image_cell}
use Rattle.pac_tuple.specs.declared.images.TheConstants.{MAX_IMAGES}

-- the row that the transaction left there, or none
abbrev pub image_row : Change → Option RowValues
image_row (Put table key row) = Some row
image_row (Delete table key) = None

-- the cell is above the last one, where there was one
abbrev pub is_cell_above : Option Cell → Cell → Bool
is_cell_above None cell = true
is_cell_above (Some last) cell = is_lt (cell_cmp last cell)

-- each cell is above the one before, and the first above the last one, where there was one
abbrev pub AscendAfter : Option Cell → List Change → Type 0
AscendAfter last [] = Unit {0}
AscendAfter last (image ∷ images) = IsTrue (is_cell_above last (image_cell image)) × AscendAfter (Some (image_cell image)) images

-- images that a transaction may leave: few of them, each at a cell of its own, in the order of the cells
abbrev pub AreTxnImages : List Change → Type 0
AreTxnImages images = (length images ≤ MAX_IMAGES) × AscendAfter None images

-- images of these tables that have bytes
abbrev pub AreTxnImagesOf : List Table → List Change → Type 0
AreTxnImagesOf tables images = AreTxnImages images × AllByRecursion (IsRecord tables) images

-- a list is the tag 3, the number of images, and the images as records
abbrev pub images_bytes : List Change → List ℕ
images_bytes images = 3 ∷ (to_le_bytes w16 (length images) ++ flat_map change_bytes images)
