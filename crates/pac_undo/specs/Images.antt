-- Before-images: the writes that put back what stood first at the cells that were changed.
use Rattle.std.specs.Prelude.{◌≡◌, ℕ, true, List, [], ◌∷◌, map, Option, Some, None, if◌then◌else◌}
use Rattle.std.specs.List.{All}
use Rattle.std.specs.Ordering.{eq_by_cmp}
use Rattle.std.specs.FinMap.{get}
use Rattle.pac_value.specs.declared.values.Key.{Key}
use Rattle.pac_value.specs.State.{Cell, cell_cmp, RowValues, Tables}
use Rattle.pac_tables.specs.declared.writes.Write.{Write}
use Rattle.pac_tables.specs.Written.{cell_written, is_written}

-- cells with the rows that stood there, as writes
abbrev pub as_writes : List (Cell × Option RowValues) → List Write
as_writes images = map (λ image. record { table = image.0.0; key = image.0.1; row = image.1 }) images

-- the before-image of a cell: the row that stood there, or none; and nothing where the cell has no before-image
abbrev pub before_image_at : List Write → Cell → Option (Option RowValues)
before_image_at [] cell = None
before_image_at (image ∷ images) cell = if eq_by_cmp cell_cmp cell (cell_written image) then Some image.row else before_image_at images cell

-- the cell of each write has a before-image
abbrev pub HaveBeforeImages : List Write → List Write → Type 0
HaveBeforeImages images writes = All (λ write. is_written images (cell_written write) ≡ true) writes

-- a cell that had a before-image has one
abbrev pub AreKept : List Write → List Write → Type 0
AreKept old new = (cell : Cell) → is_written old cell ≡ true → is_written new cell ≡ true

-- the two have the same row at each of these keys of a table
abbrev pub AreSameAt : Tables → Tables → ℕ → List Key → Type 0
AreSameAt tables others table keys = All (λ key. get tables (table, key) ≡ get others (table, key)) keys

-- the two have the same row at each cell that has a before-image
abbrev pub AreSameWhereChanged : Tables → Tables → List Write → Type 0
AreSameWhereChanged tables others images = All (λ image. get tables (cell_written image) ≡ get others (cell_written image)) images
