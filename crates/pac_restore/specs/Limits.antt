-- Tables over a limit of rows.
use Rattle.std.specs.Prelude.{◌≡◌, ℕ, List, length, slice_get, Some}
use Rattle.std.specs.Option.{option_map}
use Rattle.pac_value.specs.State.{Tables}
use Rattle.pac_types.specs.declared.table.Table.{Table}
use Rattle.pac_types.specs.Execution.{first_over}

-- the first of these tables that has more rows than the limit has this name, and that many rows
abbrev pub IsFirstOver : ℕ → List Table → Tables → List ℕ → ℕ → Type 0
IsFirstOver limit tables held name rows = (number : ℕ) × (first_over limit (length tables) held ≡ Some (number, rows)) × (option_map (λ table. table.name) (slice_get tables number) ≡ Some name)
