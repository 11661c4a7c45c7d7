-- The cells at which a piece may touch rows, and copies of the rows there.
use Rattle.std.specs.Prelude.{◌≡◌, ◌↔◌, ℕ, true, List, map, length, slice_get, Some, Contains, AllPairs}
use Rattle.std.specs.declared.cmp.Ordering.TheVariants.{Less}
use Rattle.std.specs.FinMap.{get}
use Rattle.pac_value.specs.State.{Cell, cell_cmp, Tables}
use Rattle.pac_plan.specs.declared.access.Access.{Access}
use Rattle.pac_plan.specs.declared.access.Access.TheVariants.{Whole}
use Rattle.pac_plan.specs.Pieces.{covers}
use Rattle.pac_tables.specs.declared.writes.Write.{Write}
use Rattle.pac_core.specs.declared.cells.PieceCells.{PieceCells}
use Rattle.pac_core.specs.declared.cells.PieceCells.TheVariants as piece

-- the cells that an access of keys names, each once, ascending
pub record AreCellsOf (access : Access) (cells : List Cell) : Type 0 where
  pub keys : access ≡ Whole → ⊥
  pub each : (a : Cell) → Contains cells a ↔ (covers access a ≡ true)
  pub ascending : AllPairs (λ a b. cell_cmp a b ≡ Less) cells

-- what is known of the cells of a piece: they are those of its access, or that is whole
abbrev pub AreOf : Access → PieceCells → Type 0
AreOf access (piece.Keys cells) = AreCellsOf access cells.items
AreOf access piece.Whole = access ≡ Whole

-- so is it for each of some accesses
pub record HasCellsOf (accesses : List Access) (cells : List PieceCells) : Type 0 where
  pub all : length cells ≡ length accesses
  pub each : (i : ℕ) (access : Access) (known : PieceCells) → slice_get accesses i ≡ Some access → slice_get cells i ≡ Some known → AreOf access known

-- a copy of what stands at a cell, as the write that would put it back
abbrev pub copy_at : Tables → Cell → Write
copy_at tables a = record { table = a.0; key = a.1; row = get tables a }

-- copies of what stands at cells
abbrev pub copies_at : Tables → List Cell → List Write
copies_at tables cells = map (copy_at tables) cells
