-- What is left, over what is made, gives what all gives.
use Rattle.std.proofs.Common.{◌≡◌, ◌<◌, Option, length}
use Rattle.std.specs.List.{All}
use Rattle.std.specs.Map.{lookup}
use Rattle.std.specs.Option.{unwrap_or}
use Rattle.std.specs.FinMap.{get}
use Rattle.pac_value.specs.State.{Cell, RowValues}
use Rattle.pac_tuple.proofs.LastLemmas.{cell_eq}
use Rattle.pac_tuple.proofs.last.LastImages.make.Given as goal

abbrev pub invariant-loop-cell : goal.invariant-loop-cell
invariant-loop-cell g l = record {
  rows : (q : Cell) → unwrap_or (lookup (cell_eq q) l.left.entries) (get (g.R.Rows.held l.rows) q) ≡ unwrap_or (get l.fn.self q) (get (g.R.Rows.held l.fn.rows) q);
  within : All (λ (e : Cell × Option RowValues). e.0.0 < g.R.Rows.tables l.rows) l.left.entries;
  tables : g.R.Rows.tables l.rows ≡ g.R.Rows.tables l.fn.rows;
}

abbrev pub decreases-loop-cell : goal.decreases-loop-cell
decreases-loop-cell g l = length l.left.entries
