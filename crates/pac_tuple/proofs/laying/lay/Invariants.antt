-- The shares that are left were found, and the cells of the others have what laying leaves.
use Rattle.std.proofs.Common.{◌≡◌, length}
use Rattle.pac_tuple.proofs.LayLemmas.{AreLaidFrom, AreShares}
use Rattle.pac_tuple.proofs.laying.lay.Given as goal

abbrev pub invariant-loop-last : goal.invariant-loop-last
invariant-loop-last g l = record {
  rows : AreLaidFrom l.count (length l.found.items) l.images (g.R.Rows.held l.fn.rows) (g.R.Rows.held l.rows);
  shares : AreShares l.count l.images l.found.items;
  tables : g.R.Rows.tables l.rows ≡ g.R.Rows.tables l.fn.rows;
}

abbrev pub decreases-loop-last : goal.decreases-loop-last
decreases-loop-last g l = length l.found.items
