-- The new row has its table's key and column types.
use Rattle.std.proofs.Common.{◌≡◌, Some, map, subst, arith}
use Rattle.pac_value.specs.State.{Cell, RowValues}
use Rattle.pac_ops.specs.Shapes.{RowFits}
use Rattle.pac_types.specs.Fits.{shape}
use Rattle.pac_types.proofs.ShapeLemmas.{row-fits}
use Rattle.pac_serial.proofs.WritesLemmas.{key-fits}
use Rattle.pac_serial.proofs.FitLemmas.{runs-changed}
use Rattle.pac_serial.proofs.operation.put.Goals as goal

pub returns-clause-over : goal.returns-clause-over
returns-clause-over g c =
    let tables = c.args.tables.now in
    let cell : Cell = (c.args.target.now.table, c.in_ok-key.key) in
    let new : RowFits (map shape tables) cell c.in_ok-row.row = row-fits tables cell c.in_ok-row.row c.in_ok-key.ensures.typed c.in_ok-row.ensures.typed in
    runs-changed tables (g.R.Rows.tables c.args.rows.now) (g.R.Rows.held c.args.rows.now) c.args.txn.now.write_set c.change.new.self cell (Some c.in_ok-row.row) c.requires.over (key-fits tables cell c.in_ok-key.ensures.typed)
    (λ r e. let same : c.in_ok-row.row ≡ r = cc in subst (λ (z : RowValues). RowFits (map shape tables) cell z) same new) (c.in_ok-change.ensures.ok (g.R.Rows.held c.args.rows.now)) (c.change.ensures.unmade (g.R.Rows.tables c.args.rows.now) (omega (arith, c.requires.over.count)) c.requires.over.unmade) c.in_ok-change.ensures.cells
