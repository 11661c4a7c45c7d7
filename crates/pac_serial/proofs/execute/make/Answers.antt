-- A change that fits keeps the transaction over the rows.
use Rattle.std.proofs.Common.{◌≡◌, Some, None, map, subst, sym, ◌∙◌, arith}
use Rattle.pac_value.specs.State.{Cell, RowValues}
use Rattle.pac_ops.specs.Shapes.{RowFits, ChangeFits}
use Rattle.pac_types.specs.Fits.{shape}
use Rattle.pac_serial.proofs.WritesLemmas.{row_key-fits}
use Rattle.pac_serial.proofs.FitLemmas.{on-ok-both, table-within, runs-changed}
use Rattle.pac_serial.proofs.execute.make.Goals as goal

pub returns-in_ok-row-in-Put-clause-over : goal.returns-in_ok-row-in-Put-clause-over
returns-in_ok-row-in-Put-clause-over g c =
    let tables = c.args.tables.now in
    let cell : Cell = (c.in-Put.table, c.in-Put.key) in
    on-ok-both c.change.result (c.change.ensures.ok (g.R.Rows.held c.args.rows.now)) c.change.ensures.cells (λ is writes.
    runs-changed tables (g.R.Rows.tables c.args.rows.now) (g.R.Rows.held c.args.rows.now) c.args.txn.now.write_set c.change.new.self cell (Some c.in_ok-row-in-Put.row) c.requires.over
    (row_key-fits tables cell _ (subst (ChangeFits (map shape tables)) c.in-Put.is c.requires.change))
    (λ r e. let same : c.in_ok-row-in-Put.row ≡ r = cc in subst (λ (z : RowValues). RowFits (map shape tables) cell z) (sym c.in_ok-row-in-Put.ensures ∙ same) (subst (ChangeFits (map shape tables)) c.in-Put.is c.requires.change)) is (c.change.ensures.unmade (g.R.Rows.tables c.args.rows.now) (omega (arith, c.requires.over.count, table-within _ tables c.in-Put.table (subst (ChangeFits (map shape tables)) c.in-Put.is c.requires.change))) c.requires.over.unmade) writes)

pub returns-in-Delete-clause-over : goal.returns-in-Delete-clause-over
returns-in-Delete-clause-over g c =
    let cell : Cell = (c.in-Delete.table, c.in-Delete.key) in
    on-ok-both c.change-in-Delete.result (c.change-in-Delete.ensures.ok (g.R.Rows.held c.args.rows.now)) c.change-in-Delete.ensures.cells (λ is writes.
    runs-changed c.args.tables.now (g.R.Rows.tables c.args.rows.now) (g.R.Rows.held c.args.rows.now) c.args.txn.now.write_set c.change-in-Delete.new.self cell None c.requires.over (subst (ChangeFits (map shape c.args.tables.now)) c.in-Delete.is c.requires.change)
    (λ r e. cc) is (c.change-in-Delete.ensures.unmade (g.R.Rows.tables c.args.rows.now) (omega (arith, c.requires.over.count, table-within _ c.args.tables.now c.in-Delete.table (subst (ChangeFits (map shape c.args.tables.now)) c.in-Delete.is c.requires.change))) c.requires.over.unmade) writes)
