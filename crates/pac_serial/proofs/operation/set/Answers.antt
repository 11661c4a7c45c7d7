-- The new row has the types of the old one.
use Rattle.std.proofs.Common.{◌≡◌, Option, Some, true, map, ap, sym, subst, ◌∙◌, arith}
use Rattle.std.specs.FinMap as fin
use Rattle.pac_value.specs.declared.values.Ty.{Ty}
use Rattle.pac_value.specs.Values.{type_of}
use Rattle.pac_value.specs.State.{Cell, RowValues}
use Rattle.pac_value.specs.Scopes.{is_wanted}
use Rattle.pac_ops.specs.Shapes.{RowFits}
use Rattle.pac_types.specs.WellFormed.{column_type, column_types}
use Rattle.pac_types.specs.Fits.{shape}
use Rattle.pac_types.proofs.ShapeLemmas.{row-fits, columns-of_fit}
use Rattle.pac_serial.specs.WriteSets.{as_changed}
use Rattle.pac_serial.proofs.WritesLemmas.{key-fits}
use Rattle.pac_serial.proofs.FitLemmas.{types-set, column-within, runs-changed}
use Rattle.pac_serial.proofs.operation.set.Goals as goal

pub with_column-requires-clause-column : goal.with_column-requires-clause-column
with_column-requires-clause-column g c =
    let tables = c.args.tables.now in
    let cell : Cell = (c.args.target.now.table, c.in_ok-key.key) in
    let old : RowValues = c.in-Some.row.now in
    let found : fin.get (as_changed (g.R.Rows.held c.args.rows.now) c.args.txn.now.write_set) cell ≡ Some old = sym c.in-Some.ensures in
    column-within old (column_types tables c.args.target.now.table) c.args.column c.in_ok-value.value (columns-of_fit tables cell old (c.requires.over.fits cell old found))
    (subst (λ (o : Option Ty). is_wanted o (column_type tables c.args.target.now.table c.args.column) ≡ true) c.in_ok-value.ensures.typed c.requires.column)

pub returns-clause-over : goal.returns-clause-over
returns-clause-over g c =
    let tables = c.args.tables.now in
    let cell : Cell = (c.args.target.now.table, c.in_ok-key.key) in
    let old : RowValues = c.in-Some.row.now in
    let value = c.in_ok-value.value in
    let found : fin.get (as_changed (g.R.Rows.held c.args.rows.now) c.args.txn.now.write_set) cell ≡ Some old = sym c.in-Some.ensures in
    let fit : RowFits (map shape tables) cell old = c.requires.over.fits cell old found in
    let wanted : is_wanted (Some (type_of value)) (column_type tables c.args.target.now.table c.args.column) ≡ true =
    subst (λ (o : Option Ty). is_wanted o (column_type tables c.args.target.now.table c.args.column) ≡ true) c.in_ok-value.ensures.typed c.requires.column in
    let types : map type_of c.in_ok-row.row ≡ column_types tables c.args.target.now.table =
    ap (map type_of) c.in_ok-row.ensures ∙ types-set old (column_types tables c.args.target.now.table) c.args.column value (columns-of_fit tables cell old fit) wanted in
    let new : RowFits (map shape tables) cell c.in_ok-row.row = row-fits tables cell c.in_ok-row.row c.in_ok-key.ensures.typed types in
    runs-changed tables (g.R.Rows.tables c.args.rows.now) (g.R.Rows.held c.args.rows.now) c.args.txn.now.write_set c.change.new.self cell (Some c.in_ok-row.row) c.requires.over (key-fits tables cell c.in_ok-key.ensures.typed)
    (λ r e. let same : c.in_ok-row.row ≡ r = cc in subst (λ (z : RowValues). RowFits (map shape tables) cell z) same new) (c.in_ok-change.ensures.ok (g.R.Rows.held c.args.rows.now)) (c.change.ensures.unmade (g.R.Rows.tables c.args.rows.now) (omega (arith, c.requires.over.count)) c.requires.over.unmade) c.in_ok-change.ensures.cells
