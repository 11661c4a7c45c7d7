-- What is listed are the images of the changes, as they are made then.
use Rattle.std.proofs.Common.{List, map, length, ap, sym, subst, ◌∙◌, arith}
use Rattle.std.specs.FinMap.{keys}
use Rattle.pac_value.specs.State.{Cell, Tables}
use Rattle.pac_ops.specs.declared.transaction.Change.{Change as AnImage}
use Rattle.pac_ops.specs.Shapes.{RecordsFit}
use Rattle.pac_types.specs.Fits.{shape}
use Rattle.pac_serial.specs.Writes.{cells_written, cell_set, image_in}
use Rattle.pac_serial.proofs.ListedLemmas.{listed, listed-few, listed-fit}
use Rattle.pac_serial.proofs.execute.exec_listed.Goals as goal

pub returns-clause-listed : goal.returns-clause-listed
returns-clause-listed g c =
    let held = g.R.Rows.held c.args.rows.now in
    let cells : List Cell = cells_written c.args.cat.now.procs c.args.txn.now held in
    c.in_ok-images.ensures ∙ listed held c.run_txn.new.running.write_set cells c.in_ok-run_txn.ensures.writes ∙ ap (λ (after : Tables). map (image_in after) (keys (cell_set cells))) (sym c.in_ok-finish.ensures.made)

pub returns-clause-records : goal.returns-clause-records
returns-clause-records g c =
    subst (λ (images : List AnImage). RecordsFit (map shape c.args.cat.now.tables) images) (sym c.in_ok-images.ensures)
    (listed-fit c.args.cat.now.tables (g.R.Rows.tables c.args.rows.now) (g.R.Rows.held c.args.rows.now) c.run_txn.new.running.write_set c.in_ok-run_txn.ensures.over)

pub returns-clause-few : goal.returns-clause-few
returns-clause-few g c =
    let held = g.R.Rows.held c.args.rows.now in
    let cells : List Cell = cells_written c.args.cat.now.procs c.args.txn.now held in
    omega (arith, ap (λ (images : List AnImage). length images) c.in_ok-images.ensures, listed-few held c.run_txn.new.running.write_set cells c.in_ok-run_txn.ensures.writes, c.in_ok-run_txn.ensures.few)
