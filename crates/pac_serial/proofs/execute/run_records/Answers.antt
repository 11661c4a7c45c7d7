-- Nothing is made yet.
use Rattle.std.proofs.Common.{◌||◌, List, map, ap, sym, subst, ◌∙◌}
use Rattle.std.specs.FinMap.{contains_key}
use Rattle.pac_value.specs.State.{Tables}
use Rattle.pac_ops.specs.declared.transaction.Change.{Change}
use Rattle.pac_ops.specs.Shapes.{RecordsFit}
use Rattle.pac_ops.specs.Transactions.{with_changes}
use Rattle.pac_types.specs.declared.table.Table.{Table}
use Rattle.pac_types.specs.Fits.{shape}
use Rattle.pac_serial.specs.Writes.{is_among, image_cell}
use Rattle.pac_serial.specs.WriteSets.{Changes, as_changed}
use Rattle.pac_serial.specs.Transactions.{RunsOver}
use Rattle.pac_serial.proofs.WriteSetLemmas.{seen-none}
use Rattle.pac_serial.proofs.CallLemmas.{runs-begun}
use Rattle.pac_serial.proofs.execute.run_records.Goals as goal

pub loop-change-init : goal.loop-change-init
loop-change-init g c =
    let cat = c.args.cat.now in
    let held = g.R.Rows.held c.args.rows.now in
    record {
      over = subst (λ (ts : List Table). RunsOver ts (g.R.Rows.tables c.args.rows.now) held c.begin.new.self.write_set) (sym c.tables-tables.ensures.value)
          (runs-begun cat.tables (g.R.Rows.tables c.args.rows.now) held c.begin.new.self.write_set c.requires.fits.count c.requires.fits.rows c.in_ok-begin.ensures.write_set);
      fit = subst (λ (ts : List Table). RecordsFit (map shape ts) c.items-changes.result.now) (sym c.tables-tables.ensures.value)
          (subst (λ (cs : List Change). RecordsFit (map shape cat.tables) cs) (sym c.items-changes.ensures.value) c.requires.records);
      so_far = ap (λ (t : Tables). with_changes t c.items-changes.result.now) (ap (as_changed held) c.in_ok-begin.ensures.write_set ∙ seen-none held);
      written = λ q. ap (λ (m : Changes). is_among q (map image_cell c.items-changes.result.now) || contains_key m q) c.in_ok-begin.ensures.write_set;
    }
