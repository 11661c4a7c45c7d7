-- Where no row stands, none is unfit.
use Rattle.std.proofs.Common.{None, arith}
use Rattle.pac_value.specs.State.{Cell}
use Rattle.pac_serial.proofs.WritesLemmas.{key-fits}
use Rattle.pac_serial.proofs.FitLemmas.{runs-changed}
use Rattle.pac_serial.proofs.operation.delete.Goals as goal

pub returns-clause-over : goal.returns-clause-over
returns-clause-over g c =
    let cell : Cell = (c.args.target.now.table, c.in_ok-key.key) in
    runs-changed c.args.tables.now (g.R.Rows.tables c.args.rows.now) (g.R.Rows.held c.args.rows.now) c.args.txn.now.write_set c.change.new.self cell None c.requires.over (key-fits c.args.tables.now cell c.in_ok-key.ensures.typed)
    (λ r e. cc) (c.in_ok-change.ensures.ok (g.R.Rows.held c.args.rows.now)) (c.change.ensures.unmade (g.R.Rows.tables c.args.rows.now) (omega (arith, c.requires.over.count)) c.requires.over.unmade) c.in_ok-change.ensures.cells
