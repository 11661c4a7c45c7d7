-- A call writes no more cells than it has operations.
use Rattle.std.proofs.Common.{◌≤◌, length, subst, sym}
use Rattle.pac_ops.specs.declared.limits.TheConstants.{MAX_OPS}
use Rattle.pac_ops.specs.declared.transaction.Txn.{Txn}
use Rattle.pac_serial.specs.Writes.{cells_written}
use Rattle.pac_serial.proofs.ListedLemmas.{always, few-called}
use Rattle.pac_serial.proofs.execute.run_txn.Goals as goal

pub returns-in-Call-clause-few : goal.returns-in-Call-clause-few
returns-in-Call-clause-few g c =
    always c.run_call.result (subst (λ (t : Txn). length (cells_written c.args.cat.now.procs t (g.R.Rows.held c.args.rows.now)) ≤ MAX_OPS) (sym c.in-Call.is)
    (few-called c.args.cat.now.procs c.in-Call.call.proc c.in-Call.call.args (g.R.Rows.held c.args.rows.now) c.requires.few))
