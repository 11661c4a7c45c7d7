-- Over the rows of the tables.
use Rattle.pac_piece.proofs.ArgumentWork.{over_arguments}
use Rattle.pac_piece.proofs.laws.arguments_run_on.Goals as goal

pub returns : goal.returns
returns g c = record {
  runnable = over_arguments c.args.plan.now c.is_plan.ensures c.args.txn.now c.requires.fits c.args.block c.requires.entry c.arguments_are_inputs.ensures c.args.code.now c.args.env.now
      (g.R.Rows.held c.args.rows.now) c.requires.code c.requires.env c.requires.rows;
  among = c.requires.tables;
}
