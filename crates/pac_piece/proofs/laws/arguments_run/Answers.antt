-- Over the rows that the work has copies of.
use Rattle.pac_piece.specs.Values.{copied}
use Rattle.pac_piece.proofs.ArgumentWork.{over_arguments}
use Rattle.pac_piece.proofs.laws.arguments_run.Goals as goal

pub returns : goal.returns
returns c =
    let work = c.args.work.now in
    over_arguments c.args.plan.now c.is_plan.ensures c.args.txn.now c.requires.fits work.piece.block c.requires.entry c.arguments_are_inputs.ensures work.code work.env (copied work)
    c.requires.code c.requires.env c.requires.rows
