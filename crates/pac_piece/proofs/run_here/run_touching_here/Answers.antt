-- The operation does what it means, or leaves a note.
use Rattle.std.proofs.Common.{subst}
use Rattle.pac_piece.specs.InPlace.{DoesHere}
use Rattle.pac_piece.proofs.HereLemmas.{done_here}
use Rattle.pac_piece.proofs.run_here.run_touching_here.Goals as goal

pub returns-in-Ok-clause-ok : goal.returns-in-Ok-clause-ok
returns-in-Ok-clause-ok g c =
    let does = subst (λ (r : _). DoesHere g.R.Rows.held c.args.op.now.1.kind c.args.ground.now c.do_here.new.ground r) c.in-Ok.is c.do_here.ensures.does in
    done_here g.R.Rows.held c.args.txn c.args.op.now c.args.ground.now c.do_here.new.ground c.requires.holds does.0 does.1
