-- The variable gets the value, or its default with a note.
use Rattle.std.proofs.Common.{Some, sym, ap, ◌∙◌}
use Rattle.pac_ops.specs.declared.reason.Reason.{Reason}
use Rattle.pac_ops.specs.Reasons.{reason_of}
use Rattle.pac_ops.specs.Notes.{least}
use Rattle.pac_piece.proofs.StepLemmas.{can_value, on_ok}
use Rattle.pac_piece.proofs.HereLemmas.{aborted_here, trapped_here, valued_here}
use Rattle.pac_piece.proofs.run_here.run_value_here.Goals as goal

pub eval-requires : goal.eval-requires
eval-requires g c = can_value c.args.ground.now.frame.env c.args.op.now.1.kind c.args.var c.args.expr.now c.requires.kind c.requires.can

pub returns-in-Ok-clause-ok : goal.returns-in-Ok-clause-ok
returns-in-Ok-clause-ok g c = on_ok c.give_here.result (λ state.
    valued_here g.R.Rows.held c.args.txn c.args.op.now c.args.ground.now c.give_here.new.ground c.args.var c.args.expr.now c.in-Ok.value c.requires.kind c.requires.holds (sym c.eval.ensures.value ∙ c.in-Ok.is) state c.give_here.ensures.note) c.give_here.ensures.ok

pub returns-in-Err-clause-ok : goal.returns-in-Err-clause-ok
returns-in-Err-clause-ok g c = on_ok c.default_here.result (λ state.
    let held = g.R.Rows.held in
    let old = c.args.ground.now in
    let o = c.args.op.now in
    aborted_here held c.args.txn o old c.default_here.new.ground (reason_of c.in-Err.trap) c.requires.holds
    (trapped_here held c.args.txn o old c.default_here.new.ground c.args.var c.args.expr.now c.in-Err.trap c.requires.kind (sym c.eval.ensures.value ∙ c.in-Err.is)) state
    (c.default_here.ensures.note ∙ ap (λ (r : Reason). least old.frame.note (Some (record { txn = c.args.txn; op = o.0; reason = r }))) c.from.ensures)) c.default_here.ensures.ok
