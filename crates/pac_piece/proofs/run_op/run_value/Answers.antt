-- The variable gets the value, or its default with a note.
use Rattle.std.proofs.Common.{sym, subst, ◌∙◌}
use Rattle.pac_ops.specs.declared.reason.Reason.{Reason}
use Rattle.pac_piece.specs.Steps.{GivesUp}
use Rattle.pac_piece.proofs.StepLemmas.{can_value, on_ok, value_given, value_traps}
use Rattle.pac_piece.proofs.run_op.run_value.Goals as goal

pub eval-requires : goal.eval-requires
eval-requires g c = can_value c.args.frame.now.env c.args.op.now.1.kind c.args.var c.args.expr.now c.requires.kind c.requires.can

pub returns-in-Ok : goal.returns-in-Ok
returns-in-Ok g c = on_ok c.give.result (λ given base.
    value_given g.K.Outs.Adds base c.args.txn c.args.op.now c.args.frame.now c.give.new.frame c.args.var c.args.expr.now c.in-Ok.value c.requires.kind c.requires.holds (sym c.eval.ensures.value ∙ c.in-Ok.is) c.requires.once given) c.give.ensures

pub returns-in-Err : goal.returns-in-Err
returns-in-Err g c = on_ok c.give_up.result (λ gives base.
    value_traps g.K.Outs.Adds base c.args.txn c.args.op.now c.args.frame.now c.give_up.new.frame c.args.var c.args.expr.now c.in-Err.trap c.requires.kind c.requires.holds (sym c.eval.ensures.value ∙ c.in-Err.is) c.requires.once
    (subst (λ (r : Reason). GivesUp g.K.Outs.Adds c.args.txn c.args.op.now r c.args.frame.now c.give_up.new.frame) c.from.ensures gives)) c.give_up.ensures
