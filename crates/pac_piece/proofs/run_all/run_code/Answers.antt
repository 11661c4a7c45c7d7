-- The frame begins with the inputs, and ends with what the operations or the records leave.
use Rattle.std.proofs.Common.{map, sym, ap, ◌∙◌, subst}
use Rattle.pac_ops.specs.Effects.{numbered_from, record_op}
use Rattle.pac_plan.specs.Codes.{code_ops}
use Rattle.pac_piece.specs.declared.frame.Frame.{Frame}
use Rattle.pac_piece.specs.Values.{IsOutcomeOver}
use Rattle.pac_piece.proofs.RunLemmas.{outcome_of}
use Rattle.pac_piece.proofs.run_all.run_code.Goals as goal
use Rattle.pac_piece.proofs.run_all.run_code.Goals.{in-Ops+in_ok-run_all-in-Ops, in-Records+in_ok-change_all-in-Records}

pub returns : goal.returns
returns g c =
    let adds = g.K.Outs.Adds in
    let base = g.S.RowSource.base c.args.source.now in
    let code = c.args.code.now in
    let env = c.args.env in
    let outs = c.args.outs in
    elim c.match-code.branch [
      | in-Ops+in_ok-run_all-in-Ops w ↦ subst (λ (f : Frame _). IsOutcomeOver adds c.args.txn code env base outs f) (sym w.frame-is)
          (outcome_of adds c.args.txn code env base outs w.as_slice.result.now c.new.result.items w.run_all.new.frame c.new.ensures.items
          (w.as_slice.ensures ∙ ap code_ops (sym w.in-Ops.is)) w.in_ok-run_all-in-Ops.ensures)
      | in-Records+in_ok-change_all-in-Records w ↦ subst (λ (f : Frame _). IsOutcomeOver adds c.args.txn code env base outs f) (sym w.frame-is)
          (outcome_of adds c.args.txn code env base outs (numbered_from 0 (map record_op w.as_slice-in-Records.result.now)) c.new.result.items w.change_all.new.frame c.new.ensures.items
          (ap (λ cs. numbered_from 0 (map record_op cs)) w.as_slice-in-Records.ensures ∙ ap code_ops (sym w.in-Records.is)) (w.in_ok-change_all-in-Records.ensures base c.args.txn))
    ]
