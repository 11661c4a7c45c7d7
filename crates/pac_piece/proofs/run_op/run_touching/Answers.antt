-- The operation has its effect.
use Rattle.std.proofs.Common.{subst}
use Rattle.pac_piece.specs.Frames.{state_seen}
use Rattle.pac_piece.specs.Effects.{effect_of}
use Rattle.pac_piece.specs.Steps.{AnswersAt}
use Rattle.pac_piece.proofs.StepLemmas.{on_ok, stepped}
use Rattle.pac_piece.proofs.run_op.run_touching.Goals as goal

pub returns-in-Ok : goal.returns-in-Ok
returns-in-Ok g c =
    let at = subst (λ (r : _). AnswersAt c.args.op.now.1.kind (state_seen (g.S.RowSource.base c.args.source.now) c.args.frame.now) r) c.in-Ok.is c.touched_effect.ensures in
    on_ok c.apply.result (stepped g.K.Outs.Adds (g.S.RowSource.base c.args.source.now) c.args.txn c.args.op.now c.args.frame.now c.apply.new.frame c.in-Ok.cell (effect_of c.in-Ok.effect) c.requires.holds at.0 at.1) c.apply.ensures
