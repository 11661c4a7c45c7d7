-- A variable gets a value.
use Rattle.std.proofs.Common.{sym, subst}
use Rattle.std.specs.Prelude.{OnOk}
use Rattle.pac_piece.specs.declared.effects.OpEffect.{OpEffect}
use Rattle.pac_piece.specs.Effects.{effect_of}
use Rattle.pac_piece.specs.Steps.{Applies}
use Rattle.pac_piece.proofs.StepLemmas.{on_ok, applies_gives}
use Rattle.pac_piece.proofs.run_op.apply.Goals as goal

pub returns-in-Gives : goal.returns-in-Gives
returns-in-Gives g c = subst (λ (e : OpEffect). OnOk c.give.result (Applies g.K.Outs.Adds c.args.cell (effect_of e) c.args.frame.now c.give.new.frame)) (sym c.in-Gives.is)
    (on_ok c.give.result (applies_gives g.K.Outs.Adds c.in-Gives.var c.in-Gives.value c.args.cell c.args.frame.now c.give.new.frame c.requires) c.give.ensures)
