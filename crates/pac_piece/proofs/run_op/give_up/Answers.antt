-- A note, and the default of the variable.
use Rattle.std.proofs.Common.{refl, sym, ap, ◌∙◌}
use Rattle.pac_ops.specs.Flat.{default_of}
use Rattle.pac_piece.proofs.StepLemmas.{on_ok, gives_up}
use Rattle.pac_piece.proofs.run_op.give_up.Goals as goal

pub returns-in-Some : goal.returns-in-Some
returns-in-Some g c = on_ok c.give.result
    (gives_up g.K.Outs.Adds c.args.txn c.args.op.now c.args.reason c.args.frame.now _ c.give.new.frame c.in-Some.var c.default_of.result refl refl refl c.lesser-frame.ensures
    (sym c.defined.ensures ∙ c.in-Some.is) (c.default_of.ensures ∙ ap default_of c.trapped_type.ensures)) c.give.ensures
