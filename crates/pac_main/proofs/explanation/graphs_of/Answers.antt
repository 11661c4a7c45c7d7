-- The slices of one program more.
use Rattle.std.proofs.Common.{length, length-append, ◌≡◌, ◌∷◌, [], ◌+◌, ap, subst, sym, ◌∙◌, arith}
use Rattle.pac_main.specs.Explained.{AreSlicesOf}
use Rattle.pac_main.proofs.ExplainLemmas.{slices_push}
use Rattle.pac_main.proofs.explanation.graphs_of.Goals as goal

pub loop-program-preserved : goal.loop-program-preserved
loop-program-preserved c =
    let long : length c.push.new.self.items ≡ length c.loop-program.graphs.items + 1 = ap length c.in_ok-push.ensures.items ∙ length-append c.loop-program.graphs.items (c.in_ok-slices.field-0 ∷ []) in (
      omega (arith, long, c.loop-program.invariant.0),
      subst (AreSlicesOf _) (sym c.in_ok-push.ensures.items) (slices_push c.args.programs.now c.loop-program.graphs.items c.loop-program.program-index c.program-item.result c.in_ok-slices.field-0 c.loop-program-test.true c.program-item.is c.loop-program.invariant.1 c.in_ok-slices.ensures),
    )
