-- An empty text more.
use Rattle.std.proofs.Common.{◌+◌, subst, sym, List, Vec, ℕ, Global}
use Rattle.pac_report.specs.GroupTexts.{Hold, no_text}
use Rattle.pac_report.proofs.GroupLemmas.{hold_more}
use Rattle.pac_report.proofs.groups.empty_texts.Goals as goal

pub loop-preserved : goal.loop-preserved
loop-preserved c =
    subst (λ (vs : List (Vec ℕ Global)). Hold vs no_text (c.loop.counter + 1)) (sym c.in_ok-push.ensures.items)
    (hold_more c.loop.texts.items c.loop.counter c.new.result c.loop.invariant c.new.ensures.items)
