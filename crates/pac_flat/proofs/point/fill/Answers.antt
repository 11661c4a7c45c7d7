-- What is added stands for itself.
use Rattle.std.proofs.Common.{◌≡◌, ◌++◌, ◌∷◌, [], ap, rules, ◌∙◌, length}
use Rattle.pac_value.specs.declared.expr.Expr.{Var}
use Rattle.pac_flat.specs.Names.{standing}
use Rattle.pac_flat.proofs.StandingLemmas.{standing_itself}
use Rattle.pac_flat.proofs.point.fill.Goals as goal

pub loop-names-preserved : goal.loop-names-preserved
loop-names-preserved c =
    let es = c.loop-names.names.items in
    let long : c.len-own.result ≡ length es = search rules in
    ap standing (c.in_ok-push.ensures.items ∙ ap (λ n. es ++ Var n ∷ []) long) ∙ standing_itself es ∙ c.loop-names.invariant
