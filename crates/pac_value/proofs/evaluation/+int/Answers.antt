-- An int decides nothing, and only arithmetic gives an int.
use Rattle.std.proofs.Common.{ap, sym, ◌∙◌}
use Rattle.pac_value.specs.Expressions.{value}
use Rattle.pac_value.proofs.ArithmeticLemmas.{second_stops}
use Rattle.pac_value.proofs.evaluation.+int.Goals as goal

pub calculation-returns-in-Err : goal.calculation-returns-in-Err
calculation-returns-in-Err t c =
    sym (ap (λ e. value e c.args.env.now) c.in-Bin.is
    ∙ second_stops c.in-Bin.op c.in-Bin.left c.in-Bin.right c.args.env.now c.in_ok-first-in-Bin.first c.in-Err.trap
    (c.in_ok-first-in-Bin.ensures ∙ ap (λ e. value e c.args.env.now) c.get.ensures) (c.in-Err.ensures ∙ ap (λ e. value e c.args.env.now) c.get-in-Bin.ensures))
