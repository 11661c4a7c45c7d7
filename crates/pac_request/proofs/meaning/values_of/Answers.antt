use Rattle.std.proofs.Common.{◌∙◌, sym}
use Rattle.pac_request.proofs.MeaningLemmas.{values_on, values_fail}
use Rattle.pac_request.proofs.meaning.values_of.Goals as goal

pub returns-in-Err : goal.returns-in-Err
returns-in-Err c = values_fail c.loop-ty.values.items _ _ _ _ _ _ _ _ c.in-Some.ensures.pair.0 c.in-Some.ensures.pair.1 (sym c.in-Err.is ∙ c.value_of.ensures) c.loop-ty.invariant

pub loop-ty-preserved : goal.loop-ty-preserved
loop-ty-preserved c = values_on c.loop-ty.values.items _ _ _ _ _ _ _ _ _ c.in-Some.ensures.pair.0 c.in-Some.ensures.pair.1 c.in_ok-push-in-Ok.ensures.items (sym c.in-Ok.is ∙ c.value_of.ensures) c.loop-ty.invariant
