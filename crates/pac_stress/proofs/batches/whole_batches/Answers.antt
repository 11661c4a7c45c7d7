-- One batch more.
use Rattle.std.proofs.Common.{◌+◌, ◌*◌, ℕ, [], ◌∷◌, ◌++◌, ap, sym, ◌∙◌}
use Rattle.pac_stress.specs.StressBatches.{stress_batch}
use Rattle.pac_stress.proofs.BatchRuns.{batches_more}
use Rattle.pac_stress.proofs.batches.whole_batches.Goals as goal

pub loop-k-preserved : goal.loop-k-preserved
loop-k-preserved c =
    let made = c.in_ok-stress_batch.ensures ∙ ap (λ (n : ℕ). stress_batch (n * 64 + 1) 64) c.from.ensures in
    c.in_ok-push.ensures.items ∙ (λ j. c.loop-k.invariant j ++ made j ∷ []) ∙ sym (batches_more c.loop-k.k)
