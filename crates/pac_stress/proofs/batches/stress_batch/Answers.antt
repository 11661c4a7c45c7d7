-- One transaction more.
use Rattle.std.proofs.Common.{◌≡◌, ◌+◌, ℕ, [], ◌∷◌, ◌++◌, length, ap, sym, ◌∙◌, arith}
use Rattle.pac_script.specs.Stress.{stress_txn}
use Rattle.pac_stress.proofs.BatchRuns.{txns-long, txns_more}
use Rattle.pac_stress.proofs.batches.stress_batch.Goals as goal

pub loop-i-preserved : goal.loop-i-preserved
loop-i-preserved c =
    let made = c.in_ok-stress_txn.ensures ∙ ap (λ (n : ℕ). stress_txn (c.args.first + n)) c.from.ensures in
    c.in_ok-push.ensures.items ∙ (λ j. c.loop-i.invariant j ++ made j ∷ []) ∙ sym (txns_more c.args.first c.loop-i.i)

pub of-requires : goal.of-requires
of-requires c =
    let all : length c.loop-i.txns.items ≡ c.loop-i.i = ap length c.loop-i.invariant ∙ txns-long c.args.first c.loop-i.i in
    (omega (arith, all, c.loop-i-test.false, c.requires.some), omega (arith, all, c.loop-i.auto.i-end, c.requires.few))
