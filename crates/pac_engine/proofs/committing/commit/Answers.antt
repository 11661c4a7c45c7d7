-- Where there are no transactions nothing is added; else the log adds them.
use Rattle.std.proofs.Common.{◌<◌, length, arith}
use Rattle.std.proofs.lemmas.Grind.{common_steps}
use Rattle.pac_engine.specs.Committing.{gate_past}
use Rattle.pac_engine.proofs.CommitLemmas.{nothing_added, may_add, has_added, still_after, after_some}
use Rattle.pac_engine.proofs.Results.{on-err-all}
use Rattle.pac_engine.proofs.TornLemmas.{ends-here, torn-past}
use Rattle.pac_engine.proofs.committing.commit.Goals as goal

pub returns-then-is_empty-clause-moments : goal.returns-then-is_empty-clause-moments
returns-then-is_empty-clause-moments g c = λ text batches is. nothing_added text _ batches _ _

pub returns-in_err-stored-clause-moments : goal.returns-in_err-stored-clause-moments
returns-in_err-stored-clause-moments g c = λ text batches is. nothing_added text _ batches _ _

pub returns-in_err-commit-clause-moments : goal.returns-in_err-commit-clause-moments
returns-in_err-commit-clause-moments g c = λ text batches is.
    let some : 0 < length c.args.txns.items = grind (arith, common_steps) in
    may_add text batches c.args.txns.items some c.args.log.now.gate c.prepare.new.log.gate c.prepare.ensures.gate _ _
    (c.commit.ensures.any_moment text batches c.args.txns.items (still_after text batches c.args.txns.items some _ _ c.prepare.ensures.gate is) c.in_ok-stored.ensures.prepared)

pub returns-clause-moments : goal.returns-clause-moments
returns-clause-moments g c = λ text batches is.
    let some : 0 < length c.args.txns.items = grind (arith, common_steps) in
    may_add text batches c.args.txns.items some c.args.log.now.gate c.prepare.new.log.gate c.prepare.ensures.gate _ _
    (c.commit.ensures.any_moment text batches c.args.txns.items (still_after text batches c.args.txns.items some _ _ c.prepare.ensures.gate is) c.in_ok-stored.ensures.prepared)

pub returns-clause-added : goal.returns-clause-added
returns-clause-added g c = λ text batches is.
    let some : 0 < length c.args.txns.items = grind (arith, common_steps) in
    has_added text batches c.args.txns.items some c.args.log.now.gate c.prepare.new.log.gate c.prepare.ensures.gate _ _
    (c.in_ok-commit.ensures.committed text batches c.args.txns.items (still_after text batches c.args.txns.items some _ _ c.prepare.ensures.gate is) c.in_ok-stored.ensures.prepared)

pub returns-clause-after : goal.returns-clause-after
returns-clause-after g c = λ text batches is.
    let some : 0 < length c.args.txns.items = grind (arith, common_steps) in
    after_some text batches c.args.txns.items some c.args.log.now.gate c.prepare.new.log.gate c.prepare.ensures.gate _
    (c.in_ok-commit.ensures.after text batches c.args.txns.items (still_after text batches c.args.txns.items some _ _ c.prepare.ensures.gate is) c.in_ok-stored.ensures.prepared)

pub returns-in_err-stored-clause-torn : goal.returns-in_err-stored-clause-torn
returns-in_err-stored-clause-torn g c = on-err-all c.from_residual.result (ends-here c.args.log.now.gate (gate_past c.args.txns.items c.args.log.now.gate) (g.D.Disk.known c.args.disk.now) c.requires.ends)

pub returns-in_err-commit-clause-torn : goal.returns-in_err-commit-clause-torn
returns-in_err-commit-clause-torn g c =
    let some : 0 < length c.args.txns.items = grind (arith, common_steps) in
    on-err-all c.from_residual-in_err-commit.result
    (torn-past c.args.txns.items some c.args.log.now.gate c.prepare.new.log.gate c.prepare.ensures.gate (g.D.Disk.known c.commit.new.disk) (c.in_err-commit.ensures.torn c.args.txns.items c.in_ok-stored.ensures.prepared))

pub returns-in_err-commit-clause-called : goal.returns-in_err-commit-clause-called
returns-in_err-commit-clause-called g c = λ fault. record { some = grind (arith, common_steps); room = c.in_ok-stored.ensures.room }
