use Rattle.std.proofs.Common.{length, ap, arith}
use Rattle.std.proofs.lemmas.Result.{err_from_is_err_and}
use Rattle.pac_request.proofs.MeaningLemmas.{changes_on, changes_fail, changes_done}
use Rattle.pac_request.proofs.meaning.changes_of.Goals as goal

pub returns-in_err-change-clause-exact : goal.returns-in_err-change-clause-exact
returns-in_err-change-clause-exact c =
    let p = err_from_is_err_and c.from_residual-in_err-change.result c.from_residual-in_err-change.ensures.1 in
    rw (p.1, p.2) (changes_fail _ c.loop-first.changes.items _ _ _ _ _ c.in-Some.ensures c.in_err-change.ensures c.loop-first.invariant.prefix)

pub loop-first-preserved : goal.loop-first-preserved
loop-first-preserved c = record {
  prefix = changes_on _ c.loop-first.changes.items _ _ _ _ _ _ c.in-Some.ensures c.in_ok-push.ensures.items c.in_ok-change.ensures c.loop-first.invariant.prefix;
  count = omega (arith, c.loop-first.invariant.count, c.in_ok-push.ensures.len, ap length c.in-Some.ensures);
}

pub returns-clause-exact : goal.returns-clause-exact
returns-clause-exact c = changes_done _ c.loop-first.changes.items _ _ c.in_default.ensures c.loop-first.invariant.prefix
