-- Each step reads one entry.
use Rattle.std.proofs.Common.{arith}
use Rattle.std.proofs.lemmas.Result.{err_from_is_err_and}
use Rattle.pac_bytes.specs.Reading.{from}
use Rattle.pac_bytes.proofs.Loops.{times-on, times-fails, times-done}
use Rattle.pac_entry.specs.EntryReading.{next_entry}
use Rattle.pac_log.proofs.link.entries_at.Goals as goal

pub returns-in_err-txn-clause-exact : goal.returns-in_err-txn-clause-exact
returns-in_err-txn-clause-exact c =
    let p = err_from_is_err_and c.from_residual-in_err-txn.result c.from_residual-in_err-txn.ensures.1 in
    rw (p.1, p.2) (times-fails (next_entry c.args.cat.now) c.in_err-txn.field-0.0 c.loop.txns.items c.args.count c.loop.counter (from c.args.bytes.now c.loop.place) _ c.loop-test.true c.in_err-txn.ensures.exact c.loop.invariant.so_far)

pub loop-preserved : goal.loop-preserved
loop-preserved c = record {
  count = omega (arith, c.loop.invariant.count, c.in_ok-push.ensures.len);
  so_far = rw c.in_ok-push.ensures.items (times-on (next_entry c.args.cat.now) c.loop.txns.items c.args.count c.loop.counter (from c.args.bytes.now c.loop.place) (from c.args.bytes.now c.in_ok-txn.end) c.in_ok-txn.txn _ c.loop-test.true c.in_ok-txn.ensures.exact c.loop.invariant.so_far);
}

pub returns-clause-exact : goal.returns-clause-exact
returns-clause-exact c = times-done (next_entry c.args.cat.now) c.loop.txns.items c.args.count c.loop.counter (from c.args.bytes.now c.loop.place) _ c.loop-test.false c.loop.invariant.so_far
