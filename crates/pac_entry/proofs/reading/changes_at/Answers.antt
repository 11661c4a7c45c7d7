-- Each step reads one record.
use Rattle.std.proofs.Common.{arith}
use Rattle.std.proofs.lemmas.Result.{err_from_is_err_and}
use Rattle.pac_bytes.specs.Reading.{from}
use Rattle.pac_bytes.proofs.Loops.{times-on, times-fails, times-done}
use Rattle.pac_entry.specs.EntryReading.{next_change}
use Rattle.pac_entry.proofs.reading.changes_at.Goals as goal

pub returns-in_err-change-clause-exact : goal.returns-in_err-change-clause-exact
returns-in_err-change-clause-exact c =
    let p = err_from_is_err_and c.from_residual-in_err-change.result c.from_residual-in_err-change.ensures.1 in
    rw (p.1, p.2) (times-fails (next_change c.args.tables.now) c.in_err-change.field-0.0 c.loop.changes.items c.args.count c.loop.counter (from c.args.bytes.now c.loop.offset) _ c.loop-test.true c.in_err-change.ensures c.loop.invariant.so_far)

pub loop-preserved : goal.loop-preserved
loop-preserved c = record {
  count = omega (arith, c.loop.invariant.count, c.in_ok-push.ensures.len);
  so_far = rw c.in_ok-push.ensures.items (times-on (next_change c.args.tables.now) c.loop.changes.items c.args.count c.loop.counter (from c.args.bytes.now c.loop.offset) (from c.args.bytes.now c.in_ok-change.end) c.in_ok-change.change _ c.loop-test.true c.in_ok-change.ensures c.loop.invariant.so_far);
}

pub returns-clause-exact : goal.returns-clause-exact
returns-clause-exact c = times-done (next_change c.args.tables.now) c.loop.changes.items c.args.count c.loop.counter (from c.args.bytes.now c.loop.offset) _ c.loop-test.false c.loop.invariant.so_far
