-- One more flag is that of its piece.
use Rattle.std.proofs.Common.{arith}
use Rattle.pac_sched.proofs.OpeningLemmas.{raised_len, raised_done, raised_left}
use Rattle.pac_sched.proofs.opening.ready_set.Goals as goal

pub loop-i-preserved : goal.loop-i-preserved
loop-i-preserved c = rw c.raise_if.ensures (record {
  len = raised_len c.args.states.now c.args.waits.now c.loop-i.ready c.loop-i.i (omega arith) c.loop-i.invariant.len c.loop-i.invariant.done c.loop-i.invariant.left c.is_free.result;
  done = raised_done c.args.states.now c.args.waits.now c.loop-i.ready c.loop-i.i (omega arith) c.loop-i.invariant.len c.loop-i.invariant.done c.loop-i.invariant.left c.is_free.result _ c.is_free.ensures;
  left = raised_left c.args.states.now c.args.waits.now c.loop-i.ready c.loop-i.i (omega arith) c.loop-i.invariant.len c.loop-i.invariant.done c.loop-i.invariant.left c.is_free.result;
})
