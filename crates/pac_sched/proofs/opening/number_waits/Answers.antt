-- One more pair is counted, where it holds its later piece up.
use Rattle.std.proofs.Common.{not, ◌+◌, ◌≤◌, ◌∙◌, arith}
use Rattle.std.proofs.lemmas.List.{length-set}
use Rattle.pac_sched.proofs.OpeningLemmas.{counted_few, counted_more}
use Rattle.pac_sched.proofs.opening.number_waits.Goals as goal

pub overflow_add-index_mut : goal.overflow_add-index_mut
overflow_add-index_mut c = let few : c.index_mut.result.now + c.one_unless.result ≤ c.loop-k.k + 1 = counted_few c.args.states.now c.args.pairs.now c.loop-k.waits.items c.loop-k.k (omega arith) c.requires c.loop-k.invariant.len c.loop-k.invariant.value
    c.index_mut.result.now c.one_unless.result (not c.is_finished.result) c.index_mut.ensures.value c.one_unless.ensures in omega arith

pub loop-k-preserved : goal.loop-k-preserved
loop-k-preserved c = record {
  len = length-set c.loop-k.waits.items _ _ ∙ c.loop-k.invariant.len;
  value = counted_more c.args.states.now c.args.pairs.now c.loop-k.waits.items c.loop-k.k (omega arith) c.requires c.loop-k.invariant.len c.loop-k.invariant.value
      c.index_mut.result.now c.one_unless.result _ c.index_mut.ensures.value (rw c.is_finished.ensures at c.one_unless.ensures);
}
