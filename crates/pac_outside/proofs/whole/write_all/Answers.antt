use Rattle.std.proofs.Common.{rules}
use Rattle.std.proofs.lemmas.List.{take_rest}
use Rattle.pac_outside.proofs.ContentLemmas.{Took-take_more}
use Rattle.pac_outside.proofs.whole.write_all.Goals as goal

pub loop-at-preserved : goal.loop-at-preserved
loop-at-preserved g c = record {
  in_range = search rules;
  taken = Took-take_more _ _ _ _ _ _ c.loop-at.invariant.taken (simp take_rest at c.in_ok-at.ensures.bytes.bytes);
  later = search rules;
}
