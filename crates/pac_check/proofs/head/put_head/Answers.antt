-- The parts stand one after another.
use Rattle.std.proofs.lemmas.Result.{on_ok_weaker}
use Rattle.pac_check.proofs.CheckpointLemmas.{head_grew}
use Rattle.pac_check.proofs.head.put_head.Goals as goal

pub returns-clause-bytes : goal.returns-clause-bytes
returns-clause-bytes c = on_ok_weaker c.put_u16.result (λ last. head_grew _ _ _ _ _ _ _ _ _ _ _ c.in_ok-put_name.ensures c.in_ok-put_u64.ensures c.in_ok-put_u64-2.ensures c.in_ok-put_segment.ensures last) c.put_u16.ensures
