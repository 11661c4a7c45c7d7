-- What a read from memory gave was the prefix of what was left.
use Rattle.std.proofs.Common.{ap, sym}
use Rattle.pac_outside.proofs.ContentLemmas.{left_after, none_left}
use Rattle.pac_outside.specs.Memory.{SourceState}
use Rattle.pac_outside.proofs.memory.MemSourceSource.read.Goals as goal

pub returns-clause-bytes : goal.returns-clause-bytes
returns-clause-bytes c = record {
  bytes = left_after _ _ _ _ _ _ (ap (λ (state : SourceState). state.left) c.self.view_is) c.deref.ensures.value c.copy_prefix-count.ensures.copied;
  end = λ zero some. none_left _ _ _ _ _ c.deref.ensures.value c.copy_prefix-count.ensures.count zero (rw (sym c.copy_prefix-count.auto.buf) some);
}
