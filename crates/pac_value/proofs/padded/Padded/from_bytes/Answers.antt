-- A copy of the bytes into zeros is padded.
use Rattle.std.proofs.Common.{arith, refl}
use Rattle.pac_value.specs.PaddedLemmas.{copied-is_padded}
use Rattle.pac_value.proofs.padded.Padded.from_bytes.Goals as goal

pub invariant_of-result : goal.invariant_of-result
invariant_of-result g c = copied-is_padded g.row.N _ _ _ (omega arith) c.copy_from_slice.ensures.after refl
