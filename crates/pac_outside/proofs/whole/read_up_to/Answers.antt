-- What was taken before the memory ran out.
use Rattle.std.proofs.Common.{rules}
use Rattle.pac_outside.proofs.ContentLemmas.{GaveAtMost-read}
use Rattle.pac_outside.proofs.whole.read_up_to.Goals as goal

pub returns-in_err-extend_from_slice-clause-taken :
    goal.returns-in_err-extend_from_slice-clause-taken
returns-in_err-extend_from_slice-clause-taken g c =
    GaveAtMost-read _ _ _ _ c.read.new.buf _ _ c.loop-text.invariant.given c.in_ok-count.ensures.bytes.bytes (search rules)
