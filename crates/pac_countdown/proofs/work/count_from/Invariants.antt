-- The pairs of the piece with the later ones, as far as the loop has come, are counted.
use Rattle.std.specs.Prelude.{take}
use Rattle.pac_countdown.specs.HandOut.{CountsFrom}
use Rattle.pac_countdown.proofs.work.count_from.Given as goal

abbrev pub invariant-loop-to : goal.invariant-loop-to
invariant-loop-to l = CountsFrom l.countdown l.fn.worker l.worker (take l.to-index l.laters) l.from
