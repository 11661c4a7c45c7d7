-- The operations of the programs so far are counted.
use Rattle.std.proofs.Common.{◌≡◌}
use Rattle.pac_global.specs.Drawing.{first_of}
use Rattle.pac_global.proofs.draw.op_count.Given as goal

abbrev pub invariant-loop-program : goal.invariant-loop-program
invariant-loop-program l = l.count ≡ first_of l.programs l.program-index
