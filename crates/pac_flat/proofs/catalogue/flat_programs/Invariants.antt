-- The programs so far.
use Rattle.std.proofs.Common.{◌≡◌, map, take}
use Rattle.pac_flat.specs.FlatForm.{program_of}
use Rattle.pac_flat.proofs.catalogue.flat_programs.Given as goal

abbrev pub invariant-loop-proc : goal.invariant-loop-proc
invariant-loop-proc l = l.programs.items ≡ map program_of (take l.proc-index l.procs)
