-- As many programs, and those so far are the same.
use Rattle.std.proofs.Common.{◌≡◌, length, take}
use Rattle.pac_core.proofs.job.are_same_programs.Given as goal

abbrev pub invariant-loop-proc : goal.invariant-loop-proc
invariant-loop-proc l = record {
  equal : length l.plan.programs ≡ length l.other.programs;
  so_far : take l.proc l.plan.programs ≡ take l.proc l.other.programs;
}
