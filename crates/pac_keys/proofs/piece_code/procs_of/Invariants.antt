-- The pieces of the procedures so far.
use Rattle.std.proofs.Common.{◌≡◌, length}
use Rattle.pac_keys.specs.PlanCodes.{AreProcsOf}
use Rattle.pac_keys.proofs.piece_code.procs_of.Given as goal

abbrev pub invariant-loop-proc : goal.invariant-loop-proc
invariant-loop-proc l = record { size : length l.procs.items ≡ l.proc; each : AreProcsOf l.plan l.procs.items }
