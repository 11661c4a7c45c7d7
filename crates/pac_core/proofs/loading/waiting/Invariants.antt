-- Of each set so far the pieces wait.
use Rattle.std.proofs.Common.{take}
use Rattle.std.specs.List.{AllZip}
use Rattle.pac_core.specs.Moves.{IsWaitingSet}
use Rattle.pac_core.proofs.loading.waiting.Given as goal

abbrev pub invariant-loop-set : goal.invariant-loop-set
invariant-loop-set l = AllZip (IsWaitingSet l.batch) (take l.set-index l.sets) l.more.items
