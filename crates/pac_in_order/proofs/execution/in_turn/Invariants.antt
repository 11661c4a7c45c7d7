-- What was moved stands after the rest.
use Rattle.std.proofs.Common.{◌≡◌, ◌++◌, length}
use Rattle.pac_in_order.proofs.execution.in_turn.Given as goal

abbrev pub invariant-loop-batch : goal.invariant-loop-batch
invariant-loop-batch l = l.batches ++ l.rest.items ≡ l.fn.batches

abbrev pub decreases-loop-batch : goal.decreases-loop-batch
decreases-loop-batch l = length l.batches
