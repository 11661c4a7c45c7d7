-- The operations so far, and those of the block that are left, are all.
use Rattle.std.proofs.Common.{◌≡◌, ◌++◌, drop}
use Rattle.pac_ops.specs.Effects.{numbered_from}
use Rattle.pac_plan.specs.Nodes.{Operation}
use Rattle.pac_plan.specs.Analysis.{block_in}
use Rattle.pac_plan.specs.Pieces.{part}
use Rattle.pac_keys.proofs.piece_code.ops_in.Given as goal

abbrev pub invariant-loop-at : goal.invariant-loop-at
invariant-loop-at l = l.found.items ++ part (λ o. block_in l.plan (Operation l.proc o.0)) l.block (numbered_from l.at (drop l.at l.ops))
    ≡ part (λ o. block_in l.plan (Operation l.proc o.0)) l.block (numbered_from 0 l.ops)
