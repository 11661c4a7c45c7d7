-- The sets so far, and those of the blocks that are left, are all.
use Rattle.std.proofs.Common.{◌≡◌, ◌++◌, ◌-◌, map}
use Rattle.std.specs.List.{range_with_len, filter}
use Rattle.pac_batch.specs.Sets.{set_of, has_txns, sets_of}
use Rattle.pac_batch.proofs.piece_set.sets.Given as goal

abbrev pub invariant-loop-block : goal.invariant-loop-block
invariant-loop-block l = l.sets.items ++ filter has_txns (map (set_of l.code l.batch.first l.batch.txns) (range_with_len l.block (l.block-end - l.block))) ≡ sets_of l.code l.batch.first l.batch.txns
