use Rattle.std.proofs.Common.{◌≡◌, take}
use Rattle.pac_base.proofs.lists.copy_of.Given as goal

-- the copy has the items so far
abbrev pub invariant-loop-item : goal.invariant-loop-item
invariant-loop-item g l = l.copy.items ≡ take l.item-index l.items
