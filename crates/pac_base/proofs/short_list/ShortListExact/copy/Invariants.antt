use Rattle.std.proofs.Common.{◌≡◌, take}
use Rattle.pac_base.proofs.short_list.ShortListExact.copy.Given as goal

-- the copy has the items so far
abbrev pub invariant-loop-item : goal.invariant-loop-item
invariant-loop-item g l = l.copy ≡ take l.item-index l.item-items
