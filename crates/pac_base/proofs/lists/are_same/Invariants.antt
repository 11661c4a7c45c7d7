use Rattle.std.proofs.Common.{◌≡◌, take, length}
use Rattle.pac_base.proofs.lists.are_same.Given as goal

-- the items so far are equal
abbrev pub invariant-loop-i : goal.invariant-loop-i
invariant-loop-i g l = record {
  equal : length l.a ≡ length l.b;
  so_far : take l.i l.a ≡ take l.i l.b;
}
