use Rattle.std.proofs.Common.{◌≡◌, ◌-◌, ◌++◌, take, drop, length, replicate, None}
use Rattle.pac_types.proofs.checker.scope.Scope.leave.Given as goal

-- the names from the index up to here are not visible
abbrev pub invariant-loop-i : goal.invariant-loop-i
invariant-loop-i l = record {
  names : l.self-inside.names ≡ l.fn.self.names;
  next : l.self-inside.next ≡ l.fn.self.next;
  known : l.self-inside.known.items ≡ take l.index l.fn.self.known ++ (replicate (l.i - l.index) None ++ drop l.i l.fn.self.known);
  end : l.i-end ≡ length l.fn.self.known;
}
