-- The values that were given to the variables so far stand, and there is room for the rest.
use Rattle.std.proofs.Common.{◌+◌, ◌≤◌, take, length, T, vec_len, vec_capacity}
use Rattle.std.specs.Ordering.{nat_cmp}
use Rattle.std.specs.FinMap.{from_sorted, is_sorted}
use Rattle.pac_core.specs.Values.{GivesTo}
use Rattle.pac_core.proofs.kept_values.put_all.Given as goal

abbrev pub invariant-loop-var : goal.invariant-loop-var
invariant-loop-var l = record {
  sorted : T (is_sorted nat_cmp l.values.items);
  gives : GivesTo (take l.var-index l.vars) l.given (from_sorted {R = nat_cmp} l.fn.values.items) (from_sorted l.values.items);
  room : vec_len l.values + length l.vars ≤ vec_capacity l.values + l.var-index;
}
