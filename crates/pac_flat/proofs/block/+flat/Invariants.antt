-- What is there, and what is left.
use Rattle.std.proofs.Common.{◌≡◌, ◌≤◌, ◌+◌, ◌*◌, ◌++◌, drop, map}
use Rattle.pac_types.specs.Meaning.{operations}
use Rattle.pac_types.specs.Unrolled.{End, turns, turn_numbers, unrolling, all_after, in_steps, after_turns, in_turns}
use Rattle.pac_flat.specs.FlatForm.{flat}
use Rattle.pac_flat.specs.Names.{point_of}
use Rattle.pac_flat.proofs.block.+flat.Given as goal

abbrev pub invariant-push_block-loop-stmt : goal.invariant-push_block-loop-stmt
invariant-push_block-loop-stmt l = record {
  next : l.point.next + operations (drop l.stmt-index l.stmts) ≤ l.initial.point.next + operations l.stmts;
  point : all_after (map unrolling (drop l.stmt-index l.stmts)) (point_of l.point) ≡ all_after (map unrolling l.stmts) (point_of l.initial.point);
  ops : l.ops.items ++ flat (in_steps (map unrolling (drop l.stmt-index l.stmts)) (point_of l.point) End) l.conds ≡ l.initial.ops.items ++ flat (in_steps (map unrolling l.stmts) (point_of l.initial.point) End) l.conds;
}

abbrev pub invariant-push_turns-loop-number : goal.invariant-push_turns-loop-number
invariant-push_turns-loop-number l = record {
  next : l.point.next + turns l.number l.to * operations l.body ≤ l.initial.point.next + turns l.from l.to * operations l.body;
  point : after_turns l.var (map unrolling l.body) (turn_numbers l.number l.to) (point_of l.point) ≡ after_turns l.var (map unrolling l.body) (turn_numbers l.from l.to) (point_of l.initial.point);
  ops : l.ops.items ++ flat (in_turns l.var (map unrolling l.body) (turn_numbers l.number l.to) (point_of l.point) End) l.conds ≡ l.initial.ops.items ++ flat (in_turns l.var (map unrolling l.body) (turn_numbers l.from l.to) (point_of l.initial.point) End) l.conds;
}
