-- One statement more, and one turn more.
use Rattle.std.proofs.Common.{◌≡◌, ◌+◌, true, false, pos, ◌+ℤ◌, ◌<ℤ◌, ◌*◌, ◌∷◌, ◌++◌, List, map, drop, FitsSigned, w64, to_z, of_z, sym, ap, ◌∙◌, arith, rules}
use Rattle.std.proofs.lemmas.Int.{ints, to_z-of_z}
use Rattle.std.proofs.lemmas.List.{drop_more}
use Rattle.pac_types.specs.declared.statement.Stmt.{Stmt}
use Rattle.pac_types.specs.Meaning.{operations}
use Rattle.pac_types.specs.Unrolled.{Point, with_turn, End, unrolling, all_after, in_steps, turn_numbers, in_turns, after_turns, turns}
use Rattle.pac_ops.specs.declared.program.OpKind.TheVariants.{Cond}
use Rattle.pac_flat.specs.FlatForm.{flat, inside}
use Rattle.pac_flat.specs.Names.{point_of}
use Rattle.pac_flat.proofs.RestLemmas.{stmt-point, stmt-ops, turn-point, turn-ops, turn-fits, conditional-ops, on-ok}
use Rattle.pac_flat.proofs.block.+flat.Goals as goal

pub push_block-loop-stmt-preserved : goal.push_block-loop-stmt-preserved
push_block-loop-stmt-preserved t c =
    let i = c.loop-stmt.stmt-index in
    let stmts = c.args.stmts.now in
    let s = c.stmt-item.result in
    let rest : drop i stmts ≡ s ∷ drop (i + 1) stmts = drop_more stmts i s c.loop-stmt-test.true ∙ ap (λ z. z ∷ drop (i + 1) stmts) (sym c.stmt-item.is) in
    let p = point_of c.loop-stmt.point in
    let q = point_of c.push_stmt.new.point in
    let e = c.in_ok-push_stmt.ensures in
    let inv = c.loop-stmt.invariant in
    record {
      next = omega (arith, ap operations rest, c.in_ok-push_stmt.ensures.next, inv.next);
      point = stmt-point s (drop (i + 1) stmts) c.args.conds.now p q c.loop-stmt.ops.items c.push_stmt.new.ops.items e.point e.ops ∙ ap (λ ss. all_after (map unrolling ss) p) (sym rest) ∙ inv.point;
      ops = stmt-ops s (drop (i + 1) stmts) c.args.conds.now p q c.loop-stmt.ops.items c.push_stmt.new.ops.items e.point e.ops ∙ ap (λ ss. c.loop-stmt.ops.items ++ flat (in_steps (map unrolling ss) p End) c.args.conds.now) (sym rest) ∙ inv.ops;
    }

pub push_stmt-returns-in_ok-within-in-If-2-clause-ops : goal.push_stmt-returns-in_ok-within-in-If-2-clause-ops
push_stmt-returns-in_ok-within-in-If-2-clause-ops t c =
    let e = c.in-If in
    let p = point_of c.args.point.now in
    let a = point_of c.name_next.new.self in
    let b = point_of c.push_block-in-If.new.point in
    on-ok c.push_block-in-If-3.result _ _ (λ last. conditional-ops c.args.stmt.now e.var e.test e.first e.second e.is p c.args.conds.now c.in_ok-within-in-If.field-0 c.in_ok-within-in-If-2.field-0 (Cond c.in_ok-var-in-If.var c.in_ok-test-in-If.test) a b
    c.args.ops.now.items c.push.new.ops.items c.push_block-in-If.new.ops.items c.push_block-in-If-3.new.ops.items
    (λ i. Cond (c.in_ok-var-in-If.ensures.value i) (c.in_ok-test-in-If.ensures i)) c.in_ok-push-in-If.ensures c.in_ok-var-in-If.ensures.point
    (c.in_ok-within-in-If.ensures ∙ ap (λ n. inside c.args.conds.now n true) c.in_ok-var-in-If.ensures.value)
    (c.in_ok-push_block-in-If.ensures.ops ∙ ap (λ (ss : List Stmt). c.push.new.ops.items ++ flat (in_steps (map unrolling ss) a End) c.in_ok-within-in-If.field-0) c.as_slice.ensures)
    (c.in_ok-push_block-in-If.ensures.point ∙ ap (λ (ss : List Stmt). all_after (map unrolling ss) a) c.as_slice.ensures)
    (c.in_ok-within-in-If-2.ensures ∙ ap (λ n. inside c.args.conds.now n false) c.in_ok-var-in-If.ensures.value)
    (last ∙ ap (λ (ss : List Stmt). c.push_block-in-If.new.ops.items ++ flat (in_steps (map unrolling ss) b End) c.in_ok-within-in-If-2.field-0) c.as_slice-in-If.ensures)) c.push_block-in-If-3.ensures.ops

pub push_turns-push_block-requires : goal.push_turns-push_block-requires
push_turns-push_block-requires t c =
    let n = to_z w64 c.loop-number.number-bits in
    let to = to_z w64 (of_z w64 c.args.to) in
    let below : n <ℤ to = grind (arith, ints, c.loop-number-test.true) in
    let fits = turn-fits n to (operations c.args.body.now) below in
    let fits_from : FitsSigned w64 c.args.from = search rules in
    let fits_to : FitsSigned w64 c.args.to = search rules in
    let same : turns (to_z w64 (of_z w64 c.args.from)) to * operations c.args.body.now ≡ turns c.args.from c.args.to * operations c.args.body.now
    = λ i. turns (to_z-of_z w64 c.args.from fits_from i) (to_z-of_z w64 c.args.to fits_to i) * operations c.args.body.now in
    (search rules, omega (arith, fits, same, c.loop-number.invariant.next, c.requires.room, ap (λ (z : Point). z.next) c.in_ok-name_turn.ensures))

pub push_turns-loop-number-preserved : goal.push_turns-loop-number-preserved
push_turns-loop-number-preserved t c =
    let n = to_z w64 c.loop-number.number-bits in
    let to = to_z w64 (of_z w64 c.args.to) in
    let from = to_z w64 (of_z w64 c.args.from) in
    let body = c.args.body.now in
    let below : n <ℤ to = grind (arith, ints, c.loop-number-test.true) in
    let fits : FitsSigned w64 (n +ℤ pos 1) = search rules in
    let more : to_z w64 (of_z w64 (n +ℤ pos 1)) ≡ n +ℤ pos 1 = to_z-of_z w64 (n +ℤ pos 1) fits in
    let p = point_of c.loop-number.point in
    let q = point_of c.push_block.new.point in
    let e = c.in_ok-push_block.ensures in
    let inv = c.loop-number.invariant in
    let after : q ≡ all_after (map unrolling body) (with_turn c.args.var n p) = e.point ∙ ap (all_after (map unrolling body)) c.in_ok-name_turn.ensures in
    let pushed : c.push_block.new.ops.items ≡ c.loop-number.ops.items ++ flat (in_steps (map unrolling body) (with_turn c.args.var n p) End) c.args.conds.now = e.ops ∙ ap (λ (z : Point). c.loop-number.ops.items ++ flat (in_steps (map unrolling body) z End) c.args.conds.now) c.in_ok-name_turn.ensures in
    let us = map unrolling body in
    record {
      next = omega (arith, ap (λ z. turns z to * operations body) more, turn-fits n to (operations body) below, inv.next, e.next, ap (λ (z : Point). z.next) c.in_ok-name_turn.ensures);
      point = ap (λ z. after_turns c.args.var us (turn_numbers z to) q) more
          ∙ turn-point c.args.var body c.args.conds.now n to below p q c.loop-number.ops.items c.push_block.new.ops.items after pushed ∙ inv.point;
      ops = ap (λ z. c.push_block.new.ops.items ++ flat (in_turns c.args.var us (turn_numbers z to) q End) c.args.conds.now) more
          ∙ turn-ops c.args.var body c.args.conds.now n to below p q c.loop-number.ops.items c.push_block.new.ops.items after pushed ∙ inv.ops;
    }
