-- One node more gets the class; no node stands on the stack twice.
use Rattle.std.proofs.Common.{◌≡◌, ◌+◌, ◌<◌, length, arith, get_or, set, ap, subst, sym, ◌∙◌}
use Rattle.std.proofs.lemmas.List.{length-set}
use Rattle.std.proofs.lemmas.Grind.{get_or_default_zero}
use Rattle.pac_graph.specs.declared.search.Mark.TheVariants.{Open, Done}
use Rattle.pac_graph.specs.Search.{mark_of, changes_of, changes_left, GaveClass}
use Rattle.pac_graph.proofs.MarkLemmas.{mark_kept, changes_set, same_offset}
use Rattle.pac_graph.proofs.EndLemmas.{close_one}
use Rattle.pac_graph.proofs.search.Search.close.Goals as goal

pub loop-offset-preserved : goal.loop-offset-preserved
loop-offset-preserved c =
    let l = c.loop-offset in
    let at = l.offset in
    let stack = l.self.stack.items in
    let marks = l.self.marks.items in
    let node = c.index-node.result.now in
    let class = Done l.self.count in
    let in_stack : at < length stack = omega (arith, c.loop-offset-test.true, c.len-offset-end.ensures, c.args.self.now.stack.ok, ap length l.invariant.same) in
    let is : node ≡ get_or stack at 0 = c.index-node.ensures ∙ get_or_default_zero stack at node in_stack in
    let opened : mark_of marks node ≡ Open at = subst (λ x. mark_of marks x ≡ Open at) (sym is) (l.invariant.opened at (omega arith) in_stack) in
    let within : get_or c.args.self.now.stack.items at 0 < length c.args.self.now.marks.items = omega (arith, c.requires.within at (omega (arith, in_stack, ap length l.invariant.same)), c.args.self.now.marks.ok) in
    let in_marks : node < length marks = omega (arith, within, is, ap (λ xs. get_or xs at 0) l.invariant.same, l.invariant.size) in
    let lighter : changes_left (set marks node class) + changes_of (mark_of marks node) ≡ changes_left marks + 0 = changes_set marks node class in_marks in
    let one : changes_of (mark_of marks node) ≡ 1 = ap changes_of opened in
    record {
      range = (omega (arith, l.invariant.range.0), omega (arith, in_stack));
      size = length-set marks node class ∙ l.invariant.size;
      marks = subst (λ x. GaveClass c.args.self.now.marks.items (set marks x class) stack c.args.from (at + 1) l.self.count) (sym is) (close_one c.args.self.now.marks.items marks stack c.args.from at l.self.count l.invariant.marks l.invariant.range.0 (subst (λ x. x < length marks) is in_marks));
      opened = λ p ge lt. mark_kept marks node (get_or stack p 0) class (λ e. (let same : at ≡ p = same_offset at p (sym opened ∙ (ap (mark_of marks) (sym e) ∙ l.invariant.opened p (omega arith) lt)) in omega (arith, same, ge))) ∙ l.invariant.opened p (omega arith) lt;
      changes = omega (arith, l.invariant.changes, lighter, one);
      same = l.invariant.same;
      count = l.invariant.count;
    }
