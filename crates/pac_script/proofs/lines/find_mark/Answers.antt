-- The search goes from line to line.
use Rattle.std.proofs.Common.{sym, arith}
use Rattle.std.proofs.lemmas.List.{take_rest}
use Rattle.pac_script.proofs.MarkSearch.{none_left, next_unmarked, next_begins}
use Rattle.pac_script.proofs.lines.find_mark.Goals as goal

pub returns-in-None-clause-mark : goal.returns-in-None-clause-mark
returns-in-None-clause-mark c =
    none_left c.args.text.now c.loop-rest.at (sym (simp take_rest at c.if-begins_with_mark.ensures), c.loop-rest.invariant.before) (simp take_rest at c.in-None.ensures.offset)

pub loop-rest-preserved : goal.loop-rest-preserved
loop-rest-preserved c =
    let none = sym (simp take_rest at c.if-begins_with_mark.ensures) in
    let some = simp take_rest at c.in-Some.ensures.offset in
    record {
      within = omega (arith, c.in-Some.ensures.within, c.loop-rest.invariant.within);
      line = next_begins c.args.text.now c.loop-rest.at c.in-Some.len some;
      before = next_unmarked c.args.text.now c.loop-rest.at c.in-Some.len (none, c.loop-rest.invariant.before) some;
    }
