-- The divisor is neither 0 nor -1.
use Rattle.std.proofs.Common.{int_rem, SFits, w64, sym, ap, ◌∙◌}
use Rattle.std.proofs.lemmas.Int.{to_z-of_z}
use Rattle.pac_value.specs.Expressions.{checked, remainder}
use Rattle.pac_value.proofs.RemainderLemmas.{remainder-int_rem, checked-fits, rem-fits, divided-nonzero}
use Rattle.pac_value.proofs.evaluation.remainder.Goals as goal

pub returns : goal.returns
returns c =
    let left = c.ranges.left in
    let right = c.ranges.right in
    let fits : SFits w64 (int_rem c.args.left c.args.right) = rem-fits c.args.left c.args.right c.ranges.left in
    simp to_z-of_z (sym
    (divided-nonzero c.args.right (remainder c.args.left c.args.right) c.if-right-eq0.false
    ∙ ap checked (remainder-int_rem c.args.left c.args.right)
    ∙ checked-fits (int_rem c.args.left c.args.right) fits))
