-- What is written, and what is left.
use Rattle.std.proofs.Common.{◌≡◌, ◌++◌, drop, flat_map}
use Rattle.pac_print.specs.Canonical.{further_text, exprs_text}
use Rattle.pac_print.proofs.expression.push_exprs.Given as goal

abbrev pub invariant-loop-expr : goal.invariant-loop-expr
invariant-loop-expr l = l.out.items ++ flat_map further_text (drop l.expr-index l.others) ≡ l.fn.out.items ++ exprs_text l.fn.exprs
