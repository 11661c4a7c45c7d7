-- The values so far, and those of the expressions that are left, are all.
use Rattle.std.proofs.Common.{◌≡◌, ◌++◌, Ok, drop, length, IsTrue}
use Rattle.std.specs.List.{AllByRecursion, list_all}
use Rattle.pac_value.specs.Values.{is_stored}
use Rattle.pac_value.specs.Expressions.{◌>>=◌}
use Rattle.pac_ops.specs.Operations.{values}
use Rattle.pac_plan.specs.Codes.{IsStoredTyped}
use Rattle.pac_piece.proofs.effects.row_of.Given as goal

abbrev pub invariant-loop-expr : goal.invariant-loop-expr
invariant-loop-expr l = record {
  typed : AllByRecursion (IsStoredTyped l.env) (drop l.expr-index l.exprs);
  size : length l.row.items ≡ l.expr-index;
  stored : IsTrue (list_all is_stored l.row.items);
  all : (values (drop l.expr-index l.exprs) l.env >>= λ vs. Ok (l.row.items ++ vs)) ≡ values l.exprs l.env;
}
