-- Each step adds one value of its column's type.
use Rattle.std.proofs.Common.{◌≡◌, ◌++◌, ◌∷◌, [], Some, Ok, Err, Option, true, List, map, drop, ◌+◌, sym, ap, ◌∙◌, subst, arith, rules}
use Rattle.std.specs.Prelude.{slice_get}
use Rattle.std.specs.List.{list_all}
use Rattle.pac_value.specs.declared.values.Ty.{Ty}
use Rattle.pac_value.specs.declared.values.Value.{Value}
use Rattle.pac_value.specs.Values.{type_of, is_stored}
use Rattle.pac_value.specs.Expressions.{types_of, ◌>>=◌}
use Rattle.pac_types.specs.WellFormed.{column_types}
use Rattle.pac_value.specs.Scopes.{is_wanted}
use Rattle.pac_ops.specs.Operations.{values}
use Rattle.pac_serial.proofs.RowLemmas.{wanted_item, wanted-some, values-stop, values-go, types-go, stored-go, types-end}
use Rattle.pac_serial.proofs.operation.row_of.Goals as goal

pub eval-requires : goal.eval-requires
eval-requires c = wanted-some _ _
    (wanted_item (types_of c.args.env.now) c.args.exprs.now (column_types c.args.tables.now c.args.table) c.loop-expr.expr-index c.expr-item.result c.requires.typed c.loop-expr-test.true c.expr-item.is)

pub returns-in_err-eval-clause-does : goal.returns-in_err-eval-clause-does
returns-in_err-eval-clause-does c =
    let stops : values c.args.exprs.now c.args.env.now ≡ Err c.in_err-eval.field-0.0 =
    values-stop c.args.env.now c.args.exprs.now c.loop-expr.expr-index c.expr-item.result c.loop-expr.row.items c.in_err-eval.field-0.0 c.loop-expr-test.true c.expr-item.is c.loop-expr.invariant.so_far (sym c.in_err-eval.ensures.value) in
    search rules

pub loop-expr-preserved : goal.loop-expr-preserved
loop-expr-preserved c =
    let v = c.in_ok-eval.field-0 in
    let i = c.loop-expr.expr-index in
    let es = c.args.exprs.now in
    let row = c.loop-expr.row.items in
    let tys = column_types c.args.tables.now c.args.table in
    let wanted : is_wanted (Some (type_of v)) (slice_get tys i) ≡ true =
    subst (λ (o : Option Ty). is_wanted o (slice_get tys i) ≡ true) c.in_ok-eval.ensures.typed
    (wanted_item (types_of c.args.env.now) es tys i c.expr-item.result c.requires.typed c.loop-expr-test.true c.expr-item.is) in
    let items : c.push.new.list.items ≡ row ++ v ∷ [] = c.in_ok-push.ensures.items in
    record {
      count = omega (arith, c.loop-expr.invariant.count, c.in_ok-push.ensures.len);
      types = ap (map type_of) items ∙ types-go row tys i v c.loop-expr.invariant.types wanted;
      stored = ap (list_all is_stored) items ∙ stored-go row v (slice_get tys i) c.loop-expr.invariant.stored wanted;
      so_far = ap (λ (xs : List Value). values (drop (i + 1) es) c.args.env.now >>= λ vs. Ok (xs ++ vs)) items
          ∙ values-go c.args.env.now es i c.expr-item.result row v c.loop-expr-test.true c.expr-item.is c.loop-expr.invariant.so_far (sym c.in_ok-eval.ensures.value);
    }

pub returns-clause-typed : goal.returns-clause-typed
returns-clause-typed c =
    ap (map type_of) c.of.ensures
    ∙ types-end (types_of c.args.env.now) c.args.exprs.now (column_types c.args.tables.now c.args.table) c.loop-expr.row.items c.loop-expr.expr-index c.requires.typed c.loop-expr-test.false c.loop-expr.invariant.types
