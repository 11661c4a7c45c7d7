-- Over no rows, as over any.
use Rattle.std.proofs.Common.{◌≡◌, List, Option, None, Some, sym, ap, ◌∙◌, subst}
use Rattle.std.specs.FinMap.{empty, get, get-empty}
use Rattle.pac_value.specs.State.{RowValues, cell_cmp}
use Rattle.pac_ops.specs.declared.shapes.TableTypes.{TableTypes}
use Rattle.pac_ops.specs.Shapes.{RowsFit}
use Rattle.pac_plan.specs.Analysis.{IsPlan}
use Rattle.pac_keys.proofs.inputs.has_arguments.Goals as goal

none_fit : (tables : List TableTypes) → RowsFit tables empty
none_fit tables cell row e = let none : ◌≡◌ {A = Option RowValues} None (Some row) = sym (get-empty cell_cmp cell) ∙ e in absurd cc

pub returns : goal.returns
returns c =
    let is_plan = subst (λ parts. IsPlan parts) c.plan.ensures c.is_plan.ensures in (
      empty,
      none_fit c.args.code.now.tables,
      (λ x used free. ap (λ env. get env x) c.requires.env ∙ c.arguments_are_inputs.ensures c.args.code.now is_plan c.args.block c.requires.entry c.args.txn.now empty x used free),
    )
