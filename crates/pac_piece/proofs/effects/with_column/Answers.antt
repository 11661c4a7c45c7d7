-- A row stays one.
use Rattle.std.proofs.Common.{◌≡◌, sym, ◌∙◌, subst}
use Rattle.pac_value.specs.Values.{IsRow}
use Rattle.pac_value.specs.State.{RowValues}
use Rattle.pac_piece.proofs.RowLemmas.{IsRow-set}
use Rattle.pac_piece.proofs.effects.with_column.Goals as goal
use Rattle.pac_piece.proofs.effects.with_column.Goals.{then-column-len, else-column-len}

pub of-requires : goal.of-requires
of-requires c =
    let same : c.in_ok-values.values.items ≡ c.args.row.now = c.in_ok-values.ensures ∙ c.items.ensures.value in
    elim c.if-column-len.branch [
      | then-column-len w ↦ subst (λ (v : _). IsRow v.items) (sym w.values-is) (IsRow-set c.args.row.now c.in_ok-values.values.items c.from-column.result c.args.value same c.items.ensures.rule c.requires)
      | else-column-len w ↦ subst (λ (v : _). IsRow v.items) (sym w.values-is) (subst (λ (r : RowValues). IsRow r) (sym same) c.items.ensures.rule)
    ]
