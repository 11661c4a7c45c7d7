-- Each step adds the bytes of one table.
use Rattle.std.proofs.Common.{◌∙◌, List, ℕ, ◌++◌, ap, arith}
use Rattle.std.specs.List.{AllByRecursion}
use Rattle.pac_check.specs.Checkpoints.{RowHasBytes, rows_bytes}
use Rattle.pac_check.specs.Saved.{table_rows}
use Rattle.pac_check.proofs.WritingLemmas.{tables-longer, tables-more, up-to-next}
use Rattle.pac_check.proofs.text.add_tables.Goals as goal

pub loop-table-preserved : goal.loop-table-preserved
loop-table-preserved g c =
    let held = g.R.Rows.held c.args.rows.now in
    record {
      exact = omega (arith, c.in_ok-len.ensures.exact, c.loop-table.invariant.exact, tables-longer held c.loop-table.table);
      few = omega (arith, c.in_ok-len.ensures.few, c.loop-table.invariant.few);
      bytes = λ small. c.in_ok-len.ensures.bytes small
          ∙ ap (λ (bytes : List ℕ). bytes ++ rows_bytes (table_rows held c.loop-table.table)) (c.loop-table.invariant.bytes (omega (arith, small, c.in_ok-len.ensures.exact)))
          ∙ tables-more held c.loop-table.table _;
      form = λ small. up-to-next (λ table. AllByRecursion RowHasBytes (table_rows held table)) c.loop-table.table (c.loop-table.invariant.form (omega (arith, small, c.in_ok-len.ensures.exact))) (c.in_ok-len.ensures.form small);
    }
