-- Each step adds the bytes of one row.
use Rattle.std.proofs.Common.{◌≡◌, ◌∙◌, ◌+◌, List, length, sym, ap, arith}
use Rattle.std.specs.Int.{w64, to_le_bytes}
use Rattle.std.specs.List.{flat_map}
use Rattle.std.proofs.lemmas.List.{length-append, take_all}
use Rattle.pac_check.specs.Checkpoints.{KeyedRow, keyed_bytes}
use Rattle.pac_check.specs.Saved.{table_rows}
use Rattle.pac_check.proofs.RowsLemmas.{entry-placed, counted}
use Rattle.pac_check.proofs.WritingLemmas.{len-more}
use Rattle.pac_check.proofs.text.rows_len.Goals as goal

pub loop-entry-preserved : goal.loop-entry-preserved
loop-entry-preserved g c =
    let held = g.R.Rows.held c.args.rows.now in
    let there = entry-placed (λ e. e.0.now) (λ e. e.1.now) c.args.found.now held c.args.table c.loop-entry.entry-index c.entry-item.result
    c.requires.keys c.requires.rows c.loop-entry-test.true c.entry-item.is in
    let more = len-more keyed_bytes (table_rows held c.args.table) c.loop-entry.entry-index (c.entry-item.result.0.now, c.entry-item.result.1.now) there.0 there.1 in
    record {
      exact = omega (arith, more, c.keyed_row_len-len.ensures.exact, c.loop-entry.invariant.exact);
      few = omega (arith, c.keyed_row_len-len.ensures.few, c.loop-entry.invariant.few);
    }

pub returns-clause-exact : goal.returns-clause-exact
returns-clause-exact g c =
    let held = g.R.Rows.held c.args.rows.now in
    let count : length c.args.found.now ≡ length (table_rows held c.args.table) = counted (λ e. e.0.now) c.args.found.now held c.args.table c.requires.keys in
    let all = take_all c.loop-entry.entry-index (table_rows held c.args.table) (omega (arith, count, c.loop-entry-test.false)) in
    c.loop-entry.invariant.exact ∙ ap (λ (rows : List KeyedRow). 8 + length (flat_map keyed_bytes rows)) all
    ∙ sym (length-append (to_le_bytes w64 (length (table_rows held c.args.table))) (flat_map keyed_bytes (table_rows held c.args.table)))
