-- Each step writes one row.
use Rattle.std.proofs.Common.{◌≡◌, ◌∙◌, ◌++◌, List, ℕ, length, sym, ap, subst, arith, append_assoc}
use Rattle.std.specs.Int.{w64, to_le_bytes}
use Rattle.std.specs.List.{flat_map, AllByRecursion}
use Rattle.std.proofs.lemmas.List.{append-nil, take_all}
use Rattle.pac_entry.proofs.WrittenLemmas.{one_more}
use Rattle.pac_check.specs.Checkpoints.{KeyedRow, RowHasBytes, keyed_bytes}
use Rattle.pac_check.specs.Saved.{table_rows}
use Rattle.pac_check.proofs.RowsLemmas.{entry-placed, counted}
use Rattle.pac_check.proofs.WritingLemmas.{all-taken}
use Rattle.pac_check.proofs.text.put_rows.Goals as goal

pub loop-entry-init : goal.loop-entry-init
loop-entry-init g c =
    let held = g.R.Rows.held c.args.rows.now in
    let same : length c.args.found.now ≡ length (table_rows held c.args.table) = counted (λ e. e.0.now) c.args.found.now held c.args.table c.requires.keys in
    record {
      bytes = c.in_ok-put_u64.ensures ∙ ap (λ (n : ℕ). c.args.out.now.items ++ to_le_bytes w64 n) same ∙ sym (append-nil (c.args.out.now.items ++ to_le_bytes w64 (length (table_rows held c.args.table))));
      form = tt;
    }

pub loop-entry-preserved : goal.loop-entry-preserved
loop-entry-preserved g c =
    let held = g.R.Rows.held c.args.rows.now in
    let there = entry-placed (λ e. e.0.now) (λ e. e.1.now) c.args.found.now held c.args.table c.loop-entry.entry-index c.entry-item.result
    c.requires.keys c.requires.rows c.loop-entry-test.true c.entry-item.is in
    record {
      bytes = one_more keyed_bytes _ _ _ (table_rows held c.args.table) c.loop-entry.entry-index (c.entry-item.result.0.now, c.entry-item.result.1.now) there.0 there.1 c.in_ok-put_keyed_row.ensures.bytes c.loop-entry.invariant.bytes;
      form = all-taken RowHasBytes (table_rows held c.args.table) c.loop-entry.entry-index (c.entry-item.result.0.now, c.entry-item.result.1.now) there.0 there.1 c.in_ok-put_keyed_row.ensures.form c.loop-entry.invariant.form;
    }

pub returns-clause-bytes : goal.returns-clause-bytes
returns-clause-bytes g c =
    let held = g.R.Rows.held c.args.rows.now in
    let count : length c.args.found.now ≡ length (table_rows held c.args.table) = counted (λ e. e.0.now) c.args.found.now held c.args.table c.requires.keys in
    let all = take_all c.loop-entry.entry-index (table_rows held c.args.table) (omega (arith, count, c.loop-entry-test.false)) in
    let number = to_le_bytes w64 (length (table_rows held c.args.table)) in
    c.loop-entry.invariant.bytes ∙ ap (λ (rows : List KeyedRow). (c.args.out.now.items ++ number) ++ flat_map keyed_bytes rows) all ∙ append_assoc c.args.out.now.items number (flat_map keyed_bytes (table_rows held c.args.table))

pub returns-clause-form : goal.returns-clause-form
returns-clause-form g c =
    let held = g.R.Rows.held c.args.rows.now in
    let count : length c.args.found.now ≡ length (table_rows held c.args.table) = counted (λ e. e.0.now) c.args.found.now held c.args.table c.requires.keys in
    let all = take_all c.loop-entry.entry-index (table_rows held c.args.table) (omega (arith, count, c.loop-entry-test.false)) in
    subst (AllByRecursion RowHasBytes) all c.loop-entry.invariant.form
