-- The changes so far keep what their rows replaced; it is brought back where one finds no room.
use Rattle.std.proofs.Common.{◌≡◌, ◌<◌, ℕ, suc, ◌+◌, ◌++◌, List, T, map, length, take, drop, get_or, set, sym, ap, subst, ◌∙◌, arith}
use Rattle.std.proofs.lemmas.List.{take_more}
use Rattle.std.proofs.lemmas.List.Elements.{All-get_or}
use Rattle.std.specs.FinMap.{is_sorted}
use Rattle.pac_value.specs.State.{cell_cmp, Tables}
use Rattle.pac_serial.specs.WriteSets.{Change, AreAllUnmade}
use Rattle.pac_serial.specs.Commits.{AreIn, AreThere, cells, exchanged, with_put, with_puts, restored}
use Rattle.pac_serial.proofs.CommitLemmas.{are_in, exchanged_in, exchanged_sorted, exchanged_there, exchanged-now, brought-back, partly, partly-at, partly-set, partly-take, partly-cells, cells-append, cells-parts, cells-set, sorted-take, find-take, with_puts-more}
use Rattle.pac_serial.proofs.commit.put_rows.Goals as goal

-- the first of several changes are unmade
first_unmade : (n at : ℕ) (all : List Change) → AreAllUnmade n all → AreAllUnmade n (take at all)
first_unmade n at all unmade q pending found = unmade q pending (find-take at all q pending found)

pub put_row-requires : goal.put_row-requires
put_row-requires g c =
    let all = c.args.changes.now in
    let at = c.loop-at.at in
    let d = c.index-changes-at.result in
    let lt : at < length all = omega arith in
    let here : get_or c.loop-at.changes at d ≡ get_or all at d = ap (λ (es : List Change). get_or es at d) c.loop-at.invariant.changes ∙ partly-at (g.R.Rows.held c.args.rows.now) at all d lt in
    let within = All-get_or (λ (x : Change). x.0.0 < g.R.Rows.tables c.args.rows.now) all at d lt (are_in (g.R.Rows.tables c.args.rows.now) all c.requires.sorted c.requires.unmade) in
    subst (λ (x : Change). x.0.0 < g.R.Rows.tables c.loop-at.rows) (sym here) (subst (λ n. (get_or all at d).0.0 < n) (sym c.loop-at.invariant.tables) within)

-- the changes before the one at hand
done : (held : Tables) (at : ℕ) (all now : List Change) (x : Change) → at < length all → now ≡ partly held at all → take at (set now at x) ≡ map (exchanged held) (take at all)
done held at all now x lt is = ap (λ (es : List Change). take at (set es at x)) is ∙ partly-take held at all x (omega arith)

pub restore-requires-clause-within : goal.restore-requires-clause-within
restore-requires-clause-within g c =
    let n = g.R.Rows.tables c.args.rows.now in
    let all = c.args.changes.now in
    let at = c.loop-at.at in
    let held = g.R.Rows.held c.args.rows.now in
    let prefix = done held at all c.loop-at.changes c.put_row.new.change (omega arith) c.loop-at.invariant.changes in
    let within = exchanged_in n held (take at all) (sorted-take at all c.requires.sorted) (first_unmade n at all c.requires.unmade) in
    subst (λ (es : List Change). AreIn (g.R.Rows.tables c.put_row.new.rows) es) (sym prefix)
    (subst (λ k. AreIn k (map (exchanged held) (take at all))) (sym (c.put_row.ensures.tables ∙ c.loop-at.invariant.tables)) within)

pub restore-requires-clause-sorted : goal.restore-requires-clause-sorted
restore-requires-clause-sorted g c =
    let all = c.args.changes.now in
    let at = c.loop-at.at in
    let held = g.R.Rows.held c.args.rows.now in
    let prefix = done held at all c.loop-at.changes c.put_row.new.change (omega arith) c.loop-at.invariant.changes in
    subst (λ (es : List Change). T (is_sorted cell_cmp es)) (sym prefix) (exchanged_sorted held (take at all) (sorted-take at all c.requires.sorted))

pub restore-requires-clause-there : goal.restore-requires-clause-there
restore-requires-clause-there g c =
    let n = g.R.Rows.tables c.args.rows.now in
    let all = c.args.changes.now in
    let at = c.loop-at.at in
    let held = g.R.Rows.held c.args.rows.now in
    let prefix = done held at all c.loop-at.changes c.put_row.new.change (omega arith) c.loop-at.invariant.changes in
    let there = exchanged_there n held (take at all) (sorted-take at all c.requires.sorted) (first_unmade n at all c.requires.unmade) in
    subst (AreThere (g.R.Rows.held c.put_row.new.rows)) (sym prefix)
    (subst (λ (m : Tables). AreThere m (map (exchanged held) (take at all))) (sym (c.in-Err.ensures.err ∙ c.loop-at.invariant.rows)) there)

pub returns-in-Err-clause-cells : goal.returns-in-Err-clause-cells
returns-in-Err-clause-cells g c =
    let at = c.loop-at.at in
    let now = set c.loop-at.changes at c.put_row.new.change in
    cells-append c.restore.new.changes (drop at now) ∙ ap (λ ps. ps ++ cells (drop at now)) c.restore.ensures.cells ∙ cells-parts at now
    ∙ cells-set at c.loop-at.changes c.put_row.new.change c.index-changes-at.result (omega arith) c.put_row.ensures.cell
    ∙ ap cells c.loop-at.invariant.changes ∙ partly-cells (g.R.Rows.held c.args.rows.now) at c.args.changes.now

pub returns-in-Err-clause-err : goal.returns-in-Err-clause-err
returns-in-Err-clause-err g c =
    let n = g.R.Rows.tables c.args.rows.now in
    let all = c.args.changes.now in
    let at = c.loop-at.at in
    let held = g.R.Rows.held c.args.rows.now in
    let prefix = done held at all c.loop-at.changes c.put_row.new.change (omega arith) c.loop-at.invariant.changes in
    c.restore.ensures.rows
    ∙ ap (λ (m : Tables). restored m (take at (set c.loop-at.changes at c.put_row.new.change))) (c.in-Err.ensures.err ∙ c.loop-at.invariant.rows)
    ∙ ap (restored (with_puts held (take at all))) prefix
    ∙ brought-back n held (take at all) (sorted-take at all c.requires.sorted) (first_unmade n at all c.requires.unmade)

pub loop-at-preserved : goal.loop-at-preserved
loop-at-preserved g c =
    let all = c.args.changes.now in
    let at = c.loop-at.at in
    let d = c.index-changes-at.result in
    let held = g.R.Rows.held c.args.rows.now in
    let lt : at < length all = omega arith in
    let here : get_or c.loop-at.changes at d ≡ get_or all at d = ap (λ (es : List Change). get_or es at d) c.loop-at.invariant.changes ∙ partly-at held at all d lt in
    let next : suc at ≡ at + 1 = omega arith in
    let now : exchanged (g.R.Rows.held c.loop-at.rows) (get_or c.loop-at.changes at d) ≡ exchanged held (get_or all at d) =
    (λ i. exchanged (c.loop-at.invariant.rows i) (here i)) ∙ exchanged-now held at all d c.requires.sorted lt in
    record {
      rows =
          c.in-Ok.ensures.rows ∙ ap (with_put (g.R.Rows.held c.loop-at.rows)) here ∙ ap (λ (m : Tables). with_put m (get_or all at d)) c.loop-at.invariant.rows
          ∙ sym (with_puts-more held (take at all) (get_or all at d)) ∙ ap (with_puts held) (sym (take_more all at d lt));
      changes =
          ap (λ (x : Change). set c.loop-at.changes at x) (c.in-Ok.ensures.change ∙ now) ∙ ap (λ (es : List Change). set es at (exchanged held (get_or all at d))) c.loop-at.invariant.changes
          ∙ partly-set held at all d lt ∙ ap (λ n. partly held n all) next;
      tables = c.put_row.ensures.tables ∙ c.loop-at.invariant.tables;
    }

pub returns-clause-cells : goal.returns-clause-cells
returns-clause-cells g c = ap cells c.loop-at.invariant.changes ∙ partly-cells (g.R.Rows.held c.args.rows.now) c.loop-at.at c.args.changes.now
