-- What is left to bring back has a row where one was put, since each change is of a cell of its own.
use Rattle.std.proofs.Common.{◌≡◌, ◌<◌, ℕ, suc, ◌+◌, ◌∷◌, List, T, length, drop, get_or, set, sym, ap, subst, ◌∙◌, arith}
use Rattle.std.proofs.Math.Seq.{drop-cons}
use Rattle.std.proofs.lemmas.List.Elements.{All-get_or}
use Rattle.std.specs.FinMap.{is_sorted}
use Rattle.pac_value.specs.State.{cell_cmp, Tables}
use Rattle.pac_serial.specs.WriteSets.{Change}
use Rattle.pac_serial.specs.Commits.{AreThere, IsThere, with_restored, restored}
use Rattle.pac_serial.proofs.CommitLemmas.{there-after, sorted-drop, cells-set, drop-set}
use Rattle.pac_serial.proofs.commit.restore.Goals as goal

-- lists that are alike from a position on are so at it and after it
heads : (xs ys : List Change) (n : ℕ) (d : Change) → n < length xs → n < length ys → drop n xs ≡ drop n ys → (get_or xs n d ≡ get_or ys n d) × (drop (suc n) xs ≡ drop (suc n) ys)
heads xs ys n d in_xs in_ys e =
    let both : get_or xs n d ∷ drop (suc n) xs ≡ get_or ys n d ∷ drop (suc n) ys = sym (drop-cons xs n d in_xs) ∙ e ∙ drop-cons ys n d in_ys in
    (cc, cc)

pub restore_row-requires-clause-within : goal.restore_row-requires-clause-within
restore_row-requires-clause-within g c =
    let all = c.args.changes.now in
    let at = c.loop-at.at in
    let d = c.index-changes-at.result in
    let here = (heads c.loop-at.changes all at d (omega arith) (omega arith) c.loop-at.invariant.same).0 in
    subst (λ (x : Change). x.0.0 < g.R.Rows.tables c.loop-at.rows) (sym here)
    (subst (λ n. (get_or all at d).0.0 < n) (sym c.loop-at.invariant.tables) (All-get_or (λ (x : Change). x.0.0 < g.R.Rows.tables c.args.rows.now) all at d (omega arith) c.requires.within))

pub restore_row-requires-clause-there : goal.restore_row-requires-clause-there
restore_row-requires-clause-there g c =
    let all = c.args.changes.now in
    let at = c.loop-at.at in
    let d = c.index-changes-at.result in
    let held = g.R.Rows.held c.loop-at.rows in
    let here = (heads c.loop-at.changes all at d (omega arith) (omega arith) c.loop-at.invariant.same).0 in
    let there = subst (AreThere held) (drop-cons all at d (omega arith)) c.loop-at.invariant.there in
    subst (IsThere held) (sym here) (All-get_or (IsThere held) (get_or all at d ∷ drop (suc at) all) 0 d (omega arith) there)

pub loop-at-preserved : goal.loop-at-preserved
loop-at-preserved g c =
    let all = c.args.changes.now in
    let at = c.loop-at.at in
    let d = c.index-changes-at.result in
    let held = g.R.Rows.held c.loop-at.rows in
    let x : Change = get_or all at d in
    let lt : at < length all = omega arith in
    let same = heads c.loop-at.changes all at d (omega arith) lt c.loop-at.invariant.same in
    let next : suc at ≡ at + 1 = omega arith in
    let back : g.R.Rows.held c.restore_row.new.rows ≡ with_restored held x = c.restore_row.ensures.rows ∙ ap (with_restored held) same.0 in
    let there = subst (AreThere held) (drop-cons all at d lt) c.loop-at.invariant.there in
    let sorted = subst (λ (es : List Change). T (is_sorted cell_cmp es)) (drop-cons all at d lt) (sorted-drop at all c.requires.sorted) in
    record {
      rest =
          ap (λ n. restored (g.R.Rows.held c.restore_row.new.rows) (drop n all)) (sym next)
          ∙ ap (λ (m : Tables). restored m (drop (suc at) all)) back
          ∙ ap (restored held) (sym (drop-cons all at d lt)) ∙ c.loop-at.invariant.rest;
      same = ap (λ n. drop n (set c.loop-at.changes at c.restore_row.new.change)) (sym next) ∙ drop-set at c.loop-at.changes c.restore_row.new.change ∙ same.1 ∙ ap (λ n. drop n all) next;
      cells = cells-set at c.loop-at.changes c.restore_row.new.change d (omega arith) c.restore_row.ensures.cell ∙ c.loop-at.invariant.cells;
      there = subst (λ n. AreThere (g.R.Rows.held c.restore_row.new.rows) (drop n all)) next (subst (λ (m : Tables). AreThere m (drop (suc at) all)) (sym back) (there-after held x (drop (suc at) all) sorted there));
      tables = c.restore_row.ensures.tables ∙ c.loop-at.invariant.tables;
    }
