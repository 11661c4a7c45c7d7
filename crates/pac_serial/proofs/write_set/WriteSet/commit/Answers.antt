-- Rows are put, and then rows are deleted.
use Rattle.std.proofs.Common.{◌≡◌, ℕ, ◌++◌, List, map, length, take, drop, Some, T, ap, sym, subst, ◌∙◌, append-nil, arith}
use Rattle.std.proofs.Math.Seq.{drop-length}
use Rattle.std.proofs.lemmas.List.{take_all}
use Rattle.std.specs.FinMap as fin
use Rattle.std.specs.FinMap.{is_sorted, get-from_sorted, entries-from_sorted}
use Rattle.pac_value.specs.State.{Cell, cell_cmp, Tables}
use Rattle.pac_serial.specs.declared.pending.Pending.{Pending}
use Rattle.pac_serial.specs.WriteSets.{Change, Changes, IsUnmade, AreAllUnmade, laid}
use Rattle.pac_serial.specs.Commits.{AreIn, exchanged, with_puts, with_deletes}
use Rattle.pac_serial.proofs.CommitLemmas.{exchanged_in, both-parts, deletes-exchanged, sorted-cells}
use Rattle.pac_serial.proofs.write_set.WriteSet.commit.Goals as goal

-- the changes of a list are unmade as those of its map are
all-unmade : (n : ℕ) (cs : List Change) (m : Changes) → T (is_sorted cell_cmp cs) → fin.from_sorted cs ≡ m → ((cell : Cell) (pending : Pending) → fin.get m cell ≡ Some pending → IsUnmade n cell pending) → AreAllUnmade n cs
all-unmade n cs m sorted e unmade q pending found = unmade q pending (ap (λ (x : Changes). fin.get x q) (sym e) ∙ get-from_sorted cell_cmp cs q sorted ∙ found)

-- a list of the same length that is written over a vector's items is its items
over : (new old : List Change) (n : ℕ) → length new ≡ length old → length old ≡ n → take n (new ++ drop (length new) old) ≡ new
over new old n same is =
    ap (λ k. take n (new ++ drop k old)) same ∙ ap (λ (es : List Change). take n (new ++ es)) (drop-length old) ∙ ap (take n) (append-nil new) ∙ take_all n new (omega arith)

pub put_rows-requires-clause-unmade : goal.put_rows-requires-clause-unmade
put_rows-requires-clause-unmade g c =
    let n = g.R.Rows.tables c.args.rows.now in
    subst (λ (es : List Change). AreAllUnmade n es) (sym c.deref_mut.ensures.value) (all-unmade n c.self.inside.changes.items c.args.self.now c.self.invariant c.self.view_is c.requires)

pub invariant_of-self : goal.invariant_of-self
invariant_of-self g c =
    let kept = over c.put_rows.new.changes c.self.inside.changes.items c.self.inside.changes.len (omega arith) (omega (arith, c.self.inside.changes.ok)) in
    let first = subst T (sym (sorted-cells c.put_rows.new.changes c.deref_mut.result.now c.put_rows.ensures.cells)) (subst (λ (es : List Change). T (is_sorted cell_cmp es)) (sym c.deref_mut.ensures.value) c.self.invariant) in
    subst (λ (es : List Change). T (is_sorted cell_cmp es)) (sym kept) first

pub delete_rows-requires : goal.delete_rows-requires
delete_rows-requires g c =
    let n = g.R.Rows.tables c.args.rows.now in
    let held = g.R.Rows.held c.args.rows.now in
    let all = c.self.inside.changes.items in
    let kept = over c.put_rows.new.changes all c.self.inside.changes.len (omega arith) (omega (arith, c.self.inside.changes.ok)) in
    let list : c.deref.result.now ≡ map (exchanged held) all = c.deref.ensures.value ∙ kept ∙ c.in_ok-put_rows.ensures.changes ∙ ap (map (exchanged held)) c.deref_mut.ensures.value in
    subst (λ (es : List Change). AreIn (g.R.Rows.tables c.put_rows.new.rows) es) (sym list)
    (subst (λ k. AreIn k (map (exchanged held) all)) (sym c.put_rows.ensures.tables) (exchanged_in n held all c.self.invariant (all-unmade n all c.args.self.now c.self.invariant c.self.view_is c.requires)))

pub invariant_of-self-2 : goal.invariant_of-self-2
invariant_of-self-2 g c =
    let kept = over c.put_rows.new.changes c.self.inside.changes.items c.self.inside.changes.len (omega arith) (omega (arith, c.self.inside.changes.ok)) in
    let first = subst T (sym (sorted-cells c.put_rows.new.changes c.deref_mut.result.now c.put_rows.ensures.cells)) (subst (λ (es : List Change). T (is_sorted cell_cmp es)) (sym c.deref_mut.ensures.value) c.self.invariant) in
    subst (λ (es : List Change). T (is_sorted cell_cmp es)) (sym kept) first

pub returns-clause-ok : goal.returns-clause-ok
returns-clause-ok g c =
    let n = g.R.Rows.tables c.args.rows.now in
    let held = g.R.Rows.held c.args.rows.now in
    let all = c.self.inside.changes.items in
    let kept = over c.put_rows.new.changes all c.self.inside.changes.len (omega arith) (omega (arith, c.self.inside.changes.ok)) in
    let list : c.deref.result.now ≡ map (exchanged held) all = c.deref.ensures.value ∙ kept ∙ c.in_ok-put_rows.ensures.changes ∙ ap (map (exchanged held)) c.deref_mut.ensures.value in
    let rows : g.R.Rows.held c.put_rows.new.rows ≡ with_puts held all = c.in_ok-put_rows.ensures.rows ∙ ap (with_puts held) c.deref_mut.ensures.value in
    c.delete_rows.ensures.rows ∙ ap (λ (t : Tables). with_deletes t c.deref.result.now) rows ∙ ap (with_deletes (with_puts held all)) list
    ∙ deletes-exchanged held (with_puts held all) all ∙ both-parts n held all c.self.invariant (all-unmade n all c.args.self.now c.self.invariant c.self.view_is c.requires)
    ∙ ap (laid held) (sym (entries-from_sorted cell_cmp all c.self.invariant) ∙ ap fin.entries c.self.view_is)
