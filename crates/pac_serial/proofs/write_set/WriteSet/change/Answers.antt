-- One more change, at a cell that is changed already or is not.
use Rattle.std.proofs.Common.{◌≡◌, ◌<◌, ℕ, List, T, is_some, set, ap, sym, subst, ◌∙◌}
use Rattle.std.specs.FinMap as map
use Rattle.std.specs.FinMap.{is_sorted}
use Rattle.pac_value.specs.State.{Cell, cell_cmp, Tables, with_row}
use Rattle.pac_serial.specs.declared.pending.Pending.{Pending}
use Rattle.pac_value.specs.Sorted.{IsOffsetOf, IsGapFor}
use Rattle.pac_value.proofs.CellLemmas.{cells_total}
use Rattle.pac_serial.specs.WriteSets.{Change, Changes, as_changed, AreUnmade}
use Rattle.pac_value.proofs.SortedLemmas.{found-sorted, found-map, gap-sorted, gap-map}
use Rattle.pac_serial.proofs.WriteSetLemmas.{seen-insert, unmade-insert}
use Rattle.pac_serial.proofs.WritesLemmas.{changes_at-insert}
use Rattle.pac_serial.proofs.write_set.WriteSet.change.Goals as goal

-- what is seen once the changes are those before and one more
seen : (held : Tables) (old new : Changes) (cell : Cell) (pending : Pending) → new ≡ map.insert old cell pending → as_changed held new ≡ with_row (as_changed held old) cell pending.row
seen held old new cell pending e = ap (as_changed held) e ∙ seen-insert held old cell pending

still_unmade : (number : ℕ) (old new : Changes) (cell : Cell) (pending : Pending) → new ≡ map.insert old cell pending → cell.0 < number → pending.puts ≡ is_some pending.row → AreUnmade number old → AreUnmade number new
still_unmade number old new cell pending e within puts unmade = subst (λ (m : Changes). AreUnmade number m) (sym e) (unmade-insert number old cell pending within puts unmade)

pub invariant_of-self : goal.invariant_of-self
invariant_of-self c =
    let cell : Cell = (c.args.table, c.args.key) in
    let all = c.self.inside.changes.items in
    let offset = subst (λ (es : List Change). IsOffsetOf es cell c.in-Ok.at) c.deref.ensures.value c.in-Ok.ensures.found in
    let here = ap (λ (x : Change). x.0) c.index_mut.ensures.value in
    subst (λ (q : Cell). T (is_sorted cell_cmp (set all c.in-Ok.at (q, c.replace.new.self)))) (sym here) (found-sorted cells_total all c.self.invariant cell c.in-Ok.at offset c.index_mut.result.now c.replace.new.self)

pub returns-in-Ok-clause-ok : goal.returns-in-Ok-clause-ok
returns-in-Ok-clause-ok c held =
    let cell : Cell = (c.args.table, c.args.key) in
    let all = c.self.inside.changes.items in
    let offset = subst (λ (es : List Change). IsOffsetOf es cell c.in-Ok.at) c.deref.ensures.value c.in-Ok.ensures.found in
    let here = ap (λ (x : Change). map.from_sorted {R = cell_cmp} (set all c.in-Ok.at (x.0, c.replace.new.self))) c.index_mut.ensures.value in
    let new = here ∙ found-map cells_total all c.self.invariant cell c.in-Ok.at offset c.index_mut.result.now c.replace.new.self ∙ ap (λ (m : Changes). map.insert m cell c.replace.new.self) c.self.view_is in
    seen held c.args.self.now (map.from_sorted (set all c.in-Ok.at (c.index_mut.result.now.0, c.replace.new.self))) cell c.replace.new.self new
    ∙ ap (λ (p : Pending). with_row (as_changed held c.args.self.now) cell p.row) c.replace.ensures

pub returns-in-Ok-clause-unmade : goal.returns-in-Ok-clause-unmade
returns-in-Ok-clause-unmade c number within unmade =
    let cell : Cell = (c.args.table, c.args.key) in
    let all = c.self.inside.changes.items in
    let offset = subst (λ (es : List Change). IsOffsetOf es cell c.in-Ok.at) c.deref.ensures.value c.in-Ok.ensures.found in
    let here = ap (λ (x : Change). map.from_sorted {R = cell_cmp} (set all c.in-Ok.at (x.0, c.replace.new.self))) c.index_mut.ensures.value in
    let new = here ∙ found-map cells_total all c.self.invariant cell c.in-Ok.at offset c.index_mut.result.now c.replace.new.self ∙ ap (λ (m : Changes). map.insert m cell c.replace.new.self) c.self.view_is in
    let puts = ap (λ (p : Pending). p.puts) c.replace.ensures ∙ sym (ap (λ (p : Pending). is_some p.row) c.replace.ensures) in
    still_unmade number c.args.self.now (map.from_sorted (set all c.in-Ok.at (c.index_mut.result.now.0, c.replace.new.self))) cell c.replace.new.self new within puts unmade

pub invariant_of-self-in-Continue-1 : goal.invariant_of-self-in-Continue-1
invariant_of-self-in-Continue-1 c =
    let cell : Cell = (c.args.table, c.args.key) in
    let all = c.self.inside.changes.items in
    let gap = subst (λ (es : List Change). IsGapFor cell_cmp es cell c.in-Err.at) c.deref.ensures.value c.in-Err.ensures.absent in
    subst (λ (es : List Change). T (is_sorted cell_cmp es)) (sym c.in_ok-add_at-in-Err.ensures.ok) (gap-sorted cells_total all c.self.invariant cell c.in-Err.at gap c.new.result)

pub returns-in_ok-add_at-in-Err-clause-ok : goal.returns-in_ok-add_at-in-Err-clause-ok
returns-in_ok-add_at-in-Err-clause-ok c held =
    let cell : Cell = (c.args.table, c.args.key) in
    let all = c.self.inside.changes.items in
    let gap = subst (λ (es : List Change). IsGapFor cell_cmp es cell c.in-Err.at) c.deref.ensures.value c.in-Err.ensures.absent in
    let pending : Pending = c.new.result in
    let new = ap (map.from_sorted {R = cell_cmp}) c.in_ok-add_at-in-Err.ensures.ok ∙ gap-map cells_total all c.self.invariant cell c.in-Err.at gap pending ∙ ap (λ (m : Changes). map.insert m cell pending) c.self.view_is in
    seen held c.args.self.now (map.from_sorted c.add_at.new.changes.items) cell pending new
    ∙ ap (λ (p : Pending). with_row (as_changed held c.args.self.now) cell p.row) c.new.ensures

pub returns-in_ok-add_at-in-Err-clause-unmade : goal.returns-in_ok-add_at-in-Err-clause-unmade
returns-in_ok-add_at-in-Err-clause-unmade c number within unmade =
    let cell : Cell = (c.args.table, c.args.key) in
    let all = c.self.inside.changes.items in
    let gap = subst (λ (es : List Change). IsGapFor cell_cmp es cell c.in-Err.at) c.deref.ensures.value c.in-Err.ensures.absent in
    let pending : Pending = c.new.result in
    let new = ap (map.from_sorted {R = cell_cmp}) c.in_ok-add_at-in-Err.ensures.ok ∙ gap-map cells_total all c.self.invariant cell c.in-Err.at gap pending ∙ ap (λ (m : Changes). map.insert m cell pending) c.self.view_is in
    let puts = ap (λ (p : Pending). p.puts) c.new.ensures ∙ sym (ap (λ (p : Pending). is_some p.row) c.new.ensures) in
    still_unmade number c.args.self.now (map.from_sorted c.add_at.new.changes.items) cell pending new within puts unmade

pub returns-in_err-add_at-in-Err-clause-unmade : goal.returns-in_err-add_at-in-Err-clause-unmade
returns-in_err-add_at-in-Err-clause-unmade c number within unmade = subst (λ (m : Changes). AreUnmade number m) (sym (ap (map.from_sorted {R = cell_cmp}) c.in_err-add_at-in-Err.ensures.err ∙ c.self.view_is)) unmade

pub returns-in-Ok-clause-cells : goal.returns-in-Ok-clause-cells
returns-in-Ok-clause-cells c =
    let cell : Cell = (c.args.table, c.args.key) in
    let all = c.self.inside.changes.items in
    let offset = subst (λ (es : List Change). IsOffsetOf es cell c.in-Ok.at) c.deref.ensures.value c.in-Ok.ensures.found in
    let here = ap (λ (x : Change). map.from_sorted {R = cell_cmp} (set all c.in-Ok.at (x.0, c.replace.new.self))) c.index_mut.ensures.value in
    let new = here ∙ found-map cells_total all c.self.invariant cell c.in-Ok.at offset c.index_mut.result.now c.replace.new.self ∙ ap (λ (m : Changes). map.insert m cell c.replace.new.self) c.self.view_is in
    changes_at-insert c.args.self.now (map.from_sorted (set all c.in-Ok.at (c.index_mut.result.now.0, c.replace.new.self))) cell c.replace.new.self new

pub returns-in_ok-add_at-in-Err-clause-cells : goal.returns-in_ok-add_at-in-Err-clause-cells
returns-in_ok-add_at-in-Err-clause-cells c =
    let cell : Cell = (c.args.table, c.args.key) in
    let all = c.self.inside.changes.items in
    let gap = subst (λ (es : List Change). IsGapFor cell_cmp es cell c.in-Err.at) c.deref.ensures.value c.in-Err.ensures.absent in
    let pending : Pending = c.new.result in
    let new = ap (map.from_sorted {R = cell_cmp}) c.in_ok-add_at-in-Err.ensures.ok ∙ gap-map cells_total all c.self.invariant cell c.in-Err.at gap pending ∙ ap (λ (m : Changes). map.insert m cell pending) c.self.view_is in
    changes_at-insert c.args.self.now (map.from_sorted c.add_at.new.changes.items) cell pending new
