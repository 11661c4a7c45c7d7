-- The sorted entries are those of the finite map, in order.
use Rattle.std.proofs.Common.{List, IsPermutation, map as list_map, ap, subst, sym, ◌∙◌, rules}
use Rattle.std.specs.FinMap as map
use Rattle.std.specs.Ordering.{is_lt}
use Rattle.std.specs.List.Sorted.{IsSorted}
use Rattle.std.proofs.lemmas.Fn.{always_returns_same}
use Rattle.std.proofs.lemmas.List.Sorted.{ranks_by, IsPermutation-map}
use Rattle.pac_value.specs.declared.values.Key.{Key}
use Rattle.pac_value.specs.Keys.{key_cmp, keys_total}
use Rattle.pac_value.specs.State.{RowValues}
use Rattle.pac_tables.proofs.HashedLemmas.{entries-sorted}
use Rattle.pac_tables.proofs.SortedRowLemmas.{map-map, sorted-map}
use Rattle.pac_tables.proofs.hashed.HashedTableTableRows.sorted_rows.Goals as goal

pub returns : goal.returns
returns c =
    let before = c.in_ok-rows.rows.items in
    let after = c.sort_by.new.self.items in
    let moved = subst (λ (es : List (Key × RowValues)). IsPermutation es (list_map (λ e. (e.0.now, e.1.now)) after)) c.in_ok-rows.ensures (IsPermutation-map (λ e. (e.0.now, e.1.now)) before after c.sort_by.ensures.permutation) in
    let up = c.in_ok-sort_by.ensures.sorted (λ x y. is_lt (key_cmp x.0.now y.0.now)) (ranks_by keys_total (λ x. x.0.now)) (always_returns_same _ _ _ (λ a r f called. search rules)) in
    let ascending = subst (λ (ks : List Key). IsSorted key_cmp ks) (sym (map-map (λ e. (e.0.now, e.1.now)) (λ (e : Key × RowValues). e.0) after)) (sorted-map (λ e. e.0.now) (λ a b. is_lt (key_cmp a b)) after up) in
    entries-sorted c.self.inside.rows.entries (list_map (λ e. (e.0.now, e.1.now)) after) c.len-unique.ensures.unique moved ascending ∙ ap map.entries c.self.view_is
