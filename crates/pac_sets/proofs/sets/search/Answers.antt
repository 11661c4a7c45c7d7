-- A binary search ends at the set, or at the gap for it.
use Rattle.std.proofs.Common.{rules}
use Rattle.std.proofs.lemmas.Fn.{always_returns_same}
use Rattle.pac_value.proofs.SortedLemmas.{searched}
use Rattle.pac_sets.specs.SetOrder.{set_cmp}
use Rattle.pac_sets.proofs.OrderLemmas.{sets_total, sets_antisymmetric}
use Rattle.pac_sets.proofs.sets.search.Goals as goal

pub returns-clause-found : goal.returns-clause-found
returns-clause-found g c =
    let facts = c.binary_search_by.ensures in
    let by = facts.position (λ entry. set_cmp entry.0 c.args.set) (always_returns_same _ _ _ (λ a r f called. search rules)) in
    (searched sets_total sets_antisymmetric c.args.sets.now c.requires c.args.set c.binary_search_by.result facts.bound by).0

pub returns-clause-absent : goal.returns-clause-absent
returns-clause-absent g c =
    let facts = c.binary_search_by.ensures in
    let by = facts.position (λ entry. set_cmp entry.0 c.args.set) (always_returns_same _ _ _ (λ a r f called. search rules)) in
    (searched sets_total sets_antisymmetric c.args.sets.now c.requires c.args.set c.binary_search_by.result facts.bound by).1
