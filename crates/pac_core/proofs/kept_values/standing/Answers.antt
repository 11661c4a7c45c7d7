-- A binary search ends at the variable, or at the gap for it.
use Rattle.std.proofs.Common.{rules}
use Rattle.std.specs.Cmp.{nat_cmp_total}
use Rattle.std.specs.Ordering.{nat_cmp}
use Rattle.std.specs.FinMap.{nat_cmp-IsAntisymmetric}
use Rattle.std.proofs.lemmas.Fn.{always_returns_same}
use Rattle.pac_value.proofs.SortedLemmas.{searched}
use Rattle.pac_core.proofs.kept_values.standing.Goals as goal

pub returns-clause-found : goal.returns-clause-found
returns-clause-found c =
    let facts = c.binary_search_by.ensures in
    let by = facts.position (λ entry. nat_cmp entry.0 c.args.var) (always_returns_same _ _ _ (λ a r f called. search rules)) in
    (searched nat_cmp_total nat_cmp-IsAntisymmetric c.args.values.now c.requires c.args.var c.binary_search_by.result facts.bound by).0

pub returns-clause-absent : goal.returns-clause-absent
returns-clause-absent c =
    let facts = c.binary_search_by.ensures in
    let by = facts.position (λ entry. nat_cmp entry.0 c.args.var) (always_returns_same _ _ _ (λ a r f called. search rules)) in
    (searched nat_cmp_total nat_cmp-IsAntisymmetric c.args.values.now c.requires c.args.var c.binary_search_by.result facts.bound by).1
