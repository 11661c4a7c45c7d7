-- A search ends at the set, or at the gap for it.
use Rattle.std.proofs.Common.{T, List, subst, ap, ◌∙◌}
use Rattle.std.specs.FinMap.{is_sorted}
use Rattle.pac_value.specs.Sorted.{IsOffsetOf, IsGapFor}
use Rattle.pac_sets.specs.SetOrder.{set_cmp}
use Rattle.pac_sets.specs.Sets.{Kept, Setting}
use Rattle.pac_sets.proofs.SetLemmas.{at_offset, no_offset}
use Rattle.pac_sets.proofs.sets.Sets.find.Goals as goal

pub returns-in-Ok : goal.returns-in-Ok
returns-in-Ok g c =
    let is = c.deref.ensures.value ∙ ap (λ (v : Setting g.row.P.Denot). v.sets) c.self.view_is in
    let sorted = subst (λ (v : Setting g.row.P.Denot). T (is_sorted set_cmp v.sets)) c.self.view_is c.self.invariant.0.ascend in
    let offset = subst (λ (sets : List (Kept g.row.P.Denot)). IsOffsetOf sets c.args.set c.in-Ok.at) is c.in-Ok.ensures.found in
    record { found = at_offset c.args.self.now.sets sorted c.args.set c.in-Ok.at offset; absent = tt }

pub returns-in-Err : goal.returns-in-Err
returns-in-Err g c =
    let is = c.deref.ensures.value ∙ ap (λ (v : Setting g.row.P.Denot). v.sets) c.self.view_is in
    let sorted = subst (λ (v : Setting g.row.P.Denot). T (is_sorted set_cmp v.sets)) c.self.view_is c.self.invariant.0.ascend in
    let gap = subst (λ (sets : List (Kept g.row.P.Denot)). IsGapFor set_cmp sets c.args.set c.in-Err.field-0) is c.in-Err.ensures.absent in
    record { found = tt; absent = no_offset c.args.self.now.sets sorted c.args.set c.in-Err.field-0 gap }
