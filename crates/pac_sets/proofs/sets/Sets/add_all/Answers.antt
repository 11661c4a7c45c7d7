-- The sets that stood are seen, and those behind them are left.
use Rattle.std.proofs.Common.{◌≡◌, ◌++◌, ℕ, List, T, length, take, sym, ap, ◌∙◌, subst, rules}
use Rattle.std.specs.FinMap.{is_sorted}
use Rattle.std.proofs.lemmas.List.{take_at}
use Rattle.pac_sets.specs.SetOrder.{set_cmp}
use Rattle.pac_sets.specs.Sets.{Kept, Setting, AreLeft, AreFronts}
use Rattle.pac_sets.proofs.KeptLemmas.{left_behind, holds_add}
use Rattle.pac_sets.proofs.sets.Sets.add_all.Goals as goal

pub note_fronts-requires-clause-each : goal.note_fronts-requires-clause-each
note_fronts-requires-clause-each g c =
    let in_it = c.self.inside in
    let from : c.len-from.result ≡ length in_it.sets.items = search rules in
    let is = c.deref.ensures.value ∙ c.in_ok-append.ensures.items in
    let left = subst (λ (v : Setting g.row.P.Denot). AreLeft v.blocks 0 c.args.more.items) (sym c.self.view_is) c.requires.each in
    subst (λ (n : ℕ). AreLeft (length in_it.fronts.items) n c.deref.result.now) (sym from)
    (subst (λ (sets : List (Kept g.row.P.Denot)). AreLeft (length in_it.fronts.items) (length in_it.sets.items) sets) (sym is) (left_behind (length in_it.fronts.items) in_it.sets.items c.args.more.items left))

pub note_fronts-requires-clause-seen : goal.note_fronts-requires-clause-seen
note_fronts-requires-clause-seen g c =
    let in_it = c.self.inside in
    let from : c.len-from.result ≡ length in_it.sets.items = search rules in
    let is = c.deref.ensures.value ∙ c.in_ok-append.ensures.items in
    let same = ap (take c.len-from.result) is ∙ take_at in_it.sets.items c.args.more.items c.len-from.result (sym from) in
    subst (λ (sets : List (Kept g.row.P.Denot)). AreFronts (length in_it.fronts.items) in_it.fronts.items sets) (sym same) c.self.invariant.2

pub invariant_of-self-2 : goal.invariant_of-self-2
invariant_of-self-2 g c =
    let in_it = c.self.inside in
    let back = sym c.self.view_is in
    let sorted = subst (λ (v : Setting g.row.P.Denot). T (is_sorted set_cmp (v.sets ++ c.args.more.items))) back c.requires.later in
    let left = subst (λ (v : Setting g.row.P.Denot). AreLeft v.blocks 0 c.args.more.items) back c.requires.each in
    let seen = subst (λ (sets : List (Kept g.row.P.Denot)). AreFronts (length in_it.fronts.items) c.note_fronts.new.fronts.items sets) c.deref.ensures.value c.note_fronts.ensures.seen in
    holds_add in_it.edges in_it.sources.items in_it.fronts.items c.note_fronts.new.fronts.items in_it.sets.items c.args.more.items c.append.new.self.items c.self.invariant sorted left
    c.in_ok-append.ensures.items c.note_fronts.ensures.len seen
