-- The first transaction that is left isn't any more, and the set goes on or ends.
use Rattle.std.proofs.Common.{◌≡◌, ℕ, ◌<◌, ◌≤◌, Bool, true, false, cond, not, length, Option, Some, None, refl, sym, ap, subst, ◌∙◌, true≢false, arith}
use Rattle.std.specs.Prelude.{slice_get, T}
use Rattle.std.specs.FinMap.{is_sorted}
use Rattle.std.proofs.lemmas.Option.{slice_get_within}
use Rattle.pac_batch.specs.Sets.{has_numbers}
use Rattle.pac_sets.specs.SetOrder.{set_cmp}
use Rattle.pac_sets.specs.Sets.{IsOpenSet, Kept, with_kept_at}
use Rattle.pac_sets.proofs.KeptLemmas.{sorted_stays}
use Rattle.pac_core.specs.declared.progress.Progress.{Progress}
use Rattle.pac_core.specs.declared.stage.SetStage.{SetStage}
use Rattle.pac_core.specs.declared.stage.SetStage.TheVariants.{Waiting}
use Rattle.pac_core.specs.Moves.{after_first}
use Rattle.pac_core.proofs.EndedSet.{blocks_still, open_still}
use Rattle.pac_core.proofs.FinishedPiece.{finished_to, sets_alone}
use Rattle.pac_core.proofs.Moved.{kept_twice}
use Rattle.pac_core.proofs.ValuesKept.{values_stay}
use Rattle.pac_core.proofs.progress.Progress.finish_first.Goals as goal

was_last : (b c : Bool) → not b ≡ c → c ≡ true → b ≡ false
was_last true c e f = absurd (true≢false (sym (e ∙ f)))
was_last false c e f = refl

was_not_last : (b c : Bool) → not b ≡ c → c ≡ false → b ≡ true
was_not_last true c e f = refl
was_not_last false c e f = absurd (true≢false (e ∙ f))

pub overflow_sub-self : goal.overflow_sub-self
overflow_sub-self c =
    let w = c.requires.stands in
    let some = c.requires.counted in
    let same : c.drop_first-is_last.new.self.unfinished ≡ c.args.self.now.unfinished = ap (λ (q : Progress). q.unfinished) (c.drop_first-is_last.ensures.dropped w.set w.first w.rest w.there) in
    omega (arith, some, same)

pub end_set-requires-clause-open : goal.end_set-requires-clause-open
end_set-requires-clause-open c =
    let p = c.args.self.now in
    let w = c.requires.stands in
    subst (λ (q : Progress). IsOpenSet q.sets.edges q.sets.sets c.args.place.at) (sym (c.drop_first-is_last.ensures.dropped w.set w.first w.rest w.there))
    (open_still p.sets.edges p.sets.sets c.args.place.at (Waiting w.rest) c.requires.ascend c.requires.opened)

pub end_set-requires-clause-blocks : goal.end_set-requires-clause-blocks
end_set-requires-clause-blocks c =
    let p = c.args.self.now in
    let w = c.requires.stands in
    subst (λ (q : Progress). (j : ℕ) (set : Kept SetStage) → slice_get q.sets.sets j ≡ Some set → set.0.block < q.pieces.blocks) (sym (c.drop_first-is_last.ensures.dropped w.set w.first w.rest w.there))
    (blocks_still p.sets.sets c.args.place.at (Some (Waiting w.rest)) p.pieces.blocks c.requires.blocks)

pub end_set-requires-clause-ascend : goal.end_set-requires-clause-ascend
end_set-requires-clause-ascend c =
    let p = c.args.self.now in
    let w = c.requires.stands in
    subst (λ (q : Progress). T (is_sorted set_cmp q.sets.sets)) (sym (c.drop_first-is_last.ensures.dropped w.set w.first w.rest w.there))
    (subst T (sym (sorted_stays p.sets.sets c.args.place.at (Some (Waiting w.rest)))) c.requires.ascend)

pub end_set-requires-clause-batch : goal.end_set-requires-clause-batch
end_set-requires-clause-batch c =
    let p = c.args.self.now in
    let w = c.requires.stands in
    let lt : c.args.place.batch < length p.batches.items = slice_get_within p.batches.items c.args.place.batch c.requires.loaded c.requires.loaded_there in
    let same : length c.drop_first-is_last.new.self.batches.items ≡ length p.batches.items = ap (λ (q : Progress). length q.batches.items) (c.drop_first-is_last.ensures.dropped w.set w.first w.rest w.there) in
    omega (arith, lt, same)

pub returns-then-is_last : goal.returns-then-is_last
returns-then-is_last c = λ kept_now stands set first rest there own.
    let p = c.args.self.now in
    let dropped = c.drop_first-is_last.new.self in
    let is = c.drop_first-is_last.ensures.dropped set first rest there in
    let none : has_numbers rest ≡ false = was_last (has_numbers rest) c.drop_first-is_last.result (c.drop_first-is_last.ensures.last set first rest there) c.if-is_last.true in
    let after : ◌≡◌ {A = Option SetStage} None (after_first rest) = sym (ap (λ b. cond b (Some (Waiting rest)) None) none) in
    let counted : p.unfinished ≡ dropped.unfinished = ap (λ (q : Progress). q.unfinished) (sym is) in
    let some = c.requires.counted in
    let same = c.end_set.ensures.unfinished in
    finished_to p c.args.place kept_now c.args.noted dropped (sets_alone p dropped _ is) dropped.batches.items
    (values_stay dropped.batches.items c.args.place.batch c.args.place.index kept_now stands.0 (ap (λ (q : Progress). slice_get q.batches.items c.args.place.batch) is ∙ stands.1) stands.2) set (after_first rest) own c.end_set.new.self
    c.end_set.ensures.pieces
    (c.end_set.ensures.sets
    ∙ ap (λ (q : Progress). record { edges = q.sets.edges; blocks = q.sets.blocks; sets = with_kept_at q.sets.sets c.args.place.at None }) is
    ∙ (λ k. record p.sets { sets = (kept_twice p.sets.sets c.args.place.at (Some (Waiting rest)) None ∙ ap (with_kept_at p.sets.sets c.args.place.at) after) k }))
    (c.end_set.ensures.note_is ∙ c.lesser-self.ensures)
    c.end_set.ensures.first
    c.end_set.ensures.next
    (omega (arith, counted, some, same))
    c.end_set.ensures.closed
    (subst (λ n. n ≤ dropped.recent) (sym c.end_set.ensures.recent) c.earlier-self.ensures.first, subst (λ n. n ≤ c.args.place.at) (sym c.end_set.ensures.recent) c.earlier-self.ensures.second)
    c.end_set.ensures.batches
    c.end_set.ensures.values

pub returns-else-is_last : goal.returns-else-is_last
returns-else-is_last c = λ kept_now stands set first rest there own.
    let p = c.args.self.now in
    let dropped = c.drop_first-is_last.new.self in
    let is = c.drop_first-is_last.ensures.dropped set first rest there in
    let more : has_numbers rest ≡ true = was_not_last (has_numbers rest) c.drop_first-is_last.result (c.drop_first-is_last.ensures.last set first rest there) c.if-is_last.false in
    let after : ◌≡◌ {A = Option SetStage} (Some (Waiting rest)) (after_first rest) = sym (ap (λ b. cond b (Some (Waiting rest)) None) more) in
    let counted : p.unfinished ≡ dropped.unfinished = ap (λ (q : Progress). q.unfinished) (sym is) in
    let some = c.requires.counted in
    finished_to p c.args.place kept_now c.args.noted dropped (sets_alone p dropped _ is) dropped.batches.items
    (values_stay dropped.batches.items c.args.place.batch c.args.place.index kept_now stands.0 (ap (λ (q : Progress). slice_get q.batches.items c.args.place.batch) is ∙ stands.1) stands.2) set (after_first rest) own _
    refl
    (ap (λ (q : Progress). q.sets) is ∙ ap (λ (o : Option SetStage). record p.sets { sets = with_kept_at p.sets.sets c.args.place.at o }) after)
    c.lesser-self.ensures
    refl
    refl
    (omega (arith, counted, some))
    refl
    (c.earlier-self.ensures.first, c.earlier-self.ensures.second)
    refl
    (λ k loaded at left. (loaded, at, refl, refl))
