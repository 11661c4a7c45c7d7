-- The set is lifted, its piece is finished, and it is kept again or ends.
use Rattle.std.proofs.Common.{◌≡◌, ℕ, ◌<◌, ◌≤◌, ◌==◌, true, false, [], length, Option, Some, refl, sym, ap, subst, ◌∙◌, arith}
use Rattle.std.specs.Prelude.{slice_get, T}
use Rattle.std.specs.FinMap.{is_sorted}
use Rattle.std.proofs.lemmas.Option.{slice_get_within}
use Rattle.pac_base.proofs.TestLemmas.{equal_number, same_number, unlike}
use Rattle.pac_sched.specs.declared.state.PieceState.TheVariants as state
use Rattle.pac_sched.specs.Schedules.{IsInOrder, Schedule, all_finished, unfinished_pieces, with_state}
use Rattle.pac_sets.specs.SetOrder.{set_cmp}
use Rattle.pac_sets.specs.Sets.{IsOpenSet, Kept, Setting, with_kept_at}
use Rattle.pac_sets.proofs.KeptLemmas.{sorted_stays}
use Rattle.pac_core.specs.declared.progress.Progress.{Progress}
use Rattle.pac_core.specs.declared.stage.OpenSet.{OpenSet}
use Rattle.pac_core.specs.declared.stage.SetStage.{SetStage}
use Rattle.pac_core.specs.declared.stage.SetStage.TheVariants.{Open, Waiting}
use Rattle.pac_core.proofs.EndedSet.{blocks_still, open_still}
use Rattle.pac_core.specs.Moves.{after_finish, finished_in}
use Rattle.pac_core.proofs.FinishedPiece.{after_some, ended_sets, finished_test, finished_to, sets_alone}
use Rattle.pac_core.proofs.KeptAt.{get_changed}
use Rattle.pac_core.proofs.Moved.{open_is, sets_kept}
use Rattle.pac_core.proofs.ValuesKept.{values_stay}
use Rattle.pac_core.proofs.progress.Progress.finish.Goals as goal

pub keep-requires : goal.keep-requires
keep-requires c = (
  c.requires.placed.stands.set,
  Waiting [],
  ap (λ (p : Progress). slice_get p.sets.sets c.args.place.at) c.lift-open.ensures.now
      ∙ get_changed c.args.self.now.sets.sets c.args.place.at (c.requires.placed.stands.set, Some (Open c.requires.placed.stands.opening)) (Some (Waiting [])) c.requires.placed.stands.there,
)

-- ---- the set after its piece is finished

pub end_set-requires-clause-open : goal.end_set-requires-clause-open
end_set-requires-clause-open c =
    let p = c.args.self.now in
    let now = finished_in c.requires.placed.stands.opening c.args.piece in
    let was = c.lift-open.ensures.was c.requires.placed.stands.set c.requires.placed.stands.opening c.requires.placed.stands.there in
    let kept : c.keep.new.self ≡ record p.sets { sets = with_kept_at p.sets.sets c.args.place.at (Some (Open now)) } =
    sets_kept p c.lift-open.new.self c.args.place.at c.lift-open.ensures.now c.keep.new.self (Some (Open now))
    (c.keep.ensures ∙ ap (λ (o : OpenSet). record c.lift-open.new.self.sets { sets = with_kept_at c.lift-open.new.self.sets.sets c.args.place.at (Some (Open o)) })
    (open_is (λ (s : Schedule). with_state s c.args.piece state.Finished) c.lift-open.result c.requires.placed.stands.opening c.finish.new.self c.finish.ensures was)) in
    subst (λ (s : Setting SetStage). IsOpenSet s.edges s.sets c.args.place.at) (sym kept) (open_still p.sets.edges p.sets.sets c.args.place.at (Open now) c.requires.ascend c.requires.opened)

pub end_set-requires-clause-blocks : goal.end_set-requires-clause-blocks
end_set-requires-clause-blocks c =
    let p = c.args.self.now in
    let now = finished_in c.requires.placed.stands.opening c.args.piece in
    let was = c.lift-open.ensures.was c.requires.placed.stands.set c.requires.placed.stands.opening c.requires.placed.stands.there in
    let kept : c.keep.new.self ≡ record p.sets { sets = with_kept_at p.sets.sets c.args.place.at (Some (Open now)) } =
    sets_kept p c.lift-open.new.self c.args.place.at c.lift-open.ensures.now c.keep.new.self (Some (Open now))
    (c.keep.ensures ∙ ap (λ (o : OpenSet). record c.lift-open.new.self.sets { sets = with_kept_at c.lift-open.new.self.sets.sets c.args.place.at (Some (Open o)) })
    (open_is (λ (s : Schedule). with_state s c.args.piece state.Finished) c.lift-open.result c.requires.placed.stands.opening c.finish.new.self c.finish.ensures was)) in
    subst (λ (q : Progress). (j : ℕ) (set : Kept SetStage) → slice_get c.keep.new.self.sets j ≡ Some set → set.0.block < q.pieces.blocks) (sym c.lift-open.ensures.now)
    (subst (λ (s : Setting SetStage). (j : ℕ) (set : Kept SetStage) → slice_get s.sets j ≡ Some set → set.0.block < p.pieces.blocks) (sym kept)
    (blocks_still p.sets.sets c.args.place.at (Some (Open now)) p.pieces.blocks c.requires.blocks))

pub end_set-requires-clause-ascend : goal.end_set-requires-clause-ascend
end_set-requires-clause-ascend c =
    let p = c.args.self.now in
    let now = finished_in c.requires.placed.stands.opening c.args.piece in
    let was = c.lift-open.ensures.was c.requires.placed.stands.set c.requires.placed.stands.opening c.requires.placed.stands.there in
    let kept : c.keep.new.self ≡ record p.sets { sets = with_kept_at p.sets.sets c.args.place.at (Some (Open now)) } =
    sets_kept p c.lift-open.new.self c.args.place.at c.lift-open.ensures.now c.keep.new.self (Some (Open now))
    (c.keep.ensures ∙ ap (λ (o : OpenSet). record c.lift-open.new.self.sets { sets = with_kept_at c.lift-open.new.self.sets.sets c.args.place.at (Some (Open o)) })
    (open_is (λ (s : Schedule). with_state s c.args.piece state.Finished) c.lift-open.result c.requires.placed.stands.opening c.finish.new.self c.finish.ensures was)) in
    subst (λ (s : Setting SetStage). T (is_sorted set_cmp s.sets)) (sym kept) (subst T (sym (sorted_stays p.sets.sets c.args.place.at (Some (Open now)))) c.requires.ascend)

pub end_set-requires-clause-batch : goal.end_set-requires-clause-batch
end_set-requires-clause-batch c =
    let p = c.args.self.now in
    let lt : c.args.place.batch < length p.batches.items = slice_get_within p.batches.items c.args.place.batch c.requires.placed.txn.loaded c.requires.placed.txn.there in
    let lifted : length c.lift-open.new.self.batches.items ≡ length p.batches.items = ap (λ (q : Progress). length q.batches.items) c.lift-open.ensures.now in
    omega (arith, lt, lifted)

-- ---- the end

pub returns-then-is_done-clause-finished : goal.returns-then-is_done-clause-finished
returns-then-is_done-clause-finished c = λ kept_now stands set opening there own.
    let p = c.args.self.now in
    let lifted = c.lift-open.new.self in
    let now = finished_in opening c.args.piece in
    let done = open_is (λ (s : Schedule). with_state s c.args.piece state.Finished) c.lift-open.result opening c.finish.new.self c.finish.ensures (c.lift-open.ensures.was set opening there) in
    let kept : c.keep.new.self ≡ record p.sets { sets = with_kept_at p.sets.sets c.args.place.at (Some (Open now)) } =
    sets_kept p lifted c.args.place.at c.lift-open.ensures.now c.keep.new.self (Some (Open now))
    (c.keep.ensures ∙ ap (λ (o : OpenSet). record lifted.sets { sets = with_kept_at lifted.sets.sets c.args.place.at (Some (Open o)) }) done) in
    let all : all_finished now.sched ≡ true =
    finished_test now.sched ∙ ap (λ (o : OpenSet). unfinished_pieces o.sched == 0) (sym done) ∙ ap (λ n. n == 0) (sym c.unfinished-is_done.ensures) ∙ equal_number c.unfinished-is_done.result 0 c.if-is_done.true in
    let counted : c.args.self.now.unfinished ≡ lifted.unfinished = ap (λ (q : Progress). q.unfinished) (sym c.lift-open.ensures.now) in
    let some = c.requires.counted in
    let same = c.end_set.ensures.unfinished in
    finished_to p c.args.place kept_now c.args.note lifted (sets_alone p lifted _ c.lift-open.ensures.now) lifted.batches.items
    (values_stay lifted.batches.items c.args.place.batch c.args.place.index kept_now stands.0 (ap (λ (q : Progress). slice_get q.batches.items c.args.place.batch) c.lift-open.ensures.now ∙ stands.1) stands.2) set (after_finish now) own c.end_set.new.self
    c.end_set.ensures.pieces
    (ended_sets p c.args.place.at now all c.keep.new.self c.end_set.new.self.sets kept c.end_set.ensures.sets)
    (c.end_set.ensures.note_is ∙ c.lesser-self.ensures)
    c.end_set.ensures.first
    c.end_set.ensures.next
    (omega (arith, counted, some, same))
    c.end_set.ensures.closed
    (subst (λ n. n ≤ lifted.recent) (sym c.end_set.ensures.recent) c.earlier-self.ensures.first, subst (λ n. n ≤ c.args.place.at) (sym c.end_set.ensures.recent) c.earlier-self.ensures.second)
    c.end_set.ensures.batches
    c.end_set.ensures.values

pub returns-else-is_done-clause-finished : goal.returns-else-is_done-clause-finished
returns-else-is_done-clause-finished c = λ kept_now stands set opening there own.
    let p = c.args.self.now in
    let lifted = c.lift-open.new.self in
    let now = finished_in opening c.args.piece in
    let done = open_is (λ (s : Schedule). with_state s c.args.piece state.Finished) c.lift-open.result opening c.finish.new.self c.finish.ensures (c.lift-open.ensures.was set opening there) in
    let kept : c.keep.new.self ≡ record p.sets { sets = with_kept_at p.sets.sets c.args.place.at (Some (Open now)) } =
    sets_kept p lifted c.args.place.at c.lift-open.ensures.now c.keep.new.self (Some (Open now))
    (c.keep.ensures ∙ ap (λ (o : OpenSet). record lifted.sets { sets = with_kept_at lifted.sets.sets c.args.place.at (Some (Open o)) }) done) in
    let some_left : all_finished now.sched ≡ false =
    finished_test now.sched ∙ ap (λ (o : OpenSet). unfinished_pieces o.sched == 0) (sym done) ∙ ap (λ n. n == 0) (sym c.unfinished-is_done.ensures) ∙ unlike (c.unfinished-is_done.result == 0) (λ h. c.if-is_done.false (same_number c.unfinished-is_done.result 0 h)) in
    let counted : c.args.self.now.unfinished ≡ lifted.unfinished = ap (λ (q : Progress). q.unfinished) (sym c.lift-open.ensures.now) in
    let some = c.requires.counted in
    finished_to p c.args.place kept_now c.args.note lifted (sets_alone p lifted _ c.lift-open.ensures.now) lifted.batches.items
    (values_stay lifted.batches.items c.args.place.batch c.args.place.index kept_now stands.0 (ap (λ (q : Progress). slice_get q.batches.items c.args.place.batch) c.lift-open.ensures.now ∙ stands.1) stands.2) set (after_finish now) own _
    refl
    (kept ∙ ap (λ (o : Option SetStage). record p.sets { sets = with_kept_at p.sets.sets c.args.place.at o }) (after_some now some_left))
    c.lesser-self.ensures
    refl
    refl
    (omega (arith, counted, some))
    refl
    (c.earlier-self.ensures.first, c.earlier-self.ensures.second)
    refl
    (λ k loaded at left. (loaded, at, refl, refl))

pub returns-then-is_done-clause-order : goal.returns-then-is_done-clause-order
returns-then-is_done-clause-order c = λ set opening there.
    subst IsInOrder (ap (λ (o : OpenSet). o.sched) (open_is (λ (s : Schedule). with_state s c.args.piece state.Finished) c.lift-open.result opening c.finish.new.self c.finish.ensures (c.lift-open.ensures.was set opening there))) c.keeps_order.ensures

pub returns-else-is_done-clause-order : goal.returns-else-is_done-clause-order
returns-else-is_done-clause-order c = λ set opening there.
    subst IsInOrder (ap (λ (o : OpenSet). o.sched) (open_is (λ (s : Schedule). with_state s c.args.piece state.Finished) c.lift-open.result opening c.finish.new.self c.finish.ensures (c.lift-open.ensures.was set opening there))) c.keeps_order.ensures
