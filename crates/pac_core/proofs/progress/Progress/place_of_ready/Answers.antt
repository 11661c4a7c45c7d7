-- By its set, its batch and its schedule.
use Rattle.std.proofs.Common.{◌≡◌, ◌-◌, ◌<◌, length, get_or, refl, sym, ap, subst, ◌∙◌, arith}
use Rattle.std.proofs.lemmas.Option.{none-some, same_Some, slice_get_read, slice_get_within}
use Rattle.pac_sched.specs.declared.state.PieceState.TheVariants.{Waiting}
use Rattle.pac_sched.specs.Schedules.{position_of}
use Rattle.pac_sets.specs.declared.set_id.SetId.{SetId}
use Rattle.pac_sets.specs.Sets.{Kept}
use Rattle.pac_core.specs.declared.stage.OpenSet.{OpenSet}
use Rattle.pac_core.specs.declared.stage.SetStage.{SetStage}
use Rattle.pac_core.specs.Places.{IsPieceAt}
use Rattle.pac_core.proofs.ReadyPlaces.{begins, loaded_there, placed_ready, position_there, same_open}
use Rattle.pac_core.proofs.progress.Progress.place_of_ready.Goals as goal

pub index-requires : goal.index-requires
index-requires c =
    let p = c.args.self.now in
    let ready = c.requires.ready in
    let same : ready.stands.set ≡ c.get.result.now.0 = ap (λ (x : Kept SetStage). x.0) (same_Some _ _ (sym ready.stands.there ∙ c.get.ensures)) in
    let l = loaded_there c.requires.kept.job p c.requires.kept.keeps c.args.at c.args.piece ready in
    let lt : ready.stands.set.batch < length p.batches.items = slice_get_within p.batches.items ready.stands.set.batch l.0 l.1 in
    let batch : ready.stands.set.batch ≡ c.get.result.now.0.batch = ap (λ (s : SetId). s.batch) same in
    omega (arith, lt, batch, p.batches.ok.0)

pub overflow_sub-index : goal.overflow_sub-index
overflow_sub-index c =
    let p = c.args.self.now in
    let ready = c.requires.ready in
    let same : ready.stands.set ≡ c.get.result.now.0 = ap (λ (x : Kept SetStage). x.0) (same_Some _ _ (sym ready.stands.there ∙ c.get.ensures)) in
    let l = loaded_there c.requires.kept.job p c.requires.kept.keeps c.args.at c.args.piece ready in
    let lt : ready.stands.set.batch < length p.batches.items = slice_get_within p.batches.items ready.stands.set.batch l.0 l.1 in
    begins c.requires.kept.job p c.requires.kept.keeps c.args.at c.args.piece ready c.index.result.now
    (slice_get_read p.batches.items (length p.batches.items) ready.stands.set.batch c.index.result.now refl lt
    (c.index.ensures ∙ ap (λ (s : SetId). get_or p.batches.items s.batch c.index.result.now) (sym same)))

pub unreachable-requires : goal.unreachable-requires
unreachable-requires c =
    let p = c.args.self.now in
    let ready = c.requires.ready in
    let o : c.open_at.result.now ≡ ready.stands.opening = same_open p c.args.at ready.stands.set ready.stands.opening c.open_at.result.now ready.stands.there c.open_at.ensures in
    let at = position_there c.requires.kept.job p c.requires.kept.keeps c.args.at c.args.piece ready in
    none-some at.0 (sym c.in-None.is ∙ c.position.ensures ∙ ap (λ (x : OpenSet). position_of x.sched c.args.piece) o ∙ at.1)

pub returns-clause-placed : goal.returns-clause-placed
returns-clause-placed c =
    let p = c.args.self.now in
    let ready = c.requires.ready in
    let o : c.open_at.result.now ≡ ready.stands.opening = same_open p c.args.at ready.stands.set ready.stands.opening c.open_at.result.now ready.stands.there c.open_at.ensures in
    let same : ready.stands.set ≡ c.get.result.now.0 = ap (λ (x : Kept SetStage). x.0) (same_Some _ _ (sym ready.stands.there ∙ c.get.ensures)) in
    let l = loaded_there c.requires.kept.job p c.requires.kept.keeps c.args.at c.args.piece ready in
    let lt : ready.stands.set.batch < length p.batches.items = slice_get_within p.batches.items ready.stands.set.batch l.0 l.1 in
    subst (λ (s : SetId). IsPieceAt p (record { at = c.args.at; position = c.in-Some.position; batch = s.batch; index = c.args.piece.txn - c.index.result.now.batch.first }) c.args.piece Waiting) same
    (placed_ready c.requires.kept.job p c.requires.kept.keeps c.args.at c.args.piece ready c.index.result.now
    (slice_get_read p.batches.items (length p.batches.items) ready.stands.set.batch c.index.result.now refl lt
    (c.index.ensures ∙ ap (λ (s : SetId). get_or p.batches.items s.batch c.index.result.now) (sym same)))
    c.in-Some.position (ap (λ (x : OpenSet). position_of x.sched c.args.piece) (sym o) ∙ sym c.position.ensures ∙ c.in-Some.is))
