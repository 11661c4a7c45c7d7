-- By its set, its batch and its schedule.
use Rattle.std.proofs.Common.{◌≡◌, ◌-◌, ◌<◌, length, get_or, refl, sym, ap, subst, ◌∙◌, arith}
use Rattle.std.proofs.lemmas.Option.{same_Some, slice_get_read, slice_get_within}
use Rattle.pac_sched.specs.declared.state.PieceState.TheVariants.{Out}
use Rattle.pac_sets.specs.declared.set_id.SetId.{SetId}
use Rattle.pac_sets.specs.Sets.{Kept}
use Rattle.pac_core.specs.declared.stage.SetStage.{SetStage}
use Rattle.pac_core.specs.Places.{IsPieceAt}
use Rattle.pac_core.proofs.ReadyPlaces.{begins_in, loaded_in, placed_in}
use Rattle.pac_core.proofs.progress.Progress.place_in.Goals as goal

pub index-requires : goal.index-requires
index-requires c =
    let p = c.args.self.now in
    let s = c.in_ok-position.ensures.found in
    let same : s.set ≡ c.get.result.now.0 = ap (λ (x : Kept SetStage). x.0) (same_Some _ _ (sym s.there ∙ c.get.ensures)) in
    let l = loaded_in c.requires.job p c.requires.keeps c.args.at c.args.piece s.set s.opening s.there c.in_ok-position.position s.position_is in
    let lt : s.set.batch < length p.batches.items = slice_get_within p.batches.items s.set.batch l.0 l.1 in
    let batch : s.set.batch ≡ c.get.result.now.0.batch = ap (λ (x : SetId). x.batch) same in
    omega (arith, lt, batch, p.batches.ok.0)

pub overflow_sub-index : goal.overflow_sub-index
overflow_sub-index c =
    let p = c.args.self.now in
    let s = c.in_ok-position.ensures.found in
    let same : s.set ≡ c.get.result.now.0 = ap (λ (x : Kept SetStage). x.0) (same_Some _ _ (sym s.there ∙ c.get.ensures)) in
    let l = loaded_in c.requires.job p c.requires.keeps c.args.at c.args.piece s.set s.opening s.there c.in_ok-position.position s.position_is in
    let lt : s.set.batch < length p.batches.items = slice_get_within p.batches.items s.set.batch l.0 l.1 in
    begins_in c.requires.job p c.requires.keeps c.args.at c.args.piece s.set s.opening s.there c.in_ok-position.position s.position_is c.index.result.now
    (slice_get_read p.batches.items (length p.batches.items) s.set.batch c.index.result.now refl lt
    (c.index.ensures ∙ ap (λ (x : SetId). get_or p.batches.items x.batch c.index.result.now) (sym same)))

pub returns : goal.returns
returns c =
    let p = c.args.self.now in
    let s = c.in_ok-position.ensures.found in
    let same : s.set ≡ c.get.result.now.0 = ap (λ (x : Kept SetStage). x.0) (same_Some _ _ (sym s.there ∙ c.get.ensures)) in
    let l = loaded_in c.requires.job p c.requires.keeps c.args.at c.args.piece s.set s.opening s.there c.in_ok-position.position s.position_is in
    let lt : s.set.batch < length p.batches.items = slice_get_within p.batches.items s.set.batch l.0 l.1 in
    subst (λ (x : SetId). IsPieceAt p (record { at = c.args.at; position = c.in_ok-position.position; batch = x.batch; index = c.args.piece.txn - c.index.result.now.batch.first }) c.args.piece Out) same
    (placed_in c.requires.job p c.requires.keeps c.args.at c.args.piece s.set s.opening s.there c.in_ok-position.position s.position_is c.index.result.now
    (slice_get_read p.batches.items (length p.batches.items) s.set.batch c.index.result.now refl lt
    (c.index.ensures ∙ ap (λ (x : SetId). get_or p.batches.items x.batch c.index.result.now) (sym same)))
    Out s.far_is)
