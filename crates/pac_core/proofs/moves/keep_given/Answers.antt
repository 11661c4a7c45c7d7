-- Of one transaction those that were given are kept.
use Rattle.std.proofs.Common.{◌≡◌, ◌<◌, length, refl, sym, ap, subst, ◌∙◌, arith}
use Rattle.std.specs.Prelude.{slice_get, slice_set}
use Rattle.std.proofs.lemmas.Option.{same_Some, slice_get_read, slice_get_within}
use Rattle.pac_core.specs.declared.loaded.LoadedBatch.{LoadedBatch}
use Rattle.pac_core.specs.Moves.{keeps_all}
use Rattle.pac_core.proofs.Lists.{set_back}
use Rattle.pac_core.proofs.LeftValues.{has_given, on_err_by, on_ok_by}
use Rattle.pac_core.proofs.ValuesKept.{values_kept}
use Rattle.pac_core.proofs.moves.keep_given.Goals as goal

pub index_mut-requires-2 : goal.index_mut-requires-2
index_mut-requires-2 g c =
    let old = c.args.batches.now.items in
    let there = slice_get_read old (length old) c.args.place.batch c.index_mut.result.now refl (slice_get_within old c.args.place.batch c.requires.there.0 c.requires.there.1) c.index_mut.ensures.value in
    let inside : c.args.place.index < length c.index_mut.result.now.kept.items = subst (λ (l : LoadedBatch). c.args.place.index < length l.kept.items) (same_Some _ _ (sym c.requires.there.1 ∙ there)) c.requires.there.2 in
    omega (arith, inside, c.index_mut.result.now.kept.ok.0)

pub returns-clause-gives : goal.returns-clause-gives
returns-clause-gives g c =
    let old = c.args.batches.now.items in
    let loaded = c.index_mut.result.now in
    let kept = c.index_mut-2.result.now in
    let there : slice_get old c.args.place.batch ≡ _ = slice_get_read old (length old) c.args.place.batch loaded refl (slice_get_within old c.args.place.batch c.requires.there.0 c.requires.there.1) c.index_mut.ensures.value in
    let inside = subst (λ (l : LoadedBatch). c.args.place.index < length l.kept.items) (same_Some _ _ (sym c.requires.there.1 ∙ there)) c.requires.there.2 in
    on_ok_by c.leave.result (λ gives. has_given old c.args.place.batch c.args.place.index c.args.vars.now c.args.given.now loaded _ kept c.leave.new.self there
    (slice_get_read loaded.kept.items (length loaded.kept.items) c.args.place.index kept refl inside c.index_mut-2.ensures.value) refl refl gives) c.leave.ensures.gives

pub returns-clause-kept : goal.returns-clause-kept
returns-clause-kept g c =
    let old = c.args.batches.now.items in
    let loaded = c.index_mut.result.now in
    let kept = c.index_mut-2.result.now in
    let there = slice_get_read old (length old) c.args.place.batch loaded refl (slice_get_within old c.args.place.batch c.requires.there.0 c.requires.there.1) c.index_mut.ensures.value in
    let inside = subst (λ (l : LoadedBatch). c.args.place.index < length l.kept.items) (same_Some _ _ (sym c.requires.there.1 ∙ there)) c.requires.there.2 in
    on_err_by c.leave.result (λ same. values_kept old c.args.place.batch loaded _ there refl keeps_all
    (ap (slice_set loaded.kept.items c.args.place.index) same
    ∙ set_back loaded.kept.items c.args.place.index kept (slice_get_read loaded.kept.items (length loaded.kept.items) c.args.place.index kept refl inside c.index_mut-2.ensures.value))) c.leave.ensures.kept
