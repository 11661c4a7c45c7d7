-- What stands at the place.
use Rattle.std.proofs.Common.{◌≡◌, ◌<◌, List, length, get_or, refl, sym, ap, subst, ◌∙◌}
use Rattle.std.proofs.lemmas.Option.{same_Some, slice_get_read, slice_get_within}
use Rattle.pac_ops.specs.declared.transaction.Txn.{Txn}
use Rattle.pac_core.specs.declared.loaded.LoadedBatch.{LoadedBatch}
use Rattle.pac_core.proofs.progress.Progress.txn_at.Goals as goal

pub returns : goal.returns
returns c =
    let items = c.args.self.now.batches.items in
    let at = c.requires.txn in
    let there = slice_get_read items (length items) c.args.place.batch c.index.result.now refl (slice_get_within items c.args.place.batch at.loaded at.there) c.index.ensures in
    let same : at.loaded ≡ c.index.result.now = same_Some _ _ (sym at.there ∙ there) in (
      c.index.result.now,
      there,
      slice_get_read c.index.result.now.batch.txns (length c.index.result.now.batch.txns) c.args.place.index c.index-items-place.result refl
          (subst (λ (l : LoadedBatch). c.args.place.index < length l.batch.txns) same at.inside)
          (c.index-items-place.is ∙ ap (λ (xs : List Txn). get_or xs c.args.place.index c.index-items-place.result) c.items.ensures.value),
    )
