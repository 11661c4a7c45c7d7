-- What stands at the place.
use Rattle.std.proofs.Common.{◌≡◌, ◌<◌, length, refl, sym, subst, ◌∙◌}
use Rattle.std.proofs.lemmas.Option.{same_Some, slice_get_read, slice_get_within}
use Rattle.pac_core.specs.declared.loaded.LoadedBatch.{LoadedBatch}
use Rattle.pac_core.proofs.PlacedTxns.{kept_len}
use Rattle.pac_core.proofs.progress.Progress.values_at.Goals as goal

pub returns : goal.returns
returns c =
    let items = c.args.self.now.batches.items in
    let at = c.requires.place.txn in
    let there = slice_get_read items (length items) c.args.place.batch c.index.result.now refl (slice_get_within items c.args.place.batch at.loaded at.there) c.index.ensures in
    let same : at.loaded ≡ c.index.result.now = same_Some _ _ (sym at.there ∙ there) in
    let len : length at.loaded.kept.items ≡ length at.loaded.batch.txns = kept_len c.requires.kept.job c.args.self.now c.requires.kept.keeps c.args.place c.args.piece c.requires.place in (
      c.index.result.now,
      there,
      slice_get_read c.index.result.now.kept.items (length c.index.result.now.kept.items) c.args.place.index c.index-2.result.now refl
          (subst (λ (l : LoadedBatch). c.args.place.index < length l.kept.items) same (subst (λ n. c.args.place.index < n) (sym len) at.inside))
          c.index-2.ensures,
    )
