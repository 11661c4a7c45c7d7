-- By what others need of the piece of the transaction.
use Rattle.std.proofs.Common.{◌≡◌, ◌<◌, List, [], length, get_or, refl, sym, ap, subst, ◌∙◌}
use Rattle.std.proofs.lemmas.Option.{same_Some, slice_get_read, slice_get_within}
use Rattle.pac_ops.specs.declared.transaction.Txn.{Txn}
use Rattle.pac_core.specs.declared.loaded.LoadedBatch.{LoadedBatch}
use Rattle.pac_core.specs.Inputs.{PassesOn}
use Rattle.pac_core.proofs.LeftValues.{on_ok_by}
use Rattle.pac_core.proofs.events.keep_left.Goals as goal

pub interface_of-requires-clause-fits : goal.interface_of-requires-clause-fits
interface_of-requires-clause-fits g c =
    let items = c.args.batches.now.items in
    let at = c.requires.inside in
    let there = slice_get_read items (length items) c.args.place.batch c.index.result.now refl (slice_get_within items c.args.place.batch at.0 at.1) c.index.ensures in
    let same : at.0 ≡ c.index.result.now = same_Some _ _ (sym at.1 ∙ there) in
    c.requires.fits c.index.result.now c.index-items-place.result there
    (slice_get_read c.index.result.now.batch.txns (length c.index.result.now.batch.txns) c.args.place.index c.index-items-place.result refl
    (subst (λ (l : LoadedBatch). c.args.place.index < length l.batch.txns) same at.2)
    (c.index-items-place.is ∙ ap (λ (xs : List Txn). get_or xs c.args.place.index c.index-items-place.result) c.items.ensures.value))

pub returns-in-Some-clause-left : goal.returns-in-Some-clause-left
returns-in-Some-clause-left g c =
    let items = c.args.batches.now.items in
    let at = c.requires.inside in
    let there = slice_get_read items (length items) c.args.place.batch c.index.result.now refl (slice_get_within items c.args.place.batch at.0 at.1) c.index.ensures in
    let same : at.0 ≡ c.index.result.now = same_Some _ _ (sym at.1 ∙ there) in
    on_ok_by c.keep_given.result (λ given. record {
      loaded = c.index.result.now;
      there = there;
      txn = c.index-items-place.result;
      txn_there = slice_get_read c.index.result.now.batch.txns (length c.index.result.now.batch.txns) c.args.place.index c.index-items-place.result refl
          (subst (λ (l : LoadedBatch). c.args.place.index < length l.batch.txns) same at.2)
          (c.index-items-place.is ∙ ap (λ (xs : List Txn). get_or xs c.args.place.index c.index-items-place.result) c.items.ensures.value);
      vars = c.as_slice-vars.result.now;
      outputs = subst (PassesOn c.args.pieces.now c.args.block c.index-items-place.result) (sym c.as_slice-vars.ensures) c.in-Some.ensures.some;
      given = given;
    }) c.keep_given.ensures.gives

pub returns-in-None-clause-left : goal.returns-in-None-clause-left
returns-in-None-clause-left g c =
    let items = c.args.batches.now.items in
    let at = c.requires.inside in
    let there = slice_get_read items (length items) c.args.place.batch c.index.result.now refl (slice_get_within items c.args.place.batch at.0 at.1) c.index.ensures in
    let same : at.0 ≡ c.index.result.now = same_Some _ _ (sym at.1 ∙ there) in
    on_ok_by c.keep_given-in-None.result (λ given. record {
      loaded = c.index.result.now;
      there = there;
      txn = c.index-items-place.result;
      txn_there = slice_get_read c.index.result.now.batch.txns (length c.index.result.now.batch.txns) c.args.place.index c.index-items-place.result refl
          (subst (λ (l : LoadedBatch). c.args.place.index < length l.batch.txns) same at.2)
          (c.index-items-place.is ∙ ap (λ (xs : List Txn). get_or xs c.args.place.index c.index-items-place.result) c.items.ensures.value);
      vars = [];
      outputs = c.in-None.ensures.none;
      given = given;
    }) c.keep_given-in-None.ensures.gives
