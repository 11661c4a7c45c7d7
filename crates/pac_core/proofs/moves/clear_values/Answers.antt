-- Of one batch none are kept.
use Rattle.std.proofs.Common.{length, refl}
use Rattle.std.proofs.lemmas.Option.{slice_get_read}
use Rattle.pac_core.specs.Moves.{keeps_none}
use Rattle.pac_core.proofs.ValuesKept.{values_kept}
use Rattle.pac_core.proofs.moves.clear_values.Goals as goal

pub returns : goal.returns
returns c =
    let old = c.args.batches.now.items in
    values_kept old c.args.batch c.index_mut.result.now _ (slice_get_read old (length old) c.args.batch c.index_mut.result.now refl c.requires c.index_mut.ensures.value) refl keeps_none c.new.ensures.items
