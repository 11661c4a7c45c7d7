-- Each step writes one image.
use Rattle.std.proofs.lemmas.List.Elements.{All-more}
use Rattle.pac_entry.specs.Entries.{change_bytes, ChangeHasBytes}
use Rattle.pac_entry.proofs.WrittenLemmas.{one_more}
use Rattle.pac_tuple.proofs.writing.put_all.Goals as goal

pub loop-image-preserved : goal.loop-image-preserved
loop-image-preserved c = record {
  bytes = one_more change_bytes _ _ _ c.args.images.now c.loop-image.image-index c.image-item.result c.loop-image-test.true c.image-item.is c.in_ok-put_change.ensures.bytes c.loop-image.invariant.bytes;
  form = All-more ChangeHasBytes c.args.images.now c.loop-image.image-index c.image-item.result c.loop-image-test.true c.loop-image.invariant.form (rw (← c.image-item.is) c.in_ok-put_change.ensures.form);
}
