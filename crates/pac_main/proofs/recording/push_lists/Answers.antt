-- Each step writes one list.
use Rattle.std.proofs.Common.{[], ◌<◌, length, arith}
use Rattle.std.specs.Prelude.{slice_index_or}
use Rattle.std.specs.List.{All}
use Rattle.std.proofs.lemmas.List.{get_or_default}
use Rattle.std.proofs.lemmas.List.Elements.{All-more}
use Rattle.pac_entry.specs.Entries.{ChangeHasBytes}
use Rattle.pac_entry.proofs.WrittenLemmas.{one_more}
use Rattle.pac_tuple.specs.Images.{AreTxnImages, images_bytes}
use Rattle.pac_main.proofs.recording.push_lists.Goals as goal

pub loop-at-preserved : goal.loop-at-preserved
loop-at-preserved c =
    let images = c.args.images.now in
    let at = c.loop-at.at in
    let inside : at < length images = omega (arith, c.loop-at-test.true, c.len-at-end.ensures) in
    record {
      bytes = one_more images_bytes _ _ _ images at (slice_index_or images at []) inside (get_or_default images at [] (slice_index_or images at []) inside) c.in_ok-write_images.ensures.bytes c.loop-at.invariant.bytes;
      lists = All-more AreTxnImages images at [] inside c.loop-at.invariant.lists c.in_ok-write_images.ensures.list;
      form = All-more (All ChangeHasBytes) images at [] inside c.loop-at.invariant.form c.in_ok-write_images.ensures.form;
    }
