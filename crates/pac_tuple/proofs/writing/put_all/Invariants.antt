-- What is written so far are the images so far.
use Rattle.std.proofs.Common.{◌≡◌, ◌++◌, take}
use Rattle.std.specs.List.{flat_map, All}
use Rattle.pac_entry.specs.Entries.{change_bytes, ChangeHasBytes}
use Rattle.pac_tuple.proofs.writing.put_all.Given as goal

abbrev pub invariant-loop-image : goal.invariant-loop-image
invariant-loop-image l = record {
  bytes : l.out.items ≡ l.fn.out.items ++ flat_map change_bytes (take l.image-index l.images);
  form : All ChangeHasBytes (take l.image-index l.images);
}
