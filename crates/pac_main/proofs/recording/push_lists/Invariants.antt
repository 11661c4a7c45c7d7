-- What is written so far are the lists so far.
use Rattle.std.proofs.Common.{◌≡◌, ◌++◌, take}
use Rattle.std.specs.List.{All}
use Rattle.pac_entry.specs.Entries.{ChangeHasBytes}
use Rattle.pac_tuple.specs.Images.{AreTxnImages}
use Rattle.pac_main.specs.Record.{lists_bytes}
use Rattle.pac_main.proofs.recording.push_lists.Given as goal

abbrev pub invariant-loop-at : goal.invariant-loop-at
invariant-loop-at l = record {
  bytes : l.out.items ≡ l.fn.out.items ++ lists_bytes (take l.at l.images);
  lists : All AreTxnImages (take l.at l.images);
  form : All (All ChangeHasBytes) (take l.at l.images);
}
