-- What is written so far are the records so far.
use Rattle.std.proofs.Common.{◌≡◌, ◌++◌, take}
use Rattle.std.specs.List.{flat_map, All}
use Rattle.pac_entry.specs.Entries.{change_bytes, ChangeHasBytes}
use Rattle.pac_entry.proofs.writing.put_changes.Given as goal

abbrev pub invariant-loop-change : goal.invariant-loop-change
invariant-loop-change l = record {
  bytes : l.out.items ≡ l.fn.out.items ++ flat_map change_bytes (take l.change-index l.changes);
  form : All ChangeHasBytes (take l.change-index l.changes);
}
