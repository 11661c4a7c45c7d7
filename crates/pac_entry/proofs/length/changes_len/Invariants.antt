-- The bytes so far are those of the records so far.
use Rattle.std.proofs.Common.{◌≡◌, ◌≤◌, ◌*◌, length, take}
use Rattle.std.specs.List.{flat_map}
use Rattle.pac_entry.specs.declared.length.TheConstants.{MAX_CHANGE_LEN}
use Rattle.pac_entry.specs.Entries.{change_bytes}
use Rattle.pac_entry.proofs.length.changes_len.Given as goal

abbrev pub invariant-loop-change : goal.invariant-loop-change
invariant-loop-change l = record {
  exact : l.len ≡ length (flat_map change_bytes (take l.change-index l.changes));
  few : l.len ≤ MAX_CHANGE_LEN * l.change-index;
}
