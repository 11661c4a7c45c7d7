-- What is written so far are the values so far.
use Rattle.std.proofs.Common.{◌≡◌, ◌++◌, take}
use Rattle.std.specs.List.{All}
use Rattle.pac_bytes.specs.Values.{HasBytes}
use Rattle.pac_bytes.specs.Typed.{values_bytes}
use Rattle.pac_entry.proofs.writing.put_each.Given as goal

abbrev pub invariant-loop-value : goal.invariant-loop-value
invariant-loop-value l = record {
  bytes : l.out.items ≡ l.fn.out.items ++ values_bytes (take l.value-index l.values);
  form : All HasBytes (take l.value-index l.values);
}
