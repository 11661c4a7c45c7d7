-- The bytes so far are those of the values so far.
use Rattle.std.proofs.Common.{◌≡◌, ◌≤◌, ◌*◌, length, take}
use Rattle.pac_bytes.specs.declared.values.TheConstants.{MAX_VALUE_LEN}
use Rattle.pac_bytes.specs.Typed.{values_bytes}
use Rattle.pac_check.proofs.text.values_len.Given as goal

abbrev pub invariant-loop-value : goal.invariant-loop-value
invariant-loop-value l = record {
  exact : l.len ≡ length (values_bytes (take l.value-index l.value-items));
  few : l.len ≤ MAX_VALUE_LEN * l.value-index;
}
