-- What is left of operations for the access of their piece: the table operations, each with its conditions on variables
-- from elsewhere.
use Rattle.std.specs.Prelude.{◌≡◌, ℕ, Bool, true, ◌&&◌, not, if◌then◌else◌, List, filter, Option, None}
use Rattle.std.specs.List.{filter_map, list_any}
use Rattle.std.specs.Option.{option_map}
use Rattle.std.specs.Result.{result_ok}
use Rattle.pac_value.specs.declared.values.Key.{Key}
use Rattle.pac_value.specs.Expressions.{Values}
use Rattle.pac_ops.specs.declared.program.FlatOp.{FlatOp}
use Rattle.pac_ops.specs.Uses.{modifies}
use Rattle.pac_ops.specs.Operations.{key_at}
use Rattle.pac_ops.specs.Flat.{all_hold}
use Rattle.pac_ops.specs.Effects.{NumberedOp, target_of, defined_in}
use Rattle.pac_plan.specs.declared.access.Touch.{Touch}
use Rattle.pac_plan.specs.declared.access.Access.{Access}
use Rattle.pac_plan.specs.declared.access.Access.TheVariants.{Keys, Whole}
use Rattle.pac_plan.specs.Pieces.{avoids}
use Rattle.pac_plan.specs.Codes.{IsStoredTyped}
use Rattle.pac_keys.specs.declared.probe.Probe.{Probe}

-- the conditions on variables that the operations don't define
abbrev pub outer_conds : List NumberedOp → List (ℕ × Bool) → List (ℕ × Bool)
outer_conds os conds = filter (λ c. not (defined_in os c.0)) conds

-- the probe of an operation, where it names a table
abbrev pub probe_of : List NumberedOp → FlatOp → Option Probe
probe_of os op = option_map (λ n. record {
  conds = outer_conds os op.conds;
  table = n.0;
  key = n.1;
  is_write = modifies op.kind;
  is_bounded = avoids (defined_in os) n.1;
}) (target_of op.kind)

-- the probes of operations
abbrev pub probes_of : List NumberedOp → List Probe
probes_of os = filter_map (λ o. probe_of os o.1) os

-- the operation may run, and its key is not bounded
abbrev pub is_open : Values → Probe → Bool
is_open env probe = not probe.is_bounded && all_hold env probe.conds

-- the key of an operation that may run, unless it traps
abbrev pub key_touched : Values → Probe → Option Key
key_touched env probe = if all_hold env probe.conds then result_ok (key_at probe.key env) else None

-- the touch of an operation that may run and whose key doesn't trap
abbrev pub touch_of : Values → Probe → Option Touch
touch_of env probe = option_map (λ key. record { table = probe.table; key = key; is_write = probe.is_write }) (key_touched env probe)

-- the access that the probes give
abbrev pub probed : Values → List Probe → Access
probed env probes = if list_any (is_open env) probes then Whole else Keys (filter_map (touch_of env) probes)

-- where an operation may run whose key is bounded, its key has a type, and that is no bool
abbrev pub CanProbe : Values → Probe → Type 0
CanProbe env probe = probe.is_bounded ≡ true → all_hold env probe.conds ≡ true → IsStoredTyped env probe.key
