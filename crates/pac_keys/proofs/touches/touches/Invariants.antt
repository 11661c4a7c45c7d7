-- The touches so far, and those of the operations that are left, are all.
use Rattle.std.proofs.Common.{◌≡◌, ◌++◌, drop, false}
use Rattle.std.specs.List.{filter_map, list_any, AllByRecursion}
use Rattle.pac_keys.specs.Probes.{CanProbe, is_open, touch_of}
use Rattle.pac_keys.proofs.touches.touches.Given as goal

abbrev pub invariant-loop-probe : goal.invariant-loop-probe
invariant-loop-probe l = record {
  typed : AllByRecursion (CanProbe l.env) (drop l.probe-index l.probes);
  closed : list_any (is_open l.env) (drop l.probe-index l.probes) ≡ false;
  all : l.touches.items ++ filter_map (touch_of l.env) (drop l.probe-index l.probes) ≡ filter_map (touch_of l.env) l.probes;
}
