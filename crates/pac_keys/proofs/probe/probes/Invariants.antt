-- The probes so far, and those of the operations that are left, are all.
use Rattle.std.proofs.Common.{◌≡◌, ◌++◌, drop}
use Rattle.std.specs.List.{filter_map}
use Rattle.pac_keys.specs.Probes.{probe_of, probes_of}
use Rattle.pac_keys.proofs.probe.probes.Given as goal

abbrev pub invariant-loop-op : goal.invariant-loop-op
invariant-loop-op l = l.probes.items ++ filter_map (λ o. probe_of l.ops o.1) (drop l.op-index l.ops) ≡ probes_of l.ops
