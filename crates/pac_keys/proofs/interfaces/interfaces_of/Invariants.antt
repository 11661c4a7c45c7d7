-- The interfaces of the blocks so far are known.
use Rattle.std.proofs.Common.{◌≡◌, length}
use Rattle.pac_keys.specs.Interfaces.{AreInterfacesOf}
use Rattle.pac_keys.proofs.interfaces.interfaces_of.Given as goal

abbrev pub invariant-loop-block : goal.invariant-loop-block
invariant-loop-block l = record {
  size : length l.interfaces.items ≡ l.block;
  each : AreInterfacesOf l.fn.code l.fn.proc l.interfaces.items;
}
