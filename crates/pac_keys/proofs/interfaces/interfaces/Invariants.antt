-- The interfaces of the procedures so far are known, in each block.
use Rattle.std.proofs.Common.{◌≡◌, ℕ, List, length, Some}
use Rattle.std.specs.Prelude.{slice_get}
use Rattle.pac_keys.specs.declared.interface.Interface.{Interface}
use Rattle.pac_keys.specs.Interfaces.{AreInterfacesOf}
use Rattle.pac_keys.proofs.interfaces.interfaces.Given as goal

abbrev pub invariant-loop-proc : goal.invariant-loop-proc
invariant-loop-proc l = record {
  all : length l.interfaces.items ≡ l.proc;
  size : (proc : ℕ) (of_proc : List Interface) → slice_get l.interfaces.items proc ≡ Some of_proc → length of_proc ≡ l.fn.code.blocks;
  each : (proc : ℕ) (of_proc : List Interface) → slice_get l.interfaces.items proc ≡ Some of_proc → AreInterfacesOf l.fn.code proc of_proc;
}
