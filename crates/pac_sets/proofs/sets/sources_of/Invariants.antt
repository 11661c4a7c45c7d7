-- The lists are made empty, and then hold what the edges so far say.
use Rattle.std.proofs.Common.{◌≡◌, ℕ, [], length, take, Some}
use Rattle.std.specs.Prelude.{slice_get, Vec}
use Rattle.std.specs.Global.{Global}
use Rattle.pac_sets.specs.Sets.{AreAllSources}
use Rattle.pac_sets.proofs.sets.sources_of.Given as goal

abbrev pub invariant-loop : goal.invariant-loop
invariant-loop l = record {
  all : length l.sources.items ≡ l.counter;
  none : (block : ℕ) (list : Vec ℕ Global) → slice_get l.sources.items block ≡ Some list → list.items ≡ [];
}

abbrev pub invariant-loop-edge : goal.invariant-loop-edge
invariant-loop-edge l = AreAllSources (take l.edge-index l.edges) l.blocks l.sources.items
