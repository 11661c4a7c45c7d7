-- The blocks of the programs so far.
use Rattle.std.proofs.Common.{◌≡◌, ℕ, ◌+◌, ◌<◌, length, map, take, [], slice_index}
use Rattle.std.specs.Prelude.{slice_get, slice_index_or, IsSomeAnd}
use Rattle.pac_global.specs.Drawing.{first_of}
use Rattle.pac_global.proofs.blocks.blocks_of.Given as goal

abbrev pub invariant-loop-program : goal.invariant-loop-program
invariant-loop-program l = record {
  first : l.first ≡ first_of l.programs l.program-index;
  size : length l.blocks.items ≡ l.program-index;
  each : map (λ row. length row) l.blocks.items ≡ map (λ program. length program.ops) (take l.program-index l.programs);
  is : (p i : ℕ) → p < l.program-index → IsSomeAnd (slice_get l.programs p) (λ program. i < length program.ops) → slice_index (slice_index_or l.blocks.items p []) i ≡ slice_index l.numbers (first_of l.programs p + i);
}
