-- Piece-sets in their order, each with what is kept of it until it is finished: which have to wait for which.
use Rattle.std.specs.Prelude.{◌≡◌, ◌⊎◌, ◌↔◌, ℕ, zero, suc, ◌<◌, ◌≤◌, Bool, ◌&&◌, not, ◌==◌, List, [], ◌∷◌, ◌++◌, length, slice_get, Option, Some, None, is_some, IsSome, T, true, Contains, position, nat_lt}
use Rattle.std.specs.List.{list_all}
use Rattle.std.specs.FinMap.{is_sorted, get, from_sorted}
use Rattle.std.specs.Global.{Global}
use Rattle.std.specs.Prelude.{Vec}
use Rattle.pac_sets.specs.declared.set_id.SetId.{SetId}
use Rattle.pac_sets.specs.SetOrder.{set_cmp}

-- a set, and what is kept of it: nothing once it is finished
abbrev pub Kept : Type 0 → Type 0
Kept P = SetId × Option P

-- a set waits for the sets of its batch from whose blocks an edge leads to its own, and for those of its block and earlier
-- batches
abbrev pub WaitsFor : List (ℕ × ℕ) → SetId → SetId → Type 0
WaitsFor edges set other = ((other.batch ≡ set.batch) × Contains edges (other.block, set.block)) ⊎ ((other.block ≡ set.block) × (other.batch < set.batch))

-- an option in an option, as one option
abbrev pub flattened : {P : Type 0} → Option (Option P) → Option P
flattened None = None
flattened (Some kept) = kept

-- what is kept of a set: nothing where it is finished, or isn't there
abbrev pub kept_of : {P : Type 0} → SetId → List (Kept P) → Option P
kept_of set sets = flattened (get (from_sorted {R = set_cmp} sets) set)

-- each set that this one waits for is finished, or isn't there
abbrev pub WaitsForNothing : {P : Type 0} → List (ℕ × ℕ) → List (Kept P) → SetId → Type 0
WaitsForNothing edges sets set = (other : SetId) → WaitsFor edges set other → kept_of other sets ≡ None

-- a set of the block that isn't finished
abbrev pub is_unfinished_in : {P : Type 0} → ℕ → Kept P → Bool
is_unfinished_in block set = set.0.block == block && is_some set.1

-- the blocks from which an edge leads to a block
abbrev pub AreSources : List (ℕ × ℕ) → ℕ → List ℕ → Type 0
AreSources edges block sources = (from : ℕ) → Contains sources from ↔ Contains edges (from, block)

-- the set is finished, or isn't there
abbrev pub is_done : {P : Type 0} → SetId → List (Kept P) → Bool
is_done set sets = not (is_some (kept_of set sets))

-- so are a batch's sets in each of these blocks
abbrev pub are_done : {P : Type 0} → ℕ → List ℕ → List (Kept P) → Bool
are_done batch blocks sets = list_all (λ block. is_done (record { batch = batch; block = block }) sets) blocks

-- the edges between blocks, how many blocks there are, and the sets of what is loaded
pub record Setting (P : Type 0) : Type 0 where
  pub edges : List (ℕ × ℕ)
  pub blocks : ℕ
  pub sets : List (Kept P)

-- an unfinished set that waits for nothing more
pub record IsOpenSet {P : Type 0} (edges : List (ℕ × ℕ)) (sets : List (Kept P)) (at : ℕ) : Type 0 where
  pub set : SetId
  pub kept : P
  pub there : slice_get sets at ≡ Some (set, Some kept)
  pub passed : WaitsForNothing edges sets set

-- one that is in a block
abbrev pub IsOpenIn : {P : Type 0} → List (ℕ × ℕ) → List (Kept P) → ℕ → ℕ → Type 0
IsOpenIn edges sets block at = (it : IsOpenSet edges sets at) × (it.set.block ≡ block)

-- the first open set from an offset on, or none where there is none
abbrev pub IsFirstOpen : {P : Type 0} → List (ℕ × ℕ) → List (Kept P) → ℕ → Option ℕ → Type 0
IsFirstOpen edges sets from None = (j : ℕ) → from ≤ j → IsOpenSet edges sets j → ⊥
IsFirstOpen edges sets from (Some at) = (from ≤ at) × IsOpenSet edges sets at × ((j : ℕ) → from ≤ j → j < at → IsOpenSet edges sets j → ⊥)

-- the sets ascend, each in one of the blocks
pub record AreSets {P : Type 0} (blocks : ℕ) (sets : List (Kept P)) : Type 0 where
  pub ascend : T (is_sorted set_cmp sets)
  pub inside : (j : ℕ) (set : Kept P) → slice_get sets j ≡ Some set → set.0.block < blocks

-- of each block the blocks that lead to it are known
pub record AreAllSources (edges : List (ℕ × ℕ)) (blocks : ℕ) (sources : List (Vec ℕ Global)) : Type 0 where
  pub all : length sources ≡ blocks
  pub each : (block : ℕ) (list : Vec ℕ Global) → slice_get sources block ≡ Some list → AreSources edges block list.items

-- one edge more is known
pub record AddsSource (edge : ℕ × ℕ) (old new : List (Vec ℕ Global)) : Type 0 where
  pub all : length new ≡ length old
  pub own : (list : Vec ℕ Global) → slice_get new edge.1 ≡ Some list → (was : Vec ℕ Global) × (slice_get old edge.1 ≡ Some was) × (list.items ≡ was.items ++ edge.0 ∷ [])
  pub others : (block : ℕ) (list : Vec ℕ Global) → (block ≡ edge.1 → ⊥) → slice_get new block ≡ Some list → slice_get old block ≡ Some list

-- of each block the first unfinished set is known
pub record AreFronts {P : Type 0} (blocks : ℕ) (fronts : List (Option ℕ)) (sets : List (Kept P)) : Type 0 where
  pub all : length fronts ≡ blocks
  pub each : (block : ℕ) (front : Option ℕ) → slice_get fronts block ≡ Some front → front ≡ position (is_unfinished_in block) sets

-- the set at an offset is the first unfinished one of its block
pub record IsFront {P : Type 0} (sets : List (Kept P)) (at : ℕ) : Type 0 where
  pub set : SetId
  pub kept : P
  pub there : slice_get sets at ≡ Some (set, Some kept)
  pub first : position (is_unfinished_in set.block) sets ≡ Some at

-- an offset comes before another one, where there is one
abbrev pub is_earlier : ℕ → Option ℕ → Bool
is_earlier at None = true
is_earlier at (Some other) = nat_lt at other

-- an open set in one of the first blocks
abbrev pub IsOpenBelow : {P : Type 0} → ℕ → List (ℕ × ℕ) → List (Kept P) → ℕ → Type 0
IsOpenBelow n edges sets j = (it : IsOpenSet edges sets j) × (it.set.block < n)

-- an open set from an offset on, with none of those before it; or None where there is none of those
abbrev pub IsFirstBelow : {P : Type 0} → ℕ → List (ℕ × ℕ) → List (Kept P) → ℕ → Option ℕ → Type 0
IsFirstBelow n edges sets from None = (j : ℕ) → from ≤ j → IsOpenBelow n edges sets j → ⊥
IsFirstBelow n edges sets from (Some at) = (from ≤ at) × IsOpenSet edges sets at × ((j : ℕ) → from ≤ j → j < at → IsOpenBelow n edges sets j → ⊥)

-- the set stands at an offset
abbrev pub IsSetAt : {P : Type 0} → List (Kept P) → SetId → ℕ → Type 0
IsSetAt {P} sets set at = (kept : Option P) × (slice_get sets at ≡ Some (set, kept))

-- each of the sets from an offset on is in one of the blocks, and unfinished
abbrev pub AreLeft : {P : Type 0} → ℕ → ℕ → List (Kept P) → Type 0
AreLeft {P} blocks from sets = (j : ℕ) (set : Kept P) → from ≤ j → slice_get sets j ≡ Some set → (set.0.block < blocks) × IsSome set.1

-- the set at an offset isn't finished
abbrev pub IsUnfinished : {P : Type 0} → List (Kept P) → ℕ → Type 0
IsUnfinished {P} sets at = (set : SetId) × (kept : P) × (slice_get sets at ≡ Some (set, Some kept))

-- this is kept of the set at an offset
abbrev pub IsKeptAt : {P : Type 0} → List (Kept P) → ℕ → P → Type 0
IsKeptAt sets at kept = (set : SetId) × (slice_get sets at ≡ Some (set, Some kept))

-- the sets with something else kept of one, or nothing
abbrev pub with_kept_at : {P : Type 0} → List (Kept P) → ℕ → Option P → List (Kept P)
with_kept_at [] at kept = []
with_kept_at (set ∷ sets) zero kept = (set.0, kept) ∷ sets
with_kept_at (set ∷ sets) (suc at) kept = set ∷ with_kept_at sets at kept

-- a position, or where there is none, another
abbrev pub front_or : Option ℕ → ℕ → Option ℕ
front_or None last = Some last
front_or (Some front) last = Some front
