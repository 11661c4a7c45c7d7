-- A tree over flags by which the first raised one is found.
use Rattle.std.specs.Prelude.{◌≡◌, ℕ, ◌+◌, ◌*◌, ◌<◌, Bool, false, cond, min, List, length, slice_index, slice_index_or, count_by}

-- an inner node has the less of what its two children have
abbrev pub IsSettledAt : List ℕ → ℕ → Type 0
IsSettledAt firsts k = slice_index firsts k ≡ min (slice_index firsts (2 * k)) (slice_index firsts (2 * k + 1))

-- a leaf has its own position where its flag is raised, else the number of flags
abbrev pub at_leaf : List Bool → ℕ → ℕ
at_leaf flags i = cond (slice_index_or flags i false) i (length flags)

-- the leaves and the inner nodes have these numbers, and the raised flags are counted
pub record IsFirstTree (flags : List Bool) (firsts : List ℕ) (raised : ℕ) : Type 0 where
  pub len : length firsts ≡ 2 * length flags
  pub leaves : (i : ℕ) → i < length flags → slice_index firsts (length flags + i) ≡ at_leaf flags i
  pub settled : (k : ℕ) → 0 < k → k < length flags → IsSettledAt firsts k
  pub counted : raised ≡ count_by (λ flag. flag) flags
