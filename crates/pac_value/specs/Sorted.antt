-- Sorted entries: where the one of a key stands, or where it would.
use Rattle.std.specs.Prelude.{◌≡◌, ◌<◌, ◌≤◌, ℕ, List, length, slice_index_or}
use Rattle.std.specs.declared.cmp.Ordering.{Ordering}
use Rattle.std.specs.declared.cmp.Ordering.TheVariants.{Less, Greater}

-- the entry at this position is of the key
pub record IsOffsetOf {K X : Type 0} (entries : List (K × X)) (key : K) (at : ℕ) : Type 0 where
  pub within : at < length entries
  pub same : (d : K × X) → (slice_index_or entries at d).0 ≡ key

-- the entries before this position are of lesser keys, and those from it on of greater ones
pub record IsGapFor {K X : Type 0} (R : K → K → Ordering) (entries : List (K × X)) (key : K) (at : ℕ) : Type 0 where
  pub within : at ≤ length entries
  pub lesser : (j : ℕ) (d : K × X) → j < at → R (slice_index_or entries j d).0 key ≡ Less
  pub greater : (j : ℕ) (d : K × X) → at ≤ j → j < length entries → R (slice_index_or entries j d).0 key ≡ Greater
