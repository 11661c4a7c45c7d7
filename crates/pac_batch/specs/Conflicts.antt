-- Which accesses of a list conflict.
use Rattle.std.specs.Prelude.{ℕ, ◌+◌, ◌-◌, Bool, ◌&&◌, ◌||◌, List, [], map, filter, length, slice_get, unwrap_or}
use Rattle.std.specs.List.{flat_map, range_with_len}
use Rattle.std.specs.Ordering.{eq_by_cmp}
use Rattle.pac_value.specs.State.{cell_cmp}
use Rattle.pac_plan.specs.declared.access.Touch.{Touch}
use Rattle.pac_plan.specs.declared.access.Access.{Access}
use Rattle.pac_plan.specs.declared.access.Access.TheVariants.{Keys}
use Rattle.pac_plan.specs.Pieces.{named_cell, conflicts}

-- both touch one row, and one of the two modifies it
abbrev pub touches_conflict : Touch → Touch → Bool
touches_conflict one other = eq_by_cmp cell_cmp (named_cell one) (named_cell other) && (one.is_write || other.is_write)

-- the access at a position, one that touches nothing past the end
abbrev pub access_in : List Access → ℕ → Access
access_in accesses i = unwrap_or (slice_get accesses i) (Keys [])

-- the numbers from `first` up to `end`
abbrev pub numbers_between : ℕ → ℕ → List ℕ
numbers_between first end = range_with_len first (end - first)

-- the pairs of a position and of the later ones that conflict with it
abbrev pub pairs_with : List Access → ℕ → List ℕ → List (ℕ × ℕ)
pairs_with accesses i later = map (λ j. (i, j)) (filter (λ j. conflicts (access_in accesses i) (access_in accesses j)) later)

-- the pairs of an earlier and a later position whose accesses conflict, ascending
abbrev pub conflict_pairs : List Access → List (ℕ × ℕ)
conflict_pairs accesses = flat_map (λ i. pairs_with accesses i (numbers_between (i + 1) (length accesses))) (numbers_between 0 (length accesses))
