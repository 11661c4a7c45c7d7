-- The next pairs of a list of accesses.
use Rattle.std.specs.Prelude.{◌≡◌, ◌↔◌, ℕ, ◌<◌, Bool, true, List, length, Contains, sum_by}
use Rattle.pac_graph.specs.Groups.{ArePairsAscending}
use Rattle.pac_plan.specs.declared.access.Access.{Access}
use Rattle.pac_plan.specs.declared.access.Access.TheVariants.{Keys, Whole}
use Rattle.pac_plan.specs.Pieces.{conflicts}
use Rattle.pac_plan.specs.NextPairs.{IsNextPair}
use Rattle.pac_batch.specs.Conflicts.{access_in}

-- these are the next pairs of accesses, each once, ascending
pub record AreNextPairs (accesses : List Access) (pairs : List (ℕ × ℕ)) : Type 0 where
  pub each : (i j : ℕ) → Contains pairs (i, j) ↔ ((j < length accesses) × IsNextPair (access_in accesses) i j)
  pub ascending : ArePairsAscending pairs

-- how many rows an access names
abbrev pub touches_in : Access → ℕ
touches_in Whole = 0
touches_in (Keys touches) = length touches

-- how many rows accesses name
abbrev pub count_touches : List Access → ℕ
count_touches accesses = sum_by touches_in accesses

-- accesses have one list of next pairs
abbrev pub OneList : Type 0
OneList = (accesses : List Access) (pairs others : List (ℕ × ℕ)) → AreNextPairs accesses pairs → AreNextPairs accesses others → pairs ≡ others

-- the pairs conflict, and what is closed under them is closed under conflicts
abbrev pub PairsSuffice : Type 0
PairsSuffice = (accesses : List Access) (pairs : List (ℕ × ℕ)) → AreNextPairs accesses pairs
    → ((i j : ℕ) → Contains pairs (i, j) → (i < j) × (j < length accesses) × (conflicts (access_in accesses i) (access_in accesses j) ≡ true))
    × ((F : ℕ → Bool) → ((i j : ℕ) → Contains pairs (i, j) → F j ≡ true → F i ≡ true)
    → (i j : ℕ) → i < j → j < length accesses → conflicts (access_in accesses i) (access_in accesses j) ≡ true → F j ≡ true → F i ≡ true)
