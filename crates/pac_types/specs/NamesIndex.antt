-- What keeps names and the map of their numbers together.
use Rattle.std.specs.Prelude.{◌≡◌, ◌≤◌, ◌<◌, ◌^◌, ℕ, List, length, nat_eq}
use Rattle.std.specs.Cmp.Lexicographic.{pointwise}
use Rattle.std.specs.HashMap.{HashMap, get}
use Rattle.pac_types.specs.Numbering.{number_of}

-- where the names are more than few, the map has the number of each, that of its first index, and of no other
pub record IsIndex {S : Type 0} (names : List (List ℕ)) (numbers : HashMap (List ℕ) ℕ S) : Type 0 where
  pub numbered : 8 < length names → (name : List ℕ) → get (pointwise nat_eq) numbers name ≡ number_of names name
  pub few : length names ≤ 2 ^ 16
