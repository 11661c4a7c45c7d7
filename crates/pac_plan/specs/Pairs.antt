-- Pairs of an earlier and a later position.
use Rattle.std.specs.Prelude.{ℕ, ◌<◌, List}
use Rattle.std.specs.List.{All}

-- the first number of each pair is less than the second
abbrev pub AreEarlierLater : List (ℕ × ℕ) → Type 0
AreEarlierLater pairs = All (λ pair. pair.0 < pair.1) pairs
