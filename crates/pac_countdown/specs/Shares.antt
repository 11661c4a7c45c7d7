-- The lists of a hand-out, one for each worker.
use Rattle.std.specs.Prelude.{ℕ, List, [], ◌∷◌}
use Rattle.pac_countdown.specs.Lists.{times_in, sum_over}
use Rattle.pac_countdown.specs.Counted.{InOrder}

-- how often a piece stands in all lists together
abbrev pub times_in_all : ℕ → List (List ℕ) → ℕ
times_in_all p shares = sum_over (λ share. times_in p share) shares

-- each of these lists is in order
abbrev pub AreOrdered : List (ℕ × ℕ) → List (List ℕ) → Type 0
AreOrdered pairs [] = Unit {0}
AreOrdered pairs (share ∷ shares) = InOrder pairs share × AreOrdered pairs shares
