-- How `stress` ends.
use Rattle.std.specs.Prelude.{◌≡◌, ℕ, [], ◌∷◌}
use Rattle.pac_stress.specs.Stressed.{IsSummaryOf}
use Rattle.pac_main.specs.Streams.{Observed, AnyFaulted, IsTaken, IsPrefixTaken, IsOneOf}

-- how `stress` ends with this number of transactions: the statuses that it may have, and a line for each that has a cause; where no write
-- failed it is done, or there was no memory
pub record StressEnds (count status : ℕ) (output : Observed) : Type 0 where
  pub statuses : IsOneOf status (0 ∷ 7 ∷ 9 ∷ [])
  pub done : status ≡ 0 → IsSummaryOf count (IsTaken output)
  pub output_fault : status ≡ 7 → AnyFaulted output × IsSummaryOf count (IsPrefixTaken output)
  pub complete : ¬ AnyFaulted output → IsOneOf status (0 ∷ 9 ∷ [])
