-- What a stream of the system is seen as.
use Rattle.std.specs.Prelude.{ℕ}

-- the reader or the writer, and how many calls failed
pub record StreamState (S : Type 0) : Type 0 where
  pub stream : S
  pub faults : ℕ
