-- What the source and the sink in memory are seen as.
use Rattle.std.specs.Prelude.{ℕ, List}
use Rattle.pac_outside.specs.Calls.{CallState}

-- the bytes that are left to read, and the calls
pub record SourceState : Type 0 where
  pub left : List ℕ
  pub calls : CallState

-- the bytes that were taken, how many more it can take without more memory, and the calls
pub record SinkState : Type 0 where
  pub held : List ℕ
  pub room : ℕ
  pub calls : CallState
