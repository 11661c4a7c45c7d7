-- The calls of an object in memory, some of which are to fail.
use Rattle.std.specs.Prelude.{ℕ, List, Bool, ◌==◌}
use Rattle.std.specs.List.{list_any}
use Rattle.pac_outside.specs.Causes.{one_more}

-- how many calls there were, the numbers of those that are to fail (from 1 on), and how many failed
pub record CallState : Type 0 where
  pub made : ℕ
  pub failing : List ℕ
  pub faults : ℕ

-- the number of the next call
abbrev pub next_number : CallState → ℕ
next_number calls = one_more calls.made

-- the number of the next call stands among those that are to fail
abbrev pub is_next_failing : CallState → Bool
is_next_failing calls = list_any (λ number. number == next_number calls) calls.failing

-- after a call that didn't fail
abbrev pub after_passed : CallState → CallState
after_passed calls = record { made = next_number calls; failing = calls.failing; faults = calls.faults }

-- after a call that failed
abbrev pub after_failed : CallState → CallState
after_failed calls = record { made = next_number calls; failing = calls.failing; faults = one_more calls.faults }
