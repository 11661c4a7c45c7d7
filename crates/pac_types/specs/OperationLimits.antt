-- The limits on operations: how many a procedure may have, and how many all procedures together.
use Rattle.std.specs.Prelude.{◌≡◌, ◌≤◌, ◌<◌, ◌+◌, ℕ, nat_lt, if◌then◌else◌, List, take, slice_get, sum_by, All, Option, Some, None}
use Rattle.std.specs.Option.{option_and_then}
use Rattle.pac_ops.specs.declared.limits.TheConstants.{MAX_OPS, MAX_ALL_OPS}
use Rattle.pac_types.specs.declared.count.TheConstants.{MAX_COUNT}
use Rattle.pac_types.specs.declared.procedure.Proc.{Proc}
use Rattle.pac_types.specs.Meaning.{operations}

-- how many operations procedures have together
abbrev pub all_operations : List Proc → ℕ
all_operations procs = sum_by (λ proc. operations proc.body) procs

-- no procedure has too many operations, and neither have all together
pub record HasFewOperations (procs : List Proc) : Type 0 where
  pub each : All (λ proc. operations proc.body ≤ MAX_OPS) procs
  pub all : all_operations procs ≤ MAX_ALL_OPS

-- a number of operations as it is reported: a million stands for all larger ones
abbrev pub told : ℕ → ℕ
told n = if nat_lt n MAX_COUNT then n else MAX_COUNT

-- how many operations are too many: its own, where a procedure has more than 256; else those up to its end, where these are
-- more than 4,096; None where neither is so
abbrev pub excess : ℕ → ℕ → Option ℕ
excess own up_to = if nat_lt MAX_OPS own then Some (told own) else (if nat_lt MAX_ALL_OPS up_to then Some (told up_to) else None)

-- how many are too many at the procedure with this number, if any are
abbrev pub excess_at : List Proc → ℕ → Option ℕ
excess_at procs n = option_and_then (λ proc. excess (operations proc.body) (all_operations (take (n + 1) procs))) (slice_get procs n)

-- the first procedure at which operations are too many, and how many
pub record IsFirstExcess (procs : List Proc) (number count : ℕ) : Type 0 where
  pub here : excess_at procs number ≡ Some count
  pub before : (n : ℕ) → n < number → excess_at procs n ≡ None
