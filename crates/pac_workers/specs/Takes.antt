-- What a take answers: how many pieces it ran, and what holds of the work that it hands out.
use Rattle.std.specs.Prelude.{ℕ, Option, Some, None}
use Rattle.pac_workers.specs.declared.machine.Taken.{Taken}
use Rattle.pac_workers.specs.declared.machine.Taken.TheVariants.{Work, Ran, NotReady, Done}

-- how many pieces a take ran on the spot
abbrev pub ran_by : {W : Type 0} → Taken W → ℕ
ran_by (Work work) = 0
ran_by Ran = 1
ran_by NotReady = 0
ran_by Done = 0

-- if work is handed out, this holds of it
abbrev pub ForWork : {W : Type 0} → (W → Type 0) → Taken W → Type 0
ForWork P (Work work) = P work
ForWork P Ran = Unit {0}
ForWork P NotReady = Unit {0}
ForWork P Done = Unit {0}

-- how many pieces were run where this is the one that came next
abbrev pub run_now : {A : Type 0} → Option A → ℕ
run_now (Some piece) = 1
run_now None = 0
