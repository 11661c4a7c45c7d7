-- What the arguments of the command line say is to be done, and which commands run.
use Rattle.std.specs.Prelude.{◌≡◌, ℕ, List, map, Option, Some, IsSomeAnd, Bool, true, false, String, string_bytes}
use Rattle.std.specs.Global.{Global}
use Rattle.pac_arguments.specs.Commands.{command_of}
use Rattle.pac_arguments.specs.declared.command.Command.{Command}
use Rattle.pac_arguments.specs.declared.command.Command.TheVariants.{Init, Run, Recover, Explain, Replay, Stress, Lay}

-- what the arguments say is to be done, if they are a command
abbrev pub command_in : List (String Global) → Option Command
command_in arguments = command_of (map string_bytes arguments)

-- the arguments are `init`
abbrev pub IsInit : List (String Global) → Type 0
IsInit arguments = command_in arguments ≡ Some Init

-- the arguments are `run`, with that many replies in a group at most, and this limit on the rows of a table
abbrev pub IsRunOf : List (String Global) → ℕ → ℕ → Type 0
IsRunOf arguments group_size limit = command_in arguments ≡ Some (Run group_size limit)

-- the arguments ask for a run
abbrev pub AsksRun : List (String Global) → Type 0
AsksRun arguments = (group_size : ℕ) × (limit : ℕ) × IsRunOf arguments group_size limit

-- the arguments are `recover`, with this limit on the rows of a table and any number of workers
abbrev pub IsRecover : List (String Global) → ℕ → Type 0
IsRecover arguments limit = (workers : ℕ) × (command_in arguments ≡ Some (Recover workers limit))

-- the arguments ask for a recovery
abbrev pub AsksRecover : List (String Global) → Type 0
AsksRecover arguments = (limit : ℕ) × IsRecover arguments limit

-- the arguments are `explain`, with `--text` where the canonical text is wanted
abbrev pub IsExplain : List (String Global) → Bool → Type 0
IsExplain arguments with_text = command_in arguments ≡ Some (Explain with_text)

-- the arguments ask for an explanation
abbrev pub AsksExplain : List (String Global) → Type 0
AsksExplain arguments = (with_text : Bool) × IsExplain arguments with_text

-- the arguments are `replay` without `--images`, with this limit on the rows of a table and any number of workers
abbrev pub IsReplay : List (String Global) → ℕ → Type 0
IsReplay arguments limit = (workers : ℕ) × (command_in arguments ≡ Some (Replay workers limit false))

-- the arguments are `replay --images`, with this limit on the rows of a table and any number of workers
abbrev pub IsRecording : List (String Global) → ℕ → Type 0
IsRecording arguments limit = (workers : ℕ) × (command_in arguments ≡ Some (Replay workers limit true))

-- the arguments are `lay`, with this limit on the rows of a table and any number of workers
abbrev pub IsLay : List (String Global) → ℕ → Type 0
IsLay arguments limit = (workers : ℕ) × (command_in arguments ≡ Some (Lay workers limit))

-- the arguments are `stress`, with this number of transactions and any number of workers
abbrev pub IsStress : List (String Global) → ℕ → Type 0
IsStress arguments count = (workers : ℕ) × (command_in arguments ≡ Some (Stress count workers))

-- the arguments ask for a stress test
abbrev pub AsksStress : List (String Global) → Type 0
AsksStress arguments = (count : ℕ) × IsStress arguments count

-- a command that runs, as each does
abbrev pub Runs : Command → Type 0
Runs Init = Unit {0}
Runs (Run group_size limit) = Unit {0}
Runs (Recover workers limit) = Unit {0}
Runs (Explain with_text) = Unit {0}
Runs (Replay workers limit images) = Unit {0}
Runs (Stress count workers) = Unit {0}
Runs (Lay workers limit) = Unit {0}

-- the arguments name a command that runs
abbrev pub NamesCommand : List (String Global) → Type 0
NamesCommand arguments = IsSomeAnd (command_in arguments) Runs
