-- Which command the arguments are.
use Rattle.std.specs.Prelude.{ℕ, List, [], ◌∷◌, Option, None, if◌then◌else◌, codes, option_map, option_and_then}
use Rattle.std.specs.Str.{bytes_eq}
use Rattle.clap.specs.Words.{App, Row, Text}
use Rattle.pac_arguments.specs.declared.limits.TheConstants.{MAX_GROUP_SIZE, MAX_ROWS, MAX_WORKERS, MAX_STRESS, DEFAULT_GROUP_SIZE, DEFAULT_ROWS, DEFAULT_WORKERS}
use Rattle.pac_arguments.specs.declared.command.Command.{Command}
use Rattle.pac_arguments.specs.declared.command.Command.TheVariants as the
use Rattle.pac_arguments.specs.Found.{plain_app, with_option, with_flag, with_operand, found_rows, option_number, is_set}

-- ---- the commands, as clap is given them

-- two options
abbrev pub with_two : Text → Text → Text → App
with_two name first second = with_option second (with_option first (plain_app name))

-- init
abbrev pub init_app : App
init_app = plain_app (codes "init")

-- run, with --batch and --rows
abbrev pub run_app : App
run_app = with_two (codes "run") (codes "batch") (codes "rows")

-- recover, with --workers and --rows
abbrev pub recover_app : App
recover_app = with_two (codes "recover") (codes "workers") (codes "rows")

-- explain, with --text
abbrev pub explain_app : App
explain_app = with_flag (codes "text") (plain_app (codes "explain"))

-- replay, with --workers, --rows and --images
abbrev pub replay_app : App
replay_app = with_flag (codes "images") (with_two (codes "replay") (codes "workers") (codes "rows"))

-- stress, with a count and --workers
abbrev pub stress_app : App
stress_app = with_option (codes "workers") (with_operand (codes "count") (plain_app (codes "stress")))

-- lay, with --workers and --rows
abbrev pub lay_app : App
lay_app = with_two (codes "lay") (codes "workers") (codes "rows")

-- ---- their numbers

-- how many replies a group may hold
abbrev pub group_size_in : List Row → Option ℕ
group_size_in = option_number (codes "batch") DEFAULT_GROUP_SIZE MAX_GROUP_SIZE

-- the limit on rows
abbrev pub rows_in : List Row → Option ℕ
rows_in = option_number (codes "rows") DEFAULT_ROWS MAX_ROWS

-- how many workers there are
abbrev pub workers_in : List Row → Option ℕ
workers_in = option_number (codes "workers") DEFAULT_WORKERS MAX_WORKERS

-- the argument has to stand there, so no default is ever taken
abbrev pub count_in : List Row → Option ℕ
count_in = option_number (codes "count") 0 MAX_STRESS

-- two numbers, where both are right
abbrev pub both : (ℕ → ℕ → Command) → Option ℕ → Option ℕ → Option Command
both make a b = option_and_then (λ m. option_map (λ n. make m n) b) a

-- ---- what the arguments of each command say, by what clap finds in them

-- run, by what clap finds
abbrev pub run_of : List Row → Option Command
run_of rows = both (λ group_size limit. the.Run group_size limit) (group_size_in rows) (rows_in rows)

-- recover, by what clap finds
abbrev pub recover_of : List Row → Option Command
recover_of rows = both (λ workers limit. the.Recover workers limit) (workers_in rows) (rows_in rows)

-- replay, by what clap finds
abbrev pub replay_of : List Row → Option Command
replay_of rows = both (λ workers limit. the.Replay workers limit (is_set (codes "images") rows)) (workers_in rows) (rows_in rows)

-- stress, by what clap finds
abbrev pub stress_of : List Row → Option Command
stress_of rows = both (λ count workers. the.Stress count workers) (count_in rows) (workers_in rows)

-- lay, by what clap finds
abbrev pub lay_of : List Row → Option Command
lay_of rows = both (λ workers limit. the.Lay workers limit) (workers_in rows) (rows_in rows)

-- init, by its arguments
abbrev pub init_said : List Text → Option Command
init_said arguments = option_map (λ rows. the.Init) (found_rows init_app arguments)

-- run, by its arguments
abbrev pub run_said : List Text → Option Command
run_said arguments = option_and_then run_of (found_rows run_app arguments)

-- recover, by its arguments
abbrev pub recover_said : List Text → Option Command
recover_said arguments = option_and_then recover_of (found_rows recover_app arguments)

-- explain, by its arguments
abbrev pub explain_said : List Text → Option Command
explain_said arguments = option_map (λ rows. the.Explain (is_set (codes "text") rows)) (found_rows explain_app arguments)

-- replay, by its arguments
abbrev pub replay_said : List Text → Option Command
replay_said arguments = option_and_then replay_of (found_rows replay_app arguments)

-- stress, by its arguments
abbrev pub stress_said : List Text → Option Command
stress_said arguments = option_and_then stress_of (found_rows stress_app arguments)

-- lay, by its arguments
abbrev pub lay_said : List Text → Option Command
lay_said arguments = option_and_then lay_of (found_rows lay_app arguments)

-- the command that the name says
abbrev pub command_named : Text → List Text → Option Command
command_named name arguments =
    if bytes_eq name (codes "init") then init_said arguments
    else (if bytes_eq name (codes "run") then run_said arguments
    else (if bytes_eq name (codes "recover") then recover_said arguments
    else (if bytes_eq name (codes "explain") then explain_said arguments
    else (if bytes_eq name (codes "replay") then replay_said arguments
    else (if bytes_eq name (codes "stress") then stress_said arguments
    else (if bytes_eq name (codes "lay") then lay_said arguments
    else None))))))

-- what the arguments say is to be done, by the first of them
abbrev pub command_of : List Text → Option Command
command_of [] = None
command_of (name ∷ arguments) = command_named name (name ∷ arguments)
