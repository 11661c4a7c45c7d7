-- Simple commands, as clap is given them, and what it finds in their arguments.
use Rattle.std.specs.Prelude.{ℕ, Bool, true, false, List, Option, Some, None, if◌then◌else◌, codes}
use Rattle.std.specs.Str.{bytes_eq}
use Rattle.clap.specs.Words.{App, Row, Text, new_app, new_rule, with_rule, matches_of, fault_of, first_of}
use Rattle.clap.specs.Simple.{on_top}
use Rattle.clap.specs.Walk.{is_empty}
use Rattle.clap.specs.declared.builder.action.ArgAction.TheVariants.{Set, SetTrue}
use Rattle.pac_arguments.specs.Numbers.{number_up_to}

-- a command of this name, with no arguments, no help and no version
abbrev pub plain_app : Text → App
plain_app name = on_top (λ s. record s { disable_help_flag = true; disable_version_flag = true }) (new_app name)

-- with `--name VALUE`
abbrev pub with_option : Text → App → App
with_option name app = with_rule app (record (new_rule name) { long = Some name; action = Some Set })

-- with `--name`
abbrev pub with_flag : Text → App → App
with_flag name app = with_rule app (record (new_rule name) { long = Some name; action = Some SetTrue })

-- with an argument that has to stand there
abbrev pub with_operand : Text → App → App
with_operand name app = with_rule app (record (new_rule name) { required = true; action = Some Set })

-- What clap finds in the arguments of a simple command, by what it states of one; nothing where it refuses them. The first argument is
-- the command's name.
unfoldable pub found_rows : App → List Text → Option (List Row)
found_rows app arguments = if is_empty (fault_of app arguments) then Some (matches_of app arguments) else None

-- the number that a value is, or the default where there is no value
abbrev pub number_or : ℕ → ℕ → Option Text → Option ℕ
number_or default most None = Some default
number_or default most (Some text) = number_up_to most text

-- the number of an option: that of its value, or the default where the option isn't there
abbrev pub option_number : Text → ℕ → ℕ → List Row → Option ℕ
option_number id default most rows = number_or default most (first_of id rows)

-- the value is there, and is true
abbrev pub says_true : Option Text → Bool
says_true None = false
says_true (Some text) = bytes_eq text (codes "true")

-- whether a flag is there
abbrev pub is_set : Text → List Row → Bool
is_set id rows = says_true (first_of id rows)
