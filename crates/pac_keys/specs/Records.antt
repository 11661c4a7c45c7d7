-- What the records of ad hoc transactions touch.
use Rattle.std.specs.Prelude.{Bool, true, false, List, [], ◌∷◌}
use Rattle.pac_value.specs.declared.values.Key.{Key}
use Rattle.pac_ops.specs.declared.transaction.Change.{Change}
use Rattle.pac_ops.specs.declared.transaction.Change.TheVariants.{Put, Delete}
use Rattle.pac_plan.specs.declared.access.Touch.{Touch}
use Rattle.pac_plan.specs.PieceFits.{change_table}

-- the key of a record
abbrev pub change_key : Change → Key
change_key (Put table key row) = key
change_key (Delete table key) = key

-- a record modifies the row at its key
abbrev pub change_touch : Change → Touch
change_touch change = record { table = change_table change; key = change_key change; is_write = true }

-- there is a record
abbrev pub has_records : List Change → Bool
has_records [] = false
has_records (change ∷ changes) = true
