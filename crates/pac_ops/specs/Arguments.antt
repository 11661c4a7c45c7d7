-- The arguments of calls.
use Rattle.std.specs.Prelude.{◌≤◌, List, length, IsTrue}
use Rattle.std.specs.List.{list_all}
use Rattle.pac_value.specs.declared.values.Value.{Value}
use Rattle.pac_value.specs.declared.limits.TheConstants.{MAX_PARAMS}
use Rattle.pac_value.specs.Values.{is_stored}

-- no more values than a procedure may have parameters, none a bool
abbrev pub IsArgs : List Value → Type 0
IsArgs values = (length values ≤ MAX_PARAMS) × IsTrue (list_all is_stored values)
