-- The kinds of faults, and how they are printed.
use Rattle.std.specs.Prelude.{ℕ, List, codes}
use Rattle.pac_types.specs.declared.type_error.TypeFaultKind.{TypeFaultKind}
use Rattle.pac_types.specs.declared.type_error.TypeFaultKind.TheVariants.{UnknownName, Twice, WrongType, WrongCount, OutOfScope}

-- a kind as it is printed
abbrev pub type_kind_name : TypeFaultKind → List ℕ
type_kind_name UnknownName = codes "UnknownName"
type_kind_name Twice = codes "Twice"
type_kind_name WrongType = codes "WrongType"
type_kind_name WrongCount = codes "WrongCount"
type_kind_name OutOfScope = codes "OutOfScope"
