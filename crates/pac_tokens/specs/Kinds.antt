-- How kinds of faults are printed.
use Rattle.std.specs.Prelude.{ℕ, List, codes}
use Rattle.pac_tokens.specs.declared.fault.FaultKind.{FaultKind}
use Rattle.pac_tokens.specs.declared.fault.FaultKind.TheVariants.{Token, Expected, TooLong, TooDeep, TooMany}

-- the name of a kind
abbrev pub kind_name : FaultKind → List ℕ
kind_name Token = codes "Token"
kind_name Expected = codes "Expected"
kind_name TooLong = codes "TooLong"
kind_name TooDeep = codes "TooDeep"
kind_name TooMany = codes "TooMany"
