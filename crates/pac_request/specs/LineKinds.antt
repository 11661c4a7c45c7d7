-- The kinds of faults of request lines, and how they are printed; faults of tokens as those of their line.
use Rattle.std.specs.Prelude.{ℕ, List, codes}
use Rattle.pac_tokens.specs.declared.fault.Fault.{Fault}
use Rattle.pac_tokens.specs.declared.fault.FaultKind.{FaultKind}
use Rattle.pac_tokens.specs.declared.fault.FaultKind.TheVariants as lexical
use Rattle.pac_request.specs.declared.fault.LineFault.{LineFault}
use Rattle.pac_request.specs.declared.fault.LineFaultKind.{LineFaultKind}
use Rattle.pac_request.specs.declared.fault.LineFaultKind.TheVariants.{Token, Expected, TooLong, UnknownName, WrongCount, WrongType, NotHere}

-- a kind as it is printed
abbrev pub line_kind_name : LineFaultKind → List ℕ
line_kind_name Token = codes "Token"
line_kind_name Expected = codes "Expected"
line_kind_name TooLong = codes "TooLong"
line_kind_name UnknownName = codes "UnknownName"
line_kind_name WrongCount = codes "WrongCount"
line_kind_name WrongType = codes "WrongType"
line_kind_name NotHere = codes "NotHere"

-- a fault of this kind at this offset
abbrev pub line_fault : LineFaultKind → ℕ → LineFault
line_fault kind at = record { at = at; kind = kind }

-- a kind of fault of a token; tokens have no others
abbrev pub as_line_kind : FaultKind → LineFaultKind
as_line_kind lexical.Token = Token
as_line_kind lexical.TooLong = TooLong
as_line_kind _ = Expected

-- a fault of a token
abbrev pub as_line_fault : Fault → LineFault
as_line_fault fault = line_fault (as_line_kind fault.kind) fault.at
