-- Why transactions abort.
use Rattle.std.specs.Prelude.{ℕ, List, codes, Result, Ok, Err}
use Rattle.pac_value.specs.declared.expr.Trap.{Trap}
use Rattle.pac_value.specs.declared.expr.Trap.TheVariants.{Overflow as OverflowTrap, DivZero as DivZeroTrap}
use Rattle.pac_ops.specs.declared.reason.Reason.{Reason}
use Rattle.pac_ops.specs.declared.reason.Reason.TheVariants.{Missing, Overflow, DivZero, Asked}

-- a reason as it is printed
abbrev pub reason_name : Reason → List ℕ
reason_name Missing = codes "Missing"
reason_name Overflow = codes "Overflow"
reason_name DivZero = codes "DivZero"
reason_name Asked = codes "Asked"

-- the reason of a trap
abbrev pub reason_of : Trap → Reason
reason_of OverflowTrap = Overflow
reason_of DivZeroTrap = DivZero

-- a trap aborts with its reason
abbrev pub or_abort : {A : Type 0} → Result A Trap → Result A Reason
or_abort (Ok x) = Ok x
or_abort (Err trap) = Err (reason_of trap)
