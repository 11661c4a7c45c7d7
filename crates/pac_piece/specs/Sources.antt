-- The tables that the operations of a piece access.
use Rattle.std.specs.Prelude.{◌≡◌, ℕ, List, Some}
use Rattle.pac_base.specs.Members.{Each}
use Rattle.pac_ops.specs.declared.program.OpKind.{OpKind}
use Rattle.pac_ops.specs.Uses.{accessed_table}
use Rattle.pac_ops.specs.Effects.{NumberedOp}

-- the table that an operation accesses, if any, is there
abbrev pub HasTable : (ℕ → Type 0) → OpKind → Type 0
HasTable There kind = (t : ℕ) → accessed_table kind ≡ Some t → There t

-- so is that of each operation
abbrev pub HaveTables : (ℕ → Type 0) → List NumberedOp → Type 0
HaveTables There os = Each (λ o. HasTable There o.1.kind) os
