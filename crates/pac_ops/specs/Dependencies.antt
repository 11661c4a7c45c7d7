-- What depends on what: flow and conflict of operations.
use Rattle.std.specs.Prelude.{◌≡◌, ◌⊎◌, ℕ, ◌<◌, IsTrue, List, slice_get, Some, IsSomeAnd}
use Rattle.pac_ops.specs.declared.program.FlatOp.{FlatOp}
use Rattle.pac_ops.specs.Uses.{op_uses, Defines, accessed_table, modifies}

-- the operation of this number uses the variable
abbrev pub Uses : List FlatOp → ℕ → ℕ → Type 0
Uses ops i x = IsSomeAnd (slice_get ops i) (λ op. IsTrue (op_uses x op))

-- flow: an operation uses a variable that one of a lower number defines
abbrev pub IsFlow : List FlatOp → ℕ → ℕ → Type 0
IsFlow ops i j = (i < j) × ((x : ℕ) × Defines ops i x × Uses ops j x)

-- the operation of this number accesses the table
abbrev pub Accesses : List FlatOp → ℕ → ℕ → Type 0
Accesses ops i t = IsSomeAnd (slice_get ops i) (λ op. accessed_table op.kind ≡ Some t)

-- the operation of this number modifies its table
abbrev pub Modifies : List FlatOp → ℕ → Type 0
Modifies ops i = IsSomeAnd (slice_get ops i) (λ op. IsTrue (modifies op.kind))

-- conflict: two operations access one table, and at least one of them modifies it
abbrev pub IsConflict : List FlatOp → ℕ → ℕ → Type 0
IsConflict ops i j = ((t : ℕ) × Accesses ops i t × Accesses ops j t) × (Modifies ops i ⊎ Modifies ops j)
