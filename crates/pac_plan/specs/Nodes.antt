-- What the analysis of all procedures is about: their operations, and a virtual write for each table, which stands for
-- the writes of transactions that are no calls.
use Rattle.std.specs.Prelude.{◌≡◌, ◌⊎◌, ℕ, ◌<◌, List, length, slice_get, IsSomeAnd}
use Rattle.pac_ops.specs.declared.program.Program.{Program}
use Rattle.pac_ops.specs.Dependencies.{IsFlow, Accesses, Modifies}

-- an operation of a procedure, by both numbers, or the virtual write of a table
pub data Node : Type 0 where
  Operation : (proc op : ℕ) → Node
  VirtualWrite : (table : ℕ) → Node

-- there is such a node
abbrev pub IsNode : List Program → ℕ → Node → Type 0
IsNode programs tables (Operation p i) = IsSomeAnd (slice_get programs p) (λ program. i < length program.ops)
IsNode programs tables (VirtualWrite t) = t < tables

-- nodes come by procedure and then by operation; virtual writes come after all procedures, by table
abbrev pub ComesBefore : Node → Node → Type 0
ComesBefore (Operation p i) (Operation q j) = (p < q) ⊎ ((p ≡ q) × (i < j))
ComesBefore (Operation p i) (VirtualWrite t) = Unit {0}
ComesBefore (VirtualWrite s) (Operation q j) = ⊥
ComesBefore (VirtualWrite s) (VirtualWrite t) = s < t

-- flow, inside one procedure
abbrev pub Flows : List Program → Node → Node → Type 0
Flows programs (Operation p i) (Operation q j) = (p ≡ q) × IsSomeAnd (slice_get programs p) (λ program. IsFlow program.ops i j)
Flows programs (Operation p i) (VirtualWrite t) = ⊥
Flows programs (VirtualWrite s) n = ⊥

-- the node accesses the table
abbrev pub NodeAccesses : List Program → ℕ → Node → ℕ → Type 0
NodeAccesses programs tables (Operation p i) t = IsSomeAnd (slice_get programs p) (λ program. Accesses program.ops i t)
NodeAccesses programs tables (VirtualWrite s) t = (s ≡ t) × (t < tables)

-- the node modifies its table
abbrev pub NodeModifies : List Program → Node → Type 0
NodeModifies programs (Operation p i) = IsSomeAnd (slice_get programs p) (λ program. Modifies program.ops i)
NodeModifies programs (VirtualWrite t) = Unit {0}

-- two nodes access one table, and at least one of them modifies it
abbrev pub Conflicts : List Program → ℕ → Node → Node → Type 0
Conflicts programs tables m n = ((t : ℕ) × NodeAccesses programs tables m t × NodeAccesses programs tables n t) × (NodeModifies programs m ⊎ NodeModifies programs n)

-- a link leads from a node to another by flow, and both ways between two that conflict
abbrev pub IsNodeLink : List Program → ℕ → Node → Node → Type 0
IsNodeLink programs tables m n = Flows programs m n ⊎ Conflicts programs tables m n
