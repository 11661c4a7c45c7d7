-- How long lists are.
use Rattle.std.specs.Prelude.{◌≤◌, ℕ, List, length}

-- one item or more, and no more than this many
abbrev pub HasOneTo : {A : Type 0} → ℕ → List A → Type 0
HasOneTo most items = (1 ≤ length items) × (length items ≤ most)
