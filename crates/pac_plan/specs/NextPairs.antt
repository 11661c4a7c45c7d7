-- Next pairs of accesses: those that a queue for each key, and one for the whole block, joins.
use Rattle.std.specs.Prelude.{◌≡◌, ◌⊎◌, ℕ, ◌<◌, Bool, true, false, ◌&&◌, ◌||◌}
use Rattle.std.specs.List.{list_any}
use Rattle.std.specs.Ordering.{eq_by_cmp}
use Rattle.pac_value.specs.State.{Cell, cell_cmp}
use Rattle.pac_plan.specs.declared.access.Access.{Access}
use Rattle.pac_plan.specs.declared.access.Access.TheVariants.{Keys, Whole}
use Rattle.pac_plan.specs.Pieces.{named_cell, conflicts}

-- the access is of the whole block
abbrev pub is_whole : Access → Bool
is_whole Whole = true
is_whole (Keys l) = false

-- the access touches the row at a key; a whole access touches and modifies none here
abbrev pub has_key : Access → Cell → Bool
has_key Whole a = false
has_key (Keys l) a = list_any (λ e. eq_by_cmp cell_cmp (named_cell e) a) l

-- the access modifies the row at a key
abbrev pub writes_key : Access → Cell → Bool
writes_key Whole a = false
writes_key (Keys l) a = list_any (λ e. e.is_write && eq_by_cmp cell_cmp (named_cell e) a) l

-- no number between the two passes the test
abbrev pub NoneBetween : (ℕ → Bool) → ℕ → ℕ → Type 0
NoneBetween test i j = (m : ℕ) → i < m → m < j → test m ≡ false

-- a later access is next to an earlier one: both touch a key that one of them modifies, with no modification of it between; or one
-- is whole, with no whole one between
abbrev pub IsNextPair : (ℕ → Access) → ℕ → ℕ → Type 0
IsNextPair at i j = (i < j)
    × (((a : Cell) × (has_key (at i) a ≡ true) × (has_key (at j) a ≡ true) × ((writes_key (at i) a || writes_key (at j) a) ≡ true) × NoneBetween (λ m. writes_key (at m) a) i j)
    ⊎ (((is_whole (at i) || is_whole (at j)) ≡ true) × NoneBetween (λ m. is_whole (at m)) i j))

-- next pairs one after another lead from an access to another
pub data Chain (at : ℕ → Access) : ℕ → ℕ → Type 0 where
  One : (i j : ℕ) → IsNextPair at i j → Chain at i j
  Then : (i m j : ℕ) → Chain at i m → Chain at m j → Chain at i j

-- a next pair conflicts, and accesses that conflict are joined by a chain of next pairs
abbrev pub NextPairs : Type 0
NextPairs = (at : ℕ → Access) (i j : ℕ)
    → (IsNextPair at i j → conflicts (at i) (at j) ≡ true) × (i < j → conflicts (at i) (at j) ≡ true → Chain at i j)

-- what is closed under next pairs is closed under conflicts
abbrev pub ClosedByNext : Type 0
ClosedByNext = (at : ℕ → Access) (F : ℕ → Bool) → ((i j : ℕ) → IsNextPair at i j → F j ≡ true → F i ≡ true)
    → (i j : ℕ) → i < j → conflicts (at i) (at j) ≡ true → F j ≡ true → F i ≡ true
