-- Few bytes at the start of an array of n.
use Rattle.std.specs.Prelude.{◌≡◌, ◌≤◌, ◌-◌, ℕ, List, ◌++◌, length, drop, replicate}

-- the first len bytes count, and the others are 0
pub record IsPadded (n : ℕ) (bytes : List ℕ) (len : ℕ) : Type 0 where
  pub room : length bytes ≡ n
  pub fits : len ≤ n
  pub zeros : drop len bytes ≡ replicate (n - len) 0

-- the bytes with zeros after them up to n
abbrev pub padded : ℕ → List ℕ → List ℕ
padded n bytes = bytes ++ replicate (n - length bytes) 0
