-- How often something stands in a list, and numbers added up over a list.
use Rattle.std.specs.Prelude.{◌==◌, ◌&&◌, ◌+◌, ℕ, zero, suc, Bool, true, false, List, [], ◌∷◌, ◌++◌}

-- 1 where it is so, else 0
abbrev pub one_if : Bool → ℕ
one_if true = 1
one_if false = 0

-- 1 if two pieces are the same, else 0
abbrev pub same : ℕ → ℕ → ℕ
same p q = one_if (p == q)

-- 1 if two pairs are the same, else 0
abbrev pub same_pair : ℕ × ℕ → ℕ × ℕ → ℕ
same_pair q r = one_if ((q.0 == r.0) && (q.1 == r.1))

-- how often a piece stands in a list
abbrev pub times_in : ℕ → List ℕ → ℕ
times_in p [] = 0
times_in p (x ∷ xs) = same p x + times_in p xs

-- how often a pair stands in a list
abbrev pub pair_times : ℕ × ℕ → List (ℕ × ℕ) → ℕ
pair_times q [] = 0
pair_times q (x ∷ xs) = same_pair q x + pair_times q xs

-- how many of the pairs have this piece as the later one
abbrev pub pairs_to : ℕ → List (ℕ × ℕ) → ℕ
pairs_to p [] = 0
pairs_to p (x ∷ xs) = same p x.1 + pairs_to p xs

-- a number of each member of a list, added up
abbrev pub sum_over : {V : Type 0} → (V → ℕ) → List V → ℕ
sum_over f [] = 0
sum_over f (v ∷ vs) = f v + sum_over f vs

-- the numbers below n, ascending
abbrev pub below : ℕ → List ℕ
below zero = []
below (suc n) = below n ++ n ∷ []

-- x before xs if the count is 0, else xs alone
abbrev pub keep_if : ℕ → ℕ → List ℕ → List ℕ
keep_if zero x xs = x ∷ xs
keep_if (suc n) x xs = xs

-- a list without the pieces of a share
abbrev pub except : List ℕ → List ℕ → List ℕ
except share [] = []
except share (x ∷ xs) = keep_if (times_in x share) x (except share xs)
