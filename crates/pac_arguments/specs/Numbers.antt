-- Numbers as arguments spell them.
use Rattle.std.specs.Prelude.{ℕ, ◌+◌, ◌-◌, ◌*◌, Bool, ◌&&◌, nat_le, List, length, fold, Option, Some, None, if◌then◌else◌, option_and_then}
use Rattle.std.specs.List.{list_all}

-- a decimal digit
abbrev pub is_decimal : ℕ → Bool
is_decimal b = nat_le 48 b && nat_le b 57

-- the number that decimal digits are
abbrev pub digits_number : List ℕ → ℕ
digits_number digits = fold (λ n digit. n * 10 + (digit - 48)) 0 digits

-- one to eight decimal digits
abbrev pub is_number : List ℕ → Bool
is_number text = nat_le 1 (length text) && (nat_le (length text) 8 && list_all is_decimal text)

-- the number that the text is, where it is one to eight decimal digits
abbrev pub spelled_number : List ℕ → Option ℕ
spelled_number text = if is_number text then Some (digits_number text) else None

-- a number from 1 up to this
abbrev pub one_to : ℕ → ℕ → Option ℕ
one_to most n = if nat_le 1 n && nat_le n most then Some n else None

-- the same, where it is from 1 on, and no more than this
abbrev pub number_up_to : ℕ → List ℕ → Option ℕ
number_up_to most text = option_and_then (one_to most) (spelled_number text)
