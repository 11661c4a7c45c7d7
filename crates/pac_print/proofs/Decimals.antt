-- An int in decimal is spelled by digits that have its value.
use Rattle.std.proofs.Common.{◌≡◌, ◌<◌, ◌≤◌, ◌+◌, ◌*◌, ◌-◌, ◌^◌, ℕ, true, List, [], ◌∷◌, length, fold, decimal, refl, arith}
use Rattle.std.specs.Cmp.{first_so, second_so}
use Rattle.std.specs.List.{list_all}
use Rattle.std.proofs.lemmas.Str.Parse.{IsDigitsTest, FoldsDigits, IsNumeralModel, numerals_by_fold}
use Rattle.std.proofs.lemmas.Fmt.{digits_decimal, digits_value-decimal, decimal_nonempty}
use Rattle.pac_tokens.specs.Tokens.{is_digit, digits_value, IsDigits}

AreDigits : List ℕ → Type 0
AreDigits ds = list_all is_digit ds ≡ true

digit_range : (b : ℕ) → is_digit b ≡ true → (48 ≤ b) × (b ≤ 57)
digit_range b h = grind arith

digit_passes : (b : ℕ) → 48 ≤ b → b ≤ 57 → is_digit b ≡ true
digit_passes b low high = grind arith

reports : IsDigitsTest AreDigits
unfolding AreDigits
reports = record {
  empty = refl;
  parts = λ c cs h. (digit_range c (first_so (is_digit c) (list_all is_digit cs) h), second_so (is_digit c) (list_all is_digit cs) h);
  more = λ c cs k h. rw (digit_passes c k.0 k.1) h;
}

folds : FoldsDigits (fold (λ n digit. n * 10 + (digit - 48)))
folds = record { empty = λ n. refl; more = λ n c cs k. refl }

model : IsNumeralModel AreDigits digits_value
model = numerals_by_fold AreDigits reports (fold (λ n digit. n * 10 + (digit - 48))) folds

some_digits : (ds : List ℕ) → AreDigits ds → 0 < length ds → IsDigits ds
unfolding AreDigits
some_digits [] h some = absurd (omega arith)
some_digits (d ∷ ds) h some = (first_so (is_digit d) (list_all is_digit ds) h, second_so (is_digit d) (list_all is_digit ds) h)

pub decimal_is_digits : (n : ℕ) → n < 2 ^ 64 → IsDigits (decimal n)
decimal_is_digits n h = some_digits (decimal n) (digits_decimal model n h) (decimal_nonempty n h)

pub decimal_has_value : (n : ℕ) → n < 2 ^ 64 → digits_value (decimal n) ≡ n
decimal_has_value n h = digits_value-decimal model n h
