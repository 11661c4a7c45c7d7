-- What follows from the result of a step, and of a test.
use Rattle.std.proofs.Common.{◌≡◌, Bool, true, false, cond, Result, Ok, Err, refl}
use Rattle.pac_value.specs.Expressions.{◌>>=◌}
use Rattle.pac_bytes.specs.Reading.{reported_as}

-- two steps that end well: what the first gave, and that the second ends so from there
pub bind_ok : {A B F : Type 0} (r : Result A F) (f : A → Result B F) (y : B) → (r >>= f) ≡ Ok y → (x : A) × (r ≡ Ok x) × (f x ≡ Ok y)
bind_ok (Ok x) f y e = (x, refl, e)
bind_ok (Err fault) f y e = absurd cc

-- a first step that ends well is followed by the second
pub bind_of_ok : {A B F : Type 0} (r : Result A F) (x : A) (f : A → Result B F) (y : Result B F) → r ≡ Ok x → f x ≡ y → (r >>= f) ≡ y
bind_of_ok r x f y e h = rw e h

pub reported_as_ok : {A F G : Type 0} (report : F → G) (r : Result A F) (y : A) → reported_as report r ≡ Ok y → r ≡ Ok y
reported_as_ok report (Ok x) y e = cc
reported_as_ok report (Err fault) y e = absurd cc

abbrev ok_of : {A F : Type 0} → A → Result A F
ok_of x = Ok x

-- two that end well alike end with the same
pub ok_same : {A F : Type 0} (x y : A) → ok_of {F = F} x ≡ ok_of y → x ≡ y
ok_same x y e = cc

-- a test that ends well where it is false was false
pub false_ok : {A F : Type 0} (test : Bool) (fault : F) (r : Result A F) (y : A) → cond test (Err fault) r ≡ Ok y → (test ≡ false) × (r ≡ Ok y)
false_ok true fault r y e = absurd cc
false_ok false fault r y e = (refl, e)

-- a test that ends well where it is true was true
pub true_ok : {A F : Type 0} (test : Bool) (fault : F) (r : Result A F) (y : A) → cond test r (Err fault) ≡ Ok y → (test ≡ true) × (r ≡ Ok y)
true_ok true fault r y e = (refl, e)
true_ok false fault r y e = absurd cc

pub not_both : (b : Bool) → b ≡ true → b ≡ false → ⊥
not_both b is_true is_false = cc
