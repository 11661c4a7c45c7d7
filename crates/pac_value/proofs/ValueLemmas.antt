-- `==` of values decides whether they are equal.
use Rattle.std.proofs.Common.{◌≡◌, true, false, refl, ap}
use Rattle.std.specs.Bool.{Decides}
use Rattle.std.proofs.lemmas.Bool.Decides.{Decides-int_eq}
use Rattle.std.specs.Cmp.Lexicographic.{bytes_decides}
use Rattle.pac_value.specs.declared.values.Value.{Value}
use Rattle.pac_value.specs.declared.values.Value.TheVariants.{Int, Text, Bool as Truth}
use Rattle.pac_value.specs.contracts.values.ValuePartialEq.TheImpl.{ghosts}

pub value_decides : (a b : Value) → Decides ((ghosts).eq a b) (a ≡ b)
value_decides (Int a) (Int b) = let d = Decides-int_eq a b in (λ h. ap Int (d.0 h), λ e. d.1 (cc))
value_decides (Text a) (Text b) = let d = bytes_decides a b in (λ h. ap Text (d.0 h), λ e. d.1 (cc))
value_decides (Truth true) (Truth true) = (λ h. refl, λ e. refl)
value_decides (Truth true) (Truth false) = (λ h. cc, λ e. cc)
value_decides (Truth false) (Truth true) = (λ h. cc, λ e. cc)
value_decides (Truth false) (Truth false) = (λ h. refl, λ e. refl)
value_decides (Int a) (Text b) = (λ h. cc, λ e. cc)
value_decides (Int a) (Truth b) = (λ h. cc, λ e. cc)
value_decides (Text a) (Int b) = (λ h. cc, λ e. cc)
value_decides (Text a) (Truth b) = (λ h. cc, λ e. cc)
value_decides (Truth a) (Int b) = (λ h. cc, λ e. cc)
value_decides (Truth a) (Text b) = (λ h. cc, λ e. cc)
