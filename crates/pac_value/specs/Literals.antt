-- How values, keys and rows are written.
use Rattle.std.specs.Prelude.{ℕ, true, false, List, [], ◌∷◌, ◌++◌, codes, flat_map, nat_eq, ◌||◌, if◌then◌else◌}
use Rattle.std.specs.Fmt.{signed_decimal}
use Rattle.pac_value.specs.declared.values.Value.{Value}
use Rattle.pac_value.specs.declared.values.Value.TheVariants as value
use Rattle.pac_value.specs.declared.values.Key.{Key}
use Rattle.pac_value.specs.declared.values.Key.TheVariants as key
use Rattle.pac_value.specs.Ascii.{quote, backslash}

-- a byte of a text in its spelling: `"` and `\` have a `\` before it
abbrev pub escaped_byte : ℕ → List ℕ
escaped_byte b = if nat_eq b quote || nat_eq b backslash then backslash ∷ b ∷ [] else b ∷ []

-- the bytes of a text in their spelling
abbrev pub escaped : List ℕ → List ℕ
escaped [] = []
escaped (b ∷ bs) = escaped_byte b ++ escaped bs

-- a text between its quotes
abbrev pub quoted : List ℕ → List ℕ
quoted text = quote ∷ (escaped text ++ (quote ∷ []))

-- a value as a literal: an int in decimal, a text in its quotes, `true` or `false`
abbrev pub value_text : Value → List ℕ
value_text (value.Int n) = signed_decimal n
value_text (value.Text text) = quoted text
value_text (value.Bool true) = codes "true"
value_text (value.Bool false) = codes "false"

-- a key as a literal, as the value of its type
abbrev pub key_text : Key → List ℕ
key_text (key.Int n) = signed_decimal n
key_text (key.Text text) = quoted text

-- a value of a row that isn't its first
abbrev pub further_value_text : Value → List ℕ
further_value_text v = codes ", " ++ value_text v

-- the values of a row with a comma and a space between them
abbrev pub values_text : List Value → List ℕ
values_text [] = []
values_text (v ∷ vs) = value_text v ++ flat_map further_value_text vs
