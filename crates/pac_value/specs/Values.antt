-- The types of values, their order, and the rows of tables.
use Rattle.std.specs.Prelude.{pos, ◌≤◌, nat_eq, Bool, true, false, List, length, IsTrue}
use Rattle.std.specs.List.{list_all}
use Rattle.std.specs.Ordering.{nat_cmp, int_cmp, int_eq}
use Rattle.std.specs.Cmp.Lexicographic.{slice_cmp, pointwise}
use Rattle.std.specs.declared.cmp.Ordering.{Ordering}
use Rattle.std.specs.declared.cmp.Ordering.TheVariants.{Equal}
use mathlib.Core.Bool.{beq}
use Rattle.pac_value.specs.declared.limits.TheConstants.{MAX_COLUMNS}
use Rattle.pac_value.specs.declared.values.Ty.{Ty}
use Rattle.pac_value.specs.declared.values.Ty.TheVariants.{Int as IntTy, Text as TextTy, Bool as BoolTy}
use Rattle.pac_value.specs.declared.values.Key.{Key}
use Rattle.pac_value.specs.declared.values.Key.TheVariants.{Int as IntKey, Text as TextKey}
use Rattle.pac_value.specs.declared.values.Value.{Value}
use Rattle.pac_value.specs.declared.values.Value.TheVariants.{Int, Text, Bool as Truth}

-- the type of a value
abbrev pub type_of : Value → Ty
type_of (Int n) = IntTy
type_of (Text t) = TextTy
type_of (Truth b) = BoolTy

-- one value of one type
abbrev pub same_value : Value → Value → Bool
same_value (Int a) (Int b) = int_eq a b
same_value (Text a) (Text b) = pointwise nat_eq a b
same_value (Truth a) (Truth b) = beq a b
same_value _ _ = false

-- ints by value, texts by their bytes with a proper prefix first; nothing else is compared
abbrev pub value_cmp : Value → Value → Ordering
value_cmp (Int a) (Int b) = int_cmp a b
value_cmp (Text a) (Text b) = slice_cmp nat_cmp a b
value_cmp _ _ = Equal

-- a value that a column can hold: no bool
abbrev pub is_stored : Value → Bool
is_stored (Int n) = true
is_stored (Text t) = true
is_stored (Truth b) = false

-- a value or more, and not too many, that columns can hold
abbrev pub IsRow : List Value → Type 0
IsRow values = (1 ≤ length values) × (length values ≤ MAX_COLUMNS) × IsTrue (list_all is_stored values)

-- the value that a key is
abbrev pub key_value : Key → Value
key_value (IntKey n) = Int n
key_value (TextKey t) = Text t

-- the key with an int's or a text's value; a bool is not well typed there
abbrev pub as_key : Value → Key
as_key (Int n) = IntKey n
as_key (Text t) = TextKey t
as_key (Truth b) = IntKey (pos 0)
