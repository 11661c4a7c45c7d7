-- Values and keys of a type that is wanted: which have it, and how they are read.
use Rattle.std.specs.Prelude.{◌≡◌, Bool, true, false, List, ℕ, map, Result, Ok, Err, if◌then◌else◌}
use Rattle.std.specs.List.{flat_map, All}
use Rattle.pac_value.specs.declared.values.Ty.{Ty}
use Rattle.pac_value.specs.declared.values.Ty.TheVariants.{Int as IntTy, Text as TextTy, Bool as BoolTy}
use Rattle.pac_value.specs.declared.values.Key.{Key}
use Rattle.pac_value.specs.declared.values.Value.{Value}
use Rattle.pac_value.specs.Expressions.{◌>>=◌}
use Rattle.pac_value.specs.Values.{type_of, key_value, as_key}
use Rattle.pac_bytes.specs.declared.fault.ValueFault.{ValueFault}
use Rattle.pac_bytes.specs.declared.fault.ValueFault.TheVariants.{Short, Tag, Bad}
use Rattle.pac_bytes.specs.declared.fault.TypedFault.{TypedFault}
use Rattle.pac_bytes.specs.declared.fault.TypedFault.TheVariants as typed
use Rattle.pac_bytes.specs.Reading.{Rest, reported_as, along}
use Rattle.pac_bytes.specs.Values.{value_bytes, HasBytes, next_type, next_value}

-- a value of this type that has bytes
abbrev pub HasType : Ty → Value → Type 0
HasType ty v = HasBytes v × (type_of v ≡ ty)

-- the bytes of a key are those of the value that it is
abbrev pub key_bytes : Key → List ℕ
key_bytes key = value_bytes (key_value key)

-- a key of this type that has bytes
abbrev pub KeyHasType : Ty → Key → Type 0
KeyHasType ty key = HasType ty (key_value key)

-- the bytes of values, one after another
abbrev pub values_bytes : List Value → List ℕ
values_bytes values = flat_map value_bytes values

-- one value for each of these types, in order, that has it and has bytes
abbrev pub HaveTypes : List Ty → List Value → Type 0
HaveTypes types values = (map type_of values ≡ types) × All HasBytes values

-- a fault of a value where one of some type is wanted: a text that is not right is reported as a value of another type is
abbrev pub as_typed_fault : ValueFault → TypedFault
as_typed_fault (Short at) = typed.Short at
as_typed_fault (Tag at) = typed.Tag at
as_typed_fault (Bad at) = typed.Wrong at

-- one type
abbrev pub same_type : Ty → Ty → Bool
same_type IntTy IntTy = true
same_type TextTy TextTy = true
same_type BoolTy BoolTy = true
same_type _ _ = false

-- the next value, which has to be of this type; its type is compared before its bytes are looked at
unfoldable pub next_typed : Ty → Rest → Result (Value × Rest) TypedFault
next_typed ty s = reported_as as_typed_fault (next_type s)
    >>= λ found. if same_type found ty then reported_as as_typed_fault (next_value s) else Err (typed.Wrong s.at)

-- the next key, which has to be of this type
unfoldable pub next_key : Ty → Rest → Result (Key × Rest) TypedFault
next_key ty s = next_typed ty s >>= λ v. Ok (as_key v.0, v.1)

-- the next values, one of each of these types
abbrev pub next_values : List Ty → Rest → Result (List Value × Rest) TypedFault
next_values types s = along next_typed types s
