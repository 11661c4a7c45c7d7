-- The bytes of values, and how they are read.
use Rattle.std.specs.Prelude.{ℕ, List, [], ◌∷◌, length, Result, Ok, Err, nat_lt, nat_eq, if◌then◌else◌, FitsSigned}
use Rattle.std.specs.Int.{w64, to_le_bytes, cast_signed, cast_unsigned}
use Rattle.std.specs.List.{list_all}
use Rattle.pac_value.specs.declared.limits.TheConstants.{MAX_TEXT}
use Rattle.pac_value.specs.declared.values.Ty.{Ty}
use Rattle.pac_value.specs.declared.values.Ty.TheVariants.{Int as IntTy, Text as TextTy}
use Rattle.pac_value.specs.declared.values.Value.{Value}
use Rattle.pac_value.specs.declared.values.Value.TheVariants.{Int, Text, Bool as Truth}
use Rattle.pac_value.specs.Expressions.{◌>>=◌}
use Rattle.pac_value.specs.Texts.{IsText, is_printable}
use Rattle.pac_bytes.specs.declared.fault.Short.{Short}
use Rattle.pac_bytes.specs.declared.fault.ValueFault.{ValueFault}
use Rattle.pac_bytes.specs.declared.fault.ValueFault.TheVariants as fault
use Rattle.pac_bytes.specs.Reading.{Rest, reported_as, next_byte, next_bytes, next_uint}

-- an int is the tag 1 and eight bytes, a text the tag 2, its length and its bytes; a bool has no bytes
abbrev pub value_bytes : Value → List ℕ
value_bytes (Int z) = 1 ∷ to_le_bytes w64 (cast_unsigned w64 z)
value_bytes (Text t) = 2 ∷ length t ∷ t
value_bytes (Truth b) = []

-- a value that has bytes: an int of 64 bits, or a text
abbrev pub HasBytes : Value → Type 0
HasBytes (Int z) = FitsSigned w64 z
HasBytes (Text t) = IsText t
HasBytes (Truth b) = ⊥

-- a field that is cut short, as a fault of the value that it is of
abbrev pub as_value_fault : Short → ValueFault
as_value_fault short = fault.Short short.at

-- the type that this tag says, which stands at this offset
abbrev pub type_of_tag : ℕ → ℕ → Result Ty ValueFault
type_of_tag at tag = if nat_eq tag 1 then Ok IntTy else (if nat_eq tag 2 then Ok TextTy else Err (fault.Tag at))

-- the type of the next value, by its tag alone
abbrev pub next_type : Rest → Result Ty ValueFault
next_type s = reported_as as_value_fault (next_byte s) >>= λ tag. type_of_tag s.at tag.0

-- an int, after its tag
abbrev pub int_body : Rest → Result (Value × Rest) ValueFault
int_body s = reported_as as_value_fault (next_uint w64 s) >>= λ n. Ok (Int (cast_signed w64 n.0), n.1)

-- the text of these bytes, where all are printable; its tag stands at tag
abbrev pub printable_text : ℕ → List ℕ → Rest → Result (Value × Rest) ValueFault
printable_text tag bytes rest = if list_all is_printable bytes then Ok (Text bytes, rest) else Err (fault.Bad tag)

-- A text of that many bytes. Its length stands at field, and its tag at tag. One that is too long is bad before it is short.
abbrev pub text_of_length : ℕ → ℕ → ℕ → Rest → Result (Value × Rest) ValueFault
text_of_length tag field len s = if nat_lt MAX_TEXT len then Err (fault.Bad tag) else next_bytes (fault.Short field) len s >>= λ t. printable_text tag t.0 t.1

-- a text, after its tag, which stands at tag
abbrev pub text_body : ℕ → Rest → Result (Value × Rest) ValueFault
text_body tag s = reported_as as_value_fault (next_byte s) >>= λ len. text_of_length tag s.at len.0 len.1

-- a value, after this tag, which stands at this offset
abbrev pub value_body : ℕ → ℕ → Rest → Result (Value × Rest) ValueFault
value_body at tag s = if nat_eq tag 1 then int_body s else (if nat_eq tag 2 then text_body at s else Err (fault.Tag at))

-- the next value, or its first fault
unfoldable pub next_value : Rest → Result (Value × Rest) ValueFault
next_value s = reported_as as_value_fault (next_byte s) >>= λ tag. value_body s.at tag.0 tag.1
