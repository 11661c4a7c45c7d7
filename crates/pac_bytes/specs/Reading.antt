-- Reading bytes from the left, up to the first fault.
use Rattle.std.specs.Prelude.{◌+◌, ℕ, suc, zero, List, [], ◌∷◌, length, take, drop, Result, Ok, Err, nat_lt, nat_eq, if◌then◌else◌}
use Rattle.std.specs.Int.{Width, byte_len, from_le_bytes}
use Rattle.pac_value.specs.Expressions.{◌>>=◌}
use Rattle.pac_bytes.specs.declared.fault.Short.{Short}

-- what is left to read: the bytes from an offset on
pub record Rest : Type 0 where
  pub at : ℕ
  pub bytes : List ℕ

-- what is left of these bytes from this offset on; nothing is where they end before it
abbrev pub from : List ℕ → ℕ → Rest
from bytes at = record { at = at; bytes = drop at bytes }

-- what is left after the next n bytes
abbrev pub advanced : ℕ → Rest → Rest
advanced n s = record { at = s.at + n; bytes = drop n s.bytes }

-- a result with each fault reported so
abbrev pub reported_as : {F G A : Type 0} → (F → G) → Result A F → Result A G
reported_as report (Ok x) = Ok x
reported_as report (Err fault) = Err (report fault)

-- too few bytes are left for the field at this offset
abbrev pub short_at : ℕ → Short
short_at at = record { at = at }

-- the byte at the start, where the offset is at
abbrev pub leading_byte : ℕ → List ℕ → Result (ℕ × Rest) Short
leading_byte at [] = Err (short_at at)
leading_byte at (b ∷ bs) = Ok (b, record { at = at + 1; bytes = bs })

-- the next byte
abbrev pub next_byte : Rest → Result (ℕ × Rest) Short
next_byte s = leading_byte s.at s.bytes

-- the next n bytes; this fault where fewer are left
abbrev pub next_bytes : {F : Type 0} → F → ℕ → Rest → Result (List ℕ × Rest) F
next_bytes fault n s = if nat_lt (length s.bytes) n then Err fault else Ok (take n s.bytes, advanced n s)

-- the next number of this width, the lowest byte first
abbrev pub next_uint : Width → Rest → Result (ℕ × Rest) Short
next_uint w s = next_bytes (short_at s.at) (byte_len w) s >>= λ field. Ok (from_le_bytes w field.0, field.1)

-- that many of one form, one after another
unfoldable pub times : {F A : Type 0} → (Rest → Result (A × Rest) F) → ℕ → Rest → Result (List A × Rest) F
times read zero s = Ok ([], s)
times read (suc n) s = read s >>= λ x. times read n x.1 >>= λ xs. Ok (x.0 ∷ xs.0, xs.1)

-- one for each key, of the form that the key says, one after another
unfoldable pub along : {F K A : Type 0} → (K → Rest → Result (A × Rest) F) → List K → Rest → Result (List A × Rest) F
along read [] s = Ok ([], s)
along read (k ∷ ks) s = read k s >>= λ x. along read ks x.1 >>= λ xs. Ok (x.0 ∷ xs.0, xs.1)

-- what was read is all, and t stands after it; a fault at the first byte that is left, where one is
abbrev pub all_read : {F A : Type 0} → (ℕ → F) → Rest → A × Rest → Result (A × Rest) F
all_read left t x = if nat_eq (length x.1.bytes) 0 then Ok (x.0, t) else Err (left x.1.at)

-- what fills the next n bytes; one fault where fewer are left, another where some of them are left over
abbrev pub within : {F A : Type 0} → (ℕ → F) → (ℕ → F) → ℕ → (Rest → Result (A × Rest) F) → Rest → Result (A × Rest) F
within short left n read s = if nat_lt (length s.bytes) n then Err (short s.at) else read (record { at = s.at; bytes = take n s.bytes }) >>= all_read left (advanced n s)
