-- What a source has left and a sink holds, each where that is known.
use Rattle.std.specs.Prelude.{◌≡◌, ℕ, ◌<◌, ◌≤◌, List, [], length, take, Option, Result, MatchResult, IfOk, IfSome}
use Rattle.std.specs.Io.KnownBytes.{prepend_known, append_known}

-- these bytes were taken from the start of what was left; whether the source is known stays the same
abbrev pub Gave : Option (List ℕ) → List ℕ → Option (List ℕ) → Type 0
Gave old bytes new = old ≡ prepend_known bytes new

-- these bytes were added after what was held; whether the sink is known stays the same
abbrev pub Took : Option (List ℕ) → List ℕ → Option (List ℕ) → Type 0
Took old bytes new = new ≡ append_known old bytes

-- a prefix of the text was added after what was held
pub record TookPrefix (old : Option (List ℕ)) (text : List ℕ) (new : Option (List ℕ)) : Type 0 where
  pub count : ℕ
  pub within : count ≤ length text
  pub prefix : Took old (take count text) new

-- nothing is left to read
abbrev pub IsAtEnd : Option (List ℕ) → Type 0
IsAtEnd left = IfSome left (λ bytes. bytes ≡ [])

-- A read: what it put into the start of the buffer, which is shown as it is afterwards, was taken from what was left.
-- 0 bytes for a buffer that isn't empty are the end. A failed read takes nothing.
pub record IsRead {E : Type 0} (old new : Option (List ℕ)) (result : Result ℕ E) (buffer : List ℕ) : Type 0 where
  pub bytes : MatchResult result (λ count. Gave old (take count buffer) new) (λ _. new ≡ old)
  pub end : IfOk result (λ count. count ≡ 0 → 0 < length buffer → IsAtEnd new)

-- A write: a prefix of the piece was added to what was held, a byte at least unless the piece is empty. A failed write
-- adds nothing.
pub record IsWrite {E : Type 0} (old new : Option (List ℕ)) (result : Result ℕ E) (piece : List ℕ) : Type 0 where
  pub within : IfOk result (λ count. count ≤ length piece)
  pub some : IfOk result (λ count. 0 < length piece → 0 < count)
  pub bytes : MatchResult result (λ count. Took old (take count piece) new) (λ _. new ≡ old)

-- at most this many bytes were taken from the start of what was left
pub record GaveAtMost (most : ℕ) (old new : Option (List ℕ)) : Type 0 where
  pub bytes : List ℕ
  pub within : length bytes ≤ most
  pub prefix : Gave old bytes new
