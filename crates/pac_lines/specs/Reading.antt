-- What is ahead of a reader, and what it is seen as.
use Rattle.std.specs.Prelude.{◌≡◌, ℕ, ◌-◌, ◌<◌, List, ◌++◌, length, take, Option}
use Rattle.pac_outside.specs.Content.{Gave}
use Rattle.pac_lines.specs.Lines.{HasNoFeed}

-- the line that was handed out last, and the bytes that were taken and not handed out
pub record AheadState : Type 0 where
  pub line : List ℕ
  pub bytes : List ℕ

-- The line that was handed out last, the bytes that were taken and not handed out, how many were taken in all, and how
-- many may be before one more is too many.
pub record ReaderState : Type 0 where
  pub line : List ℕ
  pub ahead : List ℕ
  pub taken : ℕ
  pub limit : ℕ

-- there are bytes, and no line feed stands before the last of them
pub record HasNoLine (bytes : List ℕ) : Type 0 where
  pub some : 0 < length bytes
  pub prefix : HasNoFeed (take (length bytes - 1) bytes)

-- a read added that many bytes after those ahead
pub record IsReadAfter (old new : List ℕ) (left left' : Option (List ℕ)) (count : ℕ) : Type 0 where
  pub given : List ℕ
  pub gave : Gave left given left'
  pub bytes : new ≡ old ++ given
  pub counted : count ≡ length given
