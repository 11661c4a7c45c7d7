-- What one call of a reader does.
use Rattle.std.specs.Prelude.{◌≡◌, ◌⊎◌, ◌↔◌, ℕ, ◌+◌, ◌-◌, ◌<◌, ◌≤◌, Bool, true, false, List, [], ◌∷◌, ◌++◌, length, take, Option, Result, Ok, Err, IsErrOf}
use Rattle.std.specs.Io.KnownBytes.{prepend_known}
use Rattle.pac_outside.specs.Content.{Gave, IsAtEnd}
use Rattle.pac_lines.specs.Lines.{HasNoFeed, IsEndedLine, IsLastLine}
use Rattle.pac_lines.specs.Reading.{HasNoLine, ReaderState}
use Rattle.pac_lines.specs.declared.limits.TheConstants.{MAX_READ}
use Rattle.pac_lines.specs.declared.line_error.LineError.{LineError}
use Rattle.pac_lines.specs.declared.line_error.LineError.TheVariants.{Failed, TooLong, NoMemory}

-- no line is handed out, and these bytes are ahead
abbrev pub Keeps : List ℕ → ReaderState → Type 0
Keeps text now = (now.line ≡ []) × (now.ahead ≡ text)

-- What is handed out of a text, which is what was ahead and then what the source gave: its first line that is ended, or
-- its last one where the source is at its end; none where nothing is left of both. An error leaves all of it ahead; where the
-- source failed no whole line is ahead.
abbrev pub AnswersLine : List ℕ → ReaderState → Option (List ℕ) → Result Bool LineError → Type 0
AnswersLine text now left (Ok true) = IsEndedLine text now.line now.ahead ⊎ (IsLastLine text now.line now.ahead × IsAtEnd left)
AnswersLine text now left (Ok false) = Keeps text now × (text ≡ []) × IsAtEnd left
AnswersLine text now left (Err Failed) = Keeps text now × HasNoFeed text
AnswersLine text now left (Err TooLong) = Keeps text now × HasNoLine text
AnswersLine text now left (Err NoMemory) = Keeps text now

-- the source was read only while no line feed was ahead: but for the last read none gave any
pub record IsReadOn (ahead given : List ℕ) : Type 0 where
  pub earlier : List ℕ
  pub last : List ℕ
  pub split : given ≡ earlier ++ last
  pub none : HasNoFeed (ahead ++ earlier)
  pub chunk : length last ≤ MAX_READ

-- a call of a reader: what the source gave, and what is handed out
pub record IsCall (before now : ReaderState) (left left' : Option (List ℕ)) (result : Result Bool LineError) : Type 0 where
  pub given : List ℕ
  pub gave : Gave left given left'
  pub counted : now.taken ≡ before.taken + length given
  pub limit : now.limit ≡ before.limit
  pub read : (given ≡ []) ⊎ IsReadOn before.ahead given
  pub answer : AnswersLine (before.ahead ++ given) now left' result

-- How a call keeps the limit: of the source no more is taken than the limit and one byte, and that one is what is too
-- long.
pub record KeepsLimit (now : ReaderState) (result : Result Bool LineError) : Type 0 where
  pub most : now.taken ≤ now.limit + 1
  pub long : IsErrOf result TooLong ↔ (now.limit < now.taken)

-- a read of a reader: the source gave that many bytes, none only at its end
pub record IsChunk (before now : ReaderState) (left left' : Option (List ℕ)) (count : ℕ) : Type 0 where
  pub given : List ℕ
  pub gave : Gave left given left'
  pub counted : count ≡ length given
  pub chunk : length given ≤ MAX_READ
  pub end : count ≡ 0 → IsAtEnd left'
  pub grown : now ≡ record { line = []; ahead = before.ahead ++ given; taken = before.taken + length given; limit = before.limit }

-- what is ahead and then left, where the source's bytes are known
abbrev pub known : ReaderState → Option (List ℕ) → Option (List ℕ)
known state left = prepend_known state.ahead left

-- calls one after another, each of which hands out the next of these lines
abbrev pub Calls : ReaderState → Option (List ℕ) → List (List ℕ) → ReaderState → Option (List ℕ) → Type 0
Calls before left [] now left' = (now ≡ before) × (left' ≡ left)
Calls before left (line ∷ lines) now left' = (next : ReaderState) × (mid : Option (List ℕ)) × IsCall before next left mid (Ok true) × (next.line ≡ line) × Calls next mid lines now left'

-- how many bytes may be handed out, of those that are ahead and then left
abbrev pub room : ReaderState → ℕ
room state = length state.ahead + state.limit - state.taken

-- the text is longer, and no line feed stands in what may be handed out of it
pub record HasTooMuch (before : ReaderState) (text : List ℕ) : Type 0 where
  pub longer : room before < length text
  pub none : HasNoFeed (take (room before) text)
