-- Lines that are longer than a reader holds: what it keeps of them.
use Rattle.std.specs.Prelude.{◌≡◌, ◌⊎◌, ℕ, ◌+◌, ◌<◌, Bool, List, [], ◌++◌, length, take, Option, Result}
use Rattle.pac_lines.specs.Calls.{IsCall}
use Rattle.pac_lines.specs.Lines.{HasNoFeed}
use Rattle.pac_lines.specs.Reading.{ReaderState}
use Rattle.pac_lines.specs.declared.line_error.LineError.{LineError}

-- a reader that hands out at most that many bytes of a line, and one more
pub record ShortState : Type 0 where
  pub state : ReaderState
  pub most : ℕ

-- The text is held without some bytes of its first line, or with all of them. More than `most` bytes of the line stand before those
-- that are left out.
pub record IsShort (most : ℕ) (text held : List ℕ) : Type 0 where
  pub head : List ℕ
  pub dropped : List ℕ
  pub more : List ℕ
  pub text_is : text ≡ head ++ (dropped ++ more)
  pub held_is : held ≡ head ++ more
  pub none : HasNoFeed (head ++ dropped)
  pub long : (dropped ≡ []) ⊎ (most < length head)

-- what a reader would be that leaves nothing out
pub record IsShortOf (whole : ReaderState) (reader : ShortState) : Type 0 where
  pub ahead : IsShort reader.most whole.ahead reader.state.ahead
  pub taken : whole.taken ≡ reader.state.taken
  pub limit : whole.limit ≡ reader.state.limit

-- A call does what a reader does that leaves nothing out, and hands out the line up to a byte more than the most.
pub record IsShortCall (before : ReaderState) (now : ShortState) (left left' : Option (List ℕ)) (result : Result Bool LineError) : Type 0 where
  pub whole : ReaderState
  pub call : IsCall before whole left left' result
  pub line : take (now.most + 1) now.state.line ≡ take (now.most + 1) whole.line
  pub short : IsShortOf whole now

-- the reader after it forgot its line, and all that is ahead but what tells that the line is longer than the most
abbrev pub kept : ShortState → ReaderState
kept reader = record { line = []; ahead = take (reader.most + 1) reader.state.ahead; taken = reader.state.taken; limit = reader.state.limit }
