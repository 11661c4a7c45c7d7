-- What the lines of an input ask.
use Rattle.std.specs.Prelude.{◌≡◌, ◌⊎◌, ◌+◌, ◌≤◌, ℕ, false, List, [], ◌∷◌, ◌++◌, length, Option, Some, None, Ok, Err, IfSome}
use Rattle.std.specs.Io.KnownBytes.{prepend_known}
use Rattle.std.specs.List.{AllByRecursion}
use Rattle.pac_outside.specs.Content.{Gave, IsAtEnd}
use Rattle.pac_lines.specs.Lines.{HandsOut}
use Rattle.pac_lines.specs.Reading.{HasNoLine}
use Rattle.pac_types.specs.Typing.{CatalogueState}
use Rattle.pac_request.specs.declared.request.Request.{Request}
use Rattle.pac_request.specs.declared.request.Request.TheVariants as request
use Rattle.pac_request.specs.LineReading.{LineAnswer, LineSays}
use Rattle.pac_engine.specs.Closing.{is_stop}
use Rattle.pac_run.specs.declared.limits.TheConstants.{MAX_INPUT}

-- a request, if there is one, as a list
abbrev pub listed_asked : Option Request → List Request
listed_asked None = []
listed_asked (Some asked) = asked ∷ []

-- the request of a line: none of one that asks nothing, and one that reports so of one that is refused
abbrev pub asked_of : LineAnswer → List Request
asked_of (Ok asked) = listed_asked asked
asked_of (Err fault) = request.Refused fault ∷ []

-- this is the request of the line
pub record LineAsks (catalogue : CatalogueState) (line : List ℕ) (asked : List Request) : Type 0 where
  pub answer : LineAnswer
  pub says : LineSays catalogue line answer
  pub is : asked ≡ asked_of answer

-- and these are the requests of lines, in their order
abbrev pub LinesAsk : CatalogueState → List (List ℕ) → List Request → Type 0
LinesAsk catalogue [] requests = requests ≡ []
LinesAsk catalogue (line ∷ lines) requests = (asked : List Request) × (rest : List Request) × LineAsks catalogue line asked × LinesAsk catalogue lines rest × (requests ≡ asked ++ rest)

-- What was asked: what the lines ask, and a stop after it where the end of the input was met.
abbrev pub WereAsked : CatalogueState → List (List ℕ) → Option (List ℕ) → List Request → Type 0
WereAsked catalogue lines left requests = LinesAsk catalogue lines requests ⊎ ((before : List Request) × LinesAsk catalogue lines before × (requests ≡ before ++ request.Stop ∷ []) × IsAtEnd left)

-- none of the requests is a stop
abbrev pub NoStop : List Request → Type 0
NoStop requests = AllByRecursion (λ asked. is_stop asked ≡ false) requests

-- none of them is a save
abbrev pub NoSave : List Request → Type 0
NoSave requests = AllByRecursion (λ asked. asked ≡ request.Save → ⊥) requests

-- none of them but the last is a stop
abbrev pub StopsLast : List Request → Type 0
StopsLast [] = Unit {0}
StopsLast (asked ∷ []) = Unit {0}
StopsLast (asked ∷ next ∷ requests) = (is_stop asked ≡ false) × StopsLast (next ∷ requests)

-- Where the source's bytes are known, the lines were handed out one after another from the start of what it had left, each as a whole or
-- the last one up to its end. These bytes of the rest were taken too.
abbrev pub WereHandled : Option (List ℕ) → List (List ℕ) → List ℕ → Option (List ℕ) → Type 0
WereHandled left lines ahead left' = IfSome left (λ text. (rest : List ℕ) × (prepend_known ahead left' ≡ Some rest) × HandsOut text lines rest)

-- at most that many bytes were taken from the input
pub record TookAtMost (most : ℕ) (left left' : Option (List ℕ)) : Type 0 where
  pub bytes : List ℕ
  pub gave : Gave left bytes left'
  pub few : length bytes ≤ most

-- one byte too many was taken from the input, and of what wasn't handled no line is whole before it
pub record IsOverLong (ahead : List ℕ) (left left' : Option (List ℕ)) : Type 0 where
  pub bytes : List ℕ
  pub gave : Gave left bytes left'
  pub more : length bytes ≡ MAX_INPUT + 1
  pub none : HasNoLine ahead
