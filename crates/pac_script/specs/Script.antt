-- What a script is: a catalogue of few operations, and after a line that is exactly `---` its request lines.
use Rattle.std.specs.Prelude.{◌≡◌, ◌+◌, ℕ, List, [], ◌∷◌, ◌++◌, take, drop, length, Option, Some, None, MatchOption, Result, Ok, Err}
use Rattle.std.specs.List.{AllZip}
use Rattle.pac_ops.specs.declared.batch.Batch.{Batch}
use Rattle.pac_types.specs.Accepted.{IsAccepted}
use Rattle.pac_types.specs.Typing.{CatalogueState}
use Rattle.pac_flat.specs.Unaccepted.{IsUnaccepted}
use Rattle.pac_request.specs.declared.fault.LineFault.{LineFault}
use Rattle.pac_request.specs.declared.request.Request.{Request}
use Rattle.pac_script.specs.declared.script.Script.{Script}
use Rattle.pac_script.specs.declared.script_fault.ScriptFault.{ScriptFault}
use Rattle.pac_script.specs.declared.script_fault.ScriptFault.TheVariants.{Unaccepted, Line}
use Rattle.pac_script.specs.Batches.{steps, AreCutInto}
use Rattle.pac_script.specs.Lines.{lines, IsMark, HasNoMark}
use Rattle.pac_request.specs.ScriptLines.{ScriptLineSays}

-- ---- where its parts stand

-- the mark, if there is one
abbrev pub MarkOf : List ℕ → Option ℕ → Type 0
MarkOf text mark = MatchOption mark (HasNoMark text) (λ at. IsMark text at)

-- the text before the mark, or all where there is none
abbrev pub text_before : List ℕ → Option ℕ → List ℕ
text_before text None = text
text_before text (Some at) = take at text

-- the text after the mark
abbrev pub text_after : List ℕ → Option ℕ → List ℕ
text_after text None = []
text_after text (Some at) = drop (at + 3) text

-- the lines after a line feed, where there is one
abbrev pub lines_after : List ℕ → List (List ℕ)
lines_after [] = []
lines_after (feed ∷ text) = lines text

-- ---- its lines

-- each line asks this or nothing
abbrev pub Accepts : CatalogueState → List (List ℕ) → List (Option Request) → Type 0
Accepts catalogue ls said = AllZip (λ line asked. ScriptLineSays catalogue line (Ok asked)) ls said

-- the lines are accepted, and these are the batches of what they ask
pub record HasBatches (catalogue : CatalogueState) (ls : List (List ℕ)) (batches : List Batch) : Type 0 where
  pub said : List (Option Request)
  pub accepted : Accepts catalogue ls said
  pub cut : AreCutInto (steps said) batches

-- the line with this number, from 1 on, has this fault, and each line before it is accepted
pub record IsFirstRefused (catalogue : CatalogueState) (ls : List (List ℕ)) (number : ℕ) (fault : LineFault) : Type 0 where
  pub before : List (List ℕ)
  pub line : List ℕ
  pub after : List (List ℕ)
  pub parts : ls ≡ before ++ (line ∷ after)
  pub counted : number ≡ length before + 1
  pub said : List (Option Request)
  pub accepted : Accepts catalogue before said
  pub refused : ScriptLineSays catalogue line (Err fault)

-- ---- scripts

-- the text before the mark is accepted with the catalogue, and the lines after it have the batches
pub record HasParts (prefix after : List ℕ) (script : Script) : Type 0 where
  pub accepted : IsAccepted prefix script.catalogue
  pub batches : HasBatches script.catalogue (lines_after after) script.batches

-- The first fault of the text before the mark and of the lines after it: why the text isn't accepted as a catalogue; and where it is,
-- the first line that is refused.
abbrev pub IsPartsFault : List ℕ → List ℕ → ScriptFault → Type 0
IsPartsFault prefix after (Unaccepted fault) = IsUnaccepted prefix fault
IsPartsFault prefix after (Line number fault) = (catalogue : CatalogueState) × IsAccepted prefix catalogue × IsFirstRefused catalogue (lines_after after) number fault

-- what the parts of a text are read as: this script, or this first fault
abbrev pub PartsSay : List ℕ → List ℕ → Result Script ScriptFault → Type 0
PartsSay prefix after (Ok script) = HasParts prefix after script
PartsSay prefix after (Err fault) = IsPartsFault prefix after fault

-- what a text is read as: what stands before the first line that is `---`, or all of it, is the catalogue's text, and the
-- lines after are the request lines
pub record ScriptSays (text : List ℕ) (answer : Result Script ScriptFault) : Type 0 where
  pub mark : Option ℕ
  pub is_mark : MarkOf text mark
  pub parts : PartsSay (text_before text mark) (text_after text mark) answer
