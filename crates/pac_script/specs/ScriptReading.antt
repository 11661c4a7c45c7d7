-- A script read one line after another. The clauses of public calls don't name these: they say the same of all lines.
use Rattle.std.specs.Prelude.{◌≡◌, ℕ, List, Option, Some, None, Err}
use Rattle.pac_types.specs.Typing.{CatalogueState}
use Rattle.pac_request.specs.declared.request.Request.{Request}
use Rattle.pac_script.specs.declared.script_fault.ScriptFault.{ScriptFault}
use Rattle.pac_script.specs.declared.script_fault.ScriptFault.TheVariants.{Line}
use Rattle.pac_script.specs.declared.step.ScriptStep.{ScriptStep}
use Rattle.pac_script.specs.Batches.{step_of}
use Rattle.pac_script.specs.Cutting.{Cut, cut_more, IsSmall}
use Rattle.pac_script.specs.Script.{IsFirstRefused}
use Rattle.pac_request.specs.ScriptLines.{ScriptLineSays}

-- the batches after a line that asks this
abbrev pub step_cut : Option ScriptStep → Cut → Cut
step_cut None cut = cut
step_cut (Some step) cut = cut_more step cut

-- the same of a request, if there is one
abbrev pub asked_cut : Option Request → Cut → Cut
asked_cut None cut = cut
asked_cut (Some asked) cut = step_cut (step_of asked) cut

-- a batch can hold what the line asks
abbrev pub IsSmallStep : Option ScriptStep → Type 0
IsSmallStep None = Unit {0}
IsSmallStep (Some step) = IsSmall step

-- the same of a request, if there is one
abbrev pub IsSmallAsked : Option Request → Type 0
IsSmallAsked None = Unit {0}
IsSmallAsked (Some asked) = IsSmallStep (step_of asked)

-- what is reported of the line with this number is its own fault
abbrev pub IsLineFault : CatalogueState → List ℕ → ℕ → ScriptFault → Type 0
IsLineFault catalogue line number (Line reported fault) = (reported ≡ number) × ScriptLineSays catalogue line (Err fault)
IsLineFault catalogue line number _ = ⊥

-- what is reported of lines is the first that is refused
abbrev pub IsLinesFault : CatalogueState → List (List ℕ) → ScriptFault → Type 0
IsLinesFault catalogue ls (Line number fault) = IsFirstRefused catalogue ls number fault
IsLinesFault catalogue ls _ = ⊥
