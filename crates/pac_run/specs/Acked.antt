-- What an output says to any reader.
use Rattle.std.specs.Prelude.{◌⊎◌, ◌≡◌, ℕ, ◌^◌, ◌<◌, List, [], ◌∷◌, ◌++◌, codes}
use Rattle.std.specs.Fmt.{decimal}
use Rattle.pac_lines.specs.Lines.{lines_of}

-- the lines that end with a line feed, each without it
abbrev pub whole_lines : List ℕ → List (List ℕ)
whole_lines output = (lines_of output).whole

-- the line is one of these
abbrev pub IsOneOfLines : List ℕ → List (List ℕ) → Type 0
IsOneOfLines line [] = ⊥
IsOneOfLines line (first ∷ lines) = (line ≡ first) ⊎ IsOneOfLines line lines

-- the output has the whole line `committed NUMBER`
abbrev pub Acknowledges : List ℕ → ℕ → Type 0
Acknowledges output number = (number < 2 ^ 64) × IsOneOfLines (codes "committed " ++ decimal number) (whole_lines output)

-- the output has the whole line `saved NUMBER`
abbrev pub ReportsSaved : List ℕ → ℕ → Type 0
ReportsSaved output number = (number < 2 ^ 64) × IsOneOfLines (codes "saved " ++ decimal number) (whole_lines output)
