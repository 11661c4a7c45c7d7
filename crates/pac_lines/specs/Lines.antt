-- The lines of a text.
use Rattle.std.specs.Prelude.{◌≡◌, ◌≢◌, ◌⊎◌, ℕ, Bool, true, false, nat_eq, List, [], ◌∷◌, ◌++◌, if◌then◌else◌}
use Rattle.std.specs.List.{AllByRecursion, flat_map, list_any}
use Rattle.pac_value.specs.Ascii.{line_feed}

-- whether a line feed stands in the text
abbrev pub has_feed : List ℕ → Bool
has_feed text = list_any (λ b. nat_eq b line_feed) text

-- a line feed stands in the text
abbrev pub HasFeed : List ℕ → Type 0
HasFeed text = has_feed text ≡ true

-- no line feed stands in the text
abbrev pub HasNoFeed : List ℕ → Type 0
HasNoFeed text = has_feed text ≡ false

-- lines that each have a line feed after them, and what stands after the last of these
pub record Lines : Type 0 where
  pub whole : List (List ℕ)
  pub rest : List ℕ

-- a line and its line feed
abbrev pub with_feed : List ℕ → List ℕ
with_feed line = line ++ line_feed ∷ []

-- the text is these lines, each with its line feed, and then the rest; no line feed stands in one of them, or in the rest
pub record AreLines (text : List ℕ) (lines : Lines) : Type 0 where
  pub split : text ≡ flat_map with_feed lines.whole ++ lines.rest
  pub whole : AllByRecursion HasNoFeed lines.whole
  pub rest : HasNoFeed lines.rest

-- a byte more at the start of the first line, which is the rest where no line is whole
abbrev pub with_first_byte : ℕ → List (List ℕ) → List ℕ → Lines
with_first_byte b [] rest = record { whole = []; rest = b ∷ rest }
with_first_byte b (line ∷ others) rest = record { whole = (b ∷ line) ∷ others; rest = rest }

-- the lines of a text and its rest: the only ones that are such
abbrev pub lines_of : List ℕ → Lines
lines_of [] = record { whole = []; rest = [] }
lines_of (b ∷ bs) = if nat_eq b line_feed then record { whole = [] ∷ (lines_of bs).whole; rest = (lines_of bs).rest } else with_first_byte b (lines_of bs).whole (lines_of bs).rest

-- the last line needs no line feed, unless it is empty
abbrev pub last_line : List ℕ → List (List ℕ)
last_line [] = []
last_line (b ∷ bs) = (b ∷ bs) ∷ []

-- all lines, the last one too
abbrev pub all_lines : Lines → List (List ℕ)
all_lines lines = lines.whole ++ last_line lines.rest

-- the line is the first of the text, and ended; what stands after its line feed is left
pub record IsEndedLine (text line left : List ℕ) : Type 0 where
  pub none : HasNoFeed line
  pub split : text ≡ line ++ line_feed ∷ left

-- the line is all of the text, which isn't empty and has no line feed
pub record IsLastLine (text line left : List ℕ) : Type 0 where
  pub none : HasNoFeed line
  pub some : line ≢ []
  pub all : text ≡ line
  pub end : left ≡ []

-- these lines are handed out one after another
abbrev pub HandsOut : List ℕ → List (List ℕ) → List ℕ → Type 0
HandsOut text [] left = text ≡ left
HandsOut text (line ∷ lines) left = (next : List ℕ) × (IsEndedLine text line next ⊎ IsLastLine text line next) × HandsOut next lines left
