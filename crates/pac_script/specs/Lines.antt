-- The lines of a text, and where a script's catalogue ends.
use Rattle.std.specs.Prelude.{◌≡◌, ◌<◌, ℕ, zero, suc, Bool, true, false, ◌&&◌, nat_eq, List, [], ◌∷◌, take, drop, codes, Option, Some, None, if◌then◌else◌, slice_get}
use Rattle.std.specs.Cmp.Lexicographic.{pointwise}
use Rattle.pac_value.specs.Ascii.{line_feed}

-- a byte more at the start of the first line
abbrev pub with_first : ℕ → List (List ℕ) → List (List ℕ)
with_first b [] = (b ∷ []) ∷ []
with_first b (line ∷ others) = (b ∷ line) ∷ others

-- what stands between the line feeds of a text
abbrev pub lines : List ℕ → List (List ℕ)
lines [] = [] ∷ []
lines (b ∷ bs) = if nat_eq b line_feed then [] ∷ lines bs else with_first b (lines bs)

-- a line ends here: the text does, or a line feed comes
abbrev pub ends_line : List ℕ → Bool
ends_line [] = true
ends_line (b ∷ bs) = nat_eq b line_feed

-- a line that is exactly `---` comes first
abbrev pub begins_with_mark : List ℕ → Bool
begins_with_mark text = pointwise nat_eq (take 3 text) (codes "---") && ends_line (drop 3 text)

-- a line begins at this offset
abbrev pub begins_line : List ℕ → ℕ → Bool
begins_line text zero = true
begins_line text (suc i) = ends_with_feed (slice_get text i)
  where
    ends_with_feed : Option ℕ → Bool
    ends_with_feed None = false
    ends_with_feed (Some b) = nat_eq b line_feed

-- the line at this offset is exactly `---`
abbrev pub is_mark_at : List ℕ → ℕ → Bool
is_mark_at text i = begins_line text i && begins_with_mark (drop i text)

-- the first line that is exactly `---` begins here
pub record IsMark (text : List ℕ) (i : ℕ) : Type 0 where
  pub mark : is_mark_at text i ≡ true
  pub first : (j : ℕ) → j < i → is_mark_at text j ≡ false

-- no line is exactly `---`
abbrev pub HasNoMark : List ℕ → Type 0
HasNoMark text = (i : ℕ) → is_mark_at text i ≡ false
