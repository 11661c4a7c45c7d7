-- The rule of a countdown: what its words and its passes keep to between any two steps of any threads.
--
-- A piece may have to wait for others: a pair is an earlier piece and a later one that waits for it. Each piece has a word, a
-- number that threads change step by step. It starts as the number of pairs to the piece, and 1 more. An opening of the piece
-- takes 1 from it, and so does each count of a pair to it. Who leaves 0 is handed the piece.
use Rattle.std.specs.Prelude.{◌≡◌, ◌==◌, ◌+◌, ◌<◌, ◌≤◌, ℕ, Bool, true, false, List, [], ◌∷◌, length, slice_index_or}
use mathlib.Core.Option.{some}
use lib.ListN.{get_elem?}
use Rattle.atomic_table.specs.Table.{State}
use Rattle.pac_countdown.specs.Lists.{one_if, times_in, pair_times, pairs_to, sum_over, below}
use Rattle.pac_countdown.specs.declared.deeds.Deeds.{Deeds}
use Rattle.pac_countdown.specs.declared.deeds.PassKind.{PassKind}
use Rattle.pac_countdown.specs.declared.deeds.PassKind.TheVariants.{Opener, Lent, Spent}
use Rattle.pac_countdown.specs.declared.deeds.Agenda.{Agenda}

-- one moment of a countdown: its words, one of each piece, and its views, which are the deeds of each pass by the pass's number
abbrev pub Moment : Type 0
Moment = State (Unit {0}) Deeds

-- the pairs of an agenda
abbrev pub agenda_pairs : Agenda → List (ℕ × ℕ)
agenda_pairs agenda = agenda.preds.value

-- it is the opener's
abbrev pub is_opener : PassKind → Bool
is_opener Opener = true
is_opener Lent = false
is_opener Spent = false

-- it was split from the opener's, and not joined to it yet
abbrev pub is_lent : PassKind → Bool
is_lent Opener = false
is_lent Lent = true
is_lent Spent = false

-- how often a piece was opened, by all passes
abbrev pub opened_in : ℕ → List Deeds → ℕ
opened_in p views = sum_over (λ v. times_in p v.opened) views

-- how often a piece was handed out, to all passes
abbrev pub handed_in : ℕ → List Deeds → ℕ
handed_in p views = sum_over (λ v. times_in p v.handed) views

-- how often a pair was counted, by all passes
abbrev pub counted_in : ℕ × ℕ → List Deeds → ℕ
counted_in q views = sum_over (λ v. pair_times q v.counted) views

-- how many pairs to a piece were counted, by all passes
abbrev pub counted_to : ℕ → List Deeds → ℕ
counted_to p views = sum_over (λ v. pairs_to p v.counted) views

-- how many passes are the opener's
abbrev pub openers_in : List Deeds → ℕ
openers_in views = sum_over (λ v. one_if (is_opener v.kind)) views

-- how many passes were split and not joined
abbrev pub lent_in : List Deeds → ℕ
lent_in views = sum_over (λ v. one_if (is_lent v.kind)) views

-- what the word of a piece starts as: the number of pairs to it, and 1 for its opening
abbrev pub starting : List (ℕ × ℕ) → ℕ → ℕ
starting pairs p = pairs_to p pairs + 1

-- the word of a piece; of a number that is no piece, 1
abbrev pub word : List ℕ → ℕ → ℕ
word words p = slice_index_or words p 1

-- no piece of the list stands before one that it waits for
abbrev pub InOrder : List (ℕ × ℕ) → List ℕ → Type 0
InOrder pairs [] = Unit {0}
InOrder pairs (x ∷ xs) = ((y : ℕ) → 0 < times_in y xs → pair_times (y, x) pairs ≡ 0) × InOrder pairs xs

-- what the lists of a pass keep to, by its kind
abbrev pub FitsKind : List (ℕ × ℕ) → PassKind → Deeds → Type 0
-- the opener's has opened the first so many pieces, ascending
FitsKind pairs Opener v = v.opened ≡ below (length v.opened)
-- one that was split has opened none, and no piece that it was handed stands before one that it waits for
FitsKind pairs Lent v = (v.opened ≡ []) × InOrder pairs v.handed
-- one that was joined has empty lists
FitsKind pairs Spent v = (v.opened ≡ []) × (v.counted ≡ []) × (v.handed ≡ [])

-- what the deeds of one pass keep to, where so many passes are lent
pub record Fits (pairs : List (ℕ × ℕ)) (lent : ℕ) (v : Deeds) : Type 0 where
  -- a pair is counted only by a pass that was handed its earlier piece
  pub earlier : (q : ℕ × ℕ) → 0 < pair_times q v.counted → 0 < times_in q.0 v.handed
  -- its lists are as its kind asks
  pub kind : FitsKind pairs v.kind v
  -- the splits of the opener's pass are its joins and the passes that are lent
  pub splits : is_opener v.kind ≡ true → v.splits ≡ v.joins + lent

-- the rule
pub record IsCounted (agenda : Agenda) (s : Moment) : Type 0 where
  -- there is a word for each piece
  pub size : length s.words ≡ agenda.pieces
  -- the word of a piece, its openings and the counted pairs to it are together what the word started as
  pub counts : (p : ℕ) → word s.words p + opened_in p s.views + counted_to p s.views ≡ starting (agenda_pairs agenda) p
  -- no piece is opened twice
  pub opened_once : (p : ℕ) → opened_in p s.views ≤ 1
  -- no pair stands twice among the pairs
  pub pairs_once : (q : ℕ × ℕ) → pair_times q (agenda_pairs agenda) ≤ 1
  -- none is counted more often than it stands there, so none twice
  pub counted_once : (q : ℕ × ℕ) → counted_in q s.views ≤ pair_times q (agenda_pairs agenda)
  -- a piece was handed out once if its word is 0, and else never
  pub handed : (p : ℕ) → handed_in p s.views ≡ one_if (word s.words p == 0)
  -- exactly one pass is the opener's
  pub one_opener : openers_in s.views ≡ 1
  -- each pass keeps to its part
  pub each : (i : ℕ) (v : Deeds) → get_elem? s.views i ≡ some v → Fits (agenda_pairs agenda) (lent_in s.views) v

-- what follows from the rule for the pieces that were handed out
pub record GoesOnce (pairs : List (ℕ × ℕ)) (views : List Deeds) : Type 0 where
  -- a piece was handed to one pass
  pub one : (i j p : ℕ) (v w : Deeds) → get_elem? views i ≡ some v → get_elem? views j ≡ some w → 0 < times_in p v.handed → 0 < times_in p w.handed → i ≡ j
  -- each pair to it was counted by a pass that was handed the earlier piece
  pub after : (i : ℕ) (v : Deeds) (q : ℕ × ℕ) → get_elem? views i ≡ some v → 0 < times_in q.1 v.handed → 0 < pair_times q pairs
      → (j : ℕ) × (w : Deeds) × (get_elem? views j ≡ some w) × (0 < pair_times q w.counted) × (0 < times_in q.0 w.handed)

-- at each moment that keeps the rule, a piece was handed to one pass, after all that it waits for
abbrev pub RuleSays : Agenda → Type 0
RuleSays agenda = (s : Moment) → IsCounted agenda s → GoesOnce (agenda_pairs agenda) s.views
