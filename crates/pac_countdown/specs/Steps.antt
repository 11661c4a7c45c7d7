-- What each step does to the deeds of its pass, and what it tells its caller.
use Rattle.std.specs.Prelude.{◌≡◌, ◌==◌, ◌+◌, ◌-◌, ◌<◌, ◌≤◌, ℕ, Bool, true, false, List, [], ◌∷◌, ◌++◌, slice_set}
use mathlib.Core.Option.{some}
use lib.ListN.{get_elem?}
use Rattle.atomic_table.specs.Table.{Me, Step}
use Rattle.pac_countdown.specs.Lists.{times_in, pair_times, pairs_to, except}
use Rattle.pac_countdown.specs.Counted.{Moment, IsCounted, InOrder, agenda_pairs, starting, word}
use Rattle.pac_countdown.specs.declared.deeds.Deeds.{Deeds}
use Rattle.pac_countdown.specs.declared.deeds.PassKind.TheVariants.{Opener, Lent, Spent}
use Rattle.pac_countdown.specs.declared.deeds.Agenda.{Agenda}

-- each pair is an earlier piece and a later one
abbrev pub AreBelow : ℕ → List (ℕ × ℕ) → Type 0
AreBelow pieces pairs = (q : ℕ × ℕ) → 0 < pair_times q pairs → (q.0 < q.1) × (q.1 < pieces)

-- the opener's pass at first
abbrev pub first_deeds : Deeds
first_deeds = record { kind = Opener; opened = []; counted = []; handed = []; splits = 0; joins = 0 }

-- a list with one more piece, if it was handed out
abbrev pub handed_more : List ℕ → ℕ → Bool → List ℕ
handed_more pieces p true = pieces ++ p ∷ []
handed_more pieces p false = pieces

-- the deeds of a pass once it opened a piece, and was handed it or not
abbrev pub after_open : Deeds → ℕ → Bool → Deeds
after_open v p is_handed = record { kind = v.kind; opened = v.opened ++ p ∷ []; counted = v.counted; handed = handed_more v.handed p is_handed; splits = v.splits; joins = v.joins }

-- the deeds of a pass once it counted a pair, and was handed the later piece or not
abbrev pub after_count : Deeds → ℕ → ℕ → Bool → Deeds
after_count v from p is_handed = record { kind = v.kind; opened = v.opened; counted = v.counted ++ (from, p) ∷ []; handed = handed_more v.handed p is_handed; splits = v.splits; joins = v.joins }

-- the deeds of the opener's pass once it lent a share
abbrev pub after_split : List ℕ → Deeds → Deeds
after_split share v = record { kind = v.kind; opened = v.opened; counted = v.counted; handed = except share v.handed; splits = v.splits + 1; joins = v.joins }

-- the deeds of the pass that the share was lent to
abbrev pub lent_deeds : List ℕ → Deeds
lent_deeds share = record { kind = Lent; opened = []; counted = []; handed = share; splits = 0; joins = 0 }

-- the deeds of the opener's pass once another was joined to it
abbrev pub after_join : Deeds → Deeds → Deeds
after_join v w = record { kind = v.kind; opened = v.opened; counted = v.counted ++ w.counted; handed = v.handed ++ w.handed; splits = v.splits; joins = v.joins + 1 }

-- the deeds of a pass that was joined
abbrev pub spent_deeds : Deeds
spent_deeds = record { kind = Spent; opened = []; counted = []; handed = []; splits = 0; joins = 0 }

-- the pass with this number takes 1 from the word of p, which leaves n, and its deeds, which were v, become w
pub record TakesOne (agenda : Agenda) (number : ℕ) (p : ℕ) (v : Deeds) (n : ℕ) (w : Deeds) : Type 0 where
  -- there is a moment just before
  pub before : Moment
  -- the rule holds then
  pub held : IsCounted agenda before
  -- the deeds of the pass are v
  pub seen : get_elem? before.views number ≡ some v
  -- the word of p is one more than n
  pub found : word before.words p ≡ n + 1
  -- with n as that word and w as those deeds, and all else as it was, the rule holds again
  pub holds : IsCounted agenda record { words = slice_set before.words p n; homes = before.homes; views = slice_set before.views number w }

-- the pass with this number, whose deeds are v, finds n as the word of p
pub record FindsWord (agenda : Agenda) (number : ℕ) (p : ℕ) (v : Deeds) (n : ℕ) : Type 0 where
  -- there is a moment of which it is so
  pub moment : Moment
  -- the rule holds then
  pub holds : IsCounted agenda moment
  -- the deeds of the pass are v
  pub seen : get_elem? moment.views number ≡ some v
  -- the word of p is n
  pub found : word moment.words p ≡ n

-- whenever the deeds of the pass with this number are v and the rule holds, it holds with w in their place and a new pass with the deeds u
abbrev pub KeepsBySplit : Agenda → ℕ → Deeds → Deeds → Deeds → Type 0
KeepsBySplit agenda number v w u = (s : Moment) → IsCounted agenda s → get_elem? s.views number ≡ some v
    → IsCounted agenda record { words = s.words; homes = s.homes; views = slice_set s.views number w ++ u ∷ [] }

-- whenever the deeds of two passes are v and u and the rule holds, it holds with w in place of v, and with the other pass spent
abbrev pub KeepsByJoin : Agenda → ℕ → Deeds → ℕ → Deeds → Deeds → Type 0
KeepsByJoin agenda number v other u w = (s : Moment) → IsCounted agenda s → get_elem? s.views number ≡ some v → ¬ (other ≡ number)
    → get_elem? (slice_set s.views number w) other ≡ some u
    → IsCounted agenda record { words = s.words; homes = s.homes; views = slice_set (slice_set s.views number w) other spent_deeds }

-- what an opening tells: the word was not 0, and the piece is handed out if that left 0
abbrev pub HasOpened : Agenda → ℕ → Step (Unit {0}) → Me (Unit {0}) Deeds → ℕ → Me (Unit {0}) Deeds → Type 0
HasOpened agenda number st before found after =
    (after ≡ (after_open before.0 st.word (found == 1), before.1)) × (0 < found) × TakesOne agenda number st.word before.0 (found - 1) after.0

-- what a count tells: the later piece wasn't handed to the pass before, the word was not 0, and the piece is handed out if that left 0
abbrev pub HasCounted : Agenda → ℕ → ℕ → Step (Unit {0}) → Me (Unit {0}) Deeds → ℕ → Me (Unit {0}) Deeds → Type 0
HasCounted agenda number from st before found after =
    (after ≡ (after_count before.0 from st.word (found == 1), before.1)) × (0 < found) × (times_in st.word before.0.handed ≡ 0) × TakesOne agenda number st.word before.0 (found - 1) after.0

-- this piece was opened, and each pair to it was counted
abbrev pub IsDue : List (ℕ × ℕ) → Deeds → ℕ → Type 0
IsDue pairs v p = (0 < times_in p v.opened) × ((e : ℕ) → 0 < pair_times (e, p) pairs → 0 < pair_times (e, p) v.counted)

-- what holds of the opener's pass if all others are joined
pub record IsAll (pairs : List (ℕ × ℕ)) (v : Deeds) : Type 0 where
  -- no piece was handed out twice
  pub once : (p : ℕ) → times_in p v.handed ≤ 1
  -- a piece that was handed out was opened, with each pair to it counted
  pub due : (p : ℕ) → 0 < times_in p v.handed → IsDue pairs v p
  -- a piece that was opened, with each pair to it counted, was handed out
  pub handed : (p : ℕ) → IsDue pairs v p → 0 < times_in p v.handed

-- what a load tells of the word that it finds and of its pass
pub record HasLooked (pairs : List (ℕ × ℕ)) (p : ℕ) (v : Deeds) (found : ℕ) : Type 0 where
  -- the word of a piece that the pass was handed is 0
  pub done : 0 < times_in p v.handed → found ≡ 0
  -- it is at most what it started as, less the pass's own opening and counts
  pub most : found + times_in p v.opened + pairs_to p v.counted ≤ starting pairs p
  -- a pass that was split has its pieces in order
  pub ordered : v.kind ≡ Lent → InOrder pairs v.handed
  -- no more were joined than were split
  pub joins : v.kind ≡ Opener → v.joins ≤ v.splits
  -- where as many were, the opener's pass has all
  pub all : v.kind ≡ Opener → v.splits ≡ v.joins → IsAll pairs v

-- what a load tells its caller: nothing changes
abbrev pub HasLoaded : Agenda → ℕ → Step (Unit {0}) → Me (Unit {0}) Deeds → ℕ → Me (Unit {0}) Deeds → Type 0
HasLoaded agenda number st before found after =
    (after ≡ before) × HasLooked (agenda_pairs agenda) st.word before.0 found × FindsWord agenda number st.word before.0 found
