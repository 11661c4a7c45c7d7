-- What a worker does with the pieces that it is handed, and the opener around the workers.
use Rattle.std.specs.Prelude.{◌≡◌, ◌==◌, ◌+◌, ◌<◌, ◌≤◌, ℕ, Bool, true, false, List, [], ◌∷◌, ◌++◌, length, slice_index_or}
use Rattle.pac_countdown.specs.Lists.{times_in, pair_times, below}
use Rattle.pac_countdown.specs.Counted.{InOrder, agenda_pairs}
use Rattle.pac_countdown.specs.Shares.{times_in_all, AreOrdered}
use Rattle.pac_countdown.specs.declared.deeds.Deeds.{Deeds}
use Rattle.pac_countdown.specs.declared.deeds.PassKind.TheVariants.{Opener, Lent}
use Rattle.pac_countdown.specs.declared.countdown.Countdown.{Countdown}
use Rattle.pac_countdown.specs.declared.worker.Worker.{Worker}

-- a pair before others, if it is so
abbrev pub cons_if : Bool → ℕ × ℕ → List (ℕ × ℕ) → List (ℕ × ℕ)
cons_if true q qs = q ∷ qs
cons_if false q qs = qs

-- the pairs whose earlier piece this is
abbrev pub pairs_from : List (ℕ × ℕ) → ℕ → List (ℕ × ℕ)
pairs_from [] p = []
pairs_from (q ∷ qs) p = cons_if (q.0 == p) q (pairs_from qs p)

-- each pair of these pieces, in turn
abbrev pub pairs_of_all : List (ℕ × ℕ) → List ℕ → List (ℕ × ℕ)
pairs_of_all pairs [] = []
pairs_of_all pairs (p ∷ ps) = pairs_from pairs p ++ pairs_of_all pairs ps

-- a piece paired with each of these later ones
abbrev pub paired : ℕ → List ℕ → List (ℕ × ℕ)
paired p [] = []
paired p (x ∷ xs) = (p, x) ∷ paired p xs

-- the list of each piece has the later pieces of its pairs
abbrev pub AreLaters : List (ℕ × ℕ) → ℕ → List (List ℕ) → Type 0
AreLaters pairs pieces laters = (p : ℕ) → p < pieces → paired p (slice_index_or laters p []) ≡ pairs_from pairs p

-- there is such a list for each piece of the countdown
abbrev pub HasLaters : Countdown → List (List ℕ) → Type 0
HasLaters countdown laters = (length laters ≡ countdown.agenda.pieces) × AreLaters (agenda_pairs countdown.agenda) countdown.agenda.pieces laters

-- no piece stands twice, and each is less than this number
pub record AreDistinctBelow (n : ℕ) (pieces : List ℕ) : Type 0 where
  pub differ : (p : ℕ) → times_in p pieces ≤ 1
  pub few : (p : ℕ) → 0 < times_in p pieces → p < n

-- the worker's pass was split, its list is what the pass was handed, and no piece stands in it twice
pub record IsHeld (countdown : Countdown) (worker : Worker) : Type 0 where
  pub of : worker.pass.countdown ≡ countdown.id
  pub lent : worker.pass.deeds.kind ≡ Lent
  pub handed : worker.pass.deeds.handed ≡ worker.pieces.items
  pub distinct : AreDistinctBelow countdown.agenda.pieces worker.pieces.items

-- no pair is counted yet
pub record IsUnworked (countdown : Countdown) (worker : Worker) : Type 0 where
  pub held : IsHeld countdown worker
  pub none_counted : worker.pass.deeds.counted ≡ []

-- each pair of the pieces is counted, and the pieces are in order
pub record IsWorkedOff (countdown : Countdown) (worker : Worker) : Type 0 where
  pub held : IsHeld countdown worker
  pub counted : worker.pass.deeds.counted ≡ pairs_of_all (agenda_pairs countdown.agenda) worker.pieces.items
  pub ordered : InOrder (agenda_pairs countdown.agenda) worker.pieces.items

-- since the start of a loop the pairs of a piece with these later ones were counted, and the list has grown
pub record CountsFrom (countdown : Countdown) (start worker : Worker) (laters : List ℕ) (from : ℕ) : Type 0 where
  pub held : IsHeld countdown worker
  pub grows : (more : List ℕ) × (worker.pieces.items ≡ start.pieces.items ++ more)
  pub counted : worker.pass.deeds.counted ≡ start.pass.deeds.counted ++ paired from laters

-- the deeds of the opener's pass once it opened this many pieces, lent so many passes and counted nothing
abbrev pub opener_deeds : ℕ → List ℕ → ℕ → Deeds
opener_deeds opened handed splits = record { kind = Opener; opened = below opened; counted = []; handed = handed; splits = splits; joins = 0 }

-- the deeds of the opener's pass once these lists were joined, and so many passes are left
pub record HasJoined (pairs : List (ℕ × ℕ)) (pieces : ℕ) (left : ℕ) (shares : List (List ℕ)) (v : Deeds) : Type 0 where
  pub kind : v.kind ≡ Opener
  pub opened : v.opened ≡ below pieces
  pub splits : v.splits ≡ v.joins + left
  pub handed : (p : ℕ) → times_in p v.handed ≡ times_in_all p shares
  pub counted : (q : ℕ × ℕ) → 0 < times_in q.0 v.handed → 0 < pair_times q pairs → 0 < pair_times q v.counted
  pub ordered : AreOrdered pairs shares
