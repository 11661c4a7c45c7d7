-- Lanes: some rows of the tables of some blocks, which are lent with a share; what a share does to a lane, and what it leaves alone.
use Rattle.std.specs.Prelude.{◌≡◌, ℕ, Bool, true, false, ◌&&◌, ◌||◌, ◌==◌, List, None}
use Rattle.std.specs.List.{list_any}
use Rattle.pac_value.specs.Expressions.{Values}
use Rattle.pac_value.specs.State.{Cell}
use Rattle.pac_ops.specs.declared.piece.PieceId.{PieceId}
use Rattle.pac_ops.specs.Notes.{least}
use Rattle.pac_ops.specs.Effects.{defined_in, used_in}
use Rattle.pac_base.specs.Members.{Each, Mem}
use Rattle.pac_plan.specs.Pieces.{Present, World, ops, apply, partial, pieces, HasInputs, adds, Location, RowOf, VarOf, at_location, touches}
use Rattle.pac_commute.specs.Exchange.{env_after, HoldsNeeds}
use Rattle.pac_commute.specs.Machine.{among}
use Rattle.pac_lanes.specs.Shares.{applied_each, adds_all, RunsInOrder, HasInputsAtTurns}

-- ---- lanes

-- blocks, and rows of the tables whose home they are
pub record Lane : Type 0 where
  pub blocks : ℕ → Bool
  pub rows : Cell → Bool

-- a row is of the lane
abbrev pub on_lane : World → Lane → Cell → Bool
on_lane w lane a = lane.blocks (w.home a.0) && lane.rows a

-- the piece is of a block of the lane, and each row that it touches is of the lane
abbrev pub StaysIn : World → (ℕ → Values) → Lane → PieceId → Type 0
StaysIn w env lane p = (lane.blocks p.block ≡ true) × ((a : Cell) → touches w env p (RowOf a) ≡ true → lane.rows a ≡ true)

-- no row is of both lanes
abbrev pub AreDisjoint : World → Lane → Lane → Type 0
AreDisjoint w lane other = (a : Cell) → on_lane w lane a ≡ true → on_lane w other a ≡ false

-- ---- what is lent with a share

-- the rows of the lane, and the variables that its pieces use or define
abbrev pub is_lent_with : World → Lane → List PieceId → Location → Bool
is_lent_with w lane ps (RowOf a) = on_lane w lane a
is_lent_with w lane ps (VarOf t x) = list_any (λ p. t == p.txn && (used_in (ops w p) x || defined_in (ops w p) x)) ps

-- of these, what may change: the rows, and the variables that the pieces define
abbrev pub is_changed : World → Lane → List PieceId → Location → Bool
is_changed w lane ps (RowOf a) = on_lane w lane a
is_changed w lane ps (VarOf t x) = list_any (λ p. t == p.txn && defined_in (ops w p) x) ps

-- the same stands at these places in both states
abbrev pub Agree : (Location → Bool) → Present → Present → Type 0
Agree places s s' = (c : Location) → places c ≡ true → at_location s c ≡ at_location s' c

-- pieces of the share
abbrev pub ArePart : List PieceId → List PieceId → Type 0
ArePart ps share = (p : PieceId) → Mem p ps → Mem p share

-- ---- a share alone

-- what pieces of a share leave on the lane and in its variables depends on what stood there alone, and so does that they find their inputs
abbrev pub ShareAlone : World → Type 0
ShareAlone w = (env : ℕ → Values) (lane : Lane) (share ps : List PieceId) → ArePart ps share → Each (StaysIn w env lane) share
    → (s s' : Present) → HasInputsAtTurns w env ps s → Agree (is_lent_with w lane share) s s'
    → Agree (is_lent_with w lane share) (applied_each w ps s) (applied_each w ps s') × HasInputsAtTurns w env ps s'

-- they change nothing but rows of the lane and the variables that they define
abbrev pub ShareLeaves : World → Type 0
ShareLeaves w = (env : ℕ → Values) (lane : Lane) (ps : List PieceId) → Each (StaysIn w env lane) ps
    → (s : Present) → HasInputsAtTurns w env ps s → (c : Location) → is_changed w lane ps c ≡ false → at_location (applied_each w ps s) c ≡ at_location s c

-- the notes that they leave are those that they leave where nothing but the lane and the variables is there
abbrev pub ShareNotes : World → Type 0
ShareNotes w = (env : ℕ → Values) (lane : Lane) (share ps : List PieceId) → ArePart ps share → Each (StaysIn w env lane) share
    → (s s' : Present) → HasInputsAtTurns w env ps s → Agree (is_lent_with w lane share) s s' → s'.note ≡ None
    → (applied_each w ps s).note ≡ least s.note (applied_each w ps s').note

-- the rows of the lane and the variables that the share defines stand as they were made, the rest as it was, and the least note
pub record IsPutBack (w : World) (lane : Lane) (share : List PieceId) (made before after : Present) : Type 0 where
  pub inside : Agree (is_changed w lane share) after made
  pub outside : (c : Location) → is_changed w lane share c ≡ false → at_location after c ≡ at_location before c
  pub note : after.note ≡ least before.note made.note

-- so what pieces of a share made of what was lent, put back, is these pieces applied
abbrev pub PutBackIsApplied : World → Type 0
PutBackIsApplied w = (env : ℕ → Values) (lane : Lane) (share ps : List PieceId) → ArePart ps share → Each (StaysIn w env lane) share
    → (lent before after : Present) → HasInputsAtTurns w env ps before → Agree (is_lent_with w lane share) before lent → lent.note ≡ None
    → IsPutBack w lane share (applied_each w ps lent) before after → after ≡ applied_each w ps before

-- ---- two shares

-- while a share is lent, a piece that stays in another lane, and isn't of the share, leaves as it was what is lent, and the share
-- still runs in order
abbrev pub PieceSpares : World → Type 0
PieceSpares w = (env : ℕ → Values) (L : List PieceId) (lane other : Lane) → AreDisjoint w lane other
    → (F : PieceId → Bool) (ps : List PieceId) → Each (StaysIn w env lane) ps → RunsInOrder w env L F ps
    → (q : PieceId) → Mem q L → F q ≡ false → among ps q ≡ false → StaysIn w env other q
    → ((s : Present) → HasInputs w env q s → Agree (is_lent_with w lane ps) (apply w q s) s) × RunsInOrder w env L (adds F q) ps

-- what two shares of disjoint lanes are to each other: what the first has lent stays while the second is applied; it still runs in
-- order once the second is in; and they may be finished in either order, which gives the partial replay with both
pub record AreApart (w : World) (env : ℕ → Values) (L : List PieceId) (lane : Lane) (s : Present) (F : PieceId → Bool) (ps qs : List PieceId) : Type 0 where
  pub stays : Agree (is_lent_with w lane ps) (applied_each w qs (partial w F L s)) (partial w F L s)
  pub next : RunsInOrder w env L (adds_all F qs) ps
  pub swap : applied_each w ps (applied_each w qs (partial w F L s)) ≡ applied_each w qs (applied_each w ps (partial w F L s))
  pub ends : applied_each w ps (applied_each w qs (partial w F L s)) ≡ partial w (adds_all (adds_all F qs) ps) L s

abbrev pub SharesApart : World → List ℕ → List ℕ → Type 0
SharesApart w ts bs = (s : Present) (F : PieceId → Bool) → HoldsNeeds w (env_after w ts s) (pieces w ts bs) F
    → (lane other : Lane) → AreDisjoint w lane other
    → (ps qs : List PieceId) → ((p : PieceId) → Mem p ps → among qs p ≡ false)
    → Each (StaysIn w (env_after w ts s) lane) ps → Each (StaysIn w (env_after w ts s) other) qs
    → RunsInOrder w (env_after w ts s) (pieces w ts bs) F ps → RunsInOrder w (env_after w ts s) (pieces w ts bs) F qs
    → AreApart w (env_after w ts s) (pieces w ts bs) lane s F ps qs
