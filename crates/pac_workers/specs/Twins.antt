-- What twins show, and what they keep to.
use Rattle.std.specs.Prelude.{◌≡◌, ◌+◌, ℕ, List, [], ◌∷◌, length, take, drop}
use mathlib.Core.Option.{Option, none, some}
use lib.ListN.{get_elem?}
use Rattle.atomic_table.specs.Table.{State, Me, Step}
use Rattle.atomic_table.specs.Seated.{TableId}
use Rattle.atomic_table.specs.declared.shared.Seat.{Seat}

module _ {T : Type 0} where
  -- a token of the pair with this id shows one value
  pub record IsShown (id : TableId) (x : T) (twin : Seat T (List T)) : Type 0 where
    pub of : twin.table_id ≡ id
    pub shows : twin.me ≡ (x ∷ [], [])

  -- at first one token shows the value twice
  abbrev pub both_shown : T → List T
  both_shown x = x ∷ x ∷ []

  -- the first of what is shown, and the rest of it
  abbrev pub first_shown : List T → List T
  first_shown v = take 1 v

  -- what is shown after the first
  abbrev pub rest_shown : List T → List T
  rest_shown v = drop 1 v

  -- each of these is this value
  abbrev pub AllAre : T → List T → Type 0
  AllAre x [] = Unit {0}
  AllAre x (y ∷ ys) = (y ≡ x) × AllAre x ys

  -- how many values are shown in all
  abbrev pub count_shown : List (List T) → ℕ
  count_shown [] = 0
  count_shown (v ∷ vs) = length v + count_shown vs

  -- two values are shown, and they are the same
  pub record AreAlike (s : State T (List T)) : Type 0 where
    pub shown : T
    pub each : (i : ℕ) (v : List T) → get_elem? s.views i ≡ some v → AllAre shown v
    pub two : count_shown s.views ≡ 2

  -- where two values are shown, they are the same
  abbrev pub AreSame : List T → Type 0
  AreSame [] = Unit {0}
  AreSame (x ∷ []) = Unit {0}
  AreSame (x ∷ y ∷ ys) = x ≡ y

  -- the value that the step says, if any, is shown twice
  abbrev pub IsToldTwice : Option T → List T → Type 0
  IsToldTwice none v = Unit {0}
  IsToldTwice (some x) v = v ≡ x ∷ x ∷ []

  -- where two values were shown they were the same, and the value that the step says is shown twice
  abbrev pub AreTold : Step T → Me T (List T) → ℕ → Me T (List T) → Type 0
  AreTold st before n after = AreSame before.0 × IsToldTwice st.said after.0 × (after.1 ≡ before.1)
