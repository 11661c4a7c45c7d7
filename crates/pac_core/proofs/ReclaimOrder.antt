-- Where no piece is out any more, what is finished has waited for finished pieces alone still.
use Rattle.std.proofs.Common.{◌≡◌, ℕ, ◌==◌, true, not, ◌&&◌, ◌||◌, List, [], ◌∷◌, Option, Some, None, refl, sym, ap, ap₂, ◌∙◌}
use Rattle.std.specs.Prelude.{slice_get}
use Rattle.std.specs.List.{list_all}
use Rattle.std.specs.Option.{option_map}
use Rattle.std.proofs.lemmas.Option.{slice_get-map}
use Rattle.pac_sched.specs.declared.state.PieceState.{PieceState}
use Rattle.pac_sched.specs.declared.state.PieceState.TheVariants as state
use Rattle.pac_sched.specs.Schedules.{IsInOrder, Schedule, is_finished, is_finished_at, is_waiting, may_start, put_back, reclaimed, some_passes}

-- a piece is finished where it was
finished_same : (o : Option PieceState) → some_passes is_finished (option_map put_back o) ≡ some_passes is_finished o
finished_same None = refl
finished_same (Some state.Waiting) = refl
finished_same (Some state.Out) = refl
finished_same (Some state.Finished) = refl

-- what doesn't wait now didn't before
waited : (o : Option PieceState) → some_passes (λ s. not (is_waiting s)) (option_map put_back o) ≡ true → some_passes (λ s. not (is_waiting s)) o ≡ true
waited None e = e
waited (Some state.Waiting) e = e
waited (Some state.Out) e = refl
waited (Some state.Finished) e = e

finished_there : (s : Schedule) (i : ℕ) → is_finished_at (reclaimed s) i ≡ is_finished_at s i
finished_there s i = ap (some_passes is_finished) (slice_get-map put_back s.states i) ∙ finished_same (slice_get s.states i)

may_still : (s : Schedule) (j : ℕ) → may_start (reclaimed s) j ≡ may_start s j
may_still s j = go s.pairs
  where
    go : (pairs : List (ℕ × ℕ)) → list_all (λ pair. not (pair.1 == j) || is_finished_at (reclaimed s) pair.0) pairs ≡ list_all (λ pair. not (pair.1 == j) || is_finished_at s pair.0) pairs
    go [] = refl
    go (p ∷ ps) = ap₂ (λ a b. (not (p.1 == j) || a) && b) (finished_there s p.0) (go ps)

pub reclaimed_order : (s : Schedule) → IsInOrder s → IsInOrder (reclaimed s)
reclaimed_order s order j h = may_still s j ∙ order j (waited (slice_get s.states j) (ap (some_passes (λ s. not (is_waiting s))) (sym (slice_get-map put_back s.states j)) ∙ h))
