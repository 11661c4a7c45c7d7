-- What takes answer: the first ready piece, and none exactly where none is.
use Rattle.std.proofs.Common.{◌≡◌, ℕ, ◌<◌, ◌≤◌, Bool, true, false, cond, not, ◌&&◌, ◌||◌, ◌==◌, length, get_or, refl, sym, ap, ◌∙◌, ⊎_elim, ◌⊎◌, Some, None, arith, true≢false}
use Rattle.std.specs.Prelude.{Option, slice_get}
use Rattle.std.specs.List.{position_or_len}
use Rattle.std.proofs.lemmas.Bool.Decides.{nat_tests}
use Rattle.std.proofs.lemmas.List.Folds.{find_at}
use Rattle.std.proofs.lemmas.List.Quantifiers.{position-Some}
use Rattle.std.proofs.lemmas.List.Sums.{fails_before_first, AllPass-from_list_all, list_all-from_AllPass}
use Rattle.std.proofs.lemmas.Option.{none-some, slice_get-get_or, slice_get_past, get_or_from_slice_get}
use Rattle.pac_ops.specs.declared.piece.PieceId.{PieceId}
use Rattle.pac_plan.specs.Pieces.{is_piece}
use Rattle.pac_sched.specs.declared.state.PieceState.{PieceState}
use Rattle.pac_sched.specs.declared.state.PieceState.TheVariants.{Waiting, Out, Finished}
use Rattle.pac_sched.specs.declared.state.Pick.{Pick}
use Rattle.pac_sched.specs.declared.state.Pick.TheVariants.{Piece, NotReady, Done}
use Rattle.pac_sched.specs.Schedules.{Schedule, is_waiting, is_finished, is_finished_at, some_passes, at_position, position_of, position_is_ready, piece_is_ready, may_start, next_ready, all_finished, pick_for}
use Rattle.pac_sched.specs.Picks.{PredsDone, ReadyByPairs, NoneReadyBefore, PicksFirst, NoneReady, NotReadyExactly, DoneExactly}
use Rattle.pac_sched.proofs.PlaceLemmas.{same_piece}
use Rattle.pac_sched.proofs.CallLemmas.{found_passes, picked, ready_waits, hands_out_ready}

split : (a b : ℕ) → (a < b) ⊎ (b ≤ a)
split a b = grind arith

-- ---- a piece by its pairs

pub start_preds : (s : Schedule) (i : ℕ) → may_start s i ≡ true → PredsDone s i
start_preds s i e k d lt at = waits ((get_or s.pairs k d).1 == i) (agree (get_or s.pairs k d).1 i at) (AllPass-from_list_all (λ (pair : ℕ × ℕ). not (pair.1 == i) || is_finished_at s pair.0) s.pairs e k d lt)
  where
    agree : (a b : ℕ) → a ≡ b → (a == b) ≡ true
    agree a b h = grind (arith, nat_tests)

    waits : (b : Bool) → b ≡ true → (not b || is_finished_at s (get_or s.pairs k d).0) ≡ true → is_finished_at s (get_or s.pairs k d).0 ≡ true
    waits true h f = f
    waits false h f = absurd (true≢false (sym h))

preds_start : (s : Schedule) (i : ℕ) → PredsDone s i → may_start s i ≡ true
preds_start s i done = list_all-from_AllPass (λ (pair : ℕ × ℕ). not (pair.1 == i) || is_finished_at s pair.0) s.pairs
    (λ k d lt. one ((get_or s.pairs k d).1 == i) (is_finished_at s (get_or s.pairs k d).0) (λ h. done k d lt (same (get_or s.pairs k d).1 i h)))
  where
    same : (a b : ℕ) → (a == b) ≡ true → a ≡ b
    same a b h = grind (arith, nat_tests)

    one : (b f : Bool) → (b ≡ true → f ≡ true) → (not b || f) ≡ true
    one true f g = g refl
    one false f g = refl

pub ready_by_pairs : ReadyByPairs
ready_by_pairs s id i at = (
  (λ e. (ready_waits s id e, start_preds s i (and_right (some_passes is_waiting (slice_get s.states i)) (may_start s i) (sym (ap (some_passes (position_is_ready s)) at) ∙ e)))),
  (λ waits done. ap (some_passes (position_is_ready s)) at ∙ ap (λ b. b && may_start s i) (ap (some_passes is_waiting) (sym (ap (at_position s.states) at) ∙ waits)) ∙ preds_start s i done),
)
  where
    and_right : (a b : Bool) → (a && b) ≡ true → b ≡ true
    and_right true b h = h
    and_right false b h = absurd (true≢false (sym h))

-- ---- the first ready one

-- what stands at the position of a piece is that piece
pub stands : (s : Schedule) (id : PieceId) (i : ℕ) → position_of s id ≡ Some i → (i < length s.pieces) × (get_or s.pieces i id ≡ id)
stands s id i e = let p = position-Some (is_piece id) s.pieces i id e in (p.0, sym (same_piece id (get_or s.pieces i id) p.1))

pub picks_first : PicksFirst
picks_first s id e = (hands_out_ready s id e, before)
  where
    found : slice_get s.pieces (position_or_len (piece_is_ready s) s.pieces) ≡ Some id
    found = sym (find_at (piece_is_ready s) s.pieces) ∙ picked s id e

    itself : (p : PieceId) → is_piece p p ≡ true
    itself p = grind (arith, nat_tests)

    not_before : (i n : ℕ) → ((k : ℕ) → k < i → is_piece id (get_or s.pieces k id) ≡ false) → is_piece id (get_or s.pieces n id) ≡ true → i ≤ n
    not_before i n fails passes = ⊎_elim (λ lt. absurd (true≢false (sym passes ∙ fails n lt))) (λ ge. ge) (split n i)

    before : NoneReadyBefore s id
    before other i j a b lt =
        let p = position-Some (is_piece id) s.pieces i id a in
        let le : i ≤ position_or_len (piece_is_ready s) s.pieces = not_before i (position_or_len (piece_is_ready s) s.pieces) p.2
        (ap (is_piece id) (get_or_from_slice_get s.pieces (position_or_len (piece_is_ready s) s.pieces) id id found) ∙ itself id) in
        ap (piece_is_ready s) (sym ((stands s other j b).1)) ∙ fails_before_first (piece_is_ready s) s.pieces j other (omega (arith, le, lt))

-- ---- none

none_next : (s : Schedule) → next_ready s ≡ None → NoneReady s
none_next s e id = go (position_of s id) refl
  where
    at_end : (k : ℕ) (d : PieceId) → k < length s.pieces → piece_is_ready s (get_or s.pieces k d) ≡ false
    at_end k d lt = fails_before_first (piece_is_ready s) s.pieces k d
        (⊎_elim (λ inside. absurd (none-some _ (sym e ∙ find_at (piece_is_ready s) s.pieces ∙ slice_get-get_or s.pieces (position_or_len (piece_is_ready s) s.pieces) d inside))) (λ past. omega (arith, past)) (split (position_or_len (piece_is_ready s) s.pieces) (length s.pieces)))

    go : (o : Option ℕ) → position_of s id ≡ o → piece_is_ready s id ≡ false
    go None h = ap (some_passes (position_is_ready s)) h
    go (Some i) h = let t = stands s id i h in ap (piece_is_ready s) (sym t.1) ∙ at_end i id t.0

next_none : (s : Schedule) → NoneReady s → next_ready s ≡ None
next_none s none = go (next_ready s) refl
  where
    go : (o : Option PieceId) → next_ready s ≡ o → o ≡ None
    go None h = refl
    go (Some p) h = absurd (true≢false (sym (found_passes (piece_is_ready s) s.pieces p h) ∙ none p))

piece_not_ready : (p : PieceId) → ◌≡◌ {A = Pick} (Piece p) NotReady → ⊥
piece_not_ready p h = grind arith

piece_not_done : (p : PieceId) → ◌≡◌ {A = Pick} (Piece p) Done → ⊥
piece_not_done p h = grind arith

apart : ◌≡◌ {A = Pick} Done NotReady → ⊥
apart h = grind arith

pub not_ready_exactly : NotReadyExactly
not_ready_exactly s = (there (next_ready s) (all_finished s) refl refl, λ none some. ap (pick_for s) (next_none s none) ∙ ap (λ b. cond b Done NotReady) some)
  where
    there : (o : Option PieceId) (b : Bool) → next_ready s ≡ o → all_finished s ≡ b → pick_for s o ≡ NotReady → NoneReady s × (b ≡ false)
    there None false e h f = (none_next s e, refl)
    there None true e h f = absurd (apart (sym (ap (λ t. cond t Done NotReady) h) ∙ f))
    there (Some p) b e h f = absurd (piece_not_ready p f)

-- with all finished no piece is ready
none_left : (s : Schedule) → all_finished s ≡ true → NoneReady s
none_left s all id = go (position_of s id)
  where
    other : (x : PieceState) → is_finished x ≡ true → is_waiting x ≡ false
    other Waiting h = absurd (true≢false (sym h))
    other Out h = refl
    other Finished h = refl

    at : (i : ℕ) → some_passes is_waiting (slice_get s.states i) ≡ false
    at i = ⊎_elim (λ lt. ap (some_passes is_waiting) (slice_get-get_or s.states i Waiting lt) ∙ other _ (AllPass-from_list_all is_finished s.states all i Waiting lt)) (λ ge. ap (some_passes is_waiting) (slice_get_past s.states i ge)) (split i (length s.states))

    go : (o : Option ℕ) → some_passes (position_is_ready s) o ≡ false
    go None = refl
    go (Some i) = ap (λ b. b && may_start s i) (at i)

pub done_exactly : DoneExactly
done_exactly s = (there (next_ready s) (all_finished s) refl, λ all. ap (pick_for s) (next_none s (none_left s all)) ∙ ap (λ b. cond b Done NotReady) all)
  where
    there : (o : Option PieceId) (b : Bool) → all_finished s ≡ b → pick_for s o ≡ Done → b ≡ true
    there None true h f = refl
    there None false h f = absurd (apart (sym (sym (ap (λ t. cond t Done NotReady) h) ∙ f)))
    there (Some p) b h f = absurd (piece_not_done p f)
