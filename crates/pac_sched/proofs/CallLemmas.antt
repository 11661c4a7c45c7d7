-- What a call leaves of the state of a piece that it doesn't give back.
use Rattle.std.proofs.Common.{◌≡◌, ◌≢◌, ℕ, ◌<◌, ◌≤◌, Bool, true, false, cond, not, ◌&&◌, ◌||◌, List, [], ◌∷◌, ◌++◌, map, replicate, length, get_or, refl, sym, ap, ◌∙◌, subst, inl, inr, ⊎_elim, ◌⊎◌, Some, None, arith, true≢false}
use Rattle.std.specs.Prelude.{Option, option_map, slice_get, slice_set, position, find}
use Rattle.std.specs.List.{list_any}
use Rattle.std.proofs.lemmas.Bool.Decides.{nat_tests}
use Rattle.std.proofs.lemmas.List.{get_or_append_left, length-append, set_past}
use Rattle.std.proofs.lemmas.List.Quantifiers.{position-Some}
use Rattle.std.proofs.lemmas.Option.{slice_get-get_or, slice_get-map, slice_get_within, none-some, same_Some}
use Rattle.pac_ops.specs.declared.piece.PieceId.{PieceId}
use Rattle.pac_plan.specs.Pieces.{is_piece}
use Rattle.pac_sched.specs.declared.state.PieceState.{PieceState}
use Rattle.pac_sched.specs.declared.state.PieceState.TheVariants.{Waiting, Out, Finished}
use Rattle.pac_sched.specs.declared.state.Pick.{Pick}
use Rattle.pac_sched.specs.declared.state.Pick.TheVariants.{Piece, NotReady, Done}
use Rattle.pac_sched.specs.Schedules.{Schedule, is_waiting, some_passes, at_position, set_at, position_of, state_of_piece, position_is_ready, piece_is_ready, may_start, next_ready, all_finished, pick, pick_for, after_take, handed_out, after_opening, with_state, reclaimed, put_back}
use Rattle.pac_sched.specs.Calls.{SchedCall, Opens, Takes, Finishes, GivesBack, Reclaims, after_call, MayCall, CallsLead, frees, HandsOutReady, HandsOutOnce, FinishesForGood}
use Rattle.pac_sched.proofs.PlaceLemmas.{first_at, same_piece}
use Rattle.pac_sched.proofs.StateLemmas.{get_same, get_other}

-- ---- what a take picks

pub found_passes : {X : Type 0} (test : X → Bool) (xs : List X) (x : X) → find test xs ≡ Some x → test x ≡ true
found_passes test [] x e = absurd (none-some x e)
found_passes test (y ∷ ys) x e = go (test y) refl e (found_passes test ys x)
  where
    go : (b : Bool) → test y ≡ b → cond b (Some y) (find test ys) ≡ Some x → (find test ys ≡ Some x → test x ≡ true) → test x ≡ true
    go true t h rest = subst (λ z. test z ≡ true) (same_Some y x h) t
    go false t h rest = rest h

pieces_same : (p q : PieceId) → ◌≡◌ {A = Pick} (Piece p) (Piece q) → p ≡ q
pieces_same p q e = grind arith

no_piece : (b : Bool) (id : PieceId) → cond b Done NotReady ≡ Piece id → ⊥
no_piece true id e = grind arith
no_piece false id e = grind arith

pub picked : (s : Schedule) (id : PieceId) → pick s ≡ Piece id → next_ready s ≡ Some id
picked s id e = go (next_ready s) refl e
  where
    go : (o : Option PieceId) → next_ready s ≡ o → pick_for s o ≡ Piece id → o ≡ Some id
    go None h e = absurd (no_piece (all_finished s) id e)
    go (Some p) h e = ap (λ q. Some q) (pieces_same p id e)

pub hands_out_ready : HandsOutReady
hands_out_ready s id e = found_passes (piece_is_ready s) s.pieces id (picked s id e)

-- a ready piece stands somewhere, and waits there
pub ready_waits : (s : Schedule) (id : PieceId) → piece_is_ready s id ≡ true → state_of_piece s id ≡ Some Waiting
ready_waits s id e = go (position_of s id) e
  where
    and_left : (a b : Bool) → (a && b) ≡ true → a ≡ true
    and_left true b h = refl
    and_left false b h = h

    waiting : (o : Option PieceState) → some_passes is_waiting o ≡ true → o ≡ Some Waiting
    waiting None h = absurd (true≢false (sym h))
    waiting (Some Waiting) h = refl
    waiting (Some Out) h = absurd (true≢false (sym h))
    waiting (Some Finished) h = absurd (true≢false (sym h))

    go : (o : Option ℕ) → some_passes (position_is_ready s) o ≡ true → at_position s.states o ≡ Some Waiting
    go None h = absurd (true≢false (sym h))
    go (Some j) h = waiting (slice_get s.states j) (and_left _ (may_start s j) h)

-- ---- one state that is set

-- a state that is set is of the same position, or changes nothing
set_cases : (states : List PieceState) (o to : Option ℕ) (x : PieceState) → (at_position (set_at to x states) o ≡ at_position states o) ⊎ ((i : ℕ) × (o ≡ Some i) × (to ≡ Some i))
set_cases states o None x = inl refl
set_cases states None (Some k) x = inl refl
set_cases states (Some i) (Some k) x = ⊎_elim (λ e. inr (i, refl, ap (λ j. Some j) (sym e))) (λ ne. inl (⊎_elim (λ lt. get_other states k x lt i ne) (λ ge. ap (λ xs. slice_get xs i) (set_past states k x ge)) (split k (length states)))) (equal i k)
  where
    equal : (a b : ℕ) → (a ≡ b) ⊎ (a ≢ b)
    equal a b = grind arith

    split : (a b : ℕ) → (a < b) ⊎ (b ≤ a)
    split a b = grind arith

-- the state after one of the same position was set
set_same : (states : List PieceState) (i : ℕ) (s x : PieceState) → slice_get states i ≡ Some s → slice_get (slice_set states i x) i ≡ Some x
set_same states i s x e = get_same states i x (slice_get_within states i s e)

-- two pieces of one position are one
one_piece : (s : Schedule) (p q : PieceId) (i : ℕ) → position_of s p ≡ Some i → position_of s q ≡ Some i → p ≡ q
one_piece s p q i e f =
    let a = position-Some (is_piece p) s.pieces i p e in
    let b = position-Some (is_piece q) s.pieces i p f in
    same_piece p (get_or s.pieces i p) a.1 ∙ sym (same_piece q (get_or s.pieces i p) b.1)

-- ---- pieces that don't wait

abbrev Holds : Schedule → PieceId → Type 0
Holds s id = some_passes (λ state. not (is_waiting state)) (state_of_piece s id) ≡ true

held_state : (o : Option PieceState) → o ≡ Some Waiting → some_passes (λ state. not (is_waiting state)) o ≡ true → ⊥
held_state o e h = true≢false (sym (sym (ap (some_passes (λ state. not (is_waiting state))) e) ∙ h))

-- more pieces leave the others where they stand
still_there : (pieces more : List PieceId) (id : PieceId) (i : ℕ) → position (is_piece id) pieces ≡ Some i → position (is_piece id) (pieces ++ more) ≡ Some i
still_there pieces more id i e =
    let p = position-Some (is_piece id) pieces i id e in
    first_at (is_piece id) (pieces ++ more) i id (omega (arith, p.0, length-append pieces more)) (ap (is_piece id) (get_or_append_left pieces more id i p.0) ∙ p.1)
    (λ k kl. ap (is_piece id) (get_or_append_left pieces more id k (omega (arith, p.0))) ∙ p.2 k kl)

opened_stays : (s : Schedule) (pieces : List PieceId) (pairs : List (ℕ × ℕ)) (id : PieceId) (x : PieceState) → state_of_piece s id ≡ Some x → state_of_piece (after_opening s pieces pairs) id ≡ Some x
opened_stays s pieces pairs id x e = go (position_of s id) refl e
  where
    go : (o : Option ℕ) → position_of s id ≡ o → at_position s.states o ≡ Some x → state_of_piece (after_opening s pieces pairs) id ≡ Some x
    go None h f = absurd (none-some x f)
    go (Some i) h f =
        let lt = slice_get_within s.states i x f in
        ap (at_position (s.states ++ replicate (length pieces) Waiting)) (still_there s.pieces pieces id i h)
        ∙ slice_get-get_or (s.states ++ replicate (length pieces) Waiting) i x (omega (arith, lt, length-append s.states (replicate (length pieces) Waiting)))
        ∙ ap (λ y. Some y) (get_or_append_left s.states (replicate (length pieces) Waiting) x i lt) ∙ sym (slice_get-get_or s.states i x lt) ∙ f

-- a take changes no piece but one that waits
take_stays : (s : Schedule) (id : PieceId) → Holds s id → state_of_piece (after_take s) id ≡ state_of_piece s id
take_stays s id h = go (next_ready s) refl
  where
    go : (o : Option PieceId) → next_ready s ≡ o → state_of_piece (handed_out s o) id ≡ state_of_piece s id
    go None e = refl
    go (Some p) e = ⊎_elim (λ same. same) (λ both. absurd (clash both.0 both.1 both.2)) (set_cases s.states (position_of s id) (position_of s p) Out)
      where
        clash : (i : ℕ) → position_of s id ≡ Some i → position_of s p ≡ Some i → ⊥
        clash i a b = held_state (state_of_piece s id) (ap (state_of_piece s) (one_piece s id p i a b) ∙ ready_waits s p (found_passes (piece_is_ready s) s.pieces p e)) h

-- ---- finished pieces

finished_held : (s : Schedule) (id : PieceId) → state_of_piece s id ≡ Some Finished → Holds s id
finished_held s id e = ap (some_passes (λ state. not (is_waiting state))) e

-- a piece that is out isn't a finished one
set_stays : (s : Schedule) (id other : PieceId) (x : PieceState) → state_of_piece s other ≡ Some Out → state_of_piece s id ≡ Some Finished → state_of_piece (with_state s other x) id ≡ Some Finished
set_stays s id other x out e = ⊎_elim (λ same. same ∙ e) (λ both. absurd (clash (sym out ∙ ap (at_position s.states) (both.2 ∙ sym both.1) ∙ e))) (set_cases s.states (position_of s id) (position_of s other) x)
  where
    clash : ◌≡◌ {A = Option PieceState} (Some Out) (Some Finished) → ⊥
    clash h = grind arith

reclaimed_state : (s : Schedule) (id : PieceId) (x : PieceState) → state_of_piece s id ≡ Some x → state_of_piece (reclaimed s) id ≡ Some (put_back x)
reclaimed_state s id x e = go (position_of s id) e
  where
    go : (o : Option ℕ) → at_position s.states o ≡ Some x → at_position (map put_back s.states) o ≡ Some (put_back x)
    go None f = absurd (none-some x f)
    go (Some i) f = slice_get-map put_back s.states i ∙ ap (option_map put_back) f

finished_stays : (s : Schedule) (call : SchedCall) (id : PieceId) → MayCall s call → state_of_piece s id ≡ Some Finished → state_of_piece (after_call s call) id ≡ Some Finished
finished_stays s (Opens pieces pairs) id may e = opened_stays s pieces pairs id Finished e
finished_stays s Takes id may e = take_stays s id (finished_held s id e) ∙ e
finished_stays s (Finishes other) id may e = set_stays s id other Finished may e
finished_stays s (GivesBack other) id may e = set_stays s id other Waiting may e
finished_stays s Reclaims id may e = reclaimed_state s id Finished e

pub finishes_for_good : FinishesForGood
finishes_for_good [] s t id e h p = held_state (state_of_piece t id) (ready_waits t id (hands_out_ready t id p)) (subst (λ u. Holds u id) h (finished_held s id e))
finishes_for_good (c ∷ cs) s t id e h p = finishes_for_good cs (after_call s c) t id (finished_stays s c id h.0 e) h.1 p

-- ---- pieces that are out or finished

some_state : (o : Option PieceState) → some_passes (λ state. not (is_waiting state)) o ≡ true → (x : PieceState) × (o ≡ Some x) × (not (is_waiting x) ≡ true)
some_state None h = absurd (true≢false (sym h))
some_state (Some x) h = (x, refl, h)

held_stays : (s : Schedule) (call : SchedCall) (id : PieceId) → MayCall s call → frees id call ≡ false → Holds s id → Holds (after_call s call) id
held_stays s (Opens pieces pairs) id may kept h = let x = some_state (state_of_piece s id) h in ap (some_passes (λ state. not (is_waiting state))) (opened_stays s pieces pairs id x.0 x.1) ∙ x.2
held_stays s Takes id may kept h = ap (some_passes (λ state. not (is_waiting state))) (take_stays s id h) ∙ h
held_stays s (Finishes other) id may kept h = ⊎_elim (λ same. ap (some_passes (λ state. not (is_waiting state))) same ∙ h)
    (λ both. ap (some_passes (λ state. not (is_waiting state))) (at_place both.0 both.1 both.2)) (set_cases s.states (position_of s id) (position_of s other) Finished)
  where
    at_place : (i : ℕ) → position_of s id ≡ Some i → position_of s other ≡ Some i → state_of_piece (with_state s other Finished) id ≡ Some Finished
    at_place i a b = ap (at_position (set_at (position_of s other) Finished s.states)) a ∙ ap (λ o. at_position (set_at o Finished s.states) (Some i)) b
        ∙ set_same s.states i Out Finished (sym (ap (at_position s.states) b) ∙ may)
held_stays s (GivesBack other) id may kept h = ⊎_elim (λ same. ap (some_passes (λ state. not (is_waiting state))) same ∙ h)
    (λ both. absurd (true≢false (sym (itself other) ∙ ap (λ p. is_piece p other) (sym (one_piece s id other both.0 both.1 both.2)) ∙ kept))) (set_cases s.states (position_of s id) (position_of s other) Waiting)
  where
    itself : (p : PieceId) → is_piece p p ≡ true
    itself p = grind (arith, nat_tests)
held_stays s Reclaims id may kept h = absurd (true≢false kept)

freed : (calls : List SchedCall) (s t : Schedule) (id : PieceId) → Holds s id → CallsLead calls s t → pick t ≡ Piece id → list_any (frees id) calls ≡ true
freed [] s t id h e p = absurd (held_state (state_of_piece t id) (ready_waits t id (hands_out_ready t id p)) (subst (λ u. Holds u id) e h))
freed (c ∷ cs) s t id h e p = go (frees id c) refl (λ f. freed cs (after_call s c) t id (held_stays s c id e.0 f h) e.1 p)
  where
    go : (b : Bool) → frees id c ≡ b → (frees id c ≡ false → list_any (frees id) cs ≡ true) → (b || list_any (frees id) cs) ≡ true
    go true f rest = refl
    go false f rest = rest f

pub hands_out_once : HandsOutOnce
hands_out_once calls s t id first e p = freed calls (after_take s) t id (ap (some_passes (λ state. not (is_waiting state))) is_out) e.1 p
  where
    there : (o : Option ℕ) → at_position s.states o ≡ Some Waiting → at_position (set_at o Out s.states) o ≡ Some Out
    there None f = absurd (none-some Waiting f)
    there (Some i) f = set_same s.states i Waiting Out f

    is_out : state_of_piece (after_take s) id ≡ Some Out
    is_out = ap (λ o. state_of_piece (handed_out s o) id) (picked s id first) ∙ there (position_of s id) (ready_waits s id (hands_out_ready s id first))
