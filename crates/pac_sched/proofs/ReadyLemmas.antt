-- The first raised flag is that of the first ready piece, and the counts are those of the schedule.
use Rattle.std.proofs.Common.{◌≡◌, ◌≢◌, ℕ, suc, ◌+◌, ◌<◌, ◌≤◌, Bool, true, false, cond, not, ◌&&◌, ◌==◌, List, [], ◌∷◌, length, get_or, refl, sym, ap, ◌∙◌, subst, ⊎_elim, ◌⊎◌, Some, None, arith, true≢false}
use Rattle.std.specs.Prelude.{Option, nat_lt, slice_get, slice_index, slice_index_or, count_by, position}
use Rattle.std.specs.List.{position_or_len}
use Rattle.std.proofs.lemmas.Bool.Decides.{nat_tests}
use Rattle.std.proofs.lemmas.List.Sums.{position_or_len_is, fails_before_first, sum_by-cons}
use Rattle.std.proofs.lemmas.List.Folds.{find_at, sum_by-zero}
use Rattle.std.proofs.lemmas.List.Quantifiers.{position-Some}
use Rattle.std.proofs.lemmas.Option.{slice_get-get_or, slice_get_past, none-some}
use Rattle.pac_ops.specs.declared.piece.PieceId.{PieceId}
use Rattle.pac_plan.specs.Pieces.{is_piece}
use Rattle.pac_sched.specs.declared.state.PieceState.{PieceState}
use Rattle.pac_sched.specs.declared.state.PieceState.TheVariants.{Waiting, Out}
use Rattle.pac_sched.specs.declared.state.Pick.TheVariants.{Piece, NotReady, Done}
use Rattle.pac_sched.specs.Schedules.{Schedule, is_waiting, is_finished, some_passes, position_is_ready, piece_is_ready, next_ready, all_finished, may_start, IsInOrder, pick, pick_for, after_take, handed_out, set_at}
use Rattle.pac_sched.specs.Counts.{waits_at, KeepsSchedule}
use Rattle.pac_sched.proofs.PlaceLemmas.{first_at}
use Rattle.pac_sched.proofs.FollowerLemmas.{to_count}
use Rattle.pac_sched.proofs.StateLemmas.{all_or_some, all_same}

pub when_zero : (n : ℕ) → n ≡ 0 → Done ≡ cond (n == 0) Done NotReady
when_zero n h = sym (ap (λ b. cond b Done NotReady) (is_zero n h))
  where
    is_zero : (n : ℕ) → n ≡ 0 → (n == 0) ≡ true
    is_zero n h = grind (arith, nat_tests)

pub when_more : (n : ℕ) → n ≢ 0 → NotReady ≡ cond (n == 0) Done NotReady
when_more n h = sym (ap (λ b. cond b Done NotReady) (is_more n h))
  where
    is_more : (n : ℕ) → n ≢ 0 → (n == 0) ≡ false
    is_more n h = grind (arith, nat_tests)

itself : (p : PieceId) → is_piece p p ≡ true
itself p = grind (arith, nat_tests)

turned : (p q : PieceId) → is_piece p q ≡ false → is_piece q p ≡ false
turned p q h = grind (arith, nat_tests)

-- as many items pass a test as flags are raised
count_same : {X : Type 0} (p : X → Bool) (xs : List X) (flags : List Bool) → length xs ≡ length flags → ((k : ℕ) (d : X) → k < length xs → p (get_or xs k d) ≡ get_or flags k false)
    → count_by p xs ≡ count_by (λ flag. flag) flags
count_same p [] [] len each = refl
count_same p [] (f ∷ fs) len each = absurd (omega arith)
count_same p (x ∷ xs) [] len each = absurd (omega arith)
count_same p (x ∷ xs) (f ∷ fs) len each =
    sum_by-cons (λ y. cond (p y) 1 0) x xs ∙ ap (λ b. cond b 1 0 + count_by p xs) (each 0 x (omega arith))
    ∙ ap (λ n. cond f 1 0 + n) (count_same p xs fs (omega arith) (λ k d lt. each (suc k) d (omega arith))) ∙ sym (sum_by-cons (λ y. cond y 1 0) f fs)

none_raised : (flags : List Bool) → position (λ flag. flag) flags ≡ None → (k : ℕ) → k < length flags → slice_index_or flags k false ≡ false
none_raised flags e k lt = fails_before_first (λ flag. flag) flags k false (go (nat_lt (position_or_len (λ flag. flag) flags) (length flags)) refl e)
  where
    at_end : (a b : ℕ) → nat_lt a b ≡ false → b ≤ a
    at_end a b h = grind (arith, nat_tests)

    go : (b : Bool) → nat_lt (position_or_len (λ flag. flag) flags) (length flags) ≡ b → cond b (Some (position_or_len (λ flag. flag) flags)) None ≡ None → k < position_or_len (λ flag. flag) flags
    go true t h = absurd (none-some _ (sym h))
    go false t h = let ge = at_end (position_or_len (λ flag. flag) flags) (length flags) t in omega (arith, ge)

module _ (pieces : List PieceId) (states : List PieceState) (pairs : List (ℕ × ℕ)) (waits : List ℕ) (ready : List Bool) (out unfinished : ℕ)
    (kept : KeepsSchedule pieces states pairs waits ready out unfinished) where
  abbrev pub schedule : Schedule
  schedule = record { pieces = pieces; states = states; pairs = pairs }

  at_flag : (j : ℕ) → j < length pieces → position_is_ready schedule j ≡ slice_index_or ready j false
  at_flag j jl = ap (λ b. waits_at states j && b) (all_or_some states pairs j ∙ ap (λ n. n == 0) (sym (kept.counted j jl))) ∙ sym (kept.flagged j jl)

  -- a piece stands where it stands
  pub here : (j : ℕ) (d : PieceId) → j < length pieces → position (is_piece (get_or pieces j d)) pieces ≡ Some j
  here j d jl = first_at (is_piece (get_or pieces j d)) pieces j d jl (itself (get_or pieces j d)) (λ k kl. turned (get_or pieces k d) (get_or pieces j d) (kept.distinct k j d kl jl))

  ready_here : (j : ℕ) (d : PieceId) → j < length pieces → piece_is_ready schedule (get_or pieces j d) ≡ slice_index_or ready j false
  ready_here j d jl = ap (some_passes (position_is_ready schedule)) (here j d jl) ∙ at_flag j jl

  pub first_found : (i : ℕ) (d : PieceId) → position (λ flag. flag) ready ≡ Some i → next_ready schedule ≡ Some (get_or pieces i d)
  first_found i d e =
      let p = position-Some (λ flag. flag) ready i false e in
      let lt : i < length pieces = subst (λ n. i < n) kept.ready_len p.0 in
      let at : position_or_len (piece_is_ready schedule) pieces ≡ i = position_or_len_is (piece_is_ready schedule) pieces i d (omega arith) (λ k kl. ready_here k d (omega arith) ∙ p.2 k kl) (λ _. ready_here i d lt ∙ p.1) in
      find_at (piece_is_ready schedule) pieces ∙ ap (slice_get pieces) at ∙ slice_get-get_or pieces i d lt

  pub none_found : position (λ flag. flag) ready ≡ None → next_ready schedule ≡ None
  none_found e =
      let at : position_or_len (piece_is_ready schedule) pieces ≡ length pieces = position_or_len_is (piece_is_ready schedule) pieces (length pieces) (record { txn = 0; block = 0 }) (omega arith)
      (λ k kl. ready_here k (record { txn = 0; block = 0 }) kl ∙ none_raised ready e k (subst (λ n. k < n) (sym kept.ready_len) kl)) (λ lt. absurd (omega arith)) in
      find_at (piece_is_ready schedule) pieces ∙ ap (slice_get pieces) at ∙ slice_get_past pieces (length pieces) (omega arith)

  pub ready_counted : count_by (λ flag. flag) ready ≡ count_by (piece_is_ready schedule) pieces
  ready_counted = sym (count_same (piece_is_ready schedule) pieces ready (sym kept.ready_len) (λ k d kl. ready_here k d kl))

  finished_test : all_finished schedule ≡ (unfinished == 0)
  finished_test = sym (ap (λ n. n == 0) kept.unfinished_is ∙ sum_by-zero (λ (state : PieceState). to_count (not (is_finished state))) states
      ∙ all_same (λ state. to_count (not (is_finished state)) == 0) is_finished (λ state. one (is_finished state)) states)
    where
      one : (b : Bool) → (to_count (not b) == 0) ≡ b
      one true = refl
      one false = refl

  -- ---- what a take answers

  pub picked_piece : (i : ℕ) (d : PieceId) → position (λ flag. flag) ready ≡ Some i → Piece (get_or pieces i d) ≡ pick schedule
  picked_piece i d e = sym (ap (pick_for schedule) (first_found i d e))

  pub picked_none : position (λ flag. flag) ready ≡ None → cond (unfinished == 0) Done NotReady ≡ pick schedule
  picked_none e = sym (ap (pick_for schedule) (none_found e) ∙ ap (λ b. cond b Done NotReady) finished_test)

  pub unmoved : position (λ flag. flag) ready ≡ None → schedule ≡ after_take schedule
  unmoved e = sym (ap (handed_out schedule) (none_found e))

  pub handed : (i : ℕ) → position (λ flag. flag) ready ≡ Some i → record { pieces = pieces; states = set_at (Some i) Out states; pairs = pairs } ≡ after_take schedule
  handed i e =
      let d : PieceId = record { txn = 0; block = 0 } in
      let lt : i < length pieces = subst (λ n. i < n) kept.ready_len ((position-Some (λ flag. flag) ready i false e).0) in
      sym (ap (handed_out schedule) (first_found i (record { txn = 0; block = 0 }) e) ∙ ap (λ o. at_place o) (here i (record { txn = 0; block = 0 }) lt))
    where
      at_place : Option ℕ → Schedule
      at_place o = record { pieces = pieces; states = set_at o Out states; pairs = pairs }

  -- ---- order

  pub in_order : IsInOrder schedule
  in_order j h = ⊎_elim inside past (split j (length states))
    where
      split : (a b : ℕ) → (a < b) ⊎ (b ≤ a)
      split a b = grind arith

      flip : (b : Bool) → not b ≡ true → b ≡ false
      flip true h = absurd (true≢false (sym h))
      flip false h = refl

      is_zero : (n : ℕ) → n ≡ 0 → (n == 0) ≡ true
      is_zero n h = grind (arith, nat_tests)

      past : length states ≤ j → may_start schedule j ≡ true
      past ge = absurd (true≢false (sym h ∙ ap (some_passes (λ state. not (is_waiting state))) (slice_get_past states j ge)))

      inside : j < length states → may_start schedule j ≡ true
      inside lt =
          let jl : j < length pieces = subst (λ n. j < n) kept.states_len lt in
          let g = slice_get-get_or states j Waiting lt in
          let w : is_waiting (get_or states j Waiting) ≡ false = flip (is_waiting (get_or states j Waiting)) (sym (ap (some_passes (λ state. not (is_waiting state))) g) ∙ h) in
          let z : slice_index waits j ≡ 0 = kept.ordered j jl (ap (some_passes is_waiting) g ∙ w) in
          all_or_some states pairs j ∙ is_zero _ (sym (kept.counted j jl) ∙ z)
