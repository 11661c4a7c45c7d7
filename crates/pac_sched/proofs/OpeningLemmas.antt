-- More pieces and pairs after those that are open, and what is kept of them.
use Rattle.std.proofs.Common.{◌≡◌, ◌≢◌, ℕ, suc, ◌+◌, ◌-◌, ◌<◌, ◌≤◌, Bool, true, false, cond, not, ◌&&◌, ◌==◌, List, [], ◌∷◌, ◌++◌, map, take, length, get_or, replicate, refl, sym, ap, ◌∙◌, subst, ⊎_elim, ◌⊎◌, Some, arith, true≢false}
use Rattle.std.specs.Prelude.{slice_get, slice_index, slice_index_or, slice_set}
use Rattle.std.proofs.lemmas.Bool.Decides.{nat_tests}
use Rattle.std.proofs.lemmas.List.{get_or-set_same, get_or-set_other, length-set, length-append, length-map, length-replicate, get_or_append_left, get_or-append_right, get_or-replicate, get_or-map, get_or_default, ext_get_or, take_all}
use Rattle.std.proofs.lemmas.List.Elements.{All-append, All-weaker, All-map}
use Rattle.std.proofs.lemmas.Option.{slice_get-get_or}
use Rattle.pac_plan.specs.Pairs.{AreEarlierLater}
use Rattle.pac_ops.specs.declared.piece.PieceId.{PieceId}
use Rattle.pac_sched.specs.declared.state.PieceState.{PieceState}
use Rattle.pac_sched.specs.declared.state.PieceState.TheVariants.{Waiting}
use Rattle.pac_sched.specs.Schedules.{Schedule, is_waiting, is_finished, some_passes, moved_by, put_back, reclaimed, ArePairsBelow, after_opening, nothing_open, AreDifferent}
use Rattle.pac_sched.specs.Orders.{IsAscending}
use Rattle.pac_sched.specs.Counts.{waits_at, finished_at, holds_up, passing, AreInside, IsUnhindered}
use Rattle.pac_sched.proofs.PlaceLemmas.{before_differs}
use Rattle.pac_sched.proofs.FollowerLemmas.{to_count, passing_le}
use Rattle.pac_sched.proofs.StateLemmas.{none_passes, each_fails}

split : (a b : ℕ) → (a < b) ⊎ (b ≤ a)
split a b = grind arith

equal : (a b : ℕ) → (a ≡ b) ⊎ (a ≢ b)
equal a b = grind arith

-- ---- pairs after others

-- pairs of positions in two lists one after the other
pub inside_more : (n m : ℕ) (old new : List (ℕ × ℕ)) → AreInside n old → ArePairsBelow m new → AreEarlierLater new → AreInside (n + m) (old ++ moved_by n new)
inside_more n m old new a w e = All-append (λ (pair : ℕ × ℕ). (pair.0 < n + m) × (pair.1 < n + m)) old (moved_by n new)
    (All-weaker (λ (pair : ℕ × ℕ). (pair.0 < n) × (pair.1 < n)) (λ (pair : ℕ × ℕ). (pair.0 < n + m) × (pair.1 < n + m)) (λ pair p. (omega (arith, p.0), omega (arith, p.1))) old a)
    (All-map (λ (pair : ℕ × ℕ). (pair.0 < n + m) × (pair.1 < n + m)) (λ (pair : ℕ × ℕ). (n + pair.0, n + pair.1)) new (λ k d lt. (omega (arith, w k d lt, e k d lt), omega (arith, w k d lt))))

-- what is out or finished still waits for none
pub unhindered_more : (states : List PieceState) (old new : List (ℕ × ℕ)) (m : ℕ) → AreInside (length states) old
    → ((j : ℕ) → j < length states → waits_at states j ≡ false → passing (holds_up states j) old (length old) ≡ 0)
    → IsUnhindered (states ++ replicate m Waiting) (old ++ moved_by (length states) new)
unhindered_more states old new m inside free j jl w = ⊎_elim front back (split j (length states))
  where
    front_get : (k : ℕ) → k < length states → slice_get (states ++ replicate m Waiting) k ≡ slice_get states k
    front_get k kl = slice_get-get_or (states ++ replicate m Waiting) k Waiting (omega (arith, length-append states (replicate m Waiting))) ∙ ap (λ x. Some x) (get_or_append_left states (replicate m Waiting) Waiting k kl) ∙ sym (slice_get-get_or states k Waiting kl)

    back : length states ≤ j → passing (holds_up (states ++ replicate m Waiting) j) (old ++ moved_by (length states) new) (length (old ++ moved_by (length states) new)) ≡ 0
    back ge = absurd (true≢false (sym (ap (some_passes is_waiting) (slice_get-get_or (states ++ replicate m Waiting) j Waiting jl
        ∙ ap (λ x. Some x) (get_or-append_right states (replicate m Waiting) (length states) j Waiting refl ge ∙ get_or-replicate m (j - length states) Waiting Waiting (omega (arith, length-append states (replicate m Waiting), length-replicate m Waiting))))) ∙ w))

    and_false : (b : Bool) → (b && false) ≡ false
    and_false true = refl
    and_false false = refl

    differ : (a b : ℕ) → b < a → (a == b) ≡ false
    differ a b h = grind (arith, nat_tests)

    front : j < length states → passing (holds_up (states ++ replicate m Waiting) j) (old ++ moved_by (length states) new) (length (old ++ moved_by (length states) new)) ≡ 0
    front lt = none_passes (holds_up (states ++ replicate m Waiting) j) (old ++ moved_by (length states) new) each (length (old ++ moved_by (length states) new))
      where
        none : passing (holds_up states j) old (length old) ≡ 0
        none = free j lt (sym (ap (some_passes is_waiting) (front_get j lt)) ∙ w)

        in_old : (k : ℕ) → k < length old → holds_up (states ++ replicate m Waiting) j (get_or (old ++ moved_by (length states) new) k (0, 0)) ≡ false
        in_old k kl = ap (holds_up (states ++ replicate m Waiting) j) (get_or_append_left old (moved_by (length states) new) (0, 0) k kl)
            ∙ ap (λ o. (get_or old k (0, 0)).1 == j && not (some_passes is_finished o)) (front_get (get_or old k (0, 0)).0 ((inside k (0, 0) kl).0))
            ∙ each_fails (holds_up states j) old none k (0, 0) kl

        in_new : (k : ℕ) → length old ≤ k → k < length (old ++ moved_by (length states) new) → holds_up (states ++ replicate m Waiting) j (get_or (old ++ moved_by (length states) new) k (0, 0)) ≡ false
        in_new k ge kl =
            let size : length (moved_by (length states) new) ≡ length new = length-map {B = ℕ × ℕ} new (λ (pair : ℕ × ℕ). (length states + pair.0, length states + pair.1)) in
            let kn : k - length old < length new = omega (arith, length-append old (moved_by (length states) new), size) in
            let at : get_or (old ++ moved_by (length states) new) k (0, 0) ≡ (length states + (get_or new (k - length old) (0, 0)).0, length states + (get_or new (k - length old) (0, 0)).1)
            = get_or-append_right old (moved_by (length states) new) (length old) k (0, 0) refl ge ∙ get_or-map (λ (pair : ℕ × ℕ). (length states + pair.0, length states + pair.1)) new (k - length old) (0, 0) (0, 0) kn in
            ap (holds_up (states ++ replicate m Waiting) j) at
            ∙ ap (λ b. b && not (finished_at (states ++ replicate m Waiting) (length states + (get_or new (k - length old) (0, 0)).0))) (differ (length states + (get_or new (k - length old) (0, 0)).1) j (omega arith))

        each : (k : ℕ) → k < length (old ++ moved_by (length states) new) → holds_up (states ++ replicate m Waiting) j (get_or (old ++ moved_by (length states) new) k (0, 0)) ≡ false
        each k kl = ⊎_elim (in_old k) (λ ge. in_new k ge kl) (split k (length old))

-- the states with those of new pieces after them
pub resized : (states got new : List PieceState) (n len p m : ℕ) → new ≡ take n got ++ replicate (n - len) Waiting → got ≡ states → n ≡ p + m → length states ≡ p → len ≡ length got → new ≡ states ++ replicate m Waiting
resized states got new n len p m e same size old l =
    e ∙ ap (λ xs. take n xs ++ replicate (n - len) Waiting) same ∙ ap (λ xs. xs ++ replicate (n - len) Waiting) (take_all n states (omega arith))
    ∙ ap (λ k. states ++ replicate k Waiting) (rest (ap length same))
  where
    rest : length got ≡ length states → n - len ≡ m
    rest h = omega (arith, size, old, l, h)

-- ---- what each piece waits for

module _ (states : List PieceState) (pairs : List (ℕ × ℕ)) (waits : List ℕ) (k : ℕ) (kl : k < length pairs) (inside : AreInside (length states) pairs)
    (len : length waits ≡ length states) (counts : (j : ℕ) → j < length states → slice_index waits j ≡ passing (holds_up states j) pairs k) where
  abbrev earlier : ℕ
  earlier = (get_or pairs k (0, 0)).0

  abbrev later : ℕ
  later = (get_or pairs k (0, 0)).1

  pub counted_few : (now more : ℕ) (b : Bool) → now ≡ get_or waits later now → more ≡ to_count b → now + more ≤ k + 1
  counted_few now more b e h =
      let ll : later < length states = (inside k (0, 0) kl).1 in
      let a : now ≡ slice_index waits later = e ∙ get_or_default waits later now 0 (omega (arith, len, ll)) in
      omega (arith, a, counts later ll, passing_le (holds_up states later) pairs k, h, at_most b)
    where
      at_most : (b : Bool) → to_count b ≤ 1
      at_most true = omega arith
      at_most false = omega arith

  pub counted_more : (now more : ℕ) (d : PieceState) → now ≡ get_or waits later now → more ≡ to_count (not (is_finished (get_or states earlier d)))
      → (j : ℕ) → j < length states → slice_index (slice_set waits later (now + more)) j ≡ passing (holds_up states j) pairs (k + 1)
  counted_more now more d e h j jl = ⊎_elim same other (equal j later) ∙ ap (passing (holds_up states j) pairs) one
    where
      one : suc k ≡ k + 1
      one = omega arith

      ll : later < length states
      ll = (inside k (0, 0) kl).1

      lw : later < length waits
      lw = subst (λ n. later < n) (sym len) ll

      fin : finished_at states earlier ≡ is_finished (get_or states earlier d)
      fin = ap (some_passes is_finished) (slice_get-get_or states earlier d ((inside k (0, 0) kl).0))

      step : passing (holds_up states j) pairs (suc k) ≡ passing (holds_up states j) pairs k + to_count (later == j && not (is_finished (get_or states earlier d)))
      step = ap (λ o. passing (holds_up states j) pairs k + to_count (some_passes (holds_up states j) o)) (slice_get-get_or pairs k (0, 0) kl)
          ∙ ap (λ f. passing (holds_up states j) pairs k + to_count (later == j && not f)) fin

      agree : (a b : ℕ) → a ≡ b → (b == a) ≡ true
      agree a b h = grind (arith, nat_tests)

      differ : (a b : ℕ) → a ≢ b → (b == a) ≡ false
      differ a b h = grind (arith, nat_tests)

      same : j ≡ later → slice_index (slice_set waits later (now + more)) j ≡ passing (holds_up states j) pairs (suc k)
      same eq =
          let a : slice_index (slice_set waits later (now + more)) j ≡ now + more = ap (slice_index (slice_set waits later (now + more))) eq ∙ get_or-set_same waits later (now + more) 0 lw in
          let b : now ≡ passing (holds_up states j) pairs k = e ∙ get_or_default waits later now 0 lw ∙ ap (slice_index waits) (sym eq) ∙ counts j jl in
          a ∙ ap (λ n. n + more) b ∙ ap (λ n. passing (holds_up states j) pairs k + n) (h ∙ sym (ap (λ t. to_count (t && not (is_finished (get_or states earlier d)))) (agree j later eq))) ∙ sym step

      other : j ≢ later → slice_index (slice_set waits later (now + more)) j ≡ passing (holds_up states j) pairs (suc k)
      other ne = get_or-set_other waits later j (now + more) 0 ne ∙ counts j jl ∙ sym (step ∙ ap (λ t. passing (holds_up states j) pairs k + to_count (t && not (is_finished (get_or states earlier d)))) (differ j later ne) ∙ plus_none (passing (holds_up states j) pairs k))
        where
          plus_none : (n : ℕ) → n + 0 ≡ n
          plus_none n = omega arith

-- ---- which pieces are ready

module _ (states : List PieceState) (waits : List ℕ) (ready : List Bool) (i : ℕ) (il : i < length states) (len : length ready ≡ length states)
    (done : (j : ℕ) → j < i → slice_index_or ready j false ≡ (waits_at states j && slice_index waits j == 0))
    (left : (j : ℕ) (d : Bool) → i ≤ j → j < length states → slice_index_or ready j d ≡ false) where
  abbrev raised : Bool → List Bool
  raised b = cond b (slice_set ready i true) ready

  pub raised_len : (b : Bool) → length (raised b) ≡ length states
  raised_len true = length-set ready i true ∙ len
  raised_len false = len

  raised_other : (b : Bool) (j : ℕ) (d : Bool) → j ≢ i → slice_index_or (raised b) j d ≡ slice_index_or ready j d
  raised_other true j d ne = get_or-set_other ready i j true d ne
  raised_other false j d ne = refl

  raised_here : (b : Bool) → slice_index_or (raised b) i false ≡ b
  raised_here true = get_or-set_same ready i true false (subst (λ n. i < n) (sym len) il)
  raised_here false = left i false (omega arith) il

  pub raised_done : (b : Bool) (d : PieceState) → b ≡ (is_waiting (get_or states i d) && slice_index waits i == 0)
      → (j : ℕ) → j < i + 1 → slice_index_or (raised b) j false ≡ (waits_at states j && slice_index waits j == 0)
  raised_done b d e j jl = ⊎_elim same (λ ne. raised_other b j false ne ∙ done j (less j i jl ne)) (equal j i)
    where
      less : (j i : ℕ) → j < i + 1 → j ≢ i → j < i
      less j i h ne = grind arith

      same : j ≡ i → slice_index_or (raised b) j false ≡ (waits_at states j && slice_index waits j == 0)
      same eq = ap (λ j. slice_index_or (raised b) j false) eq ∙ raised_here b ∙ e
          ∙ sym (ap (λ j. waits_at states j && slice_index waits j == 0) eq ∙ ap (λ o. some_passes is_waiting o && slice_index waits i == 0) (slice_get-get_or states i d il))

  pub raised_left : (b : Bool) (j : ℕ) (d : Bool) → i + 1 ≤ j → j < length states → slice_index_or (raised b) j d ≡ false
  raised_left b j d ge jl = raised_other b j d (apart j i ge) ∙ left j d (omega arith) jl
    where
      apart : (j i : ℕ) → i + 1 ≤ j → j ≢ i
      apart j i ge = grind arith

-- ---- all that was out waits again

abbrev made : List PieceId → List PieceState → List (ℕ × ℕ) → Schedule
made a b c = record { pieces = a; states = b; pairs = c }

pub same_schedule : (a b : List PieceId) → a ≡ b → (c d : List (ℕ × ℕ)) → c ≡ d → (e f : List PieceState) → e ≡ f → made a e c ≡ made b f d
same_schedule a b h c d i e f j = ap (λ a. made a e c) h ∙ ap (λ c. made b e c) i ∙ ap (λ e. made b e d) j

pub all_back : (new old : Schedule) → new.pieces ≡ old.pieces → new.pairs ≡ old.pairs → length new.states ≡ length old.states
    → ((k : ℕ) (d : PieceState) → k < length old.states → get_or new.states k d ≡ put_back (get_or old.states k d)) → new ≡ reclaimed old
all_back new old p q len each = same_schedule new.pieces old.pieces p new.pairs old.pairs q new.states (map put_back old.states) states
  where
    states : new.states ≡ map put_back old.states
    states = ext_get_or Waiting new.states (map put_back old.states) (len ∙ sym (length-map old.states put_back))
        (λ k kl. let ol : k < length old.states = subst (λ n. k < n) len kl in each k Waiting ol ∙ sym (get_or-map put_back old.states k Waiting Waiting ol))

-- ---- a first set

moved_none : (pairs : List (ℕ × ℕ)) → moved_by 0 pairs ≡ pairs
moved_none [] = refl
moved_none (p ∷ ps) = ap (λ (q : ℕ × ℕ). q ∷ moved_by 0 ps) (same p.0 p.1) ∙ ap (λ (qs : List (ℕ × ℕ)). p ∷ qs) (moved_none ps)
  where
    none : (n : ℕ) → 0 + n ≡ n
    none n = omega arith

    same : (a b : ℕ) → ◌≡◌ {A = ℕ × ℕ} (0 + a, 0 + b) (a, b)
    same a b = ap (λ (n : ℕ). (n, 0 + b)) (none a) ∙ ap (λ (n : ℕ). (a, n)) (none b)

-- a set that is opened where nothing is has its own pieces and pairs
pub first_opened : (pieces : List PieceId) (pairs : List (ℕ × ℕ)) → after_opening nothing_open pieces pairs ≡ made pieces (replicate (length pieces) Waiting) pairs
first_opened pieces pairs = ap (λ (ps : List (ℕ × ℕ)). made pieces (replicate (length pieces) Waiting) ps) (moved_none pairs)

-- pieces that ascend are different
pub ascending_differ : (pieces : List PieceId) → IsAscending pieces → AreDifferent pieces
ascending_differ pieces up i j d lt inside = before_differs (get_or pieces i d) (get_or pieces j d) (up i j d lt inside)
