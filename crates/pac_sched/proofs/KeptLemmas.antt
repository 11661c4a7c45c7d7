-- Each change of a schedule keeps what the scheduler keeps beside it.
use Rattle.std.proofs.Common.{◌≡◌, ◌≢◌, ℕ, ◌+◌, ◌-◌, ◌<◌, ◌≤◌, Bool, true, false, not, ◌&&◌, ◌||◌, ◌==◌, List, length, get_or, take, ◌++◌, refl, sym, ap, ◌∙◌, subst, ⊎_elim, ◌⊎◌, Some, arith, true≢false}
use Rattle.std.specs.Prelude.{Option, nat_lt, slice_get, slice_index, slice_index_or, slice_set, count_by, position}
use Rattle.std.proofs.lemmas.Bool.Decides.{nat_tests}
use Rattle.std.proofs.lemmas.List.{get_or-set_same, get_or-set_other, length-set, take_at, get_or_default}
use Rattle.std.proofs.lemmas.List.Quantifiers.{position-Some}
use Rattle.std.proofs.lemmas.Option.{slice_get-get_or, slice_get_within}
use Rattle.pac_ops.specs.declared.piece.PieceId.{PieceId}
use Rattle.pac_sched.specs.declared.state.PieceState.{PieceState}
use Rattle.pac_sched.specs.declared.state.PieceState.TheVariants.{Waiting, Out, Finished}
use Rattle.pac_sched.specs.Schedules.{is_waiting, is_out, is_finished, some_passes, at_position}
use Rattle.pac_sched.specs.Counts.{waits_at, finished_at, leads, passing, KeepsSchedule}
use Rattle.pac_sched.proofs.FollowerLemmas.{to_count}
use Rattle.pac_sched.proofs.StateLemmas.{get_same, get_other, test_stays, count_step, hold_stays, hold_less}

equal : (a b : ℕ) → (a ≡ b) ⊎ (a ≢ b)
equal a b = grind arith

-- the state at a position that was found
pub out_there : (states : List PieceState) (o : Option ℕ) (i : ℕ) → o ≡ Some i → at_position states o ≡ Some Out → slice_get states i ≡ Some Out
out_there states o i found e = sym (ap (at_position states) found) ∙ e

module _ (pieces : List PieceId) (states : List PieceState) (pairs : List (ℕ × ℕ)) (waits : List ℕ) (ready : List Bool) (out unfinished : ℕ)
    (kept : KeepsSchedule pieces states pairs waits ready out unfinished) where
  -- a piece that waits for none changes between waiting and being out
  moved : (i : ℕ) (s x : PieceState) (b : Bool) (now : ℕ) → slice_get states i ≡ Some s → is_finished s ≡ false → is_finished x ≡ false → slice_index waits i ≡ 0 → b ≡ is_waiting x
      → now ≡ count_by is_out (slice_set states i x)
      → KeepsSchedule pieces (slice_set states i x) pairs waits (slice_set ready i b) now unfinished
  moved i s x b now e fs fx zero_waits is counted =
      let lt : i < length states = slice_get_within states i s e in
      let fin : (k : ℕ) → finished_at (slice_set states i x) k ≡ finished_at states k = test_stays states i x lt is_finished s e (fs ∙ sym fx) in record {
        states_len = length-set states i x ∙ kept.states_len;
        waits_len = kept.waits_len;
        ready_len = length-set ready i b ∙ kept.ready_len;
        distinct = kept.distinct;
        inside = kept.inside;
        counted = λ j jl. kept.counted j jl ∙ sym (hold_stays states (slice_set states i x) fin j pairs (length pairs));
        flagged = λ j jl. ⊎_elim (λ h. flagged_here lt j h) (λ ne. get_or-set_other ready i j b false ne ∙ kept.flagged j jl ∙ sym (ap (λ o. some_passes is_waiting o && slice_index waits j == 0) (get_other states i x lt j ne))) (equal j i);
        ordered = λ j jl w. ⊎_elim (λ h. ap (slice_index waits) h ∙ zero_waits) (λ ne. kept.ordered j jl (sym (ap (some_passes is_waiting) (get_other states i x lt j ne)) ∙ w)) (equal j i);
        out_is = counted;
        unfinished_is = unchanged_count lt;
      }
    where
      is_zero : (n : ℕ) → n ≡ 0 → (n == 0) ≡ true
      is_zero n h = grind (arith, nat_tests)

      and_true : (b : Bool) → b ≡ (b && true)
      and_true true = refl
      and_true false = refl

      flagged_here : i < length states → (j : ℕ) → j ≡ i → slice_index_or (slice_set ready i b) j false ≡ (waits_at (slice_set states i x) j && slice_index waits j == 0)
      flagged_here lt j h = ap (λ j. slice_index_or (slice_set ready i b) j false) h
          ∙ get_or-set_same ready i b false (subst (λ n. i < n) (kept.states_len ∙ sym kept.ready_len) lt) ∙ is ∙ and_true (is_waiting x)
          ∙ sym (ap (λ j. waits_at (slice_set states i x) j && slice_index waits j == 0) h ∙ ap (λ o. some_passes is_waiting o && slice_index waits i == 0) (get_same states i x lt) ∙ ap (λ t. is_waiting x && t) (is_zero (slice_index waits i) zero_waits))

      unchanged_count : i < length states → unfinished ≡ count_by (λ state. not (is_finished state)) (slice_set states i x)
      unchanged_count lt =
          let a = count_step states i x lt (λ state. not (is_finished state)) s e in
          let p : to_count (not (is_finished s)) ≡ 1 = ap (λ b. to_count (not b)) fs in
          let q : to_count (not (is_finished x)) ≡ 1 = ap (λ b. to_count (not b)) fx in
          omega (arith, a, p, q, kept.unfinished_is)

  -- ---- what a raised flag says

  pub flag_inside : (i : ℕ) → position (λ flag. flag) ready ≡ Some i → i < length states
  flag_inside i e = subst (λ n. i < n) (kept.ready_len ∙ sym kept.states_len) ((position-Some (λ flag. flag) ready i false e).0)

  pub flag_raised : (i : ℕ) → position (λ flag. flag) ready ≡ Some i → slice_index_or ready i false ≡ true
  flag_raised i e = (position-Some (λ flag. flag) ready i false e).1

  and_left : (a b : Bool) → (a && b) ≡ true → a ≡ true
  and_left true b h = refl
  and_left false b h = h

  and_right : (a b : Bool) → (a && b) ≡ true → b ≡ true
  and_right true b h = h
  and_right false b h = absurd (true≢false (sym h))

  waiting_state : (s : PieceState) → is_waiting s ≡ true → s ≡ Waiting
  waiting_state Waiting h = refl
  waiting_state Out h = absurd (true≢false (sym h))
  waiting_state Finished h = absurd (true≢false (sym h))

  from_zero : (n : ℕ) → (n == 0) ≡ true → n ≡ 0
  from_zero n h = grind (arith, nat_tests)

  pub flag_waiting : (i : ℕ) → i < length pieces → slice_index_or ready i false ≡ true → slice_get states i ≡ Some Waiting
  flag_waiting i lt up =
      let both : (waits_at states i && slice_index waits i == 0) ≡ true = sym (kept.flagged i lt) ∙ up in
      let g = slice_get-get_or states i Waiting (subst (λ n. i < n) (sym kept.states_len) lt) in
      g ∙ ap (λ s. Some s) (waiting_state (get_or states i Waiting) (sym (ap (some_passes is_waiting) g) ∙ and_left (waits_at states i) _ both))

  pub flag_free : (i : ℕ) → i < length pieces → slice_index_or ready i false ≡ true → slice_index waits i ≡ 0
  flag_free i lt up = from_zero (slice_index waits i) (and_right (waits_at states i) _ (sym (kept.flagged i lt) ∙ up))

  -- ---- a take

  pub taken_kept : (i : ℕ) → position (λ flag. flag) ready ≡ Some i → KeepsSchedule pieces (slice_set states i Out) pairs waits (slice_set ready i false) (out + 1) unfinished
  taken_kept i e =
      let lt = flag_inside i e in
      let pl : i < length pieces = subst (λ n. i < n) kept.states_len lt in
      let w = flag_waiting i pl (flag_raised i e) in
      moved i Waiting Out false (out + 1) w refl refl (flag_free i pl (flag_raised i e)) refl (let a : count_by is_out (slice_set states i Out) + 0 ≡ count_by is_out states + 1 = count_step states i Out lt is_out Waiting w in omega (arith, a, kept.out_is))

  -- ---- a piece that is out

  pub out_counted : (i : ℕ) → slice_get states i ≡ Some Out → 1 ≤ out
  out_counted i e = let a : count_by is_out (slice_set states i Waiting) + 1 ≡ count_by is_out states + 0 = count_step states i Waiting (slice_get_within states i Out e) is_out Out e in omega (arith, a, kept.out_is)

  pub out_unfinished : (i : ℕ) → slice_get states i ≡ Some Out → 1 ≤ unfinished
  out_unfinished i e = let a : count_by (λ state. not (is_finished state)) (slice_set states i Finished) + 1 ≡ count_by (λ state. not (is_finished state)) states + 0 = count_step states i Finished (slice_get_within states i Out e) (λ state. not (is_finished state)) Out e in omega (arith, a, kept.unfinished_is)

  pub out_inside : (i : ℕ) → slice_get states i ≡ Some Out → i < length ready
  out_inside i e = subst (λ n. i < n) (kept.states_len ∙ sym kept.ready_len) (slice_get_within states i Out e)

  in_pieces : (i : ℕ) → slice_get states i ≡ Some Out → i < length pieces
  in_pieces i e = subst (λ n. i < n) kept.states_len (slice_get_within states i Out e)

  pub out_free : (i : ℕ) → slice_get states i ≡ Some Out → slice_index waits i ≡ 0
  out_free i e = kept.ordered i (in_pieces i e) (ap (some_passes is_waiting) e)

  pub out_lowered : (i : ℕ) (d : Bool) → slice_get states i ≡ Some Out → slice_index_or ready i d ≡ false
  out_lowered i d e = get_or_default ready i d false (out_inside i e) ∙ kept.flagged i (in_pieces i e) ∙ ap (λ o. some_passes is_waiting o && slice_index waits i == 0) e

  pub back_kept : (i : ℕ) → slice_get states i ≡ Some Out → KeepsSchedule pieces (slice_set states i Waiting) pairs waits (slice_set ready i true) (out - 1) unfinished
  back_kept i e = moved i Out Waiting true (out - 1) e refl refl (out_free i e) refl
      (let a : count_by is_out (slice_set states i Waiting) + 1 ≡ count_by is_out states + 0 = count_step states i Waiting (slice_get_within states i Out e) is_out Out e in omega (arith, a, kept.out_is))

  -- ---- a finished piece

  pub enough : (i : ℕ) → slice_get states i ≡ Some Out → (j : ℕ) → j < length ready → passing (leads i j) pairs (length pairs) ≤ slice_index waits j
  enough i e j lt = omega (arith, hold_less states i j pairs e (length pairs), kept.counted j (subst (λ n. j < n) kept.ready_len lt))

  pub lowered : (j : ℕ) → j < length ready → 0 < slice_index waits j → slice_index_or ready j false ≡ false
  lowered j lt pos = kept.flagged j (subst (λ n. j < n) kept.ready_len lt) ∙ ap (λ b. waits_at states j && b) (not_zero (slice_index waits j) pos) ∙ and_false (waits_at states j)
    where
      not_zero : (n : ℕ) → 0 < n → (n == 0) ≡ false
      not_zero n h = grind (arith, nat_tests)

      and_false : (b : Bool) → (b && false) ≡ false
      and_false true = refl
      and_false false = refl

  pub finished_kept : (i : ℕ) → slice_get states i ≡ Some Out → (new : List ℕ) (risen : List Bool) → length new ≡ length waits → length risen ≡ length ready
      → ((j : ℕ) → j < length ready → slice_index new j + passing (leads i j) pairs (length pairs) ≡ slice_index waits j)
      → ((j : ℕ) → j < length ready → slice_index_or risen j false ≡ (slice_index_or ready j false || (nat_lt 0 (passing (leads i j) pairs (length pairs)) && slice_index new j == 0)))
      → KeepsSchedule pieces (slice_set states i Finished) pairs new risen (out - 1) (unfinished - 1)
  finished_kept i e new risen wl rl fewer more = record {
    states_len = length-set states i Finished ∙ kept.states_len;
    waits_len = wl ∙ kept.waits_len;
    ready_len = rl ∙ kept.ready_len;
    distinct = kept.distinct;
    inside = kept.inside;
    counted = λ j jl. cancel _ _ _ (fewer j (in_ready j jl) ∙ kept.counted j jl ∙ sym (hold_less states i j pairs e (length pairs)));
    flagged = λ j jl. ⊎_elim (λ h. flagged_here j h jl) (λ ne. flagged_other j ne jl) (equal j i);
    ordered = λ j jl w. ⊎_elim (λ h. no_more j jl (ap (slice_index waits) h ∙ out_free i e)) (λ ne. no_more j jl (kept.ordered j jl (sym (ap (some_passes is_waiting) (get_other states i Finished lt j ne)) ∙ w))) (equal j i);
    out_is = let a : count_by is_out (slice_set states i Finished) + 1 ≡ count_by is_out states + 0 = count_step states i Finished lt is_out Out e in omega (arith, a, kept.out_is);
    unfinished_is = let a : count_by (λ state. not (is_finished state)) (slice_set states i Finished) + 1 ≡ count_by (λ state. not (is_finished state)) states + 0 = count_step states i Finished lt (λ state. not (is_finished state)) Out e in omega (arith, a, kept.unfinished_is);
  }
    where
      lt : i < length states
      lt = slice_get_within states i Out e

      cancel : (a b c : ℕ) → a + b ≡ c + b → a ≡ c
      cancel a b c h = omega arith

      in_ready : (j : ℕ) → j < length pieces → j < length ready
      in_ready j jl = subst (λ n. j < n) (sym kept.ready_len) jl

      no_more : (j : ℕ) → j < length pieces → slice_index waits j ≡ 0 → slice_index new j ≡ 0
      no_more j jl h = omega (arith, fewer j (in_ready j jl), h)

      none : (n : ℕ) → n ≡ 0 → nat_lt 0 n ≡ false
      none n h = grind (arith, nat_tests)

      some : (n : ℕ) → 0 < n → nat_lt 0 n ≡ true
      some n h = grind (arith, nat_tests)

      zero_or_more : (n : ℕ) → (n ≡ 0) ⊎ (0 < n)
      zero_or_more n = grind arith

      waits_state : (w : Bool) (z : ℕ) → (w ≡ false → z ≡ 0) → 0 < z → w ≡ true
      waits_state true z f pos = refl
      waits_state false z f pos = absurd (let h = f refl in omega arith)

      flagged_here : (j : ℕ) → j ≡ i → j < length pieces → slice_index_or risen j false ≡ (waits_at (slice_set states i Finished) j && slice_index new j == 0)
      flagged_here j h jl =
          let n : passing (leads i j) pairs (length pairs) ≡ 0 = omega (arith, fewer j (in_ready j jl), ap (slice_index waits) h ∙ out_free i e) in
          more j (in_ready j jl) ∙ ap (λ b. slice_index_or ready j false || (b && slice_index new j == 0)) (none _ n)
          ∙ ap (λ b. b || false) (ap (λ j. slice_index_or ready j false) h ∙ out_lowered i false e)
          ∙ sym (ap (λ j. waits_at (slice_set states i Finished) j && slice_index new j == 0) h ∙ ap (λ o. some_passes is_waiting o && slice_index new i == 0) (get_same states i Finished lt))

      or_false : (b : Bool) → (b || false) ≡ b
      or_false true = refl
      or_false false = refl

      flagged_other : (j : ℕ) → j ≢ i → j < length pieces → slice_index_or risen j false ≡ (waits_at (slice_set states i Finished) j && slice_index new j == 0)
      flagged_other j ne jl = more j (in_ready j jl) ∙ ⊎_elim unchanged changed (zero_or_more (passing (leads i j) pairs (length pairs)))
          ∙ sym (ap (λ o. some_passes is_waiting o && slice_index new j == 0) (get_other states i Finished lt j ne))
        where
          unchanged : passing (leads i j) pairs (length pairs) ≡ 0 → (slice_index_or ready j false || (nat_lt 0 (passing (leads i j) pairs (length pairs)) && slice_index new j == 0)) ≡ (waits_at states j && slice_index new j == 0)
          unchanged n = ap (λ b. slice_index_or ready j false || (b && slice_index new j == 0)) (none _ n) ∙ or_false (slice_index_or ready j false) ∙ kept.flagged j jl
              ∙ ap (λ z. waits_at states j && z == 0) (sym (same_waits n))
            where
              same_waits : passing (leads i j) pairs (length pairs) ≡ 0 → slice_index new j ≡ slice_index waits j
              same_waits n = omega (arith, fewer j (in_ready j jl), n)

          changed : 0 < passing (leads i j) pairs (length pairs) → (slice_index_or ready j false || (nat_lt 0 (passing (leads i j) pairs (length pairs)) && slice_index new j == 0)) ≡ (waits_at states j && slice_index new j == 0)
          changed n =
              let pos : 0 < slice_index waits j = omega (arith, fewer j (in_ready j jl), n) in
              let w : waits_at states j ≡ true = waits_state (waits_at states j) (slice_index waits j) (kept.ordered j jl) pos in
              ap (λ b. b || (nat_lt 0 (passing (leads i j) pairs (length pairs)) && slice_index new j == 0)) (lowered j (in_ready j jl) pos)
              ∙ ap (λ b. b && slice_index new j == 0) (some _ n) ∙ sym (ap (λ b. b && slice_index new j == 0) w)

  -- the same, where the numbers were written in place
  pub finished_after : (i : ℕ) → slice_get states i ≡ Some Out → (new : List ℕ) (risen : List Bool) (rest : List ℕ) (len : ℕ) → length waits ≡ len → length new ≡ length waits → length risen ≡ length ready
      → ((j : ℕ) → j < length ready → slice_index new j + passing (leads i j) pairs (length pairs) ≡ slice_index waits j)
      → ((j : ℕ) → j < length ready → slice_index_or risen j false ≡ (slice_index_or ready j false || (nat_lt 0 (passing (leads i j) pairs (length pairs)) && slice_index new j == 0)))
      → KeepsSchedule pieces (slice_set states i Finished) pairs (take len (new ++ rest)) risen (out - 1) (unfinished - 1)
  finished_after i e new risen rest len whole wl rl fewer more =
      subst (λ w. KeepsSchedule pieces (slice_set states i Finished) pairs w risen (out - 1) (unfinished - 1)) (sym (take_at new rest len (wl ∙ whole))) (finished_kept i e new risen wl rl fewer more)
