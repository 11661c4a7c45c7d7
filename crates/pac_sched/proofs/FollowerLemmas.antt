-- The links from the last pair of a position on visit each of its pairs once.
use Rattle.std.proofs.Common.{◌≡◌, ◌≢◌, ℕ, zero, suc, ◌+◌, ◌-◌, ◌<◌, ◌≤◌, Bool, true, false, cond, ◌&&◌, ◌||◌, ◌==◌, List, [], ◌∷◌, ◌++◌, length, get_or, refl, sym, ap, ◌∙◌, subst, ⊎_elim, ◌⊎◌, Some, None, arith, true≢false}
use Rattle.std.specs.Prelude.{Option, nat_lt, slice_get, slice_index, slice_index_or, slice_set, All}
use Rattle.std.proofs.lemmas.Bool.Decides.{nat_tests}
use Rattle.std.proofs.lemmas.List.{get_or_at, get_or_append_left, get_or-set_same, get_or-set_other, get_or_default, get_or_past, length-set}
use Rattle.std.proofs.lemmas.Option.{slice_get-get_or, slice_get_past, none-some, same_Some}
use Rattle.pac_sched.specs.Schedules.{some_passes}
use Rattle.pac_sched.specs.Counts.{passing, leads, last_from, pairs_up_to}
use Rattle.pac_sched.proofs.PlaceLemmas.{lt_true, lt_false}

-- one, or none
abbrev pub to_count : Bool → ℕ
to_count b = cond b 1 0

-- a pair begins at a position
abbrev pub begins : List (ℕ × ℕ) → ℕ → ℕ → Bool
begins pairs i m = some_passes (λ pair. pair.0 == i) (slice_get pairs m)

not_leading : (i j : ℕ) (o : Option (ℕ × ℕ)) → some_passes (λ pair. pair.0 == i) o ≡ false → some_passes (leads i j) o ≡ false
not_leading i j None e = refl
not_leading i j (Some pair) e = ap (λ b. b && pair.1 == j) e

leading : (i j : ℕ) (o : Option (ℕ × ℕ)) (d : ℕ × ℕ) → o ≡ Some d → some_passes (λ pair. pair.0 == i) o ≡ true → some_passes (leads i j) o ≡ (d.1 == j)
leading i j o d e t = ap (some_passes (leads i j)) e ∙ ap (λ b. b && d.1 == j) (sym (ap (some_passes (λ pair. pair.0 == i)) e) ∙ t)

pub passing_le : (test : ℕ × ℕ → Bool) (pairs : List (ℕ × ℕ)) (m : ℕ) → passing test pairs m ≤ m
passing_le test pairs zero = omega arith
passing_le test pairs (suc m) = one (some_passes test (slice_get pairs m)) (passing test pairs m) m (passing_le test pairs m)
  where
    one : (b : Bool) (p m : ℕ) → p ≤ m → p + cond b 1 0 ≤ suc m
    one true p m le = omega arith
    one false p m le = omega arith

pub passing_grows : (test : ℕ × ℕ → Bool) (pairs : List (ℕ × ℕ)) (m n : ℕ) → m ≤ n → passing test pairs m ≤ passing test pairs n
passing_grows test pairs m zero le = let e : m ≡ 0 = omega arith in subst (λ m. passing test pairs m ≤ 0) (sym e) (omega arith)
passing_grows test pairs m (suc n) le = ⊎_elim (λ e. subst (λ m. passing test pairs m ≤ passing test pairs (suc n)) (sym e) (omega arith)) (λ l. more (some_passes test (slice_get pairs n)) _ _ (passing_grows test pairs m n l)) (split m n le)
  where
    split : (m n : ℕ) → m ≤ suc n → (m ≡ suc n) ⊎ (m ≤ n)
    split m n le = grind arith

    more : (b : Bool) (p q : ℕ) → p ≤ q → p ≤ q + cond b 1 0
    more true p q le = omega arith
    more false p q le = omega arith

module _ (pairs : List (ℕ × ℕ)) (i : ℕ) where
  -- what a look for the last pair found
  abbrev Found : ℕ → ℕ → Type 0
  Found m k = (k < m) × (begins pairs i k ≡ true) × ((j : ℕ) → passing (leads i j) pairs m ≡ passing (leads i j) pairs (suc k))

  find_some : (m k : ℕ) → last_from pairs i m ≡ Some k → Found m k
  find_some zero k e = absurd (none-some k e)
  find_some (suc m) k e = go (begins pairs i m) refl e (find_some m k)
    where
      go : (b : Bool) → begins pairs i m ≡ b → cond b (Some m) (last_from pairs i m) ≡ Some k → (last_from pairs i m ≡ Some k → Found m k) → Found (suc m) k
      go true t e rec = let same : m ≡ k = same_Some m k e in subst (Found (suc m)) same (omega arith, t, λ j. refl)
      go false t e rec = let f = rec e in (omega (arith, f.0), f.1, λ j. skip (some_passes (leads i j) (slice_get pairs m)) (not_leading i j (slice_get pairs m) t) _ _ (f.2 j))
        where
          skip : (b : Bool) → b ≡ false → (p q : ℕ) → p ≡ q → p + cond b 1 0 ≡ q
          skip true h p q e = absurd (true≢false h)
          skip false h p q e = omega arith

  find_none : (m : ℕ) → last_from pairs i m ≡ None → (j : ℕ) → passing (leads i j) pairs m ≡ 0
  find_none zero e j = refl
  find_none (suc m) e j = go (begins pairs i m) refl e (λ f. find_none m f j)
    where
      go : (b : Bool) → begins pairs i m ≡ b → cond b (Some m) (last_from pairs i m) ≡ None → (last_from pairs i m ≡ None → passing (leads i j) pairs m ≡ 0) → passing (leads i j) pairs (suc m) ≡ 0
      go true t e rec = absurd (none-some m (sym e))
      go false t e rec = ap (λ b. passing (leads i j) pairs m + cond b 1 0) (not_leading i j (slice_get pairs m) t) ∙ skip _ (rec e)
        where
          skip : (p : ℕ) → p ≡ 0 → p + 0 ≡ 0
          skip p e = omega arith

  -- it is the last up to itself, and no pair of the position stands after it
  pub record IsLast (o : Option ℕ) (m : ℕ) : Type 0 where
    pub settled : o ≡ last_from pairs i (pairs_up_to o)
    pub below : pairs_up_to o ≤ m
    pub counts : (j : ℕ) → passing (leads i j) pairs (pairs_up_to o) ≡ passing (leads i j) pairs m

  pub is_last : (o : Option ℕ) (m : ℕ) → o ≡ last_from pairs i m → IsLast o m
  is_last None m e = record { settled = refl; below = omega arith; counts = λ j. sym (find_none m (sym e) j) }
  is_last (Some k) m e = let f = find_some m k (sym e) in
      record { settled = sym (ap (λ b. cond b (Some k) (last_from pairs i k)) f.1); below = omega (arith, f.0); counts = λ j. sym (f.2 j) }

  -- the pair that is found begins at the position, and leads to its later one
  pub begins_here : (k : ℕ) → Some k ≡ last_from pairs i (suc k) → begins pairs i k ≡ true
  begins_here k e = (find_some (suc k) k (sym e)).1

  pub earlier_is : (k : ℕ) (d : ℕ × ℕ) → k < length pairs → begins pairs i k ≡ true → (get_or pairs k d).0 ≡ i
  earlier_is k d lt t = same ((get_or pairs k d).0) i (sym (ap (some_passes (λ pair. pair.0 == i)) (slice_get-get_or pairs k d lt)) ∙ t)
    where
      same : (a b : ℕ) → (a == b) ≡ true → a ≡ b
      same a b h = grind (arith, nat_tests)

  pub one_step : (k later : ℕ) (d : ℕ × ℕ) → k < length pairs → begins pairs i k ≡ true → later ≡ (get_or pairs k d).1 → (j : ℕ)
      → passing (leads i j) pairs (suc k) ≡ passing (leads i j) pairs k + to_count (later == j)
  one_step k later d lt t e j = ap (λ b. passing (leads i j) pairs k + cond b 1 0) (leading i j (slice_get pairs k) (get_or pairs k d) (slice_get-get_or pairs k d lt) t ∙ ap (λ x. x == j) (sym e))

-- ---- one position waits for one less

module _ (waits : List ℕ) (ready : List Bool) (later : ℕ) (wl : later < length waits) (rl : later < length ready) where
  abbrev pub fewer : List ℕ
  fewer = slice_set waits later (slice_index waits later - 1)

  abbrev pub risen : List Bool
  risen = cond (slice_index waits later == 1) (slice_set ready later true) ready

  equal : (a b : ℕ) → (a ≡ b) ⊎ (a ≢ b)
  equal a b = grind arith

  risen_other : (b : Bool) (j : ℕ) → j ≢ later → slice_index_or (cond b (slice_set ready later true) ready) j false ≡ slice_index_or ready j false
  risen_other true j ne = get_or-set_other ready later j true false ne
  risen_other false j ne = refl

  pub waits_step : (j p old total : ℕ) → 0 < slice_index waits later → slice_index waits j + total ≡ old + (p + to_count (later == j)) → slice_index fewer j + total ≡ old + p
  waits_step j p old total pos e = ⊎_elim same other (equal j later)
    where
      same : j ≡ later → slice_index fewer j + total ≡ old + p
      same h = let a : slice_index fewer j ≡ slice_index waits later - 1 = ap (slice_index fewer) h ∙ get_or-set_same waits later (slice_index waits later - 1) 0 wl in
          let b : slice_index waits j ≡ slice_index waits later = ap (slice_index waits) h in
          let c : to_count (later == j) ≡ 1 = grind (arith, nat_tests) in
          omega arith

      other : j ≢ later → slice_index fewer j + total ≡ old + p
      other h = let a : slice_index fewer j ≡ slice_index waits j = get_or-set_other waits later j (slice_index waits later - 1) 0 h in
          let c : to_count (later == j) ≡ 0 = grind (arith, nat_tests) in
          omega arith

  pub lowered_step : (j : ℕ) → 0 < slice_index waits later → ((j : ℕ) → 0 < slice_index waits j → slice_index_or ready j false ≡ false) → 0 < slice_index fewer j → slice_index_or risen j false ≡ false
  lowered_step j pos low h = ⊎_elim same other (equal j later)
    where
      same : j ≡ later → slice_index_or risen j false ≡ false
      same e = let a : slice_index fewer j ≡ slice_index waits later - 1 = ap (slice_index fewer) e ∙ get_or-set_same waits later (slice_index waits later - 1) 0 wl in
          let b : (slice_index waits later == 1) ≡ false = grind (arith, nat_tests) in
          ap (λ b. slice_index_or (cond b (slice_set ready later true) ready) j false) b ∙ ap (λ j. slice_index_or ready j false) e ∙ low later pos

      other : j ≢ later → slice_index_or risen j false ≡ false
      other n = risen_other (slice_index waits later == 1) j n ∙ low j (subst (λ w. 0 < w) (get_or-set_other waits later j (slice_index waits later - 1) 0 n) h)

  pub ready_step : (j p total : ℕ) (was : Bool) → 0 < slice_index waits later → slice_index_or ready later false ≡ false → p + to_count (later == j) ≤ total
      → slice_index_or ready j false ≡ (was || (nat_lt (p + to_count (later == j)) total && slice_index waits j == 0))
      → slice_index_or risen j false ≡ (was || (nat_lt p total && slice_index fewer j == 0))
  ready_step j p total was pos low le e = ⊎_elim same other (equal j later)
    where
      one : j ≡ later → to_count (later == j) ≡ 1
      one h = grind (arith, nat_tests)

      none : j ≢ later → to_count (later == j) ≡ 0
      none h = grind (arith, nat_tests)

      left_false : (a b : Bool) → (a || b) ≡ false → a ≡ false
      left_false true b h = h
      left_false false b h = refl

      at : ℕ → Bool → Bool
      at j b = slice_index_or (cond b (slice_set ready later true) ready) j false

      is_one : (w : ℕ) → w ≡ 1 → ((w == 1) ≡ true) × ((w - 1 == 0) ≡ true)
      is_one w h = grind (arith, nat_tests)

      not_one : (w : ℕ) → 0 < w → w ≢ 1 → ((w == 1) ≡ false) × ((w - 1 == 0) ≡ false)
      not_one w pos h = grind (arith, nat_tests)

      here : (w : ℕ) → 0 < w → at later (w == 1) ≡ (w - 1 == 0)
      here w h = ⊎_elim (λ e. let t = is_one w e in ap (at later) t.0 ∙ get_or-set_same ready later true false rl ∙ sym t.1)
          (λ n. let t = not_one w h n in ap (at later) t.0 ∙ low ∙ sym t.1) (equal w 1)

      same : j ≡ later → slice_index_or risen j false ≡ (was || (nat_lt p total && slice_index fewer j == 0))
      same h =
          let was_false : was ≡ false = left_false was _ (sym e ∙ ap (λ j. slice_index_or ready j false) h ∙ low) in
          let lt : nat_lt p total ≡ true = lt_true p total (omega (arith, one h)) in
          let f : slice_index fewer j ≡ slice_index waits later - 1 = ap (slice_index fewer) h ∙ get_or-set_same waits later (slice_index waits later - 1) 0 wl in
          ap (λ j. slice_index_or risen j false) h ∙ here (slice_index waits later) pos
          ∙ sym (ap (λ b. b || (nat_lt p total && slice_index fewer j == 0)) was_false ∙ ap (λ b. b && slice_index fewer j == 0) lt ∙ ap (λ w. w == 0) f)

      other : j ≢ later → slice_index_or risen j false ≡ (was || (nat_lt p total && slice_index fewer j == 0))
      other h =
          let f : slice_index fewer j ≡ slice_index waits j = get_or-set_other waits later j (slice_index waits later - 1) 0 h in
          let q : p + to_count (later == j) ≡ p = omega (arith, none h) in
          risen_other (slice_index waits later == 1) j h ∙ e ∙ ap (λ q. was || (nat_lt q total && slice_index waits j == 0)) q ∙ ap (λ w. was || (nat_lt p total && w == 0)) (sym f)

-- ---- the links are followed one after another

-- the pairs before the next one are left; what waits is not ready
pub record IsReleasing (pairs : List (ℕ × ℕ)) (i : ℕ) (old : List ℕ) (was : List Bool) (waits : List ℕ) (ready : List Bool) (next : Option ℕ) : Type 0 where
  pub waits_len : length waits ≡ length was
  pub ready_len : length ready ≡ length was
  pub next_is : next ≡ last_from pairs i (pairs_up_to next)
  pub inside : pairs_up_to next ≤ length pairs
  pub waits_are : (j : ℕ) → j < length was → slice_index waits j + passing (leads i j) pairs (length pairs) ≡ slice_index old j + passing (leads i j) pairs (pairs_up_to next)
  pub lowered : (j : ℕ) → j < length was → 0 < slice_index waits j → slice_index_or ready j false ≡ false
  pub ready_are : (j : ℕ) → j < length was → slice_index_or ready j false
      ≡ (slice_index_or was j false || (nat_lt (passing (leads i j) pairs (pairs_up_to next)) (passing (leads i j) pairs (length pairs)) && slice_index waits j == 0))

pub starting : (pairs : List (ℕ × ℕ)) (i : ℕ) (old : List ℕ) (was : List Bool) (next : Option ℕ) → length old ≡ length was
    → ((j : ℕ) → j < length was → 0 < slice_index old j → slice_index_or was j false ≡ false) → next ≡ last_from pairs i (length pairs)
    → IsReleasing pairs i old was old was next
starting pairs i old was next len low e = let l = is_last pairs i next (length pairs) e in record {
  waits_len = len;
  ready_len = refl;
  next_is = l.settled;
  inside = l.below;
  waits_are = λ j lt. ap (λ n. slice_index old j + n) (sym (l.counts j));
  lowered = low;
  ready_are = λ j lt. same (slice_index_or was j false) _ (slice_index old j == 0) (ap (λ n. nat_lt n (passing (leads i j) pairs (length pairs))) (l.counts j) ∙ lt_false _ _ (omega arith));
}
  where
    same : (a b c : Bool) → b ≡ false → a ≡ (a || (b && c))
    same true b c e = refl
    same false true c e = absurd (true≢false e)
    same false false c e = refl

module _ (pairs : List (ℕ × ℕ)) (i : ℕ) (old : List ℕ) (was : List Bool) (waits : List ℕ) (ready : List Bool) (k later : ℕ) (d : ℕ × ℕ)
    (now : IsReleasing pairs i old was waits ready (Some k)) (later_is : later ≡ (get_or pairs k d).1)
    (enough : (j : ℕ) → j < length was → passing (leads i j) pairs (length pairs) ≤ slice_index old j)
    (within : All (λ pair. pair.1 < length was) pairs) where
  k_inside : k < length pairs
  k_inside = now.inside

  pub later_inside : later < length was
  later_inside = subst (λ n. n < length was) (sym later_is) (within k d k_inside)

  here : begins pairs i k ≡ true
  here = begins_here pairs i k now.next_is

  stepped : (j : ℕ) → passing (leads i j) pairs (suc k) ≡ passing (leads i j) pairs k + to_count (later == j)
  stepped j = one_step pairs i k later d k_inside here later_is j

  pub later_waits : 0 < slice_index waits later
  later_waits =
      let a = now.waits_are later later_inside in
      let b = stepped later in
      let c : to_count (later == later) ≡ 1 = itself later in
      let e = enough later later_inside in
      omega (arith, a, b, c, e)
    where
      itself : (n : ℕ) → to_count (n == n) ≡ 1
      itself n = grind (arith, nat_tests)

  pub later_lowered : (b : Bool) → slice_index_or ready later b ≡ false
  later_lowered b = get_or_default ready later b false (omega (arith, now.ready_len, later_inside)) ∙ now.lowered later later_inside later_waits

  pub following : (next : Option ℕ) → next ≡ last_from pairs (get_or pairs k d).0 k → next ≡ last_from pairs i k
  following next e = e ∙ ap (λ i. last_from pairs i k) (earlier_is pairs i k d k_inside here)

  pub released : (next : Option ℕ) → next ≡ last_from pairs i k
      → IsReleasing pairs i old was (slice_set waits later (slice_index waits later - 1)) (cond (slice_index waits later == 1) (slice_set ready later true) ready) next
  released next e =
      let l = is_last pairs i next k e in
      let wl : later < length waits = omega (arith, now.waits_len, later_inside) in
      let rl : later < length ready = omega (arith, now.ready_len, later_inside) in record {
        waits_len = length-set waits later (slice_index waits later - 1) ∙ now.waits_len;
        ready_len = risen_len (slice_index waits later == 1) ∙ now.ready_len;
        next_is = l.settled;
        inside = omega (arith, l.below, k_inside);
        waits_are = λ j lt. waits_step waits ready later wl rl j _ _ _ later_waits
            (now.waits_are j lt ∙ ap (λ n. slice_index old j + n) (stepped j ∙ ap (λ n. n + to_count (later == j)) (sym (l.counts j))));
        lowered = λ j lt. lowered_step waits ready later wl rl j later_waits (λ m pos. low_at m (λ ml. now.lowered m ml pos));
        ready_are = λ j lt. ready_step waits ready later wl rl j _ _ _ later_waits (later_lowered false)
            (fits j _ (ap (λ n. n + to_count (later == j)) (l.counts j)))
            (now.ready_are j lt ∙ ap (λ n. slice_index_or was j false || (nat_lt n (passing (leads i j) pairs (length pairs)) && slice_index waits j == 0)) (stepped j ∙ ap (λ n. n + to_count (later == j)) (sym (l.counts j))));
      }
    where
      risen_len : (b : Bool) → length (cond b (slice_set ready later true) ready) ≡ length ready
      risen_len true = length-set ready later true
      risen_len false = refl

      split : (a b : ℕ) → (a < b) ⊎ (b ≤ a)
      split a b = grind arith

      low_at : (m : ℕ) → (m < length was → slice_index_or ready m false ≡ false) → slice_index_or ready m false ≡ false
      low_at m f = ⊎_elim f (λ ge. get_or_past ready m false (omega (arith, now.ready_len))) (split m (length was))

      fits : (j p : ℕ) → p ≡ passing (leads i j) pairs k + to_count (later == j) → p ≤ passing (leads i j) pairs (length pairs)
      fits j p e = let g = passing_grows (leads i j) pairs (suc k) (length pairs) k_inside in let s = stepped j in omega (arith, g, s, e)

-- ---- one more pair is linked

pub links_more : (pairs : List (ℕ × ℕ)) (previous last more : List (Option ℕ)) (n earlier : ℕ) (d : ℕ × ℕ) (y : Option ℕ) → n < length pairs → length previous ≡ n
    → earlier ≡ (get_or pairs n d).0 → earlier < length last → y ≡ get_or last earlier y → more ≡ previous ++ y ∷ []
    → ((k : ℕ) (d : Option ℕ) (e : ℕ × ℕ) → k < n → get_or previous k d ≡ last_from pairs (get_or pairs k e).0 k)
    → ((i : ℕ) (d : Option ℕ) → i < length last → get_or last i d ≡ last_from pairs i n)
    → (k : ℕ) (d : Option ℕ) (e : ℕ × ℕ) → k < n + 1 → get_or more k d ≡ last_from pairs (get_or pairs k e).0 k
links_more pairs previous last more n earlier d y lt len at inside read items links heads k d' e le = ⊎_elim new old (split k n le)
  where
    split : (k n : ℕ) → k < n + 1 → (k ≡ n) ⊎ (k < n)
    split k n le = grind arith

    pushed : get_or more n d' ≡ y
    pushed = ap (λ xs. get_or xs n d') items ∙ get_or_at previous y [] d' n len

    new : k ≡ n → get_or more k d' ≡ last_from pairs (get_or pairs k e).0 k
    new h = ap (λ k. get_or more k d') h ∙ pushed ∙ read ∙ heads earlier y inside
        ∙ ap (λ i. last_from pairs i n) (at ∙ ap (λ (pair : ℕ × ℕ). pair.0) (get_or_default pairs n d e lt)) ∙ sym (ap (λ k. last_from pairs (get_or pairs k e).0 k) h)

    old : k < n → get_or more k d' ≡ last_from pairs (get_or pairs k e).0 k
    old h = ap (λ xs. get_or xs k d') items ∙ get_or_append_left previous (y ∷ []) d' k (omega arith) ∙ links k d' e h

pub heads_more : (pairs : List (ℕ × ℕ)) (last : List (Option ℕ)) (n earlier : ℕ) (d : ℕ × ℕ) → n < length pairs → earlier ≡ (get_or pairs n d).0 → earlier < length last
    → ((i : ℕ) (d : Option ℕ) → i < length last → get_or last i d ≡ last_from pairs i n)
    → (i : ℕ) (d : Option ℕ) → i < length last → get_or (slice_set last earlier (Some n)) i d ≡ last_from pairs i (n + 1)
heads_more pairs last n earlier d lt at inside heads i d' il = ⊎_elim same other (equal i earlier) ∙ ap (last_from pairs i) one
  where
    one : suc n ≡ n + 1
    one = omega arith

    equal : (a b : ℕ) → (a ≡ b) ⊎ (a ≢ b)
    equal a b = grind arith

    agree : (a b : ℕ) → a ≡ b → (a == b) ≡ true
    agree a b h = grind (arith, nat_tests)

    differ : (a b : ℕ) → a ≢ b → (a == b) ≡ false
    differ a b h = grind (arith, nat_tests)

    here : begins pairs i n ≡ ((get_or pairs n d).0 == i)
    here = ap (some_passes (λ pair. pair.0 == i)) (slice_get-get_or pairs n d lt)

    same : i ≡ earlier → get_or (slice_set last earlier (Some n)) i d' ≡ last_from pairs i (suc n)
    same h = let is : begins pairs i n ≡ true = here ∙ agree (get_or pairs n d).0 i (sym (h ∙ at)) in
        ap (λ i. get_or (slice_set last earlier (Some n)) i d') h ∙ get_or-set_same last earlier (Some n) d' inside ∙ sym (ap (λ b. cond b (Some n) (last_from pairs i n)) is)

    other : i ≢ earlier → get_or (slice_set last earlier (Some n)) i d' ≡ last_from pairs i (suc n)
    other h = let no : begins pairs i n ≡ false = here ∙ differ (get_or pairs n d).0 i (λ e. absurd (h (sym e ∙ sym at))) in
        get_or-set_other last earlier i (Some n) d' h ∙ heads i d' il ∙ sym (ap (λ b. cond b (Some n) (last_from pairs i n)) no)

pub heads_kept : (pairs : List (ℕ × ℕ)) (last : List (Option ℕ)) (len n earlier : ℕ) (d : ℕ × ℕ) → length last ≡ len → n < length pairs → earlier ≡ (get_or pairs n d).0 → earlier < length last
    → ((i : ℕ) (d : Option ℕ) → i < len → get_or last i d ≡ last_from pairs i n)
    → (i : ℕ) (d : Option ℕ) → i < len → get_or (slice_set last earlier (Some n)) i d ≡ last_from pairs i (n + 1)
heads_kept pairs last len n earlier d e lt at inside heads i d' il = heads_more pairs last n earlier d lt at inside (λ i d il. heads i d (omega arith)) i d' (omega arith)

-- all links were followed
pub all_released : (pairs : List (ℕ × ℕ)) (i : ℕ) (old : List ℕ) (was : List Bool) (waits : List ℕ) (ready : List Bool) → IsReleasing pairs i old was waits ready None
    → (j : ℕ) → j < length was → slice_index waits j + passing (leads i j) pairs (length pairs) ≡ slice_index old j
all_released pairs i old was waits ready now j lt = let a : slice_index waits j + passing (leads i j) pairs (length pairs) ≡ slice_index old j + 0 = now.waits_are j lt in omega (arith, a)

-- a position that no pair can begin at has no last one
pub none_begins : (pairs : List (ℕ × ℕ)) (n i : ℕ) → All (λ pair. pair.0 < n) pairs → n ≤ i → (m : ℕ) → last_from pairs i m ≡ None
none_begins pairs n i all le zero = refl
none_begins pairs n i all le (suc m) = ap (λ b. cond b (Some m) (last_from pairs i m)) (⊎_elim inside past (split m (length pairs))) ∙ none_begins pairs n i all le m
  where
    split : (a b : ℕ) → (a < b) ⊎ (b ≤ a)
    split a b = grind arith

    differ : (a b : ℕ) → a < b → (a == b) ≡ false
    differ a b h = grind (arith, nat_tests)

    inside : m < length pairs → begins pairs i m ≡ false
    inside lt = ap (some_passes (λ pair. pair.0 == i)) (slice_get-get_or pairs m (0, 0) lt) ∙ differ _ i (let a = all m (0, 0) lt in omega (arith, a))

    past : length pairs ≤ m → begins pairs i m ≡ false
    past ge = ap (some_passes (λ pair. pair.0 == i)) (slice_get_past pairs m ge)
