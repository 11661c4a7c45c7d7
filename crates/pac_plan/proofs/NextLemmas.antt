-- Accesses that conflict are joined by a chain of next pairs.
use Rattle.std.proofs.Common.{◌≡◌, ℕ, zero, suc, ◌+◌, ◌-◌, ◌<◌, ◌≤◌, ◌==◌, Bool, true, false, ◌&&◌, ◌||◌, refl, sym, ap, ◌∙◌, subst, true≢false, ◌⊎◌, inl, inr, ⊎_elim, arith}
use Rattle.std.specs.List.{list_any}
use Rattle.std.specs.Ordering.{eq_by_cmp}
use Rattle.pac_value.specs.State.{Cell, cell_cmp}
use Rattle.pac_value.proofs.CellLemmas.{same-cell, tied_same}
use Rattle.pac_base.specs.Members.{Mem}
use Rattle.pac_plan.specs.declared.access.Touch.{Touch}
use Rattle.pac_plan.specs.declared.access.Access.{Access}
use Rattle.pac_plan.specs.declared.access.Access.TheVariants.{Keys, Whole}
use Rattle.pac_plan.specs.Pieces.{named_cell, conflicts}
use Rattle.pac_plan.specs.NextPairs.{is_whole, has_key, writes_key, IsNextPair, Chain, One, Then, NextPairs, ClosedByNext}
use Rattle.pac_base.proofs.TestLemmas.{or_left, or_right, or_cases, and_left, and_right, and_both, any_mem, any_gives, same_number, equal_number, not_false}

-- both touch a key that one modifies
abbrev pub Meet : Access → Access → Cell → Type 0
Meet x y a = (has_key x a ≡ true) × (has_key y a ≡ true) × ((writes_key x a || writes_key y a) ≡ true)

tied : (a b c : Cell) → eq_by_cmp cell_cmp a c ≡ true → eq_by_cmp cell_cmp b c ≡ true → eq_by_cmp cell_cmp a b ≡ true
tied a b c e f = rw (tied_same a c e, tied_same b c f) (same-cell c)

conflict_meets : (x y : Access) → conflicts x y ≡ true → ((is_whole x || is_whole y) ≡ true) ⊎ ((a : Cell) × Meet x y a)
conflict_meets Whole y h = inl refl
conflict_meets (Keys l) Whole h = inl refl
conflict_meets (Keys l) (Keys m) h = inr (go (any_gives _ l h))
  where
    go : (e : Touch) × Mem e l × (list_any (λ (d : Touch). eq_by_cmp cell_cmp (named_cell e) (named_cell d) && (e.is_write || d.is_write)) m ≡ true) → (a : Cell) × Meet (Keys l) (Keys m) a
    go (e, in_l, h) = found (any_gives _ m h)
      where
        found : (d : Touch) × Mem d m × ((eq_by_cmp cell_cmp (named_cell e) (named_cell d) && (e.is_write || d.is_write)) ≡ true) → (a : Cell) × Meet (Keys l) (Keys m) a
        found (d, in_m, k) =
            let same : eq_by_cmp cell_cmp (named_cell e) (named_cell d) ≡ true = and_left (eq_by_cmp cell_cmp (named_cell e) (named_cell d)) (e.is_write || d.is_write) k in (
              (named_cell d),
              (
                any_mem (λ (e : Touch). eq_by_cmp cell_cmp (named_cell e) (named_cell d)) e l in_l same,
                any_mem (λ (e : Touch). eq_by_cmp cell_cmp (named_cell e) (named_cell d)) d m in_m (same-cell (named_cell d)),
                ⊎_elim
                    (λ w. or_left _ _ (any_mem (λ (e : Touch). e.is_write && eq_by_cmp cell_cmp (named_cell e) (named_cell d)) e l in_l (and_both e.is_write (eq_by_cmp cell_cmp (named_cell e) (named_cell d)) w same)))
                    (λ w. or_right (writes_key (Keys l) (named_cell d)) _ (any_mem (λ (e : Touch). e.is_write && eq_by_cmp cell_cmp (named_cell e) (named_cell d)) d m in_m (and_both d.is_write (eq_by_cmp cell_cmp (named_cell d) (named_cell d)) w (same-cell (named_cell d)))))
                    (or_cases e.is_write d.is_write (and_right (eq_by_cmp cell_cmp (named_cell e) (named_cell d)) (e.is_write || d.is_write) k)),
              ),
            )

whole_conflict : (x y : Access) → (is_whole x || is_whole y) ≡ true → conflicts x y ≡ true
whole_conflict Whole y h = refl
whole_conflict (Keys l) Whole h = refl
whole_conflict (Keys l) (Keys m) h = absurd (true≢false (sym h))

meet_conflict : (x y : Access) (a : Cell) → Meet x y a → conflicts x y ≡ true
meet_conflict Whole y a h = refl
meet_conflict (Keys l) Whole a h = refl
meet_conflict (Keys l) (Keys m) a h = ⊎_elim left right (or_cases (writes_key (Keys l) a) (writes_key (Keys m) a) h.2)
  where
    pair : (e d : Touch) → Mem e l → Mem d m → eq_by_cmp cell_cmp (named_cell e) a ≡ true → eq_by_cmp cell_cmp (named_cell d) a ≡ true → (e.is_write || d.is_write) ≡ true → conflicts (Keys l) (Keys m) ≡ true
    pair e d in_l in_m at_e at_d w = any_mem (λ (e : Touch). list_any (λ (d : Touch). eq_by_cmp cell_cmp (named_cell e) (named_cell d) && (e.is_write || d.is_write)) m) e l in_l
        (any_mem (λ (d : Touch). eq_by_cmp cell_cmp (named_cell e) (named_cell d) && (e.is_write || d.is_write)) d m in_m (and_both (eq_by_cmp cell_cmp (named_cell e) (named_cell d)) (e.is_write || d.is_write) (tied (named_cell e) (named_cell d) a at_e at_d) w))

    left : writes_key (Keys l) a ≡ true → conflicts (Keys l) (Keys m) ≡ true
    left w =
        let e = any_gives (λ (e : Touch). e.is_write && eq_by_cmp cell_cmp (named_cell e) a) l w in
        let d = any_gives (λ (e : Touch). eq_by_cmp cell_cmp (named_cell e) a) m h.1 in
        pair e.0 d.0 e.1 d.1 (and_right e.0.is_write (eq_by_cmp cell_cmp (named_cell e.0) a) e.2) d.2 (or_left e.0.is_write d.0.is_write (and_left e.0.is_write (eq_by_cmp cell_cmp (named_cell e.0) a) e.2))

    right : writes_key (Keys m) a ≡ true → conflicts (Keys l) (Keys m) ≡ true
    right w =
        let e = any_gives (λ (e : Touch). eq_by_cmp cell_cmp (named_cell e) a) l h.0 in
        let d = any_gives (λ (e : Touch). e.is_write && eq_by_cmp cell_cmp (named_cell e) a) m w in
        pair e.0 d.0 e.1 d.1 e.2 (and_right d.0.is_write (eq_by_cmp cell_cmp (named_cell d.0) a) d.2) (or_right e.0.is_write d.0.is_write (and_left d.0.is_write (eq_by_cmp cell_cmp (named_cell d.0) a) d.2))

-- one in between, or none
between : (test : ℕ → Bool) (i k : ℕ) → ((m : ℕ) × (i < m) × (m ≤ i + k) × (test m ≡ true)) ⊎ ((m : ℕ) → i < m → m ≤ i + k → test m ≡ false)
between test i zero = inr (λ m lt le. absurd (omega (arith, lt, le)))
between test i (suc k) = go (test (i + suc k)) refl (between test i k)
  where
    go : (b : Bool) → test (i + suc k) ≡ b → ((m : ℕ) × (i < m) × (m ≤ i + k) × (test m ≡ true)) ⊎ ((m : ℕ) → i < m → m ≤ i + k → test m ≡ false)
        → ((m : ℕ) × (i < m) × (m ≤ i + suc k) × (test m ≡ true)) ⊎ ((m : ℕ) → i < m → m ≤ i + suc k → test m ≡ false)
    go true e rest = inl (i + suc k, omega arith, omega arith, e)
    go false e (inl (m, lt, le, h)) = inl (m, lt, omega (arith, le), h)
    go false e (inr none) = inr (λ m lt le. last m lt le (m == (i + suc k)) refl)
      where
        last : (m : ℕ) → i < m → m ≤ i + suc k → (b : Bool) → (m == (i + suc k)) ≡ b → test m ≡ false
        last m lt le true same = ap test (same_number m (i + suc k) same) ∙ e
        last m lt le false other = none m lt (let differ : m ≡ i + suc k → ⊥ = λ h. not_false _ other (equal_number m (i + suc k) h) in grind (arith, le, differ))

has_written : (x : Access) (a : Cell) → writes_key x a ≡ true → has_key x a ≡ true
has_written Whole a w = absurd (true≢false (sym w))
has_written (Keys l) a w = let e = any_gives (λ (e : Touch). e.is_write && eq_by_cmp cell_cmp (named_cell e) a) l w in any_mem (λ (e : Touch). eq_by_cmp cell_cmp (named_cell e) a) e.0 l e.1 (and_right e.0.is_write (eq_by_cmp cell_cmp (named_cell e.0) a) e.2)

module _ (at : ℕ → Access) where
  -- by keys, over a distance of at most d
  key_chain : (d i k : ℕ) (a : Cell) → k ≤ d → Meet (at i) (at (i + 1 + k)) a → Chain at i (i + 1 + k)
  key_chain zero i k a le meet = One i (i + 1 + k) (omega arith, inl (a, meet.0, meet.1, meet.2, λ m lt gt. absurd (omega (arith, le, lt, gt))))
  key_chain (suc d) i k a le meet = go (between (λ m. writes_key (at m) a) i k) (key_chain d)
    where
      go : ((m : ℕ) × (i < m) × (m ≤ i + k) × (writes_key (at m) a ≡ true)) ⊎ ((m : ℕ) → i < m → m ≤ i + k → writes_key (at m) a ≡ false)
          → ((i k : ℕ) (a : Cell) → k ≤ d → Meet (at i) (at (i + 1 + k)) a → Chain at i (i + 1 + k)) → Chain at i (i + 1 + k)
      go (inr none) rest = One i (i + 1 + k) (omega arith, inl (a, meet.0, meet.1, meet.2, λ m lt gt. none m lt (omega (arith, gt))))
      go (inl (m, lt, gt, w)) rest =
          let first : m ≡ i + 1 + (m - (i + 1)) = omega (arith, lt) in
          let second : i + 1 + k ≡ m + 1 + (i + k - m) = omega (arith, gt) in
          Then i m (i + 1 + k)
          (subst (λ j. Chain at i j) (sym first) (rest i (m - (i + 1)) a (omega (arith, lt, gt, le)) (subst (λ j. Meet (at i) (at j) a) first (meet.0, has_written (at m) a w, or_right (writes_key (at i) a) (writes_key (at m) a) w))))
          (subst (λ j. Chain at m j) (sym second) (rest m (i + k - m) a (omega (arith, lt, gt, le)) (subst (λ j. Meet (at m) (at j) a) second (has_written (at m) a w, meet.1, or_left (writes_key (at m) a) (writes_key (at (i + 1 + k)) a) w))))

  whole_chain : (d i k : ℕ) → k ≤ d → (is_whole (at i) || is_whole (at (i + 1 + k))) ≡ true → Chain at i (i + 1 + k)
  whole_chain zero i k le whole = One i (i + 1 + k) (omega arith, inr (whole, λ m lt gt. absurd (omega (arith, le, lt, gt))))
  whole_chain (suc d) i k le whole = go (between (λ m. is_whole (at m)) i k) (whole_chain d)
    where
      go : ((m : ℕ) × (i < m) × (m ≤ i + k) × (is_whole (at m) ≡ true)) ⊎ ((m : ℕ) → i < m → m ≤ i + k → is_whole (at m) ≡ false)
          → ((i k : ℕ) → k ≤ d → (is_whole (at i) || is_whole (at (i + 1 + k))) ≡ true → Chain at i (i + 1 + k)) → Chain at i (i + 1 + k)
      go (inr none) rest = One i (i + 1 + k) (omega arith, inr (whole, λ m lt gt. none m lt (omega (arith, gt))))
      go (inl (m, lt, gt, w)) rest =
          let first : m ≡ i + 1 + (m - (i + 1)) = omega (arith, lt) in
          let second : i + 1 + k ≡ m + 1 + (i + k - m) = omega (arith, gt) in
          Then i m (i + 1 + k)
          (subst (λ j. Chain at i j) (sym first) (rest i (m - (i + 1)) (omega (arith, lt, gt, le)) (subst (λ j. (is_whole (at i) || is_whole (at j)) ≡ true) first (or_right (is_whole (at i)) (is_whole (at m)) w))))
          (subst (λ j. Chain at m j) (sym second) (rest m (i + k - m) (omega (arith, lt, gt, le)) (or_left (is_whole (at m)) _ w)))

  chain : (i j : ℕ) → i < j → conflicts (at i) (at j) ≡ true → Chain at i j
  chain i j lt h =
      let far : j ≡ i + 1 + (j - (i + 1)) = omega (arith, lt) in
      subst (λ n. Chain at i n) (sym far) (⊎_elim
      (λ w. whole_chain (j - (i + 1)) i (j - (i + 1)) (omega arith) (subst (λ n. (is_whole (at i) || is_whole (at n)) ≡ true) far w))
      (λ m. key_chain (j - (i + 1)) i (j - (i + 1)) m.0 (omega arith) (subst (λ n. Meet (at i) (at n) m.0) far m.1))
      (conflict_meets (at i) (at j) h))

  next_conflicts : (i j : ℕ) → IsNextPair at i j → conflicts (at i) (at j) ≡ true
  next_conflicts i j (lt, inl (a, h, k, w, none)) = meet_conflict (at i) (at j) a (h, k, w)
  next_conflicts i j (lt, inr (w, none)) = whole_conflict (at i) (at j) w

  closed_chain : (F : ℕ → Bool) → ((i j : ℕ) → IsNextPair at i j → F j ≡ true → F i ≡ true) → {i j : ℕ} → Chain at i j → F j ≡ true → F i ≡ true
  closed_chain F closed (One i j next) f = closed i j next f
  closed_chain F closed (Then i m j c d) f = closed_chain F closed c (closed_chain F closed d f)

pub next_pairs : NextPairs
next_pairs at i j = (next_conflicts at i j, chain at i j)

pub closed_by_next : ClosedByNext
closed_by_next at F closed i j lt h f = closed_chain at F closed (chain at i j lt h) f
