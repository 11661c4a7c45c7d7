-- The first raised flag is at the root of a settled tree, and a node that is settled anew unsettles its parent alone.
use Rattle.std.proofs.Common.{◌≡◌, ◌≢◌, ℕ, zero, suc, ◌+◌, ◌-◌, ◌*◌, ◌/◌, ◌<◌, ◌≤◌, Bool, true, false, cond, min, List, ◌++◌, length, take, refl, sym, ap, ◌∙◌, subst, ⊎_elim, ◌⊎◌, Some, None, arith}
use Rattle.std.specs.Prelude.{nat_lt, position, slice_set, slice_index, slice_index_or, count_by}
use Rattle.std.specs.List.{position_or_len}
use Rattle.std.proofs.lemmas.List.{get_or-set_same, get_or-set_other, length-set, take_at}
use Rattle.std.proofs.lemmas.List.Sums.{position_or_len_is, sum_by-set}
use Rattle.pac_sched.proofs.PlaceLemmas.{lt_true, lt_false}
use Rattle.pac_sched.specs.ReadySets.{IsSettledAt, at_leaf, IsFirstTree}

split : (a b : ℕ) → (a < b) ⊎ (b ≤ a)
split a b = grind arith

-- ---- the root is the least of all

module _ (flags : List Bool) (firsts : List ℕ) (leaves : (i : ℕ) → i < length flags → slice_index firsts (length flags + i) ≡ at_leaf flags i)
    (settled : (k : ℕ) → 0 < k → k < length flags → IsSettledAt firsts k) where
  abbrev value : ℕ → ℕ
  value k = slice_index firsts k

  child : (k : ℕ) → 1 < k → k < 2 * length flags → value (k / 2) ≤ value k
  child k one lt =
      let e : value (k / 2) ≡ min (value (2 * (k / 2))) (value (2 * (k / 2) + 1)) = settled (k / 2) (omega arith) (omega arith) in
      ⊎_elim (λ even. let same : value (2 * (k / 2)) ≡ value k = ap value even in omega arith)
      (λ odd. let same : value (2 * (k / 2) + 1) ≡ value k = ap value odd in omega arith)
      (sides k)
    where
      sides : (k : ℕ) → (2 * (k / 2) ≡ k) ⊎ (2 * (k / 2) + 1 ≡ k)
      sides k = grind arith

  low : (fuel k : ℕ) → k ≤ fuel → 0 < k → k < 2 * length flags → value 1 ≤ value k
  low zero k le pos lt = absurd (omega arith)
  low (suc fuel) k le pos lt = ⊎_elim (λ e. let same : value k ≡ value 1 = ap value e in omega arith)
      (λ more. let up : value 1 ≤ value (k / 2) = low fuel (k / 2) (omega arith) (omega arith) (omega arith) in let down : value (k / 2) ≤ value k = child k more lt in omega arith)
      (one_or_more k pos)
    where
      one_or_more : (k : ℕ) → 0 < k → (k ≡ 1) ⊎ (1 < k)
      one_or_more k pos = grind arith

  -- what a node has is a raised position
  abbrev Raised : ℕ → Type 0
  Raised v = slice_index_or flags v false ≡ true

  leaf_raised : (i : ℕ) (b : Bool) → slice_index_or flags i false ≡ b → cond b i (length flags) < length flags → Raised (cond b i (length flags))
  leaf_raised i true e lt = e
  leaf_raised i false e lt = absurd (omega arith)

  abbrev Reaches : ℕ → Type 0
  Reaches fuel = (k : ℕ) → 2 * length flags ≤ k + fuel → 0 < k → value k < length flags → k < 2 * length flags → Raised (value k)

  choose : (a b : ℕ) → (min a b ≡ a) ⊎ (min a b ≡ b)
  choose a b = grind arith

  reach_inner : (fuel : ℕ) → Reaches fuel → (k : ℕ) → 2 * length flags ≤ k + suc fuel → 0 < k → value k < length flags → k < length flags → Raised (value k)
  reach_inner fuel rec k le pos lt in' =
      let e : value k ≡ min (value (2 * k)) (value (2 * k + 1)) = settled k pos in' in
      ⊎_elim (λ l. subst Raised (sym (e ∙ l)) (rec (2 * k) (omega arith) (omega arith) (subst (λ v. v < length flags) (e ∙ l) lt) (omega arith)))
      (λ r. subst Raised (sym (e ∙ r)) (rec (2 * k + 1) (omega arith) (omega arith) (subst (λ v. v < length flags) (e ∙ r) lt) (omega arith)))
      (choose (value (2 * k)) (value (2 * k + 1)))

  reach_leaf : (k : ℕ) → value k < length flags → length flags ≤ k → k < 2 * length flags → Raised (value k)
  reach_leaf k lt out below =
      let s : length flags + (k - length flags) ≡ k = omega arith in
      let e : value k ≡ at_leaf flags (k - length flags) = sym (ap value s) ∙ leaves (k - length flags) (omega arith) in
      subst Raised (sym e) (leaf_raised (k - length flags) (slice_index_or flags (k - length flags) false) refl (subst (λ v. v < length flags) e lt))

  reached : (fuel : ℕ) → Reaches fuel
  reached zero k le pos lt below = absurd (omega arith)
  reached (suc fuel) k le pos lt below = ⊎_elim (λ in'. reach_inner fuel (reached fuel) k le pos lt in') (λ out. reach_leaf k lt out below) (split k (length flags))

  -- a raised position is at least the root's
  below_root : (i : ℕ) → i < length flags → Raised i → value 1 ≤ i
  below_root i lt up =
      let e : value (length flags + i) ≡ i = leaves i lt ∙ ap (λ b. cond b i (length flags)) up in
      let l : value 1 ≤ value (length flags + i) = low (length flags + i) (length flags + i) (omega arith) (omega arith) (omega arith) in
      omega arith

  lowered_before : (b : Bool) (i : ℕ) → slice_index_or flags i false ≡ b → i < value 1 → i < length flags → b ≡ false
  lowered_before true i e lt in' = absurd (let l = below_root i in' e in omega (arith, l))
  lowered_before false i e lt in' = refl

  place : (v : ℕ) → v ≡ value 1 → v ≤ length flags → 0 < length flags → position_or_len (λ flag. flag) flags ≡ v
  place v e le pos = position_or_len_is (λ flag. flag) flags v false le
      (λ k lt. lowered_before (slice_index_or flags k false) k refl (omega arith) (omega arith))
      (λ lt. subst Raised (sym e) (reached (2 * length flags) 1 (omega arith) (omega arith) (omega arith) (omega arith)))

  pub found : (v : ℕ) → v ≡ slice_index firsts 1 → v < length flags → Some v ≡ position (λ flag. flag) flags
  found v e lt =
      let p : position_or_len (λ flag. flag) flags ≡ v = place v e (omega arith) (omega arith) in
      sym (ap (λ n. cond (nat_lt n (length flags)) (Some n) None) p ∙ ap (λ b. cond b (Some v) None) (lt_true v (length flags) lt))

  no_raised : (v : ℕ) → length flags ≤ v → 0 < length flags → v ≡ value 1 → (k : ℕ) → k < length flags → slice_index_or flags k false ≡ false
  no_raised v ge pos e k lt = lowered_before (slice_index_or flags k false) k refl (omega arith) lt

  pub not_found : (v : ℕ) → v ≡ slice_index firsts 1 → length flags ≤ v → 0 < length flags → None ≡ position (λ flag. flag) flags
  not_found v e ge pos =
      let p : position_or_len (λ flag. flag) flags ≡ length flags = position_or_len_is (λ flag. flag) flags (length flags) false (omega arith) (no_raised v ge pos e) (λ lt. absurd (omega arith)) in
      sym (ap (λ n. cond (nat_lt n (length flags)) (Some n) None) p ∙ ap (λ b. cond b (Some (length flags)) None) (lt_false (length flags) (length flags) (omega arith)))

-- ---- steps upwards

equal : (a b : ℕ) → (a ≡ b) ⊎ (a ≢ b)
equal a b = grind arith

-- a node that is set unsettles its parent alone
pub kept_settled : (firsts : List ℕ) (node v k : ℕ) → k ≢ node → 2 * k ≢ node → 2 * k + 1 ≢ node → IsSettledAt firsts k → IsSettledAt (slice_set firsts node v) k
kept_settled firsts node v k n0 n1 n2 e =
    get_or-set_other firsts node k v 0 n0 ∙ e
    ∙ sym (ap (λ a. min a (slice_index (slice_set firsts node v) (2 * k + 1))) (get_or-set_other firsts node (2 * k) v 0 n1) ∙ ap (λ a. min (slice_index firsts (2 * k)) a) (get_or-set_other firsts node (2 * k + 1) v 0 n2))

pub settled_above : (firsts : List ℕ) (len node v : ℕ) → 0 < node → node < len → length firsts ≡ 2 * len
    → v ≡ min (slice_index firsts (2 * node)) (slice_index firsts (2 * node + 1))
    → ((k : ℕ) → 0 < k → k < len → k ≢ node → IsSettledAt firsts k)
    → (k : ℕ) → 0 < k → k < len → k ≢ node / 2 → IsSettledAt (slice_set firsts node v) k
settled_above firsts len node v pos inside size e others k kpos kin ne = ⊎_elim same other (equal k node)
  where
    same : k ≡ node → IsSettledAt (slice_set firsts node v) k
    same eq = ap (slice_index (slice_set firsts node v)) eq ∙ get_or-set_same firsts node v 0 (omega arith) ∙ e
        ∙ sym (ap (λ a. min a (slice_index (slice_set firsts node v) (2 * k + 1))) (get_or-set_other firsts node (2 * k) v 0 (λ h. absurd (omega arith)) ∙ ap (λ j. slice_index firsts (2 * j)) eq)
        ∙ ap (λ a. min (slice_index firsts (2 * node)) a) (get_or-set_other firsts node (2 * k + 1) v 0 (λ h. absurd (omega arith)) ∙ ap (λ j. slice_index firsts (2 * j + 1)) eq))

    other : k ≢ node → IsSettledAt (slice_set firsts node v) k
    other neq = kept_settled firsts node v k neq (λ h. absurd (ne (omega arith))) (λ h. absurd (ne (omega arith))) (others k kpos kin neq)

-- a leaf that is set unsettles its parent alone
pub settled_but : (firsts : List ℕ) (len i v : ℕ) → i < len → ((k : ℕ) → 0 < k → k < len → IsSettledAt firsts k)
    → (k : ℕ) → 0 < k → k < len → k ≢ (len + i) / 2 → IsSettledAt (slice_set firsts (len + i) v) k
settled_but firsts len i v lt settled k pos inside ne = kept_settled firsts (len + i) v k (λ h. absurd (omega arith)) (λ h. absurd (ne (omega arith))) (λ h. absurd (ne (omega arith))) (settled k pos inside)

-- ---- a flag that changes

-- the tree over the flags with one changed, once it is settled
pub changed_tree : (flags : List Bool) (before firsts rest : List ℕ) (len n i raised now : ℕ) (b : Bool) → n ≡ length flags → i < n → length firsts ≡ 2 * n → length firsts ≡ len
    → now ≡ cond b i (length flags)
    → ((j : ℕ) → j < length flags → slice_index before (length flags + j) ≡ at_leaf flags j)
    → slice_index firsts (n + i) ≡ now → ((j : ℕ) → j < n → j ≢ i → slice_index firsts (n + j) ≡ slice_index before (n + j))
    → ((k : ℕ) → 0 < k → k < n → IsSettledAt firsts k)
    → raised ≡ count_by (λ flag. flag) (slice_set flags i b)
    → IsFirstTree (slice_set flags i b) (take len (firsts ++ rest)) raised
changed_tree flags before firsts rest len n i raised now b size inside twice whole is old leaf leaves settled counted =
    subst (λ f. IsFirstTree (slice_set flags i b) f raised) (sym (take_at firsts rest len whole)) (record {
      len = omega (arith, new_size, twice, size);
      leaves = λ j jl. at (length (slice_set flags i b)) (sym (new_size ∙ sym size)) j (subst (λ m. j < m) (new_size ∙ sym size) jl);
      settled = λ k pos kl. settled k pos (subst (λ m. k < m) (new_size ∙ sym size) kl);
      counted = counted;
    })
  where
    new_size : length (slice_set flags i b) ≡ length flags
    new_size = length-set flags i b

    at : (m : ℕ) → n ≡ m → (j : ℕ) → j < n → slice_index firsts (m + j) ≡ at_leaf (slice_set flags i b) j
    at m h j jl = ap (λ m. slice_index firsts (m + j)) (sym h) ∙ ⊎_elim here others (equal j i)
      where
        here : j ≡ i → slice_index firsts (n + j) ≡ at_leaf (slice_set flags i b) j
        here e = ap (λ j. slice_index firsts (n + j)) e ∙ leaf ∙ is
            ∙ sym (ap (λ j. at_leaf (slice_set flags i b) j) e ∙ ap (λ t. cond t i (length (slice_set flags i b))) (get_or-set_same flags i b false (subst (λ m. i < m) size inside)) ∙ ap (λ m. cond b i m) new_size)

        others : j ≢ i → slice_index firsts (n + j) ≡ at_leaf (slice_set flags i b) j
        others ne = leaves j jl ne ∙ ap (λ m. slice_index before (m + j)) size ∙ old j (subst (λ m. j < m) size jl)
            ∙ sym (ap (λ t. cond t j (length (slice_set flags i b))) (get_or-set_other flags i j b false ne) ∙ ap (λ m. cond (slice_index_or flags j false) j m) new_size)

abbrev to_count : Bool → ℕ
to_count flag = cond flag 1 0

pub one_more : (flags : List Bool) (i raised : ℕ) → i < length flags → slice_index_or flags i true ≡ false → raised ≡ count_by (λ flag. flag) flags
    → raised + 1 ≡ count_by (λ flag. flag) (slice_set flags i true)
one_more flags i raised lt low e =
    let s = sum_by-set (λ (flag : Bool). to_count flag) flags i true true lt in
    let z : to_count (slice_index_or flags i true) ≡ 0 = ap to_count low in
    omega (arith, s, z, e)

pub one_less : (flags : List Bool) (i raised : ℕ) → i < length flags → slice_index_or flags i false ≡ true → raised ≡ count_by (λ flag. flag) flags
    → raised - 1 ≡ count_by (λ flag. flag) (slice_set flags i false)
one_less flags i raised lt up e =
    let s = sum_by-set (λ (flag : Bool). to_count flag) flags i false false lt in
    let z : to_count (slice_index_or flags i false) ≡ 1 = ap to_count up in
    omega (arith, s, z, e)
