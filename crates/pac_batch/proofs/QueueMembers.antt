-- What stands in the queues of accesses, however they are arranged: each access in its queues, and nothing else.
use Rattle.std.proofs.Common.{◌≡◌, ℕ, zero, suc, ◌+◌, ◌<◌, Bool, true, false, ◌&&◌, List, [], ◌∷◌, map, length, get_or, Option, Some, None, refl, sym, ap, ◌∙◌, subst, true≢false, ◌⊎◌, inl, inr, ⊎_elim, arith, IsPermutation}
use Rattle.std.specs.Prelude.{if◌then◌else◌, Contains}
use Rattle.std.specs.Ordering.{eq_by_cmp}
use Rattle.std.proofs.lemmas.List.{get_or_default}
use Rattle.std.proofs.lemmas.List.Elements.{Contains-get_or, Contains-append_left, Contains-append_right, Contains-append_cases}
use Rattle.std.proofs.lemmas.List.Sorted.{Contains-permutation, IsPermutation-sym}
use Rattle.pac_base.specs.Members.{Mem}
use Rattle.pac_base.proofs.TestLemmas.{any_mem, any_gives, and_left, and_right, and_both, or_left, or_right}
use Rattle.pac_value.specs.State.{Cell, cell_cmp}
use Rattle.pac_value.proofs.CellLemmas.{same-cell, tied_same}
use Rattle.pac_plan.specs.declared.access.Touch.{Touch}
use Rattle.pac_plan.specs.declared.access.Access.{Access}
use Rattle.pac_plan.specs.declared.access.Access.TheVariants.{Keys, Whole}
use Rattle.pac_plan.specs.Pieces.{named_cell}
use Rattle.pac_plan.specs.NextPairs.{is_whole}
use Rattle.pac_batch.specs.declared.queues.Queued.{Queued}
use Rattle.pac_batch.specs.Conflicts.{access_in}
use Rattle.pac_batch.specs.Queues.{queued_touch, queued_block, queued_touches, block_from, rows_from, any_whole, queued_all, stands_in, writes_in, entry}

-- ---- lists

head : {A : Type 0} (x : A) (xs : List A) → Contains (x ∷ xs) x
head x xs = (0, omega arith, refl)

tail : {A : Type 0} (x y : A) (xs : List A) → Contains xs x → Contains (y ∷ xs) x
tail x y xs (k, within, is) = (suc k, omega (arith, within), is)

cases : {A : Type 0} (x y : A) (xs : List A) → Contains (y ∷ xs) x → (y ≡ x) ⊎ Contains xs x
cases x y xs (zero, within, is) = inl is
cases x y xs (suc k, within, is) = inr (k, omega (arith, within), is)

none : {A : Type 0} (x : A) → Contains {X = A} [] x → ⊥
none x h = let within = h.1 in omega (arith, within)

-- what is read at a position is the entry there
pub entry_here : (queued : List Queued) (i : ℕ) (x : Queued) → i < length queued → x ≡ get_or queued i x → entry queued i ≡ x
entry_here queued i x within is = get_or_default queued i (queued_block 0 false) x within ∙ sym is

-- ---- the queues of one access

mapped : (i : ℕ) (touches : List Touch) (t : Touch) → Mem t touches → Contains (map (queued_touch i) touches) (queued_touch i t)
mapped i [] t h = elim h [ ]
mapped i (u ∷ us) t (inl e) = subst (λ x. Contains (queued_touch i u ∷ map (queued_touch i) us) (queued_touch i x)) (sym e) (head (queued_touch i u) (map (queued_touch i) us))
mapped i (u ∷ us) t (inr h) = tail (queued_touch i t) (queued_touch i u) (map (queued_touch i) us) (mapped i us t h)

touched : (i : ℕ) (touches : List Touch) (e : Queued) → Contains (map (queued_touch i) touches) e → (t : Touch) × Mem t touches × (queued_touch i t ≡ e)
touched i [] e h = absurd (none e h)
touched i (u ∷ us) e h = elim (cases e (queued_touch i u) (map (queued_touch i) us) h) [
  | inl is ↦ (u, inl refl, is)
  | inr behind ↦ let rest = touched i us e behind in (rest.0, inr rest.1, rest.2)
]

-- what an entry says of the access that it stands for
abbrev pub Says : ℕ → Access → Queued → Type 0
Says i x e = (e.index ≡ i) × (stands_in x e.row ≡ true) × (e.is_write ≡ true → writes_in x e.row ≡ true)

says : (i : ℕ) (x : Access) (e : Queued) → Contains (queued_touches i x) e → Says i x e
says i Whole e h = absurd (none e h)
says i (Keys touches) e h =
    let t = touched i touches e h in
    subst (Says i (Keys touches)) t.2 (
      refl,
      any_mem (λ (u : Touch). eq_by_cmp cell_cmp (named_cell u) (named_cell t.0)) t.0 touches t.1 (same-cell (named_cell t.0)),
      λ w. any_mem (λ (u : Touch). u.is_write && eq_by_cmp cell_cmp (named_cell u) (named_cell t.0)) t.0 touches t.1 (and_both t.0.is_write _ w (same-cell (named_cell t.0))),
    )

-- an entry of a queue of a row
abbrev Of : ℕ → Access → Cell → Queued → Type 0
Of i x a e = Contains (queued_touches i x) e × (e.row ≡ Some a) × (e.index ≡ i)

stands : (i : ℕ) (x : Access) (a : Cell) → stands_in x (Some a) ≡ true → (e : Queued) × Of i x a e
stands i Whole a h = absurd (true≢false (sym h))
stands i (Keys touches) a h =
    let t = any_gives (λ (u : Touch). eq_by_cmp cell_cmp (named_cell u) a) touches h in
    (queued_touch i t.0, (mapped i touches t.0 t.1, ap Some (tied_same (named_cell t.0) a t.2), refl))

writes : (i : ℕ) (x : Access) (a : Cell) → writes_in x (Some a) ≡ true → (e : Queued) × Of i x a e × (e.is_write ≡ true)
writes i Whole a h = absurd (true≢false (sym h))
writes i (Keys touches) a h =
    let t = any_gives (λ (u : Touch). u.is_write && eq_by_cmp cell_cmp (named_cell u) a) touches h in (
      queued_touch i t.0,
      (mapped i touches t.0 t.1, ap Some (tied_same (named_cell t.0) a (and_right t.0.is_write _ t.2)), refl),
      and_left t.0.is_write (eq_by_cmp cell_cmp (named_cell t.0) a) t.2,
    )

-- ---- the queues of all

from_block : (i : ℕ) (xs : List Access) (e : Queued) → Contains (block_from i xs) e → (k : ℕ) × (k < length xs) × (queued_block (i + k) (is_whole (access_in xs k)) ≡ e)
from_block i [] e h = absurd (none e h)
from_block i (x ∷ xs) e h = elim (cases e (queued_block i (is_whole x)) (block_from (i + 1) xs) h) [
  | inl here ↦ let same : i ≡ i + 0 = omega arith in (0, omega arith, subst (λ n. queued_block n (is_whole x) ≡ e) same here)
  | inr behind ↦
      let rest = from_block (i + 1) xs e behind in
      let within = rest.1 in
      let same : i + 1 + rest.0 ≡ i + suc rest.0 = omega arith in
      (suc rest.0, omega (arith, within), subst (λ n. queued_block n (is_whole (access_in xs rest.0)) ≡ e) same rest.2)
]

to_block : (i : ℕ) (xs : List Access) (k : ℕ) → k < length xs → Contains (block_from i xs) (queued_block (i + k) (is_whole (access_in xs k)))
to_block i [] k within = absurd (omega (arith, within))
to_block i (x ∷ xs) zero within =
    let same : i ≡ i + 0 = omega arith in
    subst (λ n. Contains (block_from i (x ∷ xs)) (queued_block n (is_whole x))) same (head (queued_block i (is_whole x)) (block_from (i + 1) xs))
to_block i (x ∷ xs) (suc k) within =
    let same : i + 1 + k ≡ i + suc k = omega arith in
    subst (λ n. Contains (block_from i (x ∷ xs)) (queued_block n (is_whole (access_in xs k)))) same
    (tail (queued_block (i + 1 + k) (is_whole (access_in xs k))) (queued_block i (is_whole x)) (block_from (i + 1) xs) (to_block (i + 1) xs k (omega (arith, within))))

from_rows : (i : ℕ) (xs : List Access) (e : Queued) → Contains (rows_from i xs) e → (k : ℕ) × (k < length xs) × Contains (queued_touches (i + k) (access_in xs k)) e
from_rows i [] e h = absurd (none e h)
from_rows i (x ∷ xs) e h = elim (Contains-append_cases (queued_touches i x) (rows_from (i + 1) xs) e h) [
  | inl here ↦ let same : i ≡ i + 0 = omega arith in (0, omega arith, subst (λ n. Contains (queued_touches n x) e) same here)
  | inr behind ↦
      let rest = from_rows (i + 1) xs e behind in
      let within = rest.1 in
      let same : i + 1 + rest.0 ≡ i + suc rest.0 = omega arith in
      (suc rest.0, omega (arith, within), subst (λ n. Contains (queued_touches n (access_in xs rest.0)) e) same rest.2)
]

to_rows : (i : ℕ) (xs : List Access) (e : Queued) (k : ℕ) → k < length xs → Contains (queued_touches (i + k) (access_in xs k)) e → Contains (rows_from i xs) e
to_rows i [] e k within h = absurd (omega (arith, within))
to_rows i (x ∷ xs) e zero within h =
    let same : i + 0 ≡ i = omega arith in
    Contains-append_left (queued_touches i x) (rows_from (i + 1) xs) e (subst (λ n. Contains (queued_touches n x) e) same h)
to_rows i (x ∷ xs) e (suc k) within h =
    let same : i + suc k ≡ i + 1 + k = omega arith in
    Contains-append_right (queued_touches i x) (rows_from (i + 1) xs) e (to_rows (i + 1) xs e k (omega (arith, within)) (subst (λ n. Contains (queued_touches n (access_in xs k)) e) same h))

-- an entry stands for an access
Stands : List Access → Queued → Type 0
Stands accesses e = (e.index < length accesses) × Says e.index (access_in accesses e.index) e

of_block : (accesses : List Access) (e : Queued) → Contains (block_from 0 accesses) e → Stands accesses e
unfolding Stands
of_block accesses e h =
    let at = from_block 0 accesses e h in
    let same : 0 + at.0 ≡ at.0 = omega arith in
    subst (λ (q : Queued). (q.index < length accesses) × Says q.index (access_in accesses q.index) q) at.2
    (subst (λ n. (n < length accesses) × Says n (access_in accesses n) (queued_block n (is_whole (access_in accesses at.0)))) (sym same) (at.1, (refl, refl, λ w. w)))

of_rows : (accesses : List Access) (e : Queued) → Contains (rows_from 0 accesses) e → Stands accesses e
unfolding Stands
of_rows accesses e h =
    let at = from_rows 0 accesses e h in
    let say : Says (0 + at.0) (access_in accesses at.0) e = says (0 + at.0) (access_in accesses at.0) e at.2 in
    let index : at.0 ≡ e.index = let f = say.0 in omega (arith, f) in
    (subst (λ k. k < length accesses) index at.1, subst (λ k. Says k (access_in accesses k) e) index (let f = say.0 in omega (arith, f), say.1, say.2))

of_all : (accesses : List Access) (e : Queued) → Contains (queued_all accesses) e → Stands accesses e
of_all accesses e h = ⊎_elim (of_queue (any_whole accesses)) (of_rows accesses e) (Contains-append_cases (if any_whole accesses then block_from 0 accesses else []) (rows_from 0 accesses) e h)
  where
    of_queue : (b : Bool) → Contains (if b then block_from 0 accesses else []) e → Stands accesses e
    of_queue true here = of_block accesses e here
    of_queue false here = absurd (none e here)

-- one that is of the whole block is one of them
some_whole : (xs : List Access) (k : ℕ) → k < length xs → is_whole (access_in xs k) ≡ true → any_whole xs ≡ true
some_whole [] k within h = absurd (omega (arith, within))
some_whole (x ∷ xs) zero within h = or_left (is_whole x) (any_whole xs) h
some_whole (x ∷ xs) (suc k) within h = or_right (is_whole x) (any_whole xs) (some_whole xs k (omega (arith, within)) h)

-- ---- the queues in any arrangement

module _ (accesses : List Access) (queued : List Queued) (moved : IsPermutation (queued_all accesses) queued) where
  -- an entry stands for an access
  pub member : (p : ℕ) → p < length queued → ((entry queued p).index < length accesses) × Says (entry queued p).index (access_in accesses (entry queued p).index) (entry queued p)
  unfolding Stands
  member p within = of_all accesses (entry queued p)
      (Contains-permutation queued (queued_all accesses) (entry queued p) (IsPermutation-sym (queued_all accesses) queued moved) (Contains-get_or queued p (queued_block 0 false) within))

  position : (e : Queued) → Contains (queued_all accesses) e → (p : ℕ) × (p < length queued) × (entry queued p ≡ e)
  position e h =
      let found = Contains-permutation (queued_all accesses) queued e moved h in
      (found.0, found.1, get_or_default queued found.0 (queued_block 0 false) e found.1 ∙ found.2)

  in_block : (i : ℕ) → i < length accesses → any_whole accesses ≡ true → Contains (queued_all accesses) (queued_block i (is_whole (access_in accesses i)))
  in_block i inside whole =
      let same : 0 + i ≡ i = omega arith in
      Contains-append_left (if any_whole accesses then block_from 0 accesses else []) (rows_from 0 accesses) (queued_block i (is_whole (access_in accesses i)))
      (subst (λ b. Contains (if b then block_from 0 accesses else []) (queued_block i (is_whole (access_in accesses i)))) (sym whole)
      (subst (λ n. Contains (block_from 0 accesses) (queued_block n (is_whole (access_in accesses i)))) same (to_block 0 accesses i inside)))

  in_rows : (i : ℕ) (e : Queued) → i < length accesses → Contains (queued_touches i (access_in accesses i)) e → Contains (queued_all accesses) e
  in_rows i e inside h =
      let same : i ≡ 0 + i = omega arith in
      Contains-append_right (if any_whole accesses then block_from 0 accesses else []) (rows_from 0 accesses) e (to_rows 0 accesses e i inside (subst (λ n. Contains (queued_touches n (access_in accesses i)) e) same h))

  -- an access stands in each of its queues in which one modifies
  pub placed : (i : ℕ) (r : Option Cell) → i < length accesses → stands_in (access_in accesses i) r ≡ true → (k : ℕ) → k < length accesses → writes_in (access_in accesses k) r ≡ true
      → (p : ℕ) × (p < length queued) × ((entry queued p).row ≡ r) × ((entry queued p).index ≡ i)
  placed i None inside h k there wrote =
      let at = position (queued_block i (is_whole (access_in accesses i))) (in_block i inside (some_whole accesses k there wrote)) in
      (at.0, at.1, ap (λ (x : Queued). x.row) at.2, ap (λ (x : Queued). x.index) at.2)
  placed i (Some a) inside h k there wrote =
      let e = stands i (access_in accesses i) a h in
      let at = position e.0 (in_rows i e.0 inside e.1.0) in
      (at.0, at.1, ap (λ (x : Queued). x.row) at.2 ∙ e.1.1, ap (λ (x : Queued). x.index) at.2 ∙ e.1.2)

  -- an access that modifies stands in the queue as one that does
  pub written : (i : ℕ) (r : Option Cell) → i < length accesses → writes_in (access_in accesses i) r ≡ true
      → (p : ℕ) × (p < length queued) × ((entry queued p).row ≡ r) × ((entry queued p).index ≡ i) × ((entry queued p).is_write ≡ true)
  written i None inside h =
      let at = position (queued_block i (is_whole (access_in accesses i))) (in_block i inside (some_whole accesses i inside h)) in
      (at.0, at.1, ap (λ (x : Queued). x.row) at.2, ap (λ (x : Queued). x.index) at.2, ap (λ (x : Queued). x.is_write) at.2 ∙ h)
  written i (Some a) inside h =
      let e = writes i (access_in accesses i) a h in
      let at = position e.0 (in_rows i e.0 inside e.1.0) in
      (at.0, at.1, ap (λ (x : Queued). x.row) at.2 ∙ e.1.1, ap (λ (x : Queued). x.index) at.2 ∙ e.1.2, ap (λ (x : Queued). x.is_write) at.2 ∙ e.2)
