-- Batches whose numbers run on agree with the list of all their transactions.
use Rattle.std.proofs.Common.{◌≡◌, ℕ, zero, suc, ◌+◌, ◌-◌, ◌<◌, ◌≤◌, nat_lt, true, false, cond, List, [], ◌∷◌, ◌++◌, length, refl, sym, ap, ◌∙◌, Some, None, arith}
use Rattle.std.specs.Prelude.{slice_get, nat_le}
use Rattle.std.proofs.lemmas.Bool.Decides.{nat_tests}
use Rattle.std.proofs.lemmas.List.{length-append}
use Rattle.std.proofs.lemmas.Option.{same_Some}
use Rattle.pac_ops.specs.declared.batch.Batch.{Batch}
use Rattle.pac_ops.specs.declared.transaction.Txn.{Txn}
use Rattle.pac_plan.specs.Worlds.{txn_at, batch_of}
use Rattle.pac_commute.specs.PlanLaws.{txns_of, NumbersRunOn, NumbersTied}

-- ---- lists

pub get-first : (xs ys : List Txn) (i : ℕ) → i < length xs → slice_get (xs ++ ys) i ≡ slice_get xs i
get-first [] ys i lt = absurd (omega (arith, lt))
get-first (x ∷ xs) ys zero lt = refl
get-first (x ∷ xs) ys (suc i) lt = get-first xs ys i (omega (arith, lt))

pub get-second : (xs ys : List Txn) (i j : ℕ) → i ≡ length xs + j → slice_get (xs ++ ys) i ≡ slice_get ys j
get-second [] ys i j e = let same : i ≡ j = omega (arith, e) in ap (slice_get ys) same
get-second (x ∷ xs) ys zero j e = absurd (omega (arith, e))
get-second (x ∷ xs) ys (suc i) j e = get-second xs ys i j (omega (arith, e))

append-none : (xs : List Txn) → xs ++ [] ≡ xs
append-none [] = refl
append-none (x ∷ xs) = ap (λ l. x ∷ l) (append-none xs)

append-assoc : (xs ys zs : List Txn) → (xs ++ ys) ++ zs ≡ xs ++ (ys ++ zs)
append-assoc [] ys zs = refl
append-assoc (x ∷ xs) ys zs = ap (λ l. x ∷ l) (append-assoc xs ys zs)

-- ---- one more batch

pub txns-more : (batches : List Batch) (batch : Batch) → txns_of (batches ++ batch ∷ []) ≡ txns_of batches ++ batch.txns
txns-more [] batch = append-none batch.txns
txns-more (b ∷ bs) batch = ap (λ l. b.txns ++ l) (txns-more bs batch) ∙ sym (append-assoc b.txns (txns_of bs) batch.txns)

pub batch-more : (batches : List Batch) (batch : Batch) (t : ℕ) → batch_of (batches ++ batch ∷ []) t ≡ batch_of batches t + cond (nat_le batch.first t) 1 0
batch-more [] batch t = omega arith
batch-more (b ∷ bs) batch t = ap (λ n. cond (nat_le b.first t) 1 0 + n) (batch-more bs batch t) ∙ moved (cond (nat_le b.first t) 1 0) (batch_of bs t) (cond (nat_le batch.first t) 1 0)
  where
    moved : (a b c : ℕ) → a + (b + c) ≡ a + b + c
    moved a b c = omega arith

pub run_on-more : (next : ℕ) (batches : List Batch) (batch : Batch) → NumbersRunOn next batches → batch.first ≡ next + length (txns_of batches) → NumbersRunOn next (batches ++ batch ∷ [])
run_on-more next [] batch run e = (omega (arith, e), tt)
run_on-more next (b ∷ bs) batch run e =
    let long : length (b.txns ++ txns_of bs) ≡ length b.txns + length (txns_of bs) = length-append b.txns (txns_of bs) in
    (run.0, run_on-more (next + length b.txns) bs batch run.1 (omega (arith, e, long)))

-- ---- numbers

-- no batch begins before the first
from-next : (next : ℕ) (batches : List Batch) → NumbersRunOn next batches → (k : ℕ) (batch : Batch) → slice_get batches k ≡ Some batch → next ≤ batch.first
from-next next [] run k batch e = cc
from-next next (b ∷ bs) run zero batch e = let same : b.first ≡ batch.first = ap (λ (x : Batch). x.first) (same_Some b batch e) in let r : b.first ≡ next = run.0 in omega (arith, same, r)
from-next next (b ∷ bs) run (suc k) batch e = let r : next + length b.txns ≤ batch.first = from-next (next + length b.txns) bs run.1 k batch e in omega (arith, r)

none-before : (next : ℕ) (batches : List Batch) → NumbersRunOn next batches → (t : ℕ) → t < next → batch_of batches t ≡ 0
none-before next [] run t lt = refl
none-before next (b ∷ bs) run t lt =
    let later : nat_le b.first t ≡ false = above b.first t (let r : b.first ≡ next = run.0 in omega (arith, lt, r)) in
    let rest : batch_of bs t ≡ 0 = none-before (next + length b.txns) bs run.1 t (omega (arith, lt)) in
    ap (λ c. cond c 1 0 + batch_of bs t) later ∙ ap (λ n. 0 + n) rest
  where
    above : (a t : ℕ) → t < a → nat_le a t ≡ false
    above a t lt = grind (arith, nat_tests)

at_or_before : (a t : ℕ) → a ≤ t → nat_le a t ≡ true
at_or_before a t le = grind (arith, nat_tests)

not_below : (a t : ℕ) → a ≤ t → nat_lt t a ≡ false
not_below a t le = grind (arith, nat_tests)

from_there : (first : ℕ) (txns : List Txn) (t : ℕ) → first ≤ t → txn_at first txns t ≡ slice_get txns (t - first)
from_there first txns t le = ap (λ b. cond b None (slice_get txns (t - first))) (not_below first t le)

-- the number under which a transaction stands, and the batch that it is in
Tied : ℕ → List Batch → Batch → ℕ → ℕ → Type 0
Tied first batches batch k i = (batch_of batches (batch.first + i) ≡ k + 1) × (txn_at first (txns_of batches) (batch.first + i) ≡ slice_get batch.txns i)

here : (first : ℕ) (b : Batch) (bs : List Batch) → NumbersRunOn first (b ∷ bs) → (i : ℕ) → i < length b.txns → Tied first (b ∷ bs) b zero i
unfolding Tied
here first b bs run i lt =
    let r : b.first ≡ first = run.0 in
    let rest : batch_of bs (b.first + i) ≡ 0 = none-before (first + length b.txns) bs run.1 (b.first + i) (omega (arith, lt, r)) in
    let offset : b.first + i - first ≡ i = omega (arith, r) in (
      ap (λ c. cond c 1 0 + batch_of bs (b.first + i)) (at_or_before b.first (b.first + i) (omega arith)) ∙ ap (λ n. 1 + n) rest,
      from_there first (b.txns ++ txns_of bs) (b.first + i) (omega (arith, r)) ∙ ap (slice_get (b.txns ++ txns_of bs)) offset ∙ get-first b.txns (txns_of bs) i lt,
    )

pub numbers_tied : NumbersTied
unfolding Tied
numbers_tied first [] run k batch e i lt = cc
numbers_tied first (b ∷ bs) run zero batch e i lt =
    let same : b ≡ batch = same_Some b batch e in
    let lt_b : i < length b.txns = let long : length b.txns ≡ length batch.txns = ap (λ (x : Batch). length x.txns) same in omega (arith, lt, long) in
    let h : Tied first (b ∷ bs) b zero i = here first b bs run i lt_b in
    (ap (λ (x : Batch). batch_of (b ∷ bs) (x.first + i)) (sym same) ∙ h.0, ap (λ (x : Batch). txn_at first (b.txns ++ txns_of bs) (x.first + i)) (sym same) ∙ h.1 ∙ ap (λ (x : Batch). slice_get x.txns i) same)
numbers_tied first (b ∷ bs) run (suc k) batch e i lt =
    let rest = numbers_tied (first + length b.txns) bs run.1 k batch e i lt in
    let r : b.first ≡ first = run.0 in
    let low : first + length b.txns ≤ batch.first = from-next (first + length b.txns) bs run.1 k batch e in
    let counted : batch_of bs (batch.first + i) ≡ k + 1 = rest.0 in
    let offset : batch.first + i - first ≡ length b.txns + (batch.first + i - (first + length b.txns)) = omega (arith, low) in (
      ap (λ c. cond c 1 0 + batch_of bs (batch.first + i)) (at_or_before b.first (batch.first + i) (omega (arith, low, r))) ∙ ap (λ n. 1 + n) counted ∙ one_more k,
      from_there first (b.txns ++ txns_of bs) (batch.first + i) (omega (arith, low))
          ∙ get-second b.txns (txns_of bs) (batch.first + i - first) (batch.first + i - (first + length b.txns)) offset
          ∙ sym (from_there (first + length b.txns) (txns_of bs) (batch.first + i) (omega (arith, low)))
          ∙ rest.1,
    )
  where
    one_more : (k : ℕ) → 1 + (k + 1) ≡ suc k + 1
    one_more k = omega arith
