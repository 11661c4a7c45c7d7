-- The batches of the test run on, and hold its transactions.
use Rattle.std.proofs.Common.{◌≡◌, ℕ, zero, suc, ◌+◌, ◌*◌, ◌/◌, ◌%◌, List, [], ◌∷◌, ◌++◌, length, refl, sym, ap, subst, ◌∙◌, append_assoc, append-nil, length-append, zero-add, arith}
use Rattle.std.proofs.lemmas.List.FromFn.{length-map-range_with_len, map-range_with_len_more}
use Rattle.pac_ops.specs.declared.batch.Batch.{Batch}
use Rattle.pac_ops.specs.declared.transaction.Txn.{Txn}
use Rattle.pac_restore.specs.Batches.{RunOn, txns_in}
use Rattle.pac_script.specs.Stress.{stress_txn}
use Rattle.pac_stress.specs.StressBatches.{last_batch, stress_batch, stress_batches, stress_txns, whole_batch, whole_batches}

-- ---- transactions from a number on

pub txns-long : (first count : ℕ) → length (stress_txns first count) ≡ count
txns-long first count = length-map-range_with_len stress_txn first count

txns_divided : (first a b : ℕ) → stress_txns first (a + b) ≡ stress_txns first a ++ stress_txns (first + a) b
txns_divided first zero b =
    let all : 0 + b ≡ b = omega arith in
    let here : first ≡ first + 0 = omega arith in
    ap (stress_txns first) all ∙ ap (λ (n : ℕ). stress_txns n b) here
txns_divided first (suc a) b =
    let all : suc a + b ≡ suc (a + b) = omega arith in
    let next : first + 1 + a ≡ first + suc a = omega arith in
    ap (stress_txns first) all ∙ ap (λ (ts : List Txn). stress_txn first ∷ ts) (txns_divided (first + 1) a b)
    ∙ ap (λ (n : ℕ). stress_txn first ∷ (stress_txns (first + 1) a ++ stress_txns n b)) next

-- one more, and one more whole batch
pub txns_more : (first i : ℕ) → stress_txns first (i + 1) ≡ stress_txns first i ++ stress_txn (first + i) ∷ []
txns_more first i = map-range_with_len_more stress_txn first i (first + i) refl

pub batches_more : (k : ℕ) → whole_batches 0 (k + 1) ≡ whole_batches 0 k ++ stress_batch (k * 64 + 1) 64 ∷ []
batches_more k = map-range_with_len_more whole_batch 0 k k (zero-add k)

-- ---- what batches hold

in_whole : (k count : ℕ) → txns_in (whole_batches k count) ≡ stress_txns (k * 64 + 1) (count * 64)
in_whole k zero = let none : 0 ≡ 0 * 64 = omega arith in ap (stress_txns (k * 64 + 1)) none
in_whole k (suc count) =
    let next : (k + 1) * 64 + 1 ≡ k * 64 + 1 + 64 = omega arith in
    let all : 64 + count * 64 ≡ suc count * 64 = omega arith in
    ap (λ (ts : List Txn). stress_txns (k * 64 + 1) 64 ++ ts) (in_whole (k + 1) count ∙ ap (λ (n : ℕ). stress_txns n (count * 64)) next)
    ∙ sym (txns_divided (k * 64 + 1) 64 (count * 64)) ∙ ap (stress_txns (k * 64 + 1)) all

in_last : (first left : ℕ) → txns_in (last_batch first left) ≡ stress_txns first left
in_last first zero = refl
in_last first (suc more) = append-nil (stress_txns first (suc more))

in_both : (xs ys : List Batch) → txns_in (xs ++ ys) ≡ txns_in xs ++ txns_in ys
in_both [] ys = refl
in_both (x ∷ xs) ys = ap (λ (ts : List Txn). x.txns ++ ts) (in_both xs ys) ∙ sym (append_assoc x.txns (txns_in xs) (txns_in ys))

pub in-batches : (count : ℕ) → txns_in (stress_batches count) ≡ stress_txns 1 count
in-batches count =
    let whole = count / 64 in
    let left = count % 64 in
    let first : 0 * 64 + 1 ≡ 1 = omega arith in
    let next : whole * 64 + 1 ≡ 1 + whole * 64 = omega arith in
    let all : whole * 64 + left ≡ count = omega arith in
    in_both (whole_batches 0 whole) (last_batch (whole * 64 + 1) left)
    ∙ ap (λ (ts : List Txn). ts ++ txns_in (last_batch (whole * 64 + 1) left)) (in_whole 0 whole ∙ ap (λ (n : ℕ). stress_txns n (whole * 64)) first)
    ∙ ap (λ (ts : List Txn). stress_txns 1 (whole * 64) ++ ts) (in_last (whole * 64 + 1) left ∙ ap (λ (n : ℕ). stress_txns n left) next)
    ∙ sym (txns_divided 1 (whole * 64) left) ∙ ap (stress_txns 1) all

-- ---- their numbers

whole_run : (k count : ℕ) → RunOn (k * 64) (whole_batches k count)
whole_run k zero = tt
whole_run k (suc count) =
    let next : (k + 1) * 64 ≡ k * 64 + length (stress_txns (k * 64 + 1) 64) = omega (arith, txns-long (k * 64 + 1) 64) in
    (refl, subst (λ (n : ℕ). RunOn n (whole_batches (k + 1) count)) next (whole_run (k + 1) count))

last_runs : (before left : ℕ) → RunOn before (last_batch (before + 1) left)
last_runs before zero = tt
last_runs before (suc more) = (refl, tt)

both_run : (before : ℕ) (xs ys : List Batch) → RunOn before xs → RunOn (before + length (txns_in xs)) ys → RunOn before (xs ++ ys)
both_run before [] ys a b = let same : before + 0 ≡ before = omega arith in subst (λ (n : ℕ). RunOn n ys) same b
both_run before (x ∷ xs) ys a b =
    let next : before + length (x.txns ++ txns_in xs) ≡ before + length x.txns + length (txns_in xs) = omega (arith, length-append x.txns (txns_in xs)) in
    (a.0, both_run (before + length x.txns) xs ys a.1 (subst (λ (n : ℕ). RunOn n ys) next b))

pub batches-run : (count : ℕ) → RunOn 0 (stress_batches count)
batches-run count =
    let whole = count / 64 in
    let left = count % 64 in
    let zero_is : 0 * 64 ≡ 0 = omega arith in
    let next : whole * 64 ≡ 0 + length (txns_in (whole_batches 0 whole)) = omega (arith, ap length (in_whole 0 whole), txns-long (0 * 64 + 1) (whole * 64)) in
    both_run 0 (whole_batches 0 whole) (last_batch (whole * 64 + 1) left)
    (subst (λ (n : ℕ). RunOn n (whole_batches 0 whole)) zero_is (whole_run 0 whole))
    (subst (λ (n : ℕ). RunOn n (last_batch (whole * 64 + 1) left)) next (last_runs (whole * 64) left))
