-- Batches that run on, and one more.
use Rattle.std.proofs.Common.{◌≡◌, ◌⊎◌, inl, inr, ℕ, ◌+◌, List, [], ◌∷◌, ◌++◌, length, refl, ap, arith}
use Rattle.std.specs.List.{AllByRecursion}
use Rattle.std.proofs.lemmas.List.{length-append, map-append}
use Rattle.pac_ops.specs.declared.batch.Batch.{Batch}
use Rattle.pac_ops.specs.declared.transaction.Txn.{Txn}
use Rattle.pac_log.specs.Logs.{all_txns}
use Rattle.pac_log.proofs.LogLemmas.{all_txns-append}
use Rattle.pac_restore.specs.Batches.{txns_by_batch, txns_in, RunOn}

pub all-push : {A : Type 0} (P : A → Type 0) (xs : List A) (x : A) → AllByRecursion P xs → P x → AllByRecursion P (xs ++ x ∷ [])
all-push P [] x all one = (one, tt)
all-push P (y ∷ xs) x all one = (all.0, all-push P xs x all.1 one)

pub txns-push : (bs : List Batch) (b : Batch) → txns_by_batch (bs ++ b ∷ []) ≡ txns_by_batch bs ++ b.txns ∷ []
txns-push bs b = map-append (λ (x : Batch). x.txns) bs (b ∷ [])

pub count-push : (bs : List Batch) (b : Batch) → length (txns_in (bs ++ b ∷ [])) ≡ length (txns_in bs) + length b.txns
count-push bs b = omega (
  arith,
  ap (λ (l : List (List Txn)). length (all_txns l)) (txns-push bs b),
  ap (λ (l : List Txn). length l) (all_txns-append (txns_by_batch bs) (b.txns ∷ [])),
  length-append (txns_in bs) (b.txns ++ []),
  length-append b.txns [],
)

pub run-push : (n : ℕ) (bs : List Batch) (b : Batch) → RunOn n bs → b.first ≡ n + length (txns_in bs) + 1 → RunOn n (bs ++ b ∷ [])
run-push n [] b runs first = (omega (arith, first), tt)
run-push n (x ∷ bs) b runs first = (runs.0, run-push (n + length x.txns) bs b runs.1 (omega (arith, first, length-append x.txns (txns_in bs))))

-- a list with one item more, split before an item: that is the last one, or the list is split there
pub split-push : {A : Type 0} (xs before after : List A) (x y : A) → xs ++ x ∷ [] ≡ before ++ (y ∷ after) → (before ≡ xs) ⊎ ((rest : List A) × (xs ≡ before ++ (y ∷ rest)))
split-push [] [] after x y e = inl refl
split-push [] (z ∷ []) after x y e = absurd cc
split-push [] (z ∷ w ∷ before) after x y e = absurd cc
split-push (z ∷ xs) [] after x y e = let same : z ≡ y = cc in inr (xs, ap (λ (w : _). w ∷ xs) same)
split-push (z ∷ xs) (w ∷ before) after x y e =
    let same : z ≡ w = cc in
    let rest : xs ++ x ∷ [] ≡ before ++ (y ∷ after) = cc in
    go same (split-push xs before after x y rest)
  where
    go : z ≡ w → (before ≡ xs) ⊎ ((rest : List _) × (xs ≡ before ++ (y ∷ rest))) → (w ∷ before ≡ z ∷ xs) ⊎ ((rest : List _) × (z ∷ xs ≡ w ∷ (before ++ (y ∷ rest))))
    go same (inl last) = inl cc
    go same (inr (tail, here)) = inr (tail, cc)
