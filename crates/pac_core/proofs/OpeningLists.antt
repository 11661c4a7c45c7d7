-- Lists that grow with the transactions of a set that is opened.
use Rattle.std.proofs.Common.{◌≡◌, ◌⊎◌, ℕ, zero, suc, ◌+◌, ◌<◌, ◌≤◌, Bool, true, false, cond, List, [], ◌∷◌, ◌++◌, map, length, get_or, take, Some, None, refl, ap, subst, ◌∙◌, inl, inr, arith}
use Rattle.std.specs.Prelude.{filter, slice_get}
use Rattle.std.specs.List.{range_with_len}
use Rattle.std.proofs.lemmas.List.{length-append, map-append, take_more}
use Rattle.std.proofs.lemmas.List.Elements.{Contains-get_or}
use Rattle.std.proofs.lemmas.Option.{same_Some, slice_get-get_or, slice_get_within}
use Rattle.pac_base.specs.Members.{Mem}
use Rattle.pac_ops.specs.declared.transaction.Txn.{Txn}
use Rattle.pac_plan.specs.declared.access.Access.{Access}
use Rattle.pac_plan.specs.declared.parts.PlanParts.{PlanParts}
use Rattle.pac_batch.specs.NextLists.{AreNextPairs}
use Rattle.pac_plan.specs.Worlds.{txn_at}
use Rattle.pac_batch.specs.Sets.{has_piece, set_of}
use Rattle.pac_sched.specs.Schedules.{ArePairsBelow}
use Rattle.pac_core.specs.declared.cells.PieceCells.{PieceCells}
use Rattle.pac_core.specs.Cells.{AreOf, HasCellsOf}
use Rattle.pac_core.specs.Links.{IsRest}
use Rattle.pac_core.proofs.Lists.{at_mem, mem_second}
use Rattle.pac_core.proofs.SetLists.{txn_of_set}

pub map_more : {A B : Type 0} (f : A → B) (xs : List A) (i : ℕ) (d : A) → i < length xs → map f (take (i + 1) xs) ≡ map f (take i xs) ++ f (get_or xs i d) ∷ []
map_more f xs i d lt = ap (map f) (take_more xs i d lt) ∙ map-append f (take i xs) (get_or xs i d ∷ [])

get_before : {A : Type 0} (xs : List A) (x y : A) (i : ℕ) → slice_get (xs ++ x ∷ []) i ≡ Some y → (slice_get xs i ≡ Some y) ⊎ ((i ≡ length xs) × (x ≡ y))
get_before [] x y zero e = inr (refl, same_Some x y e)
get_before [] x y (suc i) e = let wrong : None ≡ Some y = e in absurd cc
get_before (z ∷ zs) x y zero e = inl e
get_before (z ∷ zs) x y (suc i) e = go (get_before zs x y i e)
  where
    go : (slice_get zs i ≡ Some y) ⊎ ((i ≡ length zs) × (x ≡ y)) → (slice_get (z ∷ zs) (suc i) ≡ Some y) ⊎ ((suc i ≡ length (z ∷ zs)) × (x ≡ y))
    go (inl h) = inl h
    go (inr h) = inr (ap suc h.0, h.1)

-- one access more, with its cells
pub has_more : (accesses : List Access) (cells : List PieceCells) (access : Access) (known : PieceCells) → HasCellsOf accesses cells → AreOf access known → HasCellsOf (accesses ++ access ∷ []) (cells ++ known ∷ [])
has_more accesses cells access known has is = record {
  all = (let a = length-append accesses (access ∷ []) in let b = length-append cells (known ∷ []) in let e = has.all in omega (arith, a, b, e));
  each = λ i x k at_x at_k. go i x k (get_before accesses access x i at_x) (get_before cells known k i at_k);
}
  where
    go : (i : ℕ) (x : Access) (k : PieceCells) → (slice_get accesses i ≡ Some x) ⊎ ((i ≡ length accesses) × (access ≡ x)) → (slice_get cells i ≡ Some k) ⊎ ((i ≡ length cells) × (known ≡ k)) → AreOf x k
    go i x k (inl a) (inl b) = has.each i x k a b
    go i x k (inl a) (inr b) = let lt = slice_get_within accesses i x a in let e = has.all in let n = b.0 in absurd (omega (arith, lt, e, n))
    go i x k (inr a) (inl b) = let lt = slice_get_within cells i k b in let e = has.all in let n = a.0 in absurd (omega (arith, lt, e, n))
    go i x k (inr a) (inr b) = subst (λ (y : Access). AreOf y k) a.1 (subst (AreOf access) b.1 is)

-- ---- the transactions of a set

filter_fewer : {A : Type 0} (f : A → Bool) (xs : List A) → length (filter f xs) ≤ length xs
filter_fewer f [] = omega arith
filter_fewer f (x ∷ xs) = go (f x) (filter_fewer f xs)
  where
    go : (b : Bool) → length (filter f xs) ≤ length xs → length (cond b (x ∷ filter f xs) (filter f xs)) ≤ suc (length xs)
    go true le = omega (arith, le)
    go false le = omega (arith, le)

range_len : (n k : ℕ) → length (range_with_len n k) ≡ k
range_len n zero = refl
range_len n (suc k) = ap suc (range_len (n + 1) k)

module _ (parts : PlanParts) (first : ℕ) (txns : List Txn) (block : ℕ) (ts : List ℕ) (are : IsRest (set_of parts first txns block).txns ts) where
  -- they are no more than the batch has
  pub set_fewer : length ts ≤ length txns
  set_fewer =
      let le = filter_fewer (λ t. has_piece parts block (txn_at first txns t)) (range_with_len first (length txns)) in
      let len = range_len first (length txns) in
      let both : length (are.before ++ ts) ≡ length are.before + length ts = length-append are.before ts in
      let same : length (are.before ++ ts) ≡ length (set_of parts first txns block).txns = ap length are.is in
      omega (arith, le, len, both, same)

  -- and are of it
  pub set_range : (i : ℕ) → i < length ts → (first ≤ get_or ts i 0) × (get_or ts i 0 < first + length txns)
  set_range i lt =
      let in_set = txn_of_set parts first txns block (get_or ts i 0) (subst (λ (l : List ℕ). Mem (get_or ts i 0) l) are.is (mem_second (get_or ts i 0) are.before ts (at_mem ts i (get_or ts i 0) (slice_get-get_or ts i 0 lt)))) in
      (in_set.0, in_set.1)

-- next pairs are of the pieces
pub pairs_below : (accesses : List Access) (pairs : List (ℕ × ℕ)) (n : ℕ) → AreNextPairs accesses pairs → length accesses ≡ n → ArePairsBelow n pairs
pairs_below accesses pairs n next len k d lt = subst (λ m. (get_or pairs k d).1 < m) len ((next.each (get_or pairs k d).0 (get_or pairs k d).1).0 (Contains-get_or pairs k d lt)).0
