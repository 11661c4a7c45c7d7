-- Where a transaction stands, by the numbers with which batches begin.
use Rattle.std.proofs.Common.{◌≡◌, ◌⊎◌, ℕ, zero, suc, ◌+◌, ◌-◌, ◌<◌, ◌≤◌, true, false, leb, List, [], ◌∷◌, map, length, get_or, Some, None, sym, ap, subst, ◌∙◌, inl, inr, arith}
use Rattle.std.specs.Prelude.{slice_get}
use Rattle.std.specs.List.Sorted.{IsNonDecreasingBy, IsPartitionPoint}
use Rattle.std.proofs.lemmas.Bool.Decides.{nat_tests}
use Rattle.std.proofs.lemmas.Option.{get_or_from_slice_get, same_Some, slice_get-get_or, slice_get_within}
use Rattle.pac_ops.specs.declared.batch.Batch.{Batch}
use Rattle.pac_commute.specs.PlanLaws.{NumbersRunOn}
use Rattle.pac_core.specs.declared.loaded.LoadedBatch.{LoadedBatch}
use Rattle.pac_core.specs.Places.{IsTxnIn, IsTxnNowhere, LoadedRunOn}

abbrev batches_of_loaded : List LoadedBatch → List Batch
batches_of_loaded batches = map (λ (loaded : LoadedBatch). loaded.batch) batches

-- ---- numbers that run on

least : (next : ℕ) (bs : List LoadedBatch) → NumbersRunOn next (batches_of_loaded bs) → (k : ℕ) (b : LoadedBatch) → slice_get bs k ≡ Some b → next ≤ b.batch.first
least next [] run k b e = let wrong : None ≡ Some b = e in absurd cc
least next (x ∷ xs) run zero b e = let f : x.batch.first ≡ next = run.0 in let same : x.batch.first ≡ b.batch.first = ap (λ (l : LoadedBatch). l.batch.first) (same_Some x b e) in omega (arith, f, same)
least next (x ∷ xs) run (suc k) b e = let le = least (next + length x.batch.txns) xs run.1 k b e in omega (arith, le)

ends : (next : ℕ) (bs : List LoadedBatch) → NumbersRunOn next (batches_of_loaded bs) → (j k : ℕ) (a b : LoadedBatch) → slice_get bs j ≡ Some a → slice_get bs k ≡ Some b → j < k → a.batch.first + length a.batch.txns ≤ b.batch.first
ends next [] run j k a b ea eb lt = let wrong : None ≡ Some a = ea in absurd cc
ends next (x ∷ xs) run j zero a b ea eb lt = absurd (omega (arith, lt))
ends next (x ∷ xs) run zero (suc k) a b ea eb lt =
    let le = least (next + length x.batch.txns) xs run.1 k b eb in
    let f : x.batch.first ≡ next = run.0 in
    let same : x ≡ a = same_Some x a ea in
    subst (λ (l : LoadedBatch). l.batch.first + length l.batch.txns ≤ b.batch.first) same (omega (arith, le, f))
ends next (x ∷ xs) run (suc j) (suc k) a b ea eb lt = ends (next + length x.batch.txns) xs run.1 j k a b ea eb (omega (arith, lt))

three : (i j : ℕ) → (i < j) ⊎ ((i ≡ j) ⊎ (j < i))
three i j = grind arith

le_or : (i j : ℕ) → i ≤ j → (i < j) ⊎ (i ≡ j)
le_or i j le = grind arith

module _ (batches : List LoadedBatch) (run : LoadedRunOn batches) where
  -- the numbers with which they begin rise
  pub rise : IsNonDecreasingBy (λ (l : LoadedBatch). l.batch.first) batches
  rise i j d le lt = go (le_or i j le)
    where
      go : (i < j) ⊎ (i ≡ j) → (get_or batches i d).batch.first ≤ (get_or batches j d).batch.first
      go (inl less) =
          let e = ends run.0 batches run.1 i j (get_or batches i d) (get_or batches j d) (slice_get-get_or batches i d (omega (arith, less, lt))) (slice_get-get_or batches j d lt) less in
          omega (arith, e)
      go (inr same) = let e : (get_or batches i d).batch.first ≡ (get_or batches j d).batch.first = ap (λ (n : ℕ). (get_or batches n d).batch.first) same in omega (arith, e)

  module _ (t n : ℕ) (bound : n ≤ length batches) (point : IsPartitionPoint (λ (l : LoadedBatch). leb l.batch.first t ≡ true) (λ (l : LoadedBatch). leb l.batch.first t ≡ false) batches n) where
    before : (k : ℕ) (l : LoadedBatch) → slice_get batches k ≡ Some l → k < n → l.batch.first ≤ t
    before k l e lt =
        let is = point.0 k l (omega arith) lt in
        let same = get_or_from_slice_get batches k l l e in
        let test : leb l.batch.first t ≡ true = ap (λ (x : LoadedBatch). leb x.batch.first t) (sym same) ∙ is in
        grind (arith, nat_tests)

    after : (k : ℕ) (l : LoadedBatch) → slice_get batches k ≡ Some l → n ≤ k → t < l.batch.first
    after k l e le =
        let is = point.1 k l le (slice_get_within batches k l e) in
        let same = get_or_from_slice_get batches k l l e in
        let test : leb l.batch.first t ≡ false = ap (λ (x : LoadedBatch). leb x.batch.first t) (sym same) ∙ is in
        grind (arith, nat_tests)

    -- where none begins at or before it, it isn't there
    pub none_before : n ≡ 0 → IsTxnNowhere batches t
    none_before zero_is batch index is =
        let lt = after batch is.loaded is.there (omega (arith, zero_is)) in
        let number = is.number in
        omega (arith, lt, number)

    module _ (some : (n ≡ 0) → ⊥) (d : LoadedBatch) where
      -- the last that does
      abbrev pub last : LoadedBatch
      last = get_or batches (n - 1) d

      last_there : slice_get batches (n - 1) ≡ Some last
      last_there = slice_get-get_or batches (n - 1) d (omega (arith, bound, some))

      pub last_begins : last.batch.first ≤ t
      last_begins = before (n - 1) last last_there (omega (arith, some))

      pub in_last : t - last.batch.first < length last.batch.txns → IsTxnIn batches t (n - 1) (t - last.batch.first)
      in_last lt = record { loaded = last; there = last_there; inside = lt; number = (let le = last_begins in omega (arith, le)) }

      pub past_last : length last.batch.txns ≤ t - last.batch.first → IsTxnNowhere batches t
      past_last long batch index is = go (three batch (n - 1))
        where
          number : t ≡ is.loaded.batch.first + index
          number = is.number

          inside : index < length is.loaded.batch.txns
          inside = is.inside

          go : (batch < n - 1) ⊎ ((batch ≡ n - 1) ⊎ (n - 1 < batch)) → ⊥
          go (inl lt) =
              let e = ends run.0 batches run.1 batch (n - 1) is.loaded last is.there last_there lt in
              let le = last_begins in
              omega (arith, e, le, number, inside)
          go (inr (inl same)) =
              let l : is.loaded ≡ last = same_Some _ _ (sym is.there ∙ ap (slice_get batches) same ∙ last_there) in
              let first : is.loaded.batch.first ≡ last.batch.first = ap (λ (x : LoadedBatch). x.batch.first) l in
              let len : length is.loaded.batch.txns ≡ length last.batch.txns = ap (λ (x : LoadedBatch). length x.batch.txns) l in
              omega (arith, number, inside, long, first, len)
          go (inr (inr gt)) =
              let lt = after batch is.loaded is.there (omega (arith, gt, some)) in
              omega (arith, lt, number)
