-- The pieces of transactions are as many whether they are counted transaction by transaction or block by block.
use Rattle.std.proofs.Common.{◌≡◌, ℕ, suc, ◌+◌, Bool, true, false, cond, List, [], ◌∷◌, length, refl, sym, ap, ap₂, ◌∙◌, arith}
use Rattle.std.specs.Prelude.{filter}
use Rattle.std.proofs.lemmas.List.{length-append}
use Rattle.pac_plan.specs.Pieces.{World, blocks_of, piece_exists, pieces}

module _ (exists : ℕ → ℕ → Bool) where
  -- how many of these blocks have a piece of the transaction, and how many of these transactions have one in the block
  abbrev pub in_blocks : ℕ → List ℕ → ℕ
  in_blocks t bs = length (filter (λ b. exists t b) bs)

  abbrev pub in_block : ℕ → List ℕ → ℕ
  in_block b ts = length (filter (λ t. exists t b) ts)

  -- the sum of numbers
  abbrev pub sums : (ℕ → ℕ) → List ℕ → ℕ
  sums f [] = 0
  sums f (x ∷ xs) = f x + sums f xs

  add_sums : (f g : ℕ → ℕ) (xs : List ℕ) → sums (λ x. f x + g x) xs ≡ sums f xs + sums g xs
  add_sums f g [] = refl
  add_sums f g (x ∷ xs) = let e = add_sums f g xs in omega (arith, e)

  pub sums_alike : (f g : ℕ → ℕ) (xs : List ℕ) → ((x : ℕ) → f x ≡ g x) → sums f xs ≡ sums g xs
  sums_alike f g [] same = refl
  sums_alike f g (x ∷ xs) same = ap₂ (λ a b. a + b) (same x) (sums_alike f g xs same)

  abbrev pub one : ℕ → ℕ → ℕ
  one t b = cond (exists t b) 1 0

  one_more : (t b : ℕ) (ts : List ℕ) → in_block b (t ∷ ts) ≡ one t b + in_block b ts
  one_more t b ts = go (exists t b)
    where
      go : (c : Bool) → length (cond c (t ∷ filter (λ t. exists t b) ts) (filter (λ t. exists t b) ts)) ≡ cond c 1 0 + length (filter (λ t. exists t b) ts)
      go true = omega arith
      go false = omega arith

  blocks_sum : (t : ℕ) (bs : List ℕ) → in_blocks t bs ≡ sums (one t) bs
  blocks_sum t [] = refl
  blocks_sum t (b ∷ bs) = go (exists t b) (blocks_sum t bs)
    where
      go : (c : Bool) → length (filter (λ b. exists t b) bs) ≡ sums (one t) bs → length (cond c (b ∷ filter (λ b. exists t b) bs) (filter (λ b. exists t b) bs)) ≡ cond c 1 0 + sums (one t) bs
      go true e = omega (arith, e)
      go false e = omega (arith, e)

  none_sum : (bs : List ℕ) → sums (λ b. in_block b []) bs ≡ 0
  none_sum [] = refl
  none_sum (b ∷ bs) = let e = none_sum bs in omega (arith, e)

  pub both_ways : (ts bs : List ℕ) → sums (λ t. in_blocks t bs) ts ≡ sums (λ b. in_block b ts) bs
  both_ways [] bs = sym (none_sum bs)
  both_ways (t ∷ ts) bs =
      ap₂ (λ a b. a + b) (blocks_sum t bs) (both_ways ts bs)
      ∙ sym (add_sums (one t) (λ b. in_block b ts) bs)
      ∙ sums_alike (λ b. one t b + in_block b ts) (λ b. in_block b (t ∷ ts)) bs (λ b. sym (one_more t b ts))

module _ (w : World) where
  abbrev pub exists_at : ℕ → ℕ → Bool
  exists_at t b = piece_exists w (record { txn = t; block = b })

  one_txn : (t : ℕ) (bs : List ℕ) → length (blocks_of w t bs) ≡ in_blocks exists_at t bs
  one_txn t [] = refl
  one_txn t (b ∷ bs) = go (exists_at t b) (one_txn t bs)
    where
      go : (c : Bool) → length (blocks_of w t bs) ≡ length (filter (λ b. exists_at t b) bs) → length (cond c (record { txn = t; block = b } ∷ blocks_of w t bs) (blocks_of w t bs)) ≡ length (cond c (b ∷ filter (λ b. exists_at t b) bs) (filter (λ b. exists_at t b) bs))
      go true e = ap suc e
      go false e = e

  pub count_pieces : (ts bs : List ℕ) → length (pieces w ts bs) ≡ sums exists_at (λ t. in_blocks exists_at t bs) ts
  count_pieces [] bs = refl
  count_pieces (t ∷ ts) bs = length-append (blocks_of w t bs) (pieces w ts bs) ∙ ap₂ (λ a b. a + b) (one_txn t bs) (count_pieces ts bs)
