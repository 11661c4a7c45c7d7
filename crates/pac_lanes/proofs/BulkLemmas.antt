-- Whole transactions one after another.
use Rattle.std.proofs.Common.{◌≡◌, ℕ, Bool, true, false, cond, ◌&&◌, ◌==◌, not, List, [], ◌∷◌, ◌++◌, refl, sym, ap, ap₂, ◌∙◌, subst, ◌⊎◌, inl, inr, ⊎_elim}
use Rattle.std.specs.Prelude.{filter}
use Rattle.std.specs.List.{list_any}
use Rattle.pac_ops.specs.declared.piece.PieceId.{PieceId}
use Rattle.pac_base.specs.Members.{Mem, Rises}
use Rattle.pac_plan.specs.Pieces.{World, pieces, blocks_of, piece_exists}
use Rattle.pac_plan.specs.WorldOrder.{WellFormed, FitsBlocks}
use Rattle.pac_base.proofs.TestLemmas.{eq_self, same_number, equal_number, and_both, any_mem, any_gives}
use Rattle.pac_commute.proofs.Loads.{txn_of}
use Rattle.pac_commute.proofs.Theorem.{in_order, whole}
use Rattle.pac_lanes.specs.Shares.{RunsInOrder}
use Rattle.pac_lanes.specs.Rounds.{HoldTogether}
use Rattle.pac_lanes.specs.Bulk.{BulkRuns, BulkIsFlat}
use Rattle.pac_lanes.proofs.ShareLemmas.{applied_is_every}
use Rattle.pac_lanes.proofs.RoundLemmas.{from_here, needed_below}

mem_either : (p : PieceId) (xs ys : List PieceId) → Mem p (xs ++ ys) → Mem p xs ⊎ Mem p ys
mem_either p [] ys m = inr m
mem_either p (x ∷ xs) ys (inl e) = inl (inl e)
mem_either p (x ∷ xs) ys (inr m) = ⊎_elim (λ k. inl (inr k)) (λ k. inr k) (mem_either p xs ys m)

mem_left : (p : PieceId) (xs ys : List PieceId) → Mem p xs → Mem p (xs ++ ys)
mem_left p [] ys m = absurd m
mem_left p (x ∷ xs) ys (inl e) = inl e
mem_left p (x ∷ xs) ys (inr m) = inr (mem_left p xs ys m)

mem_right : (p : PieceId) (xs ys : List PieceId) → Mem p ys → Mem p (xs ++ ys)
mem_right p [] ys m = m
mem_right p (x ∷ xs) ys m = inr (mem_right p xs ys m)

-- as in pac_commute's Loads, where it is private
txn_of_block : (w : World) (p : PieceId) (t : ℕ) (bs : List ℕ) → Mem p (blocks_of w t bs) → p.txn ≡ t
txn_of_block w p t [] m = absurd m
txn_of_block w p t (b ∷ bs) m = go (piece_exists w (record { txn = t; block = b })) m (txn_of_block w p t bs)
  where
    go : (c : Bool) → Mem p (cond c (record { txn = t; block = b } ∷ blocks_of w t bs) (blocks_of w t bs)) → (Mem p (blocks_of w t bs) → p.txn ≡ t) → p.txn ≡ t
    go true (inl e) rest = ap (λ (x : PieceId). x.txn) e
    go true (inr k) rest = rest k
    go false k rest = rest k

in_blocks : (w : World) (p : PieceId) (ts bs : List ℕ) → Mem p (pieces w ts bs) → Mem p (blocks_of w p.txn bs)
in_blocks w p [] bs m = absurd m
in_blocks w p (t ∷ ts) bs m = ⊎_elim
    (λ k. subst (λ u. Mem p (blocks_of w u bs)) (sym (txn_of_block w p t bs k)) k)
    (λ k. in_blocks w p ts bs k)
    (mem_either p (blocks_of w t bs) (pieces w ts bs) m)

in_pieces : (w : World) (p : PieceId) (t : ℕ) (ts bs : List ℕ) → Mem t ts → Mem p (blocks_of w t bs) → Mem p (pieces w ts bs)
in_pieces w p t [] bs m k = absurd m
in_pieces w p t (u ∷ ts) bs (inl same) k = mem_left p (blocks_of w u bs) (pieces w ts bs) (subst (λ v. Mem p (blocks_of w v bs)) same k)
in_pieces w p t (u ∷ ts) bs (inr m) k = mem_right p (blocks_of w u bs) (pieces w ts bs) (in_pieces w p t ts bs m k)

filter_all : (f : PieceId → Bool) (ps : List PieceId) → ((p : PieceId) → Mem p ps → f p ≡ true) → filter f ps ≡ ps
filter_all f [] all = refl
filter_all f (p ∷ ps) all = ap₂ (λ b qs. cond b (p ∷ qs) qs) (all p (inl refl)) (filter_all f ps (λ q m. all q (inr m)))

module _ (w : World) (well_formed : WellFormed w) (ts bs : List ℕ) (up : Rises bs) where
  pub bulk_runs : BulkRuns w ts bs
  bulk_runs env F now may = subst (RunsInOrder w env (pieces w ts bs) F) (filter_all (λ p. test p && not (F p)) (pieces w now bs) passes)
      (from_here w well_formed env (pieces w ts bs) F test together (pieces w now bs) F (in_order w now bs may.rises up)
      (λ p m. in_pieces w p p.txn ts bs (may.there p.txn (txn_of w p now bs m)) (in_blocks w p now bs m))
      (λ q f. f)
      (λ q m t. inl (in_pieces w q q.txn now bs (among_now q t) (in_blocks w q ts bs m)))
      (λ q m f. f))
    where
      test : PieceId → Bool
      test p = list_any (λ t. t == p.txn) now

      passes : (p : PieceId) → Mem p (pieces w now bs) → (test p && not (F p)) ≡ true
      passes p m = and_both (test p) (not (F p)) (any_mem (λ t. t == p.txn) p.txn now (txn_of w p now bs m) (eq_self p.txn)) (ap not (may.unfinished p m))

      among_now : (q : PieceId) → test q ≡ true → Mem q.txn now
      among_now q t = let r = any_gives (λ t. t == q.txn) now t in subst (λ u. Mem u now) (same_number r.0 q.txn r.2) r.1

      together : HoldTogether w env (pieces w ts bs) F test
      together p q mp mq t f n = ⊎_elim
          (λ lt. ⊎_elim (λ m. inr (any_mem (λ t. t == q.txn) q.txn now m (eq_self q.txn))) (λ g. inl g) (may.earlier q p.txn mq (among_now p t) lt))
          (λ same. inr (any_mem (λ t. t == q.txn) p.txn now (among_now p t) (equal_number p.txn q.txn (sym same.0))))
          (needed_below w well_formed env q p n)

  pub bulk_is_flat : FitsBlocks w ts bs → BulkIsFlat w ts bs
  bulk_is_flat fits now there s = applied_is_every w (pieces w now bs) s ∙ whole w well_formed now bs up (λ t m. fits t (there t m)) s
