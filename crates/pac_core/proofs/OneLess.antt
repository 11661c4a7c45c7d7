-- Of pieces in order one less passes a test where one more fails it.
use Rattle.std.proofs.Common.{◌≡◌, ◌+◌, Bool, true, false, cond, List, [], ◌∷◌, length, refl, sym, ap, subst, ◌∙◌, inl, inr, arith}
use Rattle.std.specs.Prelude.{filter}
use Rattle.pac_base.specs.Members.{Each, Mem}
use Rattle.pac_base.proofs.TestLemmas.{mem_each, unlike}
use Rattle.pac_ops.specs.declared.piece.PieceId.{PieceId}
use Rattle.pac_plan.specs.Pieces.{is_piece}
use Rattle.pac_commute.proofs.Law.{Below, InOrder}
use Rattle.pac_commute.proofs.Steps.{same_piece}
use Rattle.pac_core.proofs.Lists.{filter_alike}

-- no piece stands below itself
not_below : (p : PieceId) → Below p p → ⊥
not_below p (inl lt) = omega (arith, lt)
not_below p (inr both) = let lt = both.1 in omega (arith, lt)

module _ (p : PieceId) (f g : PieceId → Bool) (was : f p ≡ true) (is : g p ≡ false) (others : (q : PieceId) → is_piece p q ≡ false → f q ≡ g q) where
  -- a piece that stands in the list doesn't stand after itself
  differs : (q : PieceId) (qs : List PieceId) → Each (Below p) qs → Mem q qs → is_piece p q ≡ false
  differs q qs below m = unlike _ (λ same. not_below p (subst (Below p) (sym (same_piece p q same)) (mem_each (Below p) qs below q m)))

  pub one_less : (L : List PieceId) → InOrder L → Mem p L → length (filter g L) + 1 ≡ length (filter f L)
  one_less [] order m = absurd m
  one_less (q ∷ qs) order (inl same) =
      let rest : filter g qs ≡ filter f qs = filter_alike g f qs (λ x mx. sym (others x (differs x qs (subst (λ y. Each (Below y) qs) (sym same) order.0) mx))) in
      ap (λ b. length (cond b (q ∷ filter g qs) (filter g qs)) + 1) (ap g (sym same) ∙ is)
      ∙ ap (λ l. length l + 1) rest
      ∙ omega arith
      ∙ sym (ap (λ b. length (cond b (q ∷ filter f qs) (filter f qs))) (ap f (sym same) ∙ was))
  one_less (q ∷ qs) order (inr m) = go (is_piece p q) refl (one_less qs order.1 m)
    where
      go : (b : Bool) → is_piece p q ≡ b → length (filter g qs) + 1 ≡ length (filter f qs) → length (filter g (q ∷ qs)) + 1 ≡ length (filter f (q ∷ qs))
      go true same rest = absurd (not_below q (subst (Below q) (same_piece p q same) (mem_each (Below q) qs order.0 p m)))
      go false differ rest = ap (λ b. length (cond b (q ∷ filter g qs) (filter g qs)) + 1) (sym (others q differ)) ∙ one (f q)
        where
          one : (b : Bool) → length (cond b (q ∷ filter g qs) (filter g qs)) + 1 ≡ length (cond b (q ∷ filter f qs) (filter f qs))
          one true = omega (arith, rest)
          one false = rest
