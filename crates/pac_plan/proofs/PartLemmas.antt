-- The operations of a block are those of the transaction that stand in it.
use Rattle.std.proofs.Common.{◌≡◌, ℕ, Bool, true, false, cond, List, [], ◌∷◌, refl, sym, ap, ◌∙◌, ◌==◌, inl, inr, subst}
use Rattle.pac_base.specs.Members.{Mem}
use Rattle.pac_ops.specs.Effects.{NumberedOp}
use Rattle.pac_plan.specs.Pieces.{part}
use Rattle.pac_base.proofs.TestLemmas.{same_number, equal_number}

pub part-mem : (block : NumberedOp → ℕ) (b : ℕ) (os : List NumberedOp) (o : NumberedOp) → Mem o (part block b os) → Mem o os × (block o ≡ b)
part-mem block b [] o m = absurd m
part-mem block b (d ∷ os) o m = go (block d == b) refl m (part-mem block b os o)
  where
    go : (c : Bool) → (block d == b) ≡ c → Mem o (cond c (d ∷ part block b os) (part block b os)) → (Mem o (part block b os) → Mem o os × (block o ≡ b)) → Mem o (d ∷ os) × (block o ≡ b)
    go true e (inl p) rest = (inl p, ap block p ∙ same_number _ _ e)
    go true e (inr n) rest = let r = rest n in (inr r.0, r.1)
    go false e n rest = let r = rest n in (inr r.0, r.1)

pub part_holds : (block : NumberedOp → ℕ) (o : NumberedOp) (os : List NumberedOp) → Mem o os → Mem o (part block (block o) os)
part_holds block o [] m = absurd m
part_holds block o (d ∷ os) (inl same) = subst (λ c. Mem o (cond c (d ∷ part block (block o) os) (part block (block o) os))) (sym (equal_number (block d) (block o) (ap block (sym same)))) (inl same)
part_holds block o (d ∷ os) (inr m) = go (block d == block o) (part_holds block o os m)
  where
    go : (c : Bool) → Mem o (part block (block o) os) → Mem o (cond c (d ∷ part block (block o) os) (part block (block o) os))
    go true h = inr h
    go false h = h
