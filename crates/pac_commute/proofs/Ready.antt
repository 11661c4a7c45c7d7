-- The least unfinished piece by batch, block and transaction is ready.
use Rattle.std.proofs.Common.{◌≡◌, ℕ, ◌<◌, ◌≤◌, Bool, true, false, ◌&&◌, ◌||◌, ◌==◌, nat_lt, List, [], ◌∷◌, refl, sym, ap, ◌∙◌, subst, true≢false, inl, inr, ⊎_elim, ◌⊎◌, arith}
use Rattle.std.proofs.lemmas.Bool.Decides.{Decides-eqb, Decides-ltb}
use Rattle.pac_value.specs.Expressions.{Values}
use Rattle.pac_ops.specs.declared.piece.PieceId.{PieceId}
use Rattle.pac_base.specs.Members.{Mem}
use Rattle.pac_plan.specs.Pieces.{World, access, conflicts, precedes}
use Rattle.pac_plan.specs.WorldOrder.{WellFormed}
use Rattle.pac_commute.specs.HandOut.{SomeReady}
use Rattle.pac_base.proofs.TestLemmas.{and_left, and_right, or_cases}

module _ (w : World) where
  -- p is not above q
  abbrev pub NotAbove : PieceId → PieceId → Type 0
  NotAbove p q = (w.batch p.txn < w.batch q.txn)
      ⊎ (((w.batch p.txn ≡ w.batch q.txn) × (p.block < q.block))
      ⊎ ((w.batch p.txn ≡ w.batch q.txn) × (p.block ≡ q.block) × (p.txn ≤ q.txn)))

  abbrev pub Above : PieceId → PieceId → Type 0
  Above p q = (w.batch q.txn < w.batch p.txn)
      ⊎ (((w.batch q.txn ≡ w.batch p.txn) × (q.block < p.block))
      ⊎ ((w.batch q.txn ≡ w.batch p.txn) × (q.block ≡ p.block) × (q.txn < p.txn)))

  three : (a b : ℕ) → (a < b) ⊎ ((a ≡ b) ⊎ (b < a))
  three a b = grind arith

  pub compare : (p q : PieceId) → NotAbove p q ⊎ Above p q
  compare p q = ⊎_elim (λ l. inl (inl l)) (λ r. ⊎_elim (λ e. blocks e) (λ g. inr (inl g)) r) (three (w.batch p.txn) (w.batch q.txn))
    where
      txns : w.batch p.txn ≡ w.batch q.txn → p.block ≡ q.block → NotAbove p q ⊎ Above p q
      txns e f = ⊎_elim (λ l. inl (inr (inr (e, f, omega arith)))) (λ r. ⊎_elim (λ g. inl (inr (inr (e, f, omega arith)))) (λ g. inr (inr (inr (sym e, sym f, g)))) r) (three p.txn q.txn)

      blocks : w.batch p.txn ≡ w.batch q.txn → NotAbove p q ⊎ Above p q
      blocks e = ⊎_elim (λ l. inl (inr (inl (e, l)))) (λ r. ⊎_elim (λ f. txns e f) (λ g. inr (inr (inl (sym e, g)))) r) (three p.block q.block)

  pub step_below : (p q r : PieceId) → Above p q → NotAbove p r → NotAbove q r
  step_below p q r (inl a) (inl b) = inl (omega arith)
  step_below p q r (inl a) (inr (inl b)) = inl (omega arith)
  step_below p q r (inl a) (inr (inr b)) = inl (omega arith)
  step_below p q r (inr (inl a)) (inl b) = inl (omega arith)
  step_below p q r (inr (inl a)) (inr (inl b)) = inr (inl (a.0 ∙ b.0, omega arith))
  step_below p q r (inr (inl a)) (inr (inr b)) = inr (inl (a.0 ∙ b.0, omega arith))
  step_below p q r (inr (inr a)) (inl b) = inl (omega arith)
  step_below p q r (inr (inr a)) (inr (inl b)) = inr (inl (a.0 ∙ b.0, omega arith))
  step_below p q r (inr (inr a)) (inr (inr b)) = inr (inr (a.0 ∙ b.0, a.1 ∙ b.1, omega arith))

  pub itself : (p : PieceId) → NotAbove p p
  itself p = inr (inr (refl, refl, omega arith))

  -- the least member of which the test is false
  abbrev Least : (PieceId → Bool) → List PieceId → Type 0
  Least test L = (p : PieceId) × Mem p L × (test p ≡ false) × ((r : PieceId) → Mem r L → test r ≡ false → NotAbove p r)

  abbrev AllTrue : (PieceId → Bool) → List PieceId → Type 0
  AllTrue test L = (r : PieceId) → Mem r L → test r ≡ true

  apart : {A : Type 0} (b : Bool) → b ≡ true → b ≡ false → A
  apart b e f = absurd (true≢false (sym e ∙ f))

  one_more : (test : PieceId → Bool) (x : PieceId) (xs : List PieceId) (b : Bool) → test x ≡ b → AllTrue test xs ⊎ Least test xs → AllTrue test (x ∷ xs) ⊎ Least test (x ∷ xs)
  one_more test x xs true e (inl all) = inl (λ r m. ⊎_elim (λ same. ap test same ∙ e) (λ k. all r k) m)
  one_more test x xs true e (inr (p, m, f, low)) = inr (p, inr m, f, λ r k g. ⊎_elim (λ same. apart (test r) (ap test same ∙ e) g) (λ j. low r j g) k)
  one_more test x xs false e (inl all) = inr (x, inl refl, e, λ r k g. ⊎_elim (λ same. subst (NotAbove x) (sym same) (itself x)) (λ j. apart (test r) (all r j) g) k)
  one_more test x xs false e (inr (p, m, f, low)) = ⊎_elim
      (λ n. inr (p, inr m, f, λ r k g. ⊎_elim (λ same. subst (NotAbove p) (sym same) n) (λ j. low r j g) k))
      (λ n. inr (x, inl refl, e, λ r k g. ⊎_elim (λ same. subst (NotAbove x) (sym same) (itself x)) (λ j. step_below p x r n (low r j g)) k))
      (compare p x)

  find_least : (test : PieceId → Bool) (L : List PieceId) → AllTrue test L ⊎ Least test L
  find_least test [] = inl (λ r m. absurd m)
  find_least test (x ∷ xs) = one_more test x xs (test x) refl (find_least test xs)

  least : (test : PieceId → Bool) (L : List PieceId) (q : PieceId) → Mem q L → test q ≡ false → Least test L
  least test L q m e = ⊎_elim (λ all. apart (test q) (all q m) e) (λ l. l) (find_least test L)

module _ (w : World) (well_formed : WellFormed w) (env : ℕ → Values) where
  -- a predecessor is not above, and another piece
  pub lower : (q p : PieceId) → precedes w env q p ≡ true → NotAbove w p q → ⊥
  lower q p e n = ⊎_elim first (λ r. ⊎_elim second third (or_cases b2 b3 r)) (or_cases b1 (b2 || b3) e)
    where
      b1 : Bool
      b1 = w.batch q.txn == w.batch p.txn && w.edge q.block p.block

      b2 : Bool
      b2 = q.block == p.block && nat_lt (w.batch q.txn) (w.batch p.txn)

      b3 : Bool
      b3 = q.block == p.block && w.batch q.txn == w.batch p.txn && nat_lt q.txn p.txn && conflicts (access w env q) (access w env p)

      first : b1 ≡ true → ⊥
      first h =
          let same : w.batch q.txn ≡ w.batch p.txn = (Decides-eqb _ _).0 (and_left (w.batch q.txn == w.batch p.txn) _ h) in
          let lt : q.block < p.block = well_formed.up q.block p.block (and_right (w.batch q.txn == w.batch p.txn) _ h) in
          omega arith

      second : b2 ≡ true → ⊥
      second h = let lt : w.batch q.txn < w.batch p.txn = (Decides-ltb _ _).0 (and_right (q.block == p.block) _ h) in
          let same : q.block ≡ p.block = (Decides-eqb _ _).0 (and_left (q.block == p.block) _ h) in omega arith

      third : b3 ≡ true → ⊥
      third h =
          let prefix : (q.block == p.block && w.batch q.txn == w.batch p.txn && nat_lt q.txn p.txn) ≡ true = and_left (q.block == p.block && w.batch q.txn == w.batch p.txn && nat_lt q.txn p.txn) (conflicts (access w env q) (access w env p)) h in
          let lt : q.txn < p.txn = (Decides-ltb _ _).0 (and_right (q.block == p.block && w.batch q.txn == w.batch p.txn) _ prefix) in
          let two : (q.block == p.block && w.batch q.txn == w.batch p.txn) ≡ true = and_left (q.block == p.block && w.batch q.txn == w.batch p.txn) (nat_lt q.txn p.txn) prefix in
          let same : q.block ≡ p.block = (Decides-eqb _ _).0 (and_left (q.block == p.block) _ two) in
          let batch : w.batch q.txn ≡ w.batch p.txn = (Decides-eqb _ _).0 (and_right (q.block == p.block) _ two) in
          omega arith

  pub yes_true : (b : Bool) → (b ≡ false → ⊥) → b ≡ true
  yes_true true f = refl
  yes_true false f = absurd (f refl)

  pub some_ready : (L : List PieceId) → SomeReady w env L
  some_ready L out finished none q mq unfinished =
      let l = least w finished L q mq unfinished in
      (l.0, (l.1, none l.0, l.2, λ r mr pr. yes_true (finished r) (λ f. lower r l.0 pr (l.3 r mr f))))
