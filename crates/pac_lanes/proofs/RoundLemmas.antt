-- Pieces that hold together run in order, and so does the share of a round, a stage and a group.
use Rattle.std.proofs.Common.{◌≡◌, ℕ, ◌<◌, ◌≤◌, Bool, true, false, cond, ◌&&◌, ◌||◌, ◌==◌, not, nat_lt, List, [], ◌∷◌, ◌++◌, refl, sym, ap, ◌∙◌, subst, true≢false, Some, ◌⊎◌, inl, inr, ⊎_elim, arith}
use Rattle.std.specs.Prelude.{filter}
use Rattle.std.proofs.lemmas.Bool.Decides.{Decides-ltb}
use Rattle.pac_value.specs.Expressions.{Values}
use Rattle.pac_ops.specs.declared.piece.PieceId.{PieceId}
use Rattle.pac_base.specs.Members.{Each, Mem}
use Rattle.pac_plan.specs.Pieces.{World, access, conflicts, needs, is_piece, adds}
use Rattle.pac_plan.specs.WorldOrder.{WellFormed}
use Rattle.pac_base.proofs.TestLemmas.{or_left, or_right, or_cases, or_of_false, eq_self, same_number, equal_number, and_left, and_right, and_both, unlike, not_true, mem_each}
use Rattle.pac_commute.proofs.Law.{Below, InOrder}
use Rattle.pac_commute.proofs.Steps.{same_piece, piece_self, among_mem, mem_among}
use Rattle.pac_commute.specs.Machine.{among}
use Rattle.pac_lanes.proofs.ShareLemmas.{picks_these}
use Rattle.pac_lanes.specs.Shares.{adds_all, RunsInOrder}
use Rattle.pac_lanes.specs.Rounds.{rest_of, HoldTogether, StageCut, IsCut, is_of, MayBeLent, first_left, NotAfter, IsFirstUnfinished}

three : (a b : ℕ) → (a < b) ⊎ ((a ≡ b) ⊎ (b < a))
three a b = grind arith

module _ (w : World) (well_formed : WellFormed w) (env : ℕ → Values) where
  -- what is needed comes before
  pub needed_below : (q p : PieceId) → needs w env q p ≡ true → Below q p
  needed_below q p n = ⊎_elim
      (λ h. inr (same_number q.txn p.txn (and_left (q.txn == p.txn) _ h), well_formed.up q.block p.block (and_right (q.txn == p.txn) _ h)))
      (λ h. inl ((Decides-ltb _ _).0 (and_right (q.block == p.block) _ (and_left (q.block == p.block && nat_lt q.txn p.txn) (conflicts (access w env q) (access w env p)) h))))
      (or_cases (q.txn == p.txn && w.edge q.block p.block) (q.block == p.block && nat_lt q.txn p.txn && conflicts (access w env q) (access w env p)) n)

  never_below : (p q : PieceId) → Below p q → Below q p → ⊥
  never_below p q (inl a) (inl b) = omega arith
  never_below p q (inl a) (inr b) = let e : q.txn ≡ p.txn = b.0 in omega arith
  never_below p q (inr a) (inl b) = let e : p.txn ≡ q.txn = a.0 in omega arith
  never_below p q (inr a) (inr b) = let l : p.block < q.block = a.1 in let k : q.block < p.block = b.1 in omega arith

  never_self : (p q : PieceId) → p ≡ q → Below p q → ⊥
  never_self p q e b = never_below p q b (subst (λ x. Below x p) e (subst (λ x. Below p x) (sym e) b))

  -- the rest of the list, from what is picked when it is reached
  module _ (L : List PieceId) (F test : PieceId → Bool) (together : HoldTogether w env L F test) where
    abbrev pub FromHere : List PieceId → Type 0
    FromHere ps = (G : PieceId → Bool) → InOrder ps → ((p : PieceId) → Mem p ps → Mem p L)
        → ((q : PieceId) → F q ≡ true → G q ≡ true)
        → ((q : PieceId) → Mem q L → test q ≡ true → Mem q ps ⊎ (G q ≡ true))
        → ((q : PieceId) → Mem q ps → F q ≡ false → G q ≡ false)
        → RunsInOrder w env L G (filter (λ p. test p && not (F p)) ps)

    pub from_here : (ps : List PieceId) → FromHere ps
    from_here [] G order inside sub done fresh = tt
    from_here (p ∷ ps) G order inside sub done fresh = go (from_here ps) (test p && not (F p)) refl
      where
        go : FromHere ps → (b : Bool) → (test p && not (F p)) ≡ b → RunsInOrder w env L G (cond b (p ∷ filter (λ p. test p && not (F p)) ps) (filter (λ p. test p && not (F p)) ps))
        go more true e = (
          inside p (inl refl),
          fresh p (inl refl) out,
          λ q mq n. ⊎_elim (λ f. sub q f)
              (λ t. ⊎_elim
              (λ m. ⊎_elim (λ same. absurd (never_self q p same (needed_below q p n))) (λ k. absurd (never_below p q (mem_each (Below p) ps order.0 q k) (needed_below q p n))) m)
              (λ g. g) (done q mq t))
              (together p q (inside p (inl refl)) mq (and_left (test p) (not (F p)) e) out n),
          more (adds G p) order.1 (λ q m. inside q (inr m))
              (λ q f. or_right (is_piece p q) (G q) (sub q f))
              (λ q mq t. ⊎_elim (λ m. ⊎_elim (λ same. inr (or_left (is_piece p q) (G q) (subst (λ x. is_piece p x ≡ true) (sym same) (piece_self p)))) (λ k. inl k) m) (λ g. inr (or_right (is_piece p q) (G q) g)) (done q mq t))
              (λ q m f. or_of_false (is_piece p q) (G q) (unlike _ (λ same. never_self p q (same_piece p q same) (mem_each (Below p) ps order.0 q m))) ∙ fresh q (inr m) f),
        )
          where
            out : F p ≡ false
            out = not_true (F p) (and_right (test p) (not (F p)) e)
        go more false e = more G order.1 (λ q m. inside q (inr m)) sub
            (λ q mq t. ⊎_elim (λ m. ⊎_elim (λ same. inr (sub q (in_F q same t))) (λ k. inl k) m) (λ g. inr g) (done q mq t))
            (λ q m f. fresh q (inr m) f)
          where
            in_F : (q : PieceId) → q ≡ p → test q ≡ true → F q ≡ true
            in_F q same t = yes (F q) refl
              where
                yes : (b : Bool) → F q ≡ b → F q ≡ true
                yes true h = h
                yes false h = absurd (true≢false (sym (and_both (test p) (not (F p)) (ap test (sym same) ∙ t) (ap not (ap F (sym same) ∙ h))) ∙ e))

    pub rest_runs : InOrder L → RunsInOrder w env L F (rest_of L F test)
    rest_runs order = from_here L F order (λ p m. m) (λ q f. f) (λ q m t. inl m) (λ q m f. f)

  pub drain_runs : (L : List PieceId) (F : PieceId → Bool) → InOrder L → RunsInOrder w env L F (filter (λ p. not (F p)) L)
  drain_runs L F order = rest_runs L F (λ p. true) (λ p q mp mq t f n. inr refl) order

  -- ---- a round, a stage and a group

  pub share_ready : (L : List PieceId) → InOrder L → (cut : StageCut) → IsCut w env L cut → (F : PieceId → Bool) (r k g : ℕ) → MayBeLent L cut F r k g → RunsInOrder w env L F (rest_of L F (is_of cut r k g))
  share_ready L order cut is F r k g may = rest_runs L F (is_of cut r k g) together order
    where
      together : HoldTogether w env L F (is_of cut r k g)
      together p q mp mq here out n = ⊎_elim flow clash (or_cases (q.txn == p.txn && w.edge q.block p.block) (q.block == p.block && nat_lt q.txn p.txn && conflicts (access w env q) (access w env p)) n)
        where
          round_p : cut.round p.txn ≡ r
          round_p = same_number _ _ (and_left (cut.round p.txn == r) _ here)

          stage_p : cut.stage p.block ≡ k
          stage_p = same_number _ _ (and_left (cut.stage p.block == k) _ (and_right (cut.round p.txn == r) _ here))

          group_p : cut.group k p.txn ≡ g
          group_p = same_number _ _ (and_right (cut.stage p.block == k) _ (and_right (cut.round p.txn == r) _ here))

          of_share : cut.round q.txn ≡ r → cut.stage q.block ≡ k → cut.group k q.txn ≡ g → is_of cut r k g q ≡ true
          of_share a b c = and_both _ _ (equal_number _ _ a) (and_both _ _ (equal_number _ _ b) (equal_number _ _ c))

          flow : (q.txn == p.txn && w.edge q.block p.block) ≡ true → (F q ≡ true) ⊎ (is_of cut r k g q ≡ true)
          flow h =
              let same : q.txn ≡ p.txn = same_number q.txn p.txn (and_left (q.txn == p.txn) _ h) in
              ⊎_elim
              (λ e. inr (of_share (ap cut.round same ∙ round_p) (e ∙ stage_p) (ap (cut.group k) same ∙ group_p)))
              (λ l. inl (may.0 q mq (ap cut.round same ∙ round_p) (subst (λ x. cut.leads (cut.stage q.block) x ≡ true) stage_p l)))
              (is.edges q.block p.block (and_right (q.txn == p.txn) _ h))

          clash : (q.block == p.block && nat_lt q.txn p.txn && conflicts (access w env q) (access w env p)) ≡ true → (F q ≡ true) ⊎ (is_of cut r k g q ≡ true)
          clash h =
              let first : (q.block == p.block && nat_lt q.txn p.txn) ≡ true = and_left (q.block == p.block && nat_lt q.txn p.txn) (conflicts (access w env q) (access w env p)) h in
              let same : q.block ≡ p.block = same_number _ _ (and_left (q.block == p.block) _ first) in
              let lt : q.txn < p.txn = (Decides-ltb _ _).0 (and_right (q.block == p.block) _ first) in
              let stage_q : cut.stage q.block ≡ k = ap cut.stage same ∙ stage_p in
              go same lt stage_q (cut.clash k (cut.group k q.txn) g) refl (and_right (q.block == p.block && nat_lt q.txn p.txn) (conflicts (access w env q) (access w env p)) h)
            where
              -- what is said of the stage of q and the group of p
              said : cut.stage q.block ≡ k → cut.clash (cut.stage q.block) (cut.group (cut.stage q.block) q.txn) (cut.group (cut.stage q.block) p.txn) ≡ cut.clash k (cut.group k q.txn) g
              said stage_q = ap (λ x. cut.clash x (cut.group x q.txn) (cut.group x p.txn)) stage_q ∙ ap (cut.clash k (cut.group k q.txn)) group_p

              go : q.block ≡ p.block → q.txn < p.txn → cut.stage q.block ≡ k → (b : Bool) → cut.clash k (cut.group k q.txn) g ≡ b → conflicts (access w env q) (access w env p) ≡ true → (F q ≡ true) ⊎ (is_of cut r k g q ≡ true)
              go same lt stage_q true e c = ⊎_elim
                  (λ l. inl (may.1 q mq l stage_q e))
                  (λ a. ⊎_elim
                  (λ one. inr (of_share a stage_q (ap (λ x. cut.group x q.txn) (sym stage_q) ∙ one ∙ ap (λ x. cut.group x p.txn) stage_q ∙ group_p)))
                  (λ calm. absurd (true≢false (sym e ∙ sym (said stage_q) ∙ calm)))
                  (is.one_round q p mq mp same (a ∙ sym round_p)))
                  (rounds (cut.round q.txn) (cut.round p.txn) (is.rounds q.txn p.txn lt) round_p)
                where
                  rounds : (a b : ℕ) → a ≤ b → b ≡ r → (a < r) ⊎ (a ≡ r)
                  rounds a b le e = grind arith
              go same lt stage_q false e c = absurd (true≢false (sym c ∙ is.groups q p mq mp same (said stage_q ∙ e)))

  -- ---- one by one

  -- the first of the list
  first_here : (L : List PieceId) (F : PieceId → Bool) (ps : List PieceId) → InOrder ps → ((p : PieceId) → Mem p ps → Mem p L)
      → ((q : PieceId) → Mem q L → F q ≡ false → Mem q ps) → IsFirstUnfinished w env L F (first_left ps F)
  first_here L F [] order inside rest = λ q m. yes q m (F q) refl
    where
      yes : (q : PieceId) → Mem q L → (b : Bool) → F q ≡ b → F q ≡ true
      yes q m true h = h
      yes q m false h = absurd (rest q m h)
  first_here L F (p ∷ ps) order inside rest = go (first_here L F ps) (F p) refl
    where
      go : (InOrder ps → ((p : PieceId) → Mem p ps → Mem p L) → ((q : PieceId) → Mem q L → F q ≡ false → Mem q ps) → IsFirstUnfinished w env L F (first_left ps F))
          → (b : Bool) → F p ≡ b → IsFirstUnfinished w env L F (cond b (first_left ps F) (Some p))
      go more true e = more order.1 (λ q m. inside q (inr m)) (λ q mq f. ⊎_elim (λ same. absurd (true≢false (sym e ∙ sym (ap F same) ∙ f))) (λ k. k) (rest q mq f))
      go more false e = (
        inside p (inl refl),
        e,
        λ q mq f. ⊎_elim (λ same. inr (sym (ap (λ (x : PieceId). x.txn) same), at_most p q (sym (ap (λ (x : PieceId). x.block) same)))) (λ k. lower q (mem_each (Below p) ps order.0 q k)) (rest q mq f),
        λ q mq n. yes q mq n (F q) refl,
      )
        where
          at_most : (p q : PieceId) → p.block ≡ q.block → p.block ≤ q.block
          at_most p q e = omega arith

          lower : (q : PieceId) → Below p q → NotAfter p q
          lower q (inl l) = inl l
          lower q (inr l) = inr (l.0, let k : p.block < q.block = l.1 in omega arith)

          yes : (q : PieceId) → Mem q L → needs w env q p ≡ true → (b : Bool) → F q ≡ b → F q ≡ true
          yes q mq n true h = h
          yes q mq n false h = ⊎_elim (λ same. absurd (never_self q p same (needed_below q p n))) (λ k. absurd (never_below p q (mem_each (Below p) ps order.0 q k) (needed_below q p n))) (rest q mq h)

  pub first_has_needs : (L : List PieceId) → InOrder L → (F : PieceId → Bool) → IsFirstUnfinished w env L F (first_left L F)
  first_has_needs L order F = first_here L F L order (λ p m. m) (λ q m f. m)

-- ---- what is in once a share is

kept_in : (f : PieceId → Bool) (ps : List PieceId) (p : PieceId) → Mem p ps → f p ≡ true → Mem p (filter f ps)
kept_in f [] p m e = absurd m
kept_in f (q ∷ ps) p m e = go (f q) refl m (kept_in f ps p)
  where
    go : (b : Bool) → f q ≡ b → Mem p (q ∷ ps) → (Mem p ps → f p ≡ true → Mem p (filter f ps)) → Mem p (cond b (q ∷ filter f ps) (filter f ps))
    go true h (inl same) rest = inl same
    go true h (inr k) rest = inr (rest k e)
    go false h (inl same) rest = absurd (true≢false (sym e ∙ ap f same ∙ h))
    go false h (inr k) rest = rest k e

pub share_done : (L : List PieceId) (F test : PieceId → Bool) (p : PieceId) → Mem p L → test p ≡ true → adds_all F (rest_of L F test) p ≡ true
share_done L F test p m t = picks_these F (rest_of L F test) p ∙ go (F p) refl
  where
    go : (b : Bool) → F p ≡ b → (among (rest_of L F test) p || F p) ≡ true
    go true e = or_right (among (rest_of L F test) p) (F p) e
    go false e = or_left (among (rest_of L F test) p) (F p) (mem_among (rest_of L F test) p (kept_in (λ p. test p && not (F p)) L p m (and_both (test p) (not (F p)) t (ap not e))))

-- ---- what is left once a part is in

filter_two : (f g : PieceId → Bool) (ps : List PieceId) → filter g (filter f ps) ≡ filter (λ p. f p && g p) ps
filter_two f g [] = refl
filter_two f g (p ∷ ps) = go (filter_two f g ps) (f p)
  where
    go : filter g (filter f ps) ≡ filter (λ p. f p && g p) ps → (b : Bool) → filter g (cond b (p ∷ filter f ps) (filter f ps)) ≡ cond (b && g p) (p ∷ filter (λ p. f p && g p) ps) (filter (λ p. f p && g p) ps)
    go more true = ap (λ qs. cond (g p) (p ∷ qs) qs) more
    go more false = more

filter_same : (f g : PieceId → Bool) (ps : List PieceId) → ((p : PieceId) → f p ≡ g p) → filter f ps ≡ filter g ps
filter_same f g ps same = ap (λ h. filter h ps) (λ i p. same p i)

filter_none : (f : PieceId → Bool) (ps qs : List PieceId) → ((p : PieceId) → Mem p ps → f p ≡ false) → filter f (ps ++ qs) ≡ filter f qs
filter_none f [] qs none = refl
filter_none f (p ∷ ps) qs none = ap (λ b. cond b (p ∷ filter f (ps ++ qs)) (filter f (ps ++ qs))) (none p (inl refl)) ∙ filter_none f ps qs (λ q m. none q (inr m))

filter_every : (f : PieceId → Bool) (ps : List PieceId) → ((p : PieceId) → Mem p ps → f p ≡ true) → filter f ps ≡ ps
filter_every f [] all = refl
filter_every f (p ∷ ps) all = ap (λ b. cond b (p ∷ filter f ps) (filter f ps)) (all p (inl refl)) ∙ ap (λ qs. p ∷ qs) (filter_every f ps (λ q m. all q (inr m)))

each_kept : (R : PieceId → Type 0) (f : PieceId → Bool) (ps : List PieceId) → Each R ps → Each R (filter f ps)
each_kept R f [] e = tt
each_kept R f (p ∷ ps) e = go (f p) (each_kept R f ps e.1)
  where
    go : (b : Bool) → Each R (filter f ps) → Each R (cond b (p ∷ filter f ps) (filter f ps))
    go true rest = (e.0, rest)
    go false rest = rest

order_kept : (f : PieceId → Bool) (ps : List PieceId) → InOrder ps → InOrder (filter f ps)
order_kept f [] order = tt
order_kept f (p ∷ ps) order = go (f p) (order_kept f ps order.1)
  where
    go : (b : Bool) → InOrder (filter f ps) → InOrder (cond b (p ∷ filter f ps) (filter f ps))
    go true rest = (each_kept (Below p) f ps order.0, rest)
    go false rest = rest

below_last : (xs ys : List PieceId) → InOrder (xs ++ ys) → (p q : PieceId) → Mem p xs → Mem q ys → Below p q
below_last [] ys order p q mp mq = absurd mp
below_last (x ∷ xs) ys order p q (inl same) mq = subst (λ z. Below z q) (sym same) (mem_each (Below x) (xs ++ ys) order.0 q (last xs))
  where
    last : (xs : List PieceId) → Mem q (xs ++ ys)
    last [] = mq
    last (z ∷ zs) = inr (last zs)
below_last (x ∷ xs) ys order p q (inr m) mq = below_last xs ys order.1 p q m mq

not_itself : (p : PieceId) → Below p p → ⊥
not_itself p (inl l) = omega (arith, l)
not_itself p (inr l) = let k : p.block < p.block = l.1 in omega (arith, k)

pub rest_stays : (L : List PieceId) → InOrder L → (F test : PieceId → Bool) (run rest : List PieceId) → rest_of L F test ≡ run ++ rest → rest_of L (adds_all F run) test ≡ rest
rest_stays L order F test run rest split =
    filter_same (λ p. test p && not (adds_all F run p)) (λ p. (test p && not (F p)) && not (among run p)) L (λ p. ap (λ b. test p && not b) (picks_these F run p) ∙ turned (test p) (among run p) (F p))
    ∙ sym (filter_two (λ p. test p && not (F p)) (λ p. not (among run p)) L)
    ∙ ap (filter (λ p. not (among run p))) split
    ∙ filter_none (λ p. not (among run p)) run rest (λ p m. ap not (mem_among run p m))
    ∙ filter_every (λ p. not (among run p)) rest (λ p m. ap not (unlike _ (λ e. not_itself p (below_last run rest (subst InOrder split (order_kept (λ p. test p && not (F p)) L order)) p p (among_mem run p e) m))))
  where
    turned : (t a f : Bool) → (t && not (a || f)) ≡ ((t && not f) && not a)
    turned true true true = refl
    turned true true false = refl
    turned true false true = refl
    turned true false false = refl
    turned false a f = refl

-- ---- some share may be lent

-- the member that passes the test with the least number, or none does
module _ (f : PieceId → ℕ) (test : PieceId → Bool) where
  abbrev LeastBy : List PieceId → Type 0
  LeastBy L = (p : PieceId) × Mem p L × (test p ≡ true) × ((q : PieceId) → Mem q L → test q ≡ true → f p ≤ f q)

  abbrev NonePasses : List PieceId → Type 0
  NonePasses L = (q : PieceId) → Mem q L → test q ≡ false

  one_more : (x : PieceId) (xs : List PieceId) (b : Bool) → test x ≡ b → NonePasses xs ⊎ LeastBy xs → NonePasses (x ∷ xs) ⊎ LeastBy (x ∷ xs)
  one_more x xs false e (inl none) = inl (λ q m. ⊎_elim (λ same. ap test same ∙ e) (λ k. none q k) m)
  one_more x xs true e (inl none) = inr (x, inl refl, e, λ q m t. ⊎_elim (λ same. at_most x q (sym same)) (λ k. absurd (true≢false (sym t ∙ none q k))) m)
    where
      at_most : (x q : PieceId) → x ≡ q → f x ≤ f q
      at_most x q e = let h : f x ≡ f q = ap f e in omega (arith, h)
  one_more x xs false e (inr (p, m, t, low)) = inr (p, inr m, t, λ q n u. ⊎_elim (λ same. absurd (true≢false (sym u ∙ ap test same ∙ e))) (λ k. low q k u) n)
  one_more x xs true e (inr (p, m, t, low)) = ⊎_elim
      (λ le. inr (p, inr m, t, λ q n u. ⊎_elim (λ same. subst (λ z. f p ≤ f z) (sym same) le) (λ k. low q k u) n))
      (λ lt. inr (x, inl refl, e, λ q n u. ⊎_elim (λ same. at_most x q (sym same)) (λ k. through (f x) (f p) (f q) lt (low q k u)) n))
      (either (f p) (f x))
    where
      at_most : (x q : PieceId) → x ≡ q → f x ≤ f q
      at_most x q e = let h : f x ≡ f q = ap f e in omega (arith, h)

      either : (a b : ℕ) → (a ≤ b) ⊎ (b < a)
      either a b = grind arith

      through : (a b c : ℕ) → a < b → b ≤ c → a ≤ c
      through a b c l k = omega (arith, l, k)

  pub least_by : (L : List PieceId) → NonePasses L ⊎ LeastBy L
  least_by [] = inl (λ q m. absurd m)
  least_by (x ∷ xs) = one_more x xs (test x) refl (least_by xs)

  pub least_of : (L : List PieceId) (q : PieceId) → Mem q L → test q ≡ true → LeastBy L
  least_of L q m t = ⊎_elim (λ none. absurd (true≢false (sym t ∙ none q m))) (λ l. l) (least_by L)

pub some_lent : (w : World) (env : ℕ → Values) (L : List PieceId) (cut : StageCut) → IsCut w env L cut → (F : PieceId → Bool) (q : PieceId) → Mem q L → F q ≡ false
    → (p : PieceId) × Mem p L × (F p ≡ false) × MayBeLent L cut F (cut.round p.txn) (cut.stage p.block) (cut.group (cut.stage p.block) p.txn)
some_lent w env L cut is F q mq out = second (least_of (λ p. cut.round p.txn) (λ p. not (F p)) L q mq (ap not out))
  where
    second : LeastBy (λ p. cut.round p.txn) (λ p. not (F p)) L → (p : PieceId) × Mem p L × (F p ≡ false) × MayBeLent L cut F (cut.round p.txn) (cut.stage p.block) (cut.group (cut.stage p.block) p.txn)
    second (a, ma, ta, low) = third (least_of (λ p. cut.stage p.block) (λ p. not (F p) && cut.round p.txn == cut.round a.txn) L a ma (and_both (not (F a)) _ ta (eq_self (cut.round a.txn))))
      where
        yes : (r : PieceId) → (F r ≡ false → ⊥) → (b : Bool) → F r ≡ b → F r ≡ true
        yes r never true h = h
        yes r never false h = absurd (never h)

        third : LeastBy (λ p. cut.stage p.block) (λ p. not (F p) && cut.round p.txn == cut.round a.txn) L
            → (p : PieceId) × Mem p L × (F p ≡ false) × MayBeLent L cut F (cut.round p.txn) (cut.stage p.block) (cut.group (cut.stage p.block) p.txn)
        third (p, mp, tp, low') = (
          p,
          mp,
          not_true (F p) (and_left (not (F p)) _ tp),
          (
            λ r mr er le. yes r (λ f. clash (cut.stage p.block) (cut.stage r.block) (low' r mr (and_both (not (F r)) _ (ap not f) (equal_number _ _ (er ∙ round_p)))) (is.up _ _ le)) (F r) refl,
            λ r mr lt es ec. yes r (λ f. sooner (cut.round a.txn) (cut.round p.txn) (cut.round r.txn) round_p lt (low r mr (ap not f))) (F r) refl,
          ),
        )
          where
            round_p : cut.round p.txn ≡ cut.round a.txn
            round_p = same_number _ _ (and_right (not (F p)) _ tp)

            clash : (a b : ℕ) → a ≤ b → b < a → ⊥
            clash a b l k = omega (arith, l, k)

            sooner : (a b c : ℕ) → b ≡ a → c < b → a ≤ c → ⊥
            sooner a b c e l k = omega (arith, e, l, k)
