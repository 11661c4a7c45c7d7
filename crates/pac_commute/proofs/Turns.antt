-- The exchange of steps with footprints.
use Rattle.std.proofs.Common.{◌≡◌, Bool, true, false, cond, List, [], ◌∷◌, ◌++◌, refl, sym, ap, ◌∙◌, subst, true≢false}
use Rattle.pac_base.specs.Members.{Each}

pub each_with : {P : Type 0} (R R' : P → Type 0) (L : List P) → ((q : P) → R q → R' q) → Each R L → Each R' L
each_with R R' [] f e = tt
each_with R R' (q ∷ qs) f e = (f q e.0, each_with R R' qs f e.1)

pub each_both : {P : Type 0} (R R' R'' : P → Type 0) (L : List P) → ((q : P) → R q → R' q → R'' q) → Each R L → Each R' L → Each R'' L
each_both R R' R'' [] f e e' = tt
each_both R R' R'' (q ∷ qs) f e e' = (f q e.0 e'.0, each_both R R' R'' qs f e.1 e'.1)

module _ (S C V N M P : Type 0)
    (obs : S → C → V) (note : S → N) (step : P → S → S) (said : P → S → M) (joined : N → M → N)
    (touches writes : P → C → Bool) (Good : P → S → Type 0) where
  abbrev pub Alike : (C → Bool) → S → S → Type 0
  Alike a s s' = (c : C) → a c ≡ true → obs s c ≡ obs s' c

  abbrev pub Apart : P → P → Type 0
  Apart p q = (c : C) → (writes p c ≡ true → touches q c ≡ false) × (writes q c ≡ true → touches p c ≡ false)

  pub record Laws : Type 0 where
    pub same : (s s' : S) → ((c : C) → obs s c ≡ obs s' c) → note s ≡ note s' → s ≡ s'
    pub any_order : (n : N) (a b : M) → joined (joined n a) b ≡ joined (joined n b) a
    pub within : (p : P) (c : C) → writes p c ≡ true → touches p c ≡ true
    pub noted : (p : P) (s : S) → note (step p s) ≡ joined (note s) (said p s)
    pub kept : (p : P) (s : S) → Good p s → (c : C) → writes p c ≡ false → obs (step p s) c ≡ obs s c
    pub good_alike : (p : P) (s s' : S) → Good p s → Alike (touches p) s s' → Good p s'
    pub alike : (p : P) (s s' : S) → Good p s → Alike (touches p) s s' → Alike (touches p) (step p s) (step p s')
    pub said_alike : (p : P) (s s' : S) → Good p s → Alike (touches p) s s' → said p s ≡ said p s'

  -- the state after the steps that the test picks
  abbrev pub run : (P → Bool) → List P → S → S
  run F [] s = s
  run F (p ∷ ps) s = run F ps (cond (F p) (step p s) s)

  -- the state is good for each picked step at its turn
  abbrev pub GoodTurns : (P → Bool) → List P → S → Type 0
  GoodTurns F [] s = Unit {0}
  GoodTurns F (p ∷ ps) s = (F p ≡ true → Good p s) × GoodTurns F ps (cond (F p) (step p s) s)

  -- a step that is left out is apart from each later one that is picked
  abbrev pub Closed : (P → Bool) → List P → Type 0
  Closed F [] = Unit {0}
  Closed F (p ∷ ps) = (F p ≡ false → Each (λ q. F q ≡ true → Apart p q) ps) × Closed F ps

  module _ (laws : Laws) where
    not_both : {A : Type 0} (b : Bool) → b ≡ true → b ≡ false → A
    not_both b t f = absurd (true≢false (sym t ∙ f))

    -- a step leaves alike what it doesn't write
    pub unread : (p q : P) (s : S) → Good q s → Apart p q → Alike (touches p) s (step q s)
    unread p q s good apart c t = go (writes q c) refl
      where
        go : (b : Bool) → writes q c ≡ b → obs s c ≡ obs (step q s) c
        go true e = not_both (touches p c) t ((apart c).1 e)
        go false e = sym (laws.kept q s good c e)

    turned : (p q : P) → Apart p q → Apart q p
    turned p q apart c = ((apart c).1, (apart c).0)

    swap_cell : (p q : P) (s : S) → Good p s → Good q s → Apart p q → (c : C) → writes p c ≡ true
        → obs (step p (step q s)) c ≡ obs (step q (step p s)) c
    swap_cell p q s gp gq apart c w =
        sym (laws.alike p s (step q s) gp (unread p q s gq apart) c (laws.within p c w))
        ∙ sym (laws.kept q (step p s) (laws.good_alike q s (step p s) gq (unread q p s gp (turned p q apart))) c (unwritten (writes q c) refl))
      where
        unwritten : (b : Bool) → writes q c ≡ b → writes q c ≡ false
        unwritten true e = not_both (touches q c) (laws.within q c e) ((apart c).0 w)
        unwritten false e = e

    pub swap : (p q : P) (s : S) → Good p s → Good q s → Apart p q → step p (step q s) ≡ step q (step p s)
    swap p q s gp gq apart = laws.same _ _ (λ c. cells c (writes p c) (writes q c) refl refl) notes
      where
        alike_p : Alike (touches p) s (step q s)
        alike_p = unread p q s gq apart

        alike_q : Alike (touches q) s (step p s)
        alike_q = unread q p s gp (turned p q apart)

        cells : (c : C) (a b : Bool) → writes p c ≡ a → writes q c ≡ b → obs (step p (step q s)) c ≡ obs (step q (step p s)) c
        cells c true b ea eb = swap_cell p q s gp gq apart c ea
        cells c false true ea eb = sym (swap_cell q p s gq gp (turned p q apart) c eb)
        cells c false false ea eb =
            laws.kept p (step q s) (laws.good_alike p s _ gp alike_p) c ea ∙ laws.kept q s gq c eb
            ∙ sym (laws.kept q (step p s) (laws.good_alike q s _ gq alike_q) c eb ∙ laws.kept p s gp c ea)

        notes : note (step p (step q s)) ≡ note (step q (step p s))
        notes =
            laws.noted p (step q s) ∙ ap (λ n. joined n (said p (step q s))) (laws.noted q s)
            ∙ ap (joined (joined (note s) (said q s))) (sym (laws.said_alike p s _ gp alike_p))
            ∙ laws.any_order (note s) (said q s) (said p s)
            ∙ ap (joined (joined (note s) (said p s))) (laws.said_alike q s _ gq alike_q)
            ∙ sym (laws.noted q (step p s) ∙ ap (λ n. joined n (said q (step p s))) (laws.noted p s))

    -- both states take the step
    step_both : (p q : P) (s s' : S) → Good p s' → Alike (touches p) s s' → Alike (touches q) s s' → Alike (touches q) (step p s) (step p s')
    step_both p q s s' good alike alike' c t = go (writes p c) refl
      where
        go : (b : Bool) → writes p c ≡ b → obs (step p s) c ≡ obs (step p s') c
        go true e = sym (laws.alike p s' s good (λ d u. sym (alike d u)) c (laws.within p c e))
        go false e = laws.kept p s (laws.good_alike p s' s good (λ d u. sym (alike d u))) c e ∙ alike' c t ∙ sym (laws.kept p s' good c e)

    -- the second state alone takes it
    step_right : (p q : P) (s s' : S) → Good p s' → Apart p q → Alike (touches q) s s' → Alike (touches q) s (step p s')
    step_right p q s s' good apart alike c t = alike c t ∙ unread q p s' good (turned p q apart) c t

    -- the full run from s', and the picked run from s: each picked step meets a good state
    pub good_turns : (F : P → Bool) (L : List P) (s s' : S) → Closed F L → GoodTurns (λ q. true) L s'
        → Each (λ q. F q ≡ true → Alike (touches q) s s') L → GoodTurns F L s
    good_turns F [] s s' closed good watched = tt
    good_turns F (p ∷ ps) s s' closed good watched = go (good_turns F ps) (F p) refl
      where
        good_here : Good p s'
        good_here = good.0 refl

        Rest : Type 0
        Rest = (s s' : S) → Closed F ps → GoodTurns (λ q. true) ps s' → Each (λ q. F q ≡ true → Alike (touches q) s s') ps → GoodTurns F ps s

        go : Rest → (b : Bool) → F p ≡ b → (b ≡ true → Good p s) × GoodTurns F ps (cond b (step p s) s)
        go rest true e =
            let alike : Alike (touches p) s s' = watched.0 e in (
              λ t. laws.good_alike p s' s good_here (λ d u. sym (alike d u)),
              rest (step p s) (step p s') closed.1 good.1
                  (each_with (λ q. F q ≡ true → Alike (touches q) s s') (λ q. F q ≡ true → Alike (touches q) (step p s) (step p s')) ps
                  (λ q a t. step_both p q s s' good_here alike (a t)) watched.1),
            )
        go rest false e = (
          λ t. absurd (true≢false (sym t)),
          rest s (step p s') closed.1 good.1
              (each_both (λ q. F q ≡ true → Apart p q) (λ q. F q ≡ true → Alike (touches q) s s') (λ q. F q ≡ true → Alike (touches q) s (step p s')) ps
              (λ q apart a t. step_right p q s s' good_here (apart t) (a t)) (closed.0 e) watched.1),
        )

    -- cells that no step left out writes end alike in both runs
    pub ends_alike : (F : P → Bool) (K : C → Bool) (L : List P) (s s' : S) → Closed F L → GoodTurns (λ q. true) L s'
        → Each (λ q. F q ≡ true → Alike (touches q) s s') L → Each (λ r. F r ≡ false → (c : C) → writes r c ≡ true → K c ≡ false) L
        → Alike K s s' → Alike K (run F L s) (run (λ q. true) L s')
    ends_alike F K [] s s' closed good watched free alike = alike
    ends_alike F K (p ∷ ps) s s' closed good watched free alike = go (ends_alike F K ps) (F p) refl
      where
        good_here : Good p s'
        good_here = good.0 refl

        go : ((s s' : S) → Closed F ps → GoodTurns (λ q. true) ps s' → Each (λ q. F q ≡ true → Alike (touches q) s s') ps
            → Each (λ r. F r ≡ false → (c : C) → writes r c ≡ true → K c ≡ false) ps → Alike K s s' → Alike K (run F ps s) (run (λ q. true) ps s'))
            → (b : Bool) → F p ≡ b → Alike K (run F ps (cond b (step p s) s)) (run (λ q. true) ps (step p s'))
        go rest true e = rest (step p s) (step p s') closed.1 good.1
            (each_with (λ q. F q ≡ true → Alike (touches q) s s') (λ q. F q ≡ true → Alike (touches q) (step p s) (step p s')) ps
            (λ q a t. step_both p q s s' good_here (watched.0 e) (a t)) watched.1)
            free.1
            (λ c k. both c k (writes p c) refl)
          where
            both : (c : C) → K c ≡ true → (b : Bool) → writes p c ≡ b → obs (step p s) c ≡ obs (step p s') c
            both c k true w = sym (laws.alike p s' s good_here (λ d u. sym (watched.0 e d u)) c (laws.within p c w))
            both c k false w = laws.kept p s (laws.good_alike p s' s good_here (λ d u. sym (watched.0 e d u))) c w ∙ alike c k ∙ sym (laws.kept p s' good_here c w)
        go rest false e = rest s (step p s') closed.1 good.1
            (each_both (λ q. F q ≡ true → Apart p q) (λ q. F q ≡ true → Alike (touches q) s s') (λ q. F q ≡ true → Alike (touches q) s (step p s')) ps
            (λ q apart a t. step_right p q s s' good_here (apart t) (a t)) (closed.0 e) watched.1)
            free.1
            (λ c k. alike c k ∙ sym (laws.kept p s' good_here c (unwritten c k (writes p c) refl)))
          where
            unwritten : (c : C) → K c ≡ true → (b : Bool) → writes p c ≡ b → b ≡ false
            unwritten c k true w = not_both (K c) k (free.0 e c w)
            unwritten c k false w = refl

    -- p moves past the picked steps, all apart from it
    pub past : (F : P → Bool) (p : P) (ps : List P) (s : S) → Good p s → Each (λ q. F q ≡ true → Apart p q) ps → GoodTurns F ps s
        → (step p (run F ps s) ≡ run F ps (step p s)) × Good p (run F ps s)
    past F p [] s good apart turns = (refl, good)
    past F p (q ∷ qs) s good apart turns = go (past F p qs) (F q) refl
      where
        Rest : Type 0
        Rest = (s : S) → Good p s → Each (λ q. F q ≡ true → Apart p q) qs → GoodTurns F qs s
            → (step p (run F qs s) ≡ run F qs (step p s)) × Good p (run F qs s)

        go : Rest → (b : Bool) → F q ≡ b → (step p (run F qs (cond b (step q s) s)) ≡ run F qs (cond b (step q (step p s)) (step p s))) × Good p (run F qs (cond b (step q s) s))
        go past_rest true e =
            let good_q : Good q s = turns.0 e in
            let rest : (step p (run F qs (step q s)) ≡ run F qs (step p (step q s))) × Good p (run F qs (step q s))
            = past_rest (step q s) (laws.good_alike p s (step q s) good (unread p q s good_q (apart.0 e))) apart.1 (subst (λ b. GoodTurns F qs (cond b (step q s) s)) e turns.1) in
            (rest.0 ∙ ap (run F qs) (swap p q s good good_q (apart.0 e)), rest.1)
        go past_rest false e = past_rest s good apart.1 (subst (λ b. GoodTurns F qs (cond b (step q s) s)) e turns.1)

    run-append : (F : P → Bool) (xs ys : List P) (s : S) → run F (xs ++ ys) s ≡ run F ys (run F xs s)
    run-append F [] ys s = refl
    run-append F (x ∷ xs) ys s = run-append F xs ys (cond (F x) (step x s) s)

    pub turns_after : (F : P → Bool) (xs ys : List P) (s : S) → GoodTurns F (xs ++ ys) s → GoodTurns F ys (run F xs s)
    turns_after F [] ys s good = good
    turns_after F (x ∷ xs) ys s good = turns_after F xs ys (cond (F x) (step x s) s) good.1

    closed_after : (F : P → Bool) (xs ys : List P) → Closed F (xs ++ ys) → Closed F ys
    closed_after F [] ys closed = closed
    closed_after F (x ∷ xs) ys closed = closed_after F xs ys closed.1

    run_same : (F F' : P → Bool) (xs : List P) (s : S) → Each (λ q. F' q ≡ F q) xs → run F' xs s ≡ run F xs s
    run_same F F' [] s same = refl
    run_same F F' (x ∷ xs) s same = ap (λ b. run F' xs (cond b (step x s) s)) same.0 ∙ run_same F F' xs (cond (F x) (step x s) s) same.1

    pub start_alike : (F : P → Bool) (L : List P) (s : S) → Each (λ q. F q ≡ true → Alike (touches q) s s) L
    start_alike F [] s = tt
    start_alike F (q ∷ qs) s = (λ t c u. refl, start_alike F qs s)

    pub exchange : (F F' : P → Bool) (before after : List P) (p : P) (s : S)
        → F p ≡ false → F' p ≡ true → Each (λ q. F' q ≡ F q) before → Each (λ q. F' q ≡ F q) after
        → Closed F (before ++ p ∷ after) → Closed F' (before ++ p ∷ after) → GoodTurns (λ q. true) (before ++ p ∷ after) s
        → (run F' (before ++ p ∷ after) s ≡ step p (run F (before ++ p ∷ after) s)) × Good p (run F (before ++ p ∷ after) s)
    exchange F F' before after p s out in_it same_before same_after closed closed' good = (
      run-append F' before (p ∷ after) s
          ∙ ap (run F' (p ∷ after)) (run_same F F' before s same_before)
          ∙ ap (λ b. run F' after (cond b (step p mid) mid)) in_it
          ∙ run_same F F' after (step p mid) same_after
          ∙ sym moved.0
          ∙ ap (step p) (sym whole),
      subst (Good p) (sym whole) moved.1,
    )
      where
        mid : S
        mid = run F before s

        whole : run F (before ++ p ∷ after) s ≡ run F after mid
        whole = run-append F before (p ∷ after) s ∙ ap (λ b. run F after (cond b (step p mid) mid)) out

        turns : GoodTurns F (p ∷ after) mid
        turns = turns_after F before (p ∷ after) s (good_turns F (before ++ p ∷ after) s s closed good (start_alike F _ s))

        turns' : GoodTurns F' (p ∷ after) (run F' before s)
        turns' = turns_after F' before (p ∷ after) s (good_turns F' (before ++ p ∷ after) s s closed' good (start_alike F' _ s))

        good_p : Good p mid
        good_p = subst (Good p) (run_same F F' before s same_before) (turns'.0 in_it)

        moved : (step p (run F after mid) ≡ run F after (step p mid)) × Good p (run F after mid)
        moved = past F p after mid good_p ((closed_after F before (p ∷ after) closed).0 out)
            (subst (λ b. GoodTurns F after (cond b (step p mid) mid)) out turns.1)
