-- The exchange of pieces: a piece that has what it needs may come last.
use Rattle.std.proofs.Common.{◌≡◌, ℕ, ◌<◌, Bool, true, false, cond, ◌&&◌, not, List, [], ◌∷◌, ◌++◌, refl, sym, ap, ◌∙◌, subst, true≢false, Option, ◌==◌, ◌⊎◌, inl, inr, ⊎_elim, arith}
use Rattle.std.proofs.lemmas.Bool.Decides.{Decides-eqb}
use Rattle.std.specs.FinMap.{get}
use Rattle.pac_value.specs.declared.values.Ty.{Ty}
use Rattle.pac_value.specs.declared.values.Value.{Value}
use Rattle.pac_value.specs.Expressions.{Values}
use Rattle.pac_value.specs.State.{RowValues}
use Rattle.pac_ops.specs.declared.note.Note.{Note}
use Rattle.pac_ops.specs.declared.piece.PieceId.{PieceId}
use Rattle.pac_base.specs.Members.{Each, Mem}
use Rattle.pac_ops.specs.Effects.{NumberedOp, defined_in, used_in}
use Rattle.pac_plan.specs.Pieces.{Present, of_txn, run_ops, part, World, ops, apply, needs, HasInputs, Location, RowOf, VarOf, at_location, touches, writes, partial, is_piece, adds, every}
use Rattle.pac_plan.specs.WorldOrder.{WellFormed}
use Rattle.pac_commute.specs.Exchange.{HoldsNeeds}
use Rattle.pac_commute.proofs.Turns as turns
use Rattle.pac_commute.proofs.Turns.{each_with}
use Rattle.pac_base.proofs.TestLemmas.{or_left, or_right, eq_self, same_number, equal_number, and_left, and_right, and_both, or_cases, or_of_false, each_mem, mem_each, unlike, not_true}
use Rattle.pac_ops.proofs.DefinedLemmas.{undefined_meaning}
use Rattle.pac_commute.proofs.Laws.{Apart, apart, laws, turn, says, noted_by, written_env, other_env}

pub undefined_stays : (t : ℕ) (vars : List Ty) (os : List NumberedOp) (s : Present) (y : ℕ) → defined_in os y ≡ false → get ((run_ops t vars os s).envs t) y ≡ get (s.envs t) y
undefined_stays t vars os s y e = ap (λ m. get m y) (written_env t t _ s.envs (eq_self t)) ∙ undefined_meaning vars os (of_txn t s) y e

pub other_stays : (t : ℕ) (vars : List Ty) (os : List NumberedOp) (s : Present) (u : ℕ) → (u ≡ t → ⊥) → (run_ops t vars os s).envs u ≡ s.envs u
other_stays t vars os s u differ = other_env t u _ s.envs (unlike _ (λ e. differ (same_number u t e)))

-- a list of pieces in the order of transactions and blocks
abbrev pub Below : PieceId → PieceId → Type 0
Below p q = (p.txn < q.txn) ⊎ ((p.txn ≡ q.txn) × (p.block < q.block))

abbrev pub InOrder : List PieceId → Type 0
InOrder [] = Unit {0}
InOrder (p ∷ ps) = Each (Below p) ps × InOrder ps

not_piece : (p q : PieceId) → Below p q ⊎ Below q p → is_piece p q ≡ false
not_piece p q below = unlike _ (λ e.
    let t : p.txn ≡ q.txn = (Decides-eqb p.txn q.txn).0 (and_left (p.txn == q.txn) (p.block == q.block) e) in
    let b : p.block ≡ q.block = (Decides-eqb p.block q.block).0 (and_right (p.txn == q.txn) (p.block == q.block) e) in
    omega arith)

-- p has a location in the list, and the others are below or above it
split : (L : List PieceId) (p : PieceId) → Mem p L → InOrder L
    → (before : List PieceId) × (after : List PieceId) × (L ≡ before ++ p ∷ after) × Each (λ q. Below q p) before × Each (Below p) after
split [] p m order = absurd m
split (q ∷ qs) p (inl same) order = ([], qs, ap (λ x. x ∷ qs) (sym same), tt, subst (λ x. Each (Below x) qs) (sym same) order.0)
split (q ∷ qs) p (inr m) order =
    let r = split qs p m order.1 in
    (q ∷ r.0, r.1, ap (λ x. q ∷ x) r.2, (mem_each (Below q) qs order.0 p m, r.3), r.4)

module _ (w : World) (well_formed : WellFormed w) where
  -- a later piece leaves the inputs of p
  input_stays : (p q : PieceId) → Below p q → (s : Present) (x : ℕ) → used_in (ops w p) x ≡ true → get ((apply w q s).envs p.txn) x ≡ get (s.envs p.txn) x
  unfolding apply
  input_stays p q (inl lt) s x u = ap (λ m. get m x) (other_stays q.txn (w.vars q.txn) (ops w q) s p.txn (λ e. omega arith))
  input_stays p q (inr l) s x u = rw l.0 (undefined_stays q.txn (w.vars q.txn) (ops w q) s x (unlike _ (λ d. ⊎_elim same up (well_formed.flows p.txn q.block p.block x (ap (λ t. defined_in (part (w.block t) q.block (w.code t)) x) l.0 ∙ d) u))))
    where
      same : q.block ≡ p.block → ⊥
      same e = let l' : p.block < q.block = l.1 in omega arith

      up : w.edge q.block p.block ≡ true → ⊥
      up e = let l' : p.block < q.block = l.1 in let m : q.block < p.block = well_formed.up q.block p.block e in omega arith

  inputs_stay : (p : PieceId) (ps : List PieceId) → Each (Below p) ps → (s : Present) (x : ℕ) → used_in (ops w p) x ≡ true → get ((partial w every ps s).envs p.txn) x ≡ get (s.envs p.txn) x
  unfolding partial
  inputs_stay p [] below s x u = refl
  inputs_stay p (q ∷ qs) below s x u = inputs_stay p qs below.1 (apply w q s) x u ∙ input_stays p q below.0 s x u

  undefined_apply : (p : PieceId) (s : Present) (x : ℕ) → defined_in (ops w p) x ≡ false → get ((apply w p s).envs p.txn) x ≡ get (s.envs p.txn) x
  unfolding apply
  undefined_apply p s x d = undefined_stays p.txn (w.vars p.txn) (ops w p) s x d

  module _ (env : ℕ → Values) where
    abbrev pub Good_turns : (PieceId → Bool) → List PieceId → Present → Type 0
    Good_turns = turns.GoodTurns Present Location (Option RowValues × Option Value) (Option Note) (List Note) PieceId at_location (λ s. s.note) (apply w) (says w) noted_by (touches w env) (writes w env) (HasInputs w env)

    abbrev pub Is_closed : (PieceId → Bool) → List PieceId → Type 0
    Is_closed = turns.Closed Present Location (Option RowValues × Option Value) (Option Note) (List Note) PieceId at_location (λ s. s.note) (apply w) (says w) noted_by (touches w env) (writes w env) (HasInputs w env)

    run : (PieceId → Bool) → List PieceId → Present → Present
    run = turns.run Present Location (Option RowValues × Option Value) (Option Note) (List Note) PieceId at_location (λ s. s.note) (apply w) (says w) noted_by (touches w env) (writes w env) (HasInputs w env)

    partial-run : (F : PieceId → Bool) (ps : List PieceId) (s : Present) → partial w F ps s ≡ run F ps s
    unfolding partial run
    partial-run F [] s = refl
    partial-run F (p ∷ ps) s = partial-run F ps (cond (F p) (apply w p s) s)

    -- at its turn in the whole run, each piece has the inputs that the run ends with
    whole_good : (ps : List PieceId) → InOrder ps → (s : Present) → ((t x : ℕ) → get ((partial w every ps s).envs t) x ≡ get (env t) x) → Good_turns (λ q. true) ps s
    unfolding partial
    whole_good [] order s ends = tt
    whole_good (p ∷ ps) order s ends = (
      λ _ x u d. sym (undefined_apply p s x d) ∙ sym (inputs_stay p ps order.0 (apply w p s) x u) ∙ ends p.txn x,
      whole_good ps order.1 (apply w p s) ends,
    )

    closed : (F : PieceId → Bool) (L ps : List PieceId) → ((q : PieceId) → Mem q ps → Mem q L) → InOrder ps → HoldsNeeds w env L F → Is_closed F ps
    closed F L [] inside order holds = tt
    closed F L (p ∷ ps) inside order holds = (
      λ out. each_mem (λ q. F q ≡ true → _) ps (λ q m picked. apart w well_formed env p q (mem_each (Below p) ps order.0 q m)
          (unlike _ (λ e. true≢false (sym (holds p q (inside p (inl refl)) (inside q (inr m)) e picked) ∙ out)))),
      closed F L ps (λ q m. inside q (inr m)) order.1 holds,
    )

    -- each picked piece finds its inputs at its turn
    pub picked_turns : (L : List PieceId) → InOrder L → (s : Present) → ((t x : ℕ) → get ((partial w every L s).envs t) x ≡ get (env t) x)
        → (F : PieceId → Bool) → HoldsNeeds w env L F → Good_turns F L s
    picked_turns L order s ends F holds =
        turns.good_turns Present Location (Option RowValues × Option Value) (Option Note) (List Note) PieceId at_location (λ s. s.note) (apply w) (says w) noted_by (touches w env) (writes w env) (HasInputs w env)
        (laws w well_formed env) F L s s (closed F L L (λ q m. m) order holds) (whole_good L order s ends)
        (turns.start_alike Present Location (Option RowValues × Option Value) (Option Note) (List Note) PieceId at_location (λ s. s.note) (apply w) (says w) noted_by (touches w env) (writes w env) (HasInputs w env) (laws w well_formed env) F L s)

    pub turn_of : (before after : List PieceId) (p : PieceId) (s : Present) (F : PieceId → Bool) → Good_turns F (before ++ p ∷ after) s → F p ≡ true → HasInputs w env p (partial w F before s)
    unfolding run
    turn_of before after p s F good picked =
        subst (HasInputs w env p) (sym (partial-run F before s))
        ((turns.turns_after Present Location (Option RowValues × Option Value) (Option Note) (List Note) PieceId at_location (λ s. s.note) (apply w) (says w) noted_by (touches w env) (writes w env) (HasInputs w env)
        (laws w well_formed env) F before (p ∷ after) s good).0 picked)

    exchange_at : (before after : List PieceId) (p : PieceId) (s : Present) (F : PieceId → Bool) → Each (λ q. Below q p) before → Each (Below p) after
        → F p ≡ false → Is_closed F (before ++ p ∷ after) → Is_closed (adds F p) (before ++ p ∷ after) → Good_turns (λ q. true) (before ++ p ∷ after) s
        → (run (adds F p) (before ++ p ∷ after) s ≡ apply w p (run F (before ++ p ∷ after) s)) × HasInputs w env p (run F (before ++ p ∷ after) s)
    unfolding run
    exchange_at before after p s F lower upper out closed closed' good =
        turns.exchange Present Location (Option RowValues × Option Value) (Option Note) (List Note) PieceId at_location (λ s. s.note) (apply w) (says w) noted_by (touches w env) (writes w env) (HasInputs w env)
        (laws w well_formed env) F (adds F p) before after p s out
        (or_left (is_piece p p) (F p) (and_both (p.txn == p.txn) (p.block == p.block) (eq_self p.txn) (eq_self p.block)))
        (each_with (λ q. Below q p) (λ q. adds F p q ≡ F q) before (λ q b. or_of_false (is_piece p q) (F q) (not_piece p q (inr b))) lower)
        (each_with (Below p) (λ q. adds F p q ≡ F q) after (λ q b. or_of_false (is_piece p q) (F q) (not_piece p q (inl b))) upper)
        closed closed' good

    -- F and p hold the predecessors of each of their pieces
    holds_more : (L : List PieceId) (F : PieceId → Bool) (p : PieceId) → HoldsNeeds w env L F → ((q : PieceId) → Mem q L → needs w env q p ≡ true → F q ≡ true) → HoldsNeeds w env L (adds F p)
    holds_more L F p holds preds q r mq mr pr picked = ⊎_elim
        (λ e. or_right (is_piece p q) _ (preds q mq (subst (λ x. needs w env q x ≡ true) (sym (piece_same p r e)) pr)))
        (λ f. or_right (is_piece p q) _ (holds q r mq mr pr f))
        (or_cases (is_piece p r) (F r) picked)
      where
        piece_same : (p q : PieceId) → is_piece p q ≡ true → p ≡ q
        piece_same p q e i = record {
          txn = (Decides-eqb p.txn q.txn).0 (and_left (p.txn == q.txn) (p.block == q.block) e) i;
          block = (Decides-eqb p.block q.block).0 (and_right (p.txn == q.txn) (p.block == q.block) e) i;
        }

    pub exchange : (L : List PieceId) → InOrder L → (s : Present) → ((t x : ℕ) → get ((partial w every L s).envs t) x ≡ get (env t) x)
        → (F : PieceId → Bool) (p : PieceId) → Mem p L → F p ≡ false → HoldsNeeds w env L F → ((q : PieceId) → Mem q L → needs w env q p ≡ true → F q ≡ true)
        → (partial w (adds F p) L s ≡ apply w p (partial w F L s)) × HasInputs w env p (partial w F L s)
    exchange L order s ends F p m out holds preds =
        let r = split L p m order in
        let good : Good_turns (λ q. true) L s = whole_good L order s ends in
        let closed_F : Is_closed F L = closed F L L (λ q m. m) order holds in
        let closed_p : Is_closed (adds F p) L = closed (adds F p) L L (λ q m. m) order (holds_more L F p holds preds) in
        let moved : (run (adds F p) L s ≡ apply w p (run F L s)) × HasInputs w env p (run F L s)
        = subst (λ K. Is_closed F K → Is_closed (adds F p) K → Good_turns (λ q. true) K s → (run (adds F p) K s ≡ apply w p (run F K s)) × HasInputs w env p (run F K s)) (sym r.2)
        (exchange_at r.0 r.1 p s F r.3 r.4 out) closed_F closed_p good in (
          partial-run (adds F p) L s ∙ moved.0 ∙ ap (apply w p) (sym (partial-run F L s)),
          subst (HasInputs w env p) (sym (partial-run F L s)) moved.1,
        )

    -- the inputs of p are right as soon as the pieces of its transaction that lead to it are picked
    input_cells : PieceId → Location → Bool
    input_cells p (RowOf a) = false
    input_cells p (VarOf u x) = u == p.txn && (used_in (ops w p) x && not (defined_in (ops w p) x))

    pub inputs : (L : List PieceId) → InOrder L → (s : Present) → ((t x : ℕ) → get ((partial w every L s).envs t) x ≡ get (env t) x)
        → (F : PieceId → Bool) (p : PieceId) → HoldsNeeds w env L F → ((q : PieceId) → Mem q L → (q.txn == p.txn && w.edge q.block p.block) ≡ true → F q ≡ true)
        → HasInputs w env p (partial w F L s)
    unfolding input_cells run
    inputs L order s ends F p holds preds x used undefined =
        ap (λ (z : Present). get (z.envs p.txn) x) (partial-run F L s)
        ∙ ap (λ (r : Option RowValues × Option Value). r.1) (turns.ends_alike Present Location (Option RowValues × Option Value) (Option Note) (List Note) PieceId at_location (λ s. s.note) (apply w) (says w) noted_by (touches w env) (writes w env) (HasInputs w env)
        (laws w well_formed env) F (input_cells p) L s s (closed F L L (λ q m. m) order holds) (whole_good L order s ends)
        (turns.start_alike Present Location (Option RowValues × Option Value) (Option Note) (List Note) PieceId at_location (λ s. s.note) (apply w) (says w) noted_by (touches w env) (writes w env) (HasInputs w env) (laws w well_formed env) F L s)
        (each_mem _ L unwritten) (λ c k. refl)
        (VarOf p.txn x) (and_both _ _ (eq_self p.txn) (and_both _ _ used (ap not undefined))))
        ∙ sym (ap (λ (z : Present). get (z.envs p.txn) x) (partial-run every L s)) ∙ ends p.txn x
      where
        unwritten : (r : PieceId) → Mem r L → F r ≡ false → (c : Location) → writes w env r c ≡ true → input_cells p c ≡ false
        unwritten r m out (RowOf a) wr = refl
        unwritten r m out (VarOf u y) wr = unlike _ (λ k.
            let here : u ≡ p.txn = same_number u p.txn (and_left (u == p.txn) _ k) in
            let there : u ≡ r.txn = same_number u r.txn (and_left (u == r.txn) (defined_in (ops w r) y) wr) in
            let same : r.txn ≡ p.txn = sym there ∙ here in
            let used_p : used_in (ops w p) y ≡ true = and_left _ (not (defined_in (ops w p) y)) (and_right (u == p.txn) _ k) in
            let def_r : defined_in (part (w.block p.txn) r.block (w.code p.txn)) y ≡ true = ap (λ t. defined_in (part (w.block t) r.block (w.code t)) y) (sym same) ∙ and_right (u == r.txn) _ wr in
            ⊎_elim
            (λ b. true≢false (sym (ap (λ c. defined_in (part (w.block p.txn) c (w.code p.txn)) y) (sym b) ∙ def_r) ∙ not_true _ (and_right (used_in (ops w p) y) _ (and_right (u == p.txn) _ k))))
            (λ e. true≢false (sym (preds r m (and_both _ _ (equal_number r.txn p.txn same) e)) ∙ out))
            (well_formed.flows p.txn r.block p.block y def_r used_p))

    apart_either : (p q : PieceId) → Below p q ⊎ Below q p → needs w env p q ≡ false → needs w env q p ≡ false → Apart w well_formed env p q
    apart_either p q (inl l) f g = apart w well_formed env p q l f
    apart_either p q (inr l) f g = turn w well_formed env q p (apart w well_formed env q p l g)

    -- two members of the list, in one order or the other
    pub either : (L : List PieceId) → InOrder L → (p q : PieceId) → Mem p L → Mem q L → (p ≡ q → ⊥) → Below p q ⊎ Below q p
    either [] order p q m n differ = absurd m
    either (r ∷ rs) order p q (inl e) (inl f) differ = absurd (differ (e ∙ sym f))
    either (r ∷ rs) order p q (inl e) (inr n) differ = inl (subst (λ x. Below x q) (sym e) (mem_each (Below r) rs order.0 q n))
    either (r ∷ rs) order p q (inr m) (inl f) differ = inr (subst (λ x. Below x p) (sym f) (mem_each (Below r) rs order.0 p m))
    either (r ∷ rs) order p q (inr m) (inr n) differ = either rs order.1 p q m n differ

    pub undisturbed : (L : List PieceId) → InOrder L → (s : Present) → ((t x : ℕ) → get ((partial w every L s).envs t) x ≡ get (env t) x)
        → (F : PieceId → Bool) (p q : PieceId) → Mem p L → Mem q L → (p ≡ q → ⊥) → F p ≡ false → F q ≡ false → HoldsNeeds w env L F
        → ((r : PieceId) → Mem r L → needs w env r p ≡ true → F r ≡ true) → ((r : PieceId) → Mem r L → needs w env r q ≡ true → F r ≡ true)
        → (c : Location) → touches w env p c ≡ true → at_location (partial w (adds F q) L s) c ≡ at_location (partial w F L s) c
    undisturbed L order s ends F p q mp mq differ out_p out_q holds preds_p preds_q c t =
        let last : (partial w (adds F q) L s ≡ apply w q (partial w F L s)) × HasInputs w env q (partial w F L s) = exchange L order s ends F q mq out_q holds preds_q in
        ap (λ z. at_location z c) last.0
        ∙ sym (turns.unread Present Location (Option RowValues × Option Value) (Option Note) (List Note) PieceId at_location (λ s. s.note) (apply w) (says w) noted_by (touches w env) (writes w env) (HasInputs w env)
        (laws w well_formed env) p q (partial w F L s) last.1
        (apart_either p q (either L order p q mp mq differ)
        (unlike _ (λ n. true≢false (sym (preds_q p mp n) ∙ out_p)))
        (unlike _ (λ n. true≢false (sym (preds_p q mq n) ∙ out_q)))) c t)
