-- Each step of the machine keeps what is said of it, whatever readiness takes pieces, as long as what a piece needs is finished.
use Rattle.std.proofs.Common.{◌≡◌, ℕ, ◌<◌, ◌≤◌, nat_lt, ◌-◌, Bool, true, false, ◌&&◌, ◌||◌, ◌==◌, not, List, [], ◌∷◌, ◌++◌, length, refl, sym, ap, ◌∙◌, subst, true≢false, inl, inr, ⊎_elim, arith}
use Rattle.std.proofs.lemmas.Bool.Decides.{Decides-eqb, nat_tests}
use Rattle.pac_value.specs.Expressions.{Values}
use Rattle.pac_ops.specs.declared.batch.Batch.{Batch}
use Rattle.pac_ops.specs.declared.piece.PieceId.{PieceId}
use Rattle.pac_ops.specs.declared.transaction.Txn.{Txn}
use Rattle.pac_ops.specs.declared.transaction.Txn.TheVariants.{Call as ACall, AdHoc}
use Rattle.pac_plan.specs.declared.parts.PlanParts.{PlanParts}
use Rattle.pac_plan.specs.Analysis.{IsPlan}
use Rattle.pac_base.specs.Members.{Mem}
use Rattle.pac_plan.specs.Pieces.{World, is_piece, adds, apply, conflicts, needs, partial, HasInputs}
use Rattle.pac_commute.specs.Exchange.{HoldsNeeds}
use Rattle.pac_commute.specs.PlanLaws.{txns_of, AllInTables}
use Rattle.pac_commute.specs.PartialFits.{TxnIsOfPlan, TxnsFitPlan}
use Rattle.pac_commute.specs.Loads.{Job, begin, next_in_job, loaded, and_batch, LoadKeeps}
use Rattle.pac_commute.specs.Machine.{Machine, among, drops, world_at, pieces_at, ends_at, NeedsFinished, PredsFinished, MayBeTaken, IsReadyAt, StepBy, Loaded, Given, Ran, Kept, GivenBack, StepsBy, IsOutBy, KeepsJob, OpensJob, ReadyMayBeTaken, OrderedSteps, OutsApart, HaveInputs}
use Rattle.pac_commute.specs.Machine as machine
use Rattle.pac_base.proofs.TestLemmas.{or_left, or_right, eq_self, and_left, and_right, and_both, not_true, or_cases, any_gives, unlike}
use Rattle.pac_commute.proofs.BatchLemmas.{get-first, get-second, txns-more, run_on-more}
use Rattle.pac_commute.proofs.Laws.{precedes_needed}
use Rattle.pac_commute.proofs.PlanFacts.{well_formed_plan, needs_plan, inputs_plan}
use Rattle.pac_commute.proofs.Loads.{loads_keep}
use Rattle.pac_commute.proofs.Apart.{apart_by_needs}

-- ---- pieces

pub same_piece : (p q : PieceId) → is_piece p q ≡ true → p ≡ q
same_piece p q e = λ i. record {
  txn = (Decides-eqb p.txn q.txn).0 (and_left (p.txn == q.txn) (p.block == q.block) e) i;
  block = (Decides-eqb p.block q.block).0 (and_right (p.txn == q.txn) (p.block == q.block) e) i;
}

pub piece_self : (p : PieceId) → is_piece p p ≡ true
piece_self p = and_both _ _ (eq_self p.txn) (eq_self p.block)

pub among_mem : (ps : List PieceId) (q : PieceId) → among ps q ≡ true → Mem q ps
among_mem ps q e = let r = any_gives (λ p. is_piece p q) ps e in subst (λ x. Mem x ps) (same_piece r.0 q r.2) r.1

pub mem_among : (ps : List PieceId) (q : PieceId) → Mem q ps → among ps q ≡ true
mem_among [] q m = absurd m
mem_among (p ∷ ps) q (inl e) = or_left (is_piece p q) (among ps q) (ap (λ x. is_piece x q) (sym e) ∙ piece_self q)
mem_among (p ∷ ps) q (inr m) = or_right (is_piece p q) (among ps q) (mem_among ps q m)

-- ---- transactions that fit

pub records_in_tables : (parts : PlanParts) (txns : List Txn) → TxnsFitPlan parts txns → AllInTables parts txns
records_in_tables parts txns fits i (ACall call) e = tt
records_in_tables parts txns fits i (AdHoc records) e = fits i (AdHoc records) e

pub fit_more : (parts : PlanParts) (txns more : List Txn) → TxnsFitPlan parts txns → TxnsFitPlan parts more → TxnsFitPlan parts (txns ++ more)
fit_more parts txns more fits fit i txn e = go (nat_lt i (length txns)) refl
  where
    go : (b : Bool) → nat_lt i (length txns) ≡ b → TxnIsOfPlan parts txn
    go true h = let lt : i < length txns = grind (arith, nat_tests) in fits i txn (sym (get-first txns more i lt) ∙ e)
    go false h = let le : length txns ≤ i = grind (arith, nat_tests) in fit (i - length txns) txn (sym (get-second txns more i (i - length txns) (omega (arith, le))) ∙ e)

-- ---- nothing is loaded

pub opens : OpensJob
unfolding partial
opens job = (
  record { run_on = tt; fit = λ i txn e. absurd cc; closed = λ p q m n pr f. absurd m; finished = λ p f. absurd (true≢false (sym f)); outs = λ p o. absurd (true≢false (sym o)); now = refl },
  record { closed = λ p q m n pr f. absurd m; outs = λ p o. absurd (true≢false (sym o)) },
)

-- ---- readiness

-- what a piece needs precedes it
pub needs_finished : (job : Job) → IsPlan job.parts → (m : Machine) (p : PieceId) → PredsFinished job m p → NeedsFinished job m p
needs_finished job is m p preds q mq n = preds q mq (precedes_needed (world_at job m) (well_formed_plan job.parts is job.first m.batches) (ends_at job m) q p n)

pub may_be_taken : ReadyMayBeTaken
may_be_taken job is m p ready = record { there = ready.0; in_hand = ready.1; unfinished = ready.2; needed = needs_finished job is m p ready.3 }

-- steps by one readiness are steps by any that asks for less
pub steps_by : (job : Job) (Ready Less : Machine → PieceId → Type 0) → ((m : Machine) (p : PieceId) → Ready m p → Less m p) → {m n : Machine} → StepBy job Ready m n → StepBy job Less m n
steps_by job Ready Less less (Loaded m batch next fits) = Loaded m batch next fits
steps_by job Ready Less less (Given m p ready keys) = Given m p (less m p ready) keys
steps_by job Ready Less less (Ran m p ready) = Ran m p (less m p ready)
steps_by job Ready Less less (Kept m p out) = Kept m p out
steps_by job Ready Less less (GivenBack m out still) = GivenBack m out still

pub ordered_steps : OrderedSteps
ordered_steps job is m n step = steps_by job (IsReadyAt job) (MayBeTaken job) (may_be_taken job is) step

-- ---- what is kept

pub in_tables : (job : Job) (m : Machine) → KeepsJob job m → AllInTables job.parts (txns_of m.batches)
in_tables job m inv = records_in_tables job.parts (txns_of m.batches) inv.fit

-- where one piece is out no more, the others that are out are others
pub still_out : (F : PieceId → Bool) (p q : PieceId) → drops F p q ≡ true → (F q ≡ true) × (is_piece p q ≡ false)
still_out F p q e = (and_left (F q) (not (is_piece p q)) e, not_true (is_piece p q) (and_right (F q) (not (is_piece p q)) e))

module _ (job : Job) (is : IsPlan job.parts) where
  -- ---- a piece is finished

  module _ (m : Machine) (inv : KeepsJob job m) where
    abbrev w : World
    w = world_at job m

    abbrev L : List PieceId
    L = pieces_at job m

    abbrev env : ℕ → Values
    env = ends_at job m

    -- p is finished now
    finishes : (p : PieceId) → NeedsFinished job m p → HoldsNeeds w env L (adds m.finished p)
    finishes p needed q r mq mr n picked = or_right (is_piece p q) (m.finished q) (⊎_elim
        (λ e. needed q mq (subst (λ x. needs w env q x ≡ true) (sym (same_piece p r e)) n))
        (λ f. inv.closed q r mq mr n f)
        (or_cases (is_piece p r) (m.finished r) picked))

    finish : (p : PieceId) → Mem p L → m.finished p ≡ false → NeedsFinished job m p → (out : PieceId → Bool) → ((q : PieceId) → out q ≡ true → (m.out q ≡ true) × (is_piece p q ≡ false))
        → KeepsJob job (record { batches = m.batches; out = out; finished = adds m.finished p; now = apply w p m.now })
    finish p there unfinished needed out still = record {
      run_on = inv.run_on;
      fit = inv.fit;
      closed = finishes p needed;
      finished = λ q f. ⊎_elim (λ e. subst (λ x. Mem x L) (same_piece p q e) there) (λ k. inv.finished q k) (or_cases (is_piece p q) (m.finished q) f);
      outs = λ q e. let o = inv.outs q (still q e).0 in
          record { there = o.there; unfinished = ap (λ b. b || m.finished q) (still q e).1 ∙ o.unfinished; needed = λ r mr n. or_right (is_piece p r) (m.finished r) (o.needed r mr n); keys = o.keys };
      now = ap (apply w p) inv.now ∙ sym (needs_plan job.parts is job.first m.batches inv.run_on (in_tables job m inv) (begin job m.batches) m.finished p there unfinished inv.closed needed).0;
    }

    -- ---- one more batch

    module _ (batch : Batch) (next : batch.first ≡ next_in_job job m.batches) (fits : TxnsFitPlan job.parts batch.txns) where
      abbrev m' : Machine
      m' = record m { batches = and_batch m.batches batch; now = loaded (next_in_job job m.batches) (begin job (and_batch m.batches batch)).envs m.now }

      pub keeps_load : LoadKeeps job m.batches batch
      keeps_load = loads_keep job m.batches batch inv.run_on next

      pub old_finished : (p : PieceId) → m.finished p ≡ true → p.txn < next_in_job job m.batches
      old_finished p e = (keeps_load.there p (inv.finished p e)).0

      -- what was there needs the same
      needs_same : (p q : PieceId) → p.txn < next_in_job job m.batches → q.txn < next_in_job job m.batches
          → needs (world_at job m') (ends_at job m') p q ≡ needs w env p q
      needs_same p q lp lq = λ i. (p.txn == q.txn && w.edge p.block q.block) || (p.block == q.block && nat_lt p.txn q.txn && conflicts (keeps_load.accesses p lp i) (keeps_load.accesses q lq i))

      -- what a piece that was there needs was there, and it needed it
      pub old_needs : (p q : PieceId) → Mem p (pieces_at job m') → q.txn < next_in_job job m.batches → needs (world_at job m') (ends_at job m') p q ≡ true
          → Mem p L × (needs w env p q ≡ true)
      old_needs p q mp lt n = go (nat_lt p.txn (next_in_job job m.batches)) refl
        where
          go : (b : Bool) → nat_lt p.txn (next_in_job job m.batches) ≡ b → Mem p L × (needs w env p q ≡ true)
          go true h = let lp : p.txn < next_in_job job m.batches = grind (arith, nat_tests) in (keeps_load.old p mp lp, sym (needs_same p q lp lt) ∙ n)
          go false h = let le : next_in_job job m.batches ≤ p.txn = grind (arith, nat_tests) in
              absurd (true≢false (sym (precedes_needed (world_at job m') (well_formed_plan job.parts is job.first (and_batch m.batches batch)) (ends_at job m') p q n) ∙ keeps_load.later p q le lt))

      load_out : (p : PieceId) → IsOutBy job m p → IsOutBy job m' p
      load_out p o =
          let old = keeps_load.there p o.there in
          record {
            there = old.1;
            unfinished = o.unfinished;
            needed = λ q mq n. let was = old_needs q p mq old.0 n in o.needed q was.0 was.1;
            keys = λ whole. o.keys (sym (keeps_load.accesses p old.0) ∙ whole);
          }

      load_keeps : KeepsJob job m'
      load_keeps = record {
        run_on = run_on-more job.first m.batches batch inv.run_on next;
        fit = subst (TxnsFitPlan job.parts) (sym (txns-more m.batches batch)) (fit_more job.parts (txns_of m.batches) batch.txns inv.fit fits);
        closed = λ p q mp mq n f. let was = old_needs p q mp (old_finished q f) n in inv.closed p q was.0 (keeps_load.old q mq (old_finished q f)) was.1 f;
        finished = λ p f. (keeps_load.there p (inv.finished p f)).1;
        outs = λ p o. load_out p (inv.outs p o);
        now = ap (loaded (next_in_job job m.batches) (begin job (and_batch m.batches batch)).envs) inv.now
            ∙ sym (keeps_load.state m.finished (λ p le. unlike _ (λ f. let lt : p.txn < next_in_job job m.batches = old_finished p f in let high : next_in_job job m.batches ≤ p.txn = le in absurd (omega (arith, lt, high)))));
      }

  -- ---- each step

  pub keeps : {m n : Machine} → StepBy job (MayBeTaken job) m n → KeepsJob job m → KeepsJob job n
  keeps (Loaded m batch next fits) inv = load_keeps m inv batch next fits
  keeps (Given m p may keys) inv = record {
    run_on = inv.run_on;
    fit = inv.fit;
    closed = inv.closed;
    finished = inv.finished;
    outs = λ q e. ⊎_elim
        (λ same. subst (IsOutBy job (record m { out = adds m.out p })) (same_piece p q same) (record { there = may.there; unfinished = may.unfinished; needed = may.needed; keys = keys }))
        (λ k. let o = inv.outs q k in record { there = o.there; unfinished = o.unfinished; needed = o.needed; keys = o.keys })
        (or_cases (is_piece p q) (m.out q) e);
    now = inv.now;
  }
  keeps (Ran m p may) inv = finish m inv p may.there may.unfinished may.needed m.out
      (λ q e. (e, unlike (is_piece p q) (λ same. true≢false (sym e ∙ ap m.out (sym (same_piece p q same)) ∙ may.in_hand))))
  keeps (Kept m p out) inv = let o = inv.outs p out in finish m inv p o.there o.unfinished o.needed (drops m.out p) (still_out m.out p)
  keeps (GivenBack m out still) inv = record {
    run_on = inv.run_on;
    fit = inv.fit;
    closed = inv.closed;
    finished = inv.finished;
    outs = λ q e. let o = inv.outs q (still q e) in record { there = o.there; unfinished = o.unfinished; needed = o.needed; keys = o.keys };
    now = inv.now;
  }

  pub runs_keep : {m n : Machine} → StepsBy job (MayBeTaken job) m n → KeepsJob job m → KeepsJob job n
  runs_keep (machine.StepsBy.Stop m) inv = inv
  runs_keep (machine.StepsBy.Then m n o step steps) inv = runs_keep steps (keeps step inv)

-- ---- pieces that are out

pub have_inputs : HaveInputs
have_inputs job is m inv p needed = subst (HasInputs (world_at job m) (ends_at job m) p) (sym inv.now)
    (inputs_plan job.parts is job.first m.batches inv.run_on (in_tables job m inv) (begin job m.batches) m.finished p inv.closed
    (λ q mq e. needed q mq (or_left _ _ e)))

pub outs_apart : OutsApart
outs_apart job is m inv p q out_p out_q differ = (first p q op oq, apart_by_needs (world_at job m) (well_formed_plan job.parts is job.first m.batches) (ends_at job m) p q op.keys oq.keys differ (first p q op oq) (first q p oq op))
  where
    op : IsOutBy job m p
    op = inv.outs p out_p

    oq : IsOutBy job m q
    oq = inv.outs q out_q

    first : (a b : PieceId) → IsOutBy job m a → IsOutBy job m b → needs (world_at job m) (ends_at job m) a b ≡ false
    first a b oa ob = unlike _ (λ n. true≢false (sym (ob.needed a oa.there n) ∙ oa.unfinished))
