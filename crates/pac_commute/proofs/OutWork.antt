-- What a piece that is out finds stays as it was, whatever steps are made meanwhile.
use Rattle.std.proofs.Common.{◌≡◌, ℕ, ◌<◌, nat_lt, true, false, cond, ◌&&◌, ◌||◌, ◌==◌, refl, sym, ap, ◌∙◌, true≢false, Option, None, arith}
use Rattle.std.specs.FinMap.{get}
use Rattle.std.proofs.lemmas.Bool.Decides.{nat_tests}
use Rattle.pac_value.specs.declared.values.Value.{Value}
use Rattle.pac_value.specs.State.{Cell, RowValues}
use Rattle.pac_ops.specs.Operations.{State}
use Rattle.pac_ops.specs.Effects.{numbered_meaning, defined_in, used_in}
use Rattle.pac_ops.specs.declared.piece.PieceId.{PieceId}
use Rattle.pac_plan.specs.Analysis.{IsPlan}
use Rattle.pac_base.specs.Members.{Mem}
use Rattle.pac_plan.specs.Pieces.{is_piece, adds, ops, apply, covers, covers_write, Location, RowOf, VarOf, at_location, touches, writes}
use Rattle.pac_commute.specs.Works.{IsWork, worked, IsOutcome}
use Rattle.pac_commute.specs.Loads.{Job, begin, next_in_job, loaded, and_batch}
use Rattle.pac_commute.specs.Machine.{Machine, world_at, pieces_at, ends_at, access_at, NeedsFinished, MayBeTaken, StepBy, Loaded, Given, Ran, Kept, GivenBack, StaysOutBy, IsOutBy, KeepsJob, FindsTheSame}
use Rattle.pac_commute.specs.Machine as machine
use Rattle.pac_base.proofs.TestLemmas.{or_left, or_right, eq_self, same_number, and_left, and_both}
use Rattle.pac_commute.proofs.PlanFacts.{well_formed_plan, needs_plan, undisturbed_plan}
use Rattle.pac_commute.proofs.Apart.{covered_home}
use Rattle.pac_commute.proofs.Steps.{in_tables, keeps, keeps_load, piece_self, still_out}

module _ (job : Job) (is : IsPlan job.parts) (p : PieceId) where
  -- what it finds, but for the work
  record Same (m n : Machine) : Type 0 where
    operations : ops (world_at job n) p ≡ ops (world_at job m) p
    vars : (world_at job n).vars p.txn ≡ (world_at job m).vars p.txn
    accesses : access_at job n p ≡ access_at job m p
    alike : (c : Location) → touches (world_at job m) (ends_at job m) p c ≡ true → at_location n.now c ≡ at_location m.now c

  touches_same : (m n : Machine) → Same m n → (c : Location) → touches (world_at job n) (ends_at job n) p c ≡ touches (world_at job m) (ends_at job m) p c
  touches_same m n same (RowOf a) = ap (λ x. p.block == (world_at job m).home a.0 && covers x a) same.accesses
  touches_same m n same (VarOf t x) = ap (λ os. t == p.txn && (used_in os x || defined_in os x)) same.operations

  writes_same : (m n : Machine) → Same m n → (c : Location) → writes (world_at job n) (ends_at job n) p c ≡ writes (world_at job m) (ends_at job m) p c
  writes_same m n same (RowOf a) = ap (λ x. p.block == (world_at job m).home a.0 && covers_write x a) same.accesses
  writes_same m n same (VarOf t x) = ap (λ os. t == p.txn && defined_in os x) same.operations

  worked_same : (m n : Machine) → Same m n → (copies : State) → worked (world_at job n) p copies ≡ worked (world_at job m) p copies
  worked_same m n same copies = λ i. numbered_meaning (same.vars i) (same.operations i) copies

  stays_put : (m n : Machine) → ops (world_at job n) p ≡ ops (world_at job m) p → (world_at job n).vars p.txn ≡ (world_at job m).vars p.txn → access_at job n p ≡ access_at job m p → n.now ≡ m.now → Same m n
  stays_put m n o v a e = record { operations = o; vars = v; accesses = a; alike = λ c t. ap (λ z. at_location z c) e }

  both : (m n o : Machine) → Same m n → Same n o → Same m o
  both m n o a b = record {
    operations = b.operations ∙ a.operations;
    vars = b.vars ∙ a.vars;
    accesses = b.accesses ∙ a.accesses;
    alike = λ c t. b.alike c (touches_same m n a c ∙ t) ∙ a.alike c t;
  }

  -- another piece is applied
  other : (m : Machine) → KeepsJob job m → m.out p ≡ true → (q : PieceId) → Mem q (pieces_at job m) → m.finished q ≡ false → NeedsFinished job m q → (p ≡ q → ⊥)
      → (c : Location) → touches (world_at job m) (ends_at job m) p c ≡ true → at_location (apply (world_at job m) q m.now) c ≡ at_location m.now c
  other m inv out q mq unfinished preds differ c t =
      let o = inv.outs p out in
      let moved = (needs_plan job.parts is job.first m.batches inv.run_on (in_tables job m inv) (begin job m.batches) m.finished q mq unfinished inv.closed preds).0 in
      ap (λ z. at_location (apply (world_at job m) q z) c) inv.now ∙ ap (λ z. at_location z c) (sym moved)
      ∙ undisturbed_plan job.parts is job.first m.batches inv.run_on (in_tables job m inv) (begin job m.batches) m.finished p q o.there mq differ o.unfinished unfinished inv.closed
      o.needed preds c t
      ∙ ap (λ z. at_location z c) (sym inv.now)

  step_same : {m n : Machine} → StepBy job (MayBeTaken job) m n → KeepsJob job m → m.out p ≡ true → n.out p ≡ true → Same m n
  step_same (Loaded m batch next fits) inv out out' =
      let k = keeps_load job is m inv batch next fits in
      let old = (k.there p (inv.outs p out).there).0 in
      record { operations = k.operations p old; vars = k.vars p.txn old; accesses = k.accesses p old; alike = λ c t. go old c t }
    where
      go : p.txn < next_in_job job m.batches → (c : Location) → touches (world_at job m) (ends_at job m) p c ≡ true
          → at_location (loaded (next_in_job job m.batches) (begin job (and_batch m.batches batch)).envs m.now) c ≡ at_location m.now c
      go lt (RowOf a) t = refl
      go lt (VarOf u x) t =
          let same : u ≡ p.txn = same_number u p.txn (and_left (u == p.txn) _ t) in
          let lu : u < next_in_job job m.batches = omega (arith, lt, same) in
          ap (λ b. (None, get (cond b (m.now.envs u) ((begin job (and_batch m.batches batch)).envs u)) x)) (below u (next_in_job job m.batches) lu)
        where
          below : (t n : ℕ) → t < n → nat_lt t n ≡ true
          below t n lt = grind (arith, nat_tests)
  step_same (Given m q may keys) inv out out' = stays_put m (record m { out = adds m.out q }) refl refl refl refl
  step_same (Ran m q may) inv out out' = record {
    operations = refl;
    vars = refl;
    accesses = refl;
    alike = other m inv out q may.there may.unfinished may.needed (λ e. true≢false (sym out ∙ ap m.out e ∙ may.in_hand));
  }
  step_same (Kept m q is_out) inv out out' =
      let o = inv.outs q is_out in
      record {
        operations = refl;
        vars = refl;
        accesses = refl;
        alike = other m inv out q o.there o.unfinished o.needed (λ e. true≢false (sym (ap (λ x. is_piece x p) (sym e) ∙ piece_self p) ∙ (still_out m.out q p out').1));
      }
  step_same (GivenBack m out still) inv o o' = stays_put m (record m { out = out }) refl refl refl refl

  all_same : {m n : Machine} → StaysOutBy job (MayBeTaken job) p m n → KeepsJob job m → m.out p ≡ true → Same m n
  all_same (machine.StaysOutBy.Stop m) inv out = stays_put m m refl refl refl refl
  all_same (machine.StaysOutBy.Then m n o step out' more) inv out = both m n o (step_same step inv out out') (all_same more (keeps job is step inv) out')

  pub work_stays : {m n : Machine} → StaysOutBy job (MayBeTaken job) p m n → KeepsJob job m → m.out p ≡ true → FindsTheSame job p m n
  work_stays {m} {n} stays inv out = let same = all_same stays inv out in let o = inv.outs p out in record {
    operations = same.operations;
    vars = same.vars;
    accesses = same.accesses;
    alike = same.alike;
    work = λ copies is_work. work same o copies is_work;
    done = λ copies rows outs is_done. done same copies rows outs is_done;
  }
    where
      done : Same m n → (copies : State) (rows : Cell → Option (Option RowValues)) (outs : ℕ → Option Value)
          → IsOutcome (world_at job m) (ends_at job m) p copies rows outs → IsOutcome (world_at job n) (ends_at job n) p copies rows outs
      done same copies rows outs is_done = record {
        written = λ q row e. let h = is_done.written q row e in (writes_same m n same (RowOf q) ∙ h.0, ap (λ (z : State). get z.tables q) (worked_same m n same copies) ∙ h.1);
        unwritten = λ q e. ap (λ (z : State). get z.tables q) (worked_same m n same copies) ∙ is_done.unwritten q e;
        given = λ x v e. let h = is_done.given x v e in (ap (λ os. defined_in os x) same.operations ∙ h.0, ap (λ (z : State). get z.env x) (worked_same m n same copies) ∙ h.1);
        ungiven = λ x e. ap (λ (z : State). get z.env x) (worked_same m n same copies) ∙ is_done.ungiven x e;
      }

      work : Same m n → IsOutBy job m p → (copies : State) → IsWork (world_at job m) (ends_at job m) p m.now copies → IsWork (world_at job n) (ends_at job n) p n.now copies
      work same o copies is_work = record {
        rows = λ a c. let c' : covers (access_at job m p) a ≡ true = ap (λ x. covers x a) (sym same.accesses) ∙ c in
            is_work.rows a c' ∙ sym (ap (λ r. r.0) (same.alike (RowOf a) (and_both _ _ (covered_home (world_at job m) (well_formed_plan job.parts is job.first m.batches) (ends_at job m) p o.keys a c') c')));
        inputs = λ x u d.
            let u' : used_in (ops (world_at job m) p) x ≡ true = ap (λ os. used_in os x) (sym same.operations) ∙ u in
            is_work.inputs x u' (ap (λ os. defined_in os x) (sym same.operations) ∙ d)
            ∙ sym (ap (λ r. r.1) (same.alike (VarOf p.txn x) (and_both _ _ (eq_self p.txn) (or_left _ (defined_in (ops (world_at job m) p) x) u'))));
        fresh = λ x d.
            let d' : defined_in (ops (world_at job m) p) x ≡ true = ap (λ os. defined_in os x) (sym same.operations) ∙ d in
            is_work.fresh x d'
            ∙ sym (ap (λ r. r.1) (same.alike (VarOf p.txn x) (and_both _ _ (eq_self p.txn) (or_right (used_in (ops (world_at job m) p) x) _ d'))));
      }
