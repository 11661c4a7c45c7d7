-- The finish of a share is a list of steps; and a share that is lent stays what it is, whatever is loaded and finished beside it.
use Rattle.std.proofs.Common.{◌≡◌, ℕ, ◌<◌, nat_lt, Bool, true, cond, ◌&&◌, ◌||◌, ◌==◌, List, [], ◌∷◌, ◌++◌, refl, sym, ap, ap₂, ◌∙◌, subst, None, inl, inr, arith}
use Rattle.std.proofs.lemmas.Bool.Decides.{nat_tests}
use Rattle.std.specs.List.{list_any}
use Rattle.std.specs.FinMap.{get}
use Rattle.pac_value.specs.Expressions.{Values}
use Rattle.pac_ops.specs.declared.batch.Batch.{Batch}
use Rattle.pac_ops.specs.declared.piece.PieceId.{PieceId}
use Rattle.pac_ops.specs.Effects.{NumberedOp, defined_in, used_in}
use Rattle.pac_base.specs.Members.{Each, Mem}
use Rattle.pac_plan.specs.Analysis.{IsPlan}
use Rattle.pac_plan.specs.Pieces.{Present, World, run_ops, ops, apply, covers, is_piece, adds, Location, RowOf, VarOf}
use Rattle.pac_plan.specs.Worlds.{blocks_in}
use Rattle.pac_commute.specs.PlanLaws.{numbers_of}
use Rattle.pac_commute.specs.PartialFits.{TxnsFitPlan}
use Rattle.pac_commute.specs.Loads.{Job, begin, next_in_job, loaded, and_batch, LoadKeeps}
use Rattle.pac_commute.specs.Machine.{Machine, among, world_at, pieces_at, ends_at}
use Rattle.pac_commute.proofs.PlanFacts.{well_formed_plan, needs_plan, ends_as_replayed}
use Rattle.pac_base.proofs.TestLemmas.{or_right, and_left, same_number, any_gives, mem_each, each_mem}
use Rattle.pac_lanes.specs.Shares.{applied_each, adds_all, RunsInOrder, HasInputsAtTurns, IsShareRun}
use Rattle.pac_lanes.specs.Lanes.{Lane, StaysIn, is_lent_with, Agree, ArePart, IsPutBack}
use Rattle.pac_commute.specs.Machine.{MayBeTaken, StepBy, StepsBy, KeepsJob}
use Rattle.pac_commute.specs.Machine as steps
use Rattle.pac_lanes.specs.Finish.{NothingOut, after_share, RunsAt, ShareStep, Loaded, Finished, ShareSteps, Any, FinishIsSteps, StepIsSteps, OpensShares, SharesKeep, SharesStayFinished, SharesEnd, IsLent, LentHasInputs, Beside, StaysLent, LentStays, ReturnIsFinish}
use Rattle.pac_lanes.specs.Finish as finish
use Rattle.pac_commute.proofs.Steps.{opens, runs_keep, in_tables, keeps_load, old_needs}
use Rattle.pac_lanes.proofs.ShareLemmas.{run_law, may_be_parted}
use Rattle.pac_lanes.proofs.LaneLemmas.{others_spare, put_back}

-- ---- steps

pub finish_is_steps : FinishIsSteps
finish_is_steps job m none [] runs = steps.StepsBy.Stop m
finish_is_steps job m none (p ∷ ps) runs =
    let next : Machine = record m { finished = adds m.finished p; now = apply (world_at job m) p m.now } in
    steps.StepsBy.Then m next (after_share job next ps)
    (steps.StepBy.Ran m p (record { there = runs.0; in_hand = none p; unfinished = runs.1; needed = runs.2 }))
    (finish_is_steps job next none ps runs.3)

pub step_is_steps : (job : Job) (May : Machine → List PieceId → Type 0) {m n : Machine} → ShareStep job May m n → NothingOut m → StepsBy job (MayBeTaken job) m n × (NothingOut n)
step_is_steps job May (Loaded m batch next fits) none = (steps.StepsBy.Then m _ _ (steps.StepBy.Loaded m batch next fits) (steps.StepsBy.Stop _), none)
step_is_steps job May (Finished m ps runs may) none = (finish_is_steps job m none ps runs, none)

-- ---- what is kept

pub step_keeps : (job : Job) → IsPlan job.parts → (May : Machine → List PieceId → Type 0) {m n : Machine} → ShareStep job May m n → KeepsJob job m → NothingOut m → KeepsJob job n × (NothingOut n)
step_keeps job is May step inv none =
    let s = step_is_steps job May step none in
    (runs_keep job is s.0 inv, s.1)

pub all_keep : (job : Job) → IsPlan job.parts → (May : Machine → List PieceId → Type 0) {m n : Machine} → ShareSteps job May m n → KeepsJob job m → NothingOut m → KeepsJob job n × (NothingOut n)
all_keep job is May (finish.ShareSteps.Stop m) inv none = (inv, none)
all_keep job is May (finish.ShareSteps.Then m n o step more) inv none = let k = step_keeps job is May step inv none in all_keep job is May more k.0 k.1

pub opens_shares : OpensShares
opens_shares job = ((opens job).0, λ p. refl)

stay_finished : (ps : List PieceId) (F : PieceId → Bool) (p : PieceId) → F p ≡ true → adds_all F ps p ≡ true
stay_finished [] F p f = f
stay_finished (q ∷ ps) F p f = stay_finished ps (adds F q) p (or_right (is_piece q p) (F p) f)

step_finished : (job : Job) {m n : Machine} → ShareStep job Any m n → (p : PieceId) → m.finished p ≡ true → n.finished p ≡ true
step_finished job (Loaded m batch next fits) p f = f
step_finished job (Finished m ps runs may) p f = stay_finished ps m.finished p f

steps_finished : (job : Job) {m n : Machine} → ShareSteps job Any m n → (p : PieceId) → m.finished p ≡ true → n.finished p ≡ true
steps_finished job (finish.ShareSteps.Stop m) p f = f
steps_finished job (finish.ShareSteps.Then m n o step more) p f = steps_finished job more p (step_finished job step p f)

pub shares_stay_finished : SharesStayFinished
shares_stay_finished job m n all p f = steps_finished job all p f

pub shares_end : SharesEnd
shares_end job is m inv all =
    let end = ends_as_replayed job.parts is job.first m.batches inv.run_on (in_tables job m inv) job.tables m.finished all in
    (ap (λ (z : Present). z.tables) inv.now ∙ end.0, ap (λ (z : Present). z.note) inv.now ∙ end.1)

-- ---- a share that is lent

pub run_at : (job : Job) → IsPlan job.parts → (m : Machine) → KeepsJob job m → (ps : List PieceId) → RunsAt job m ps → IsShareRun (world_at job m) (ends_at job m) (pieces_at job m) (begin job m.batches) m.finished ps
run_at job is m inv ps runs = run_law (world_at job m) (numbers_of job.first m.batches) (blocks_in job.parts)
    (needs_plan job.parts is job.first m.batches inv.run_on (in_tables job m inv)) (begin job m.batches) m.finished ps inv.closed runs

pub lent_has_inputs : LentHasInputs
lent_has_inputs job is m inv ps runs = subst (HasInputsAtTurns (world_at job m) (ends_at job m) ps) (sym inv.now) (run_at job is m inv ps runs).inputs

pub any_same : (f g : PieceId → Bool) (ps : List PieceId) → ((p : PieceId) → Mem p ps → f p ≡ g p) → list_any f ps ≡ list_any g ps
any_same f g [] same = refl
any_same f g (p ∷ ps) same = ap₂ ◌||◌ (same p (inl refl)) (any_same f g ps (λ q m. same q (inr m)))

pub runs_there : (w : World) (env : ℕ → Values) (L : List PieceId) (F : PieceId → Bool) (ps : List PieceId) → RunsInOrder w env L F ps → (p : PieceId) → Mem p ps → Mem p L
runs_there w env L F [] runs p m = absurd m
runs_there w env L F (q ∷ ps) runs p (inl same) = subst (λ x. Mem x L) (sym same) runs.0
runs_there w env L F (q ∷ ps) runs p (inr m) = runs_there w env L (adds F q) ps runs.3 p m

module _ (job : Job) (is : IsPlan job.parts) (lane : Lane) (share : List PieceId) where
  -- a batch is loaded
  module _ (m : Machine) (inv : KeepsJob job m) (lent : IsLent job m lane share) (batch : Batch) (next : batch.first ≡ next_in_job job m.batches) (fits : TxnsFitPlan job.parts batch.txns) where
    abbrev n : Machine
    n = record m { batches = and_batch m.batches batch; now = loaded (next_in_job job m.batches) (begin job (and_batch m.batches batch)).envs m.now }

    pub load : LoadKeeps job m.batches batch
    load = keeps_load job is m inv batch next fits

    pub is_old : (p : PieceId) → Mem p share → p.txn < next_in_job job m.batches
    is_old p k = (load.there p (runs_there (world_at job m) (ends_at job m) (pieces_at job m) m.finished share lent.runs p k)).0

    runs_on : (F : PieceId → Bool) (ps : List PieceId) → RunsInOrder (world_at job m) (ends_at job m) (pieces_at job m) F ps → RunsInOrder (world_at job n) (ends_at job n) (pieces_at job n) F ps
    runs_on F [] runs = tt
    runs_on F (p ∷ ps) runs =
        let old = load.there p runs.0 in (
          old.1,
          runs.1,
          λ q mq pr. let was = old_needs job is m inv batch next fits q p mq old.0 pr in runs.2 q was.0 was.1,
          runs_on (adds F p) ps runs.3,
        )

    stays_on : (p : PieceId) → Mem p share → StaysIn (world_at job m) (ends_at job m) lane p → StaysIn (world_at job n) (ends_at job n) lane p
    stays_on p k stays = (stays.0, λ a t. stays.1 a (ap (λ x. p.block == (world_at job m).home a.0 && covers x a) (sym (load.accesses p (is_old p k))) ∙ t))

    places_same : (c : Location) → is_lent_with (world_at job n) lane share c ≡ is_lent_with (world_at job m) lane share c
    places_same (RowOf a) = refl
    places_same (VarOf t x) = any_same _ _ share (λ p k. ap (λ (os : List NumberedOp). t == p.txn && (used_in os x || defined_in os x)) (load.operations p (is_old p k)))

    values_same : Agree (is_lent_with (world_at job m) lane share) n.now m.now
    values_same (RowOf a) k = refl
    values_same (VarOf t x) k =
        let r = any_gives (λ (p : PieceId). t == p.txn && (used_in (ops (world_at job m) p) x || defined_in (ops (world_at job m) p) x)) share k in
        let same : t ≡ r.0.txn = same_number t r.0.txn (and_left (t == r.0.txn) _ r.2) in
        let old : r.0.txn < next_in_job job m.batches = is_old r.0 r.1 in
        ap (λ b. (None, get (cond b (m.now.envs t) ((begin job (and_batch m.batches batch)).envs t)) x)) (below t (next_in_job job m.batches) (omega (arith, same, old)))
      where
        below : (t n : ℕ) → t < n → nat_lt t n ≡ true
        below t n lt = grind (arith, nat_tests)

    apply_same : (p : PieceId) → Mem p share → (s : Present) → apply (world_at job n) p s ≡ apply (world_at job m) p s
    unfolding apply
    apply_same p k s = ap₂ (λ vars os. run_ops p.txn vars os s) (load.vars p.txn (is_old p k)) (load.operations p (is_old p k))

    does_same : (ps : List PieceId) → ArePart ps share → (s : Present) → applied_each (world_at job n) ps s ≡ applied_each (world_at job m) ps s
    does_same [] part s = refl
    does_same (p ∷ ps) part s = does_same ps (λ q k. part q (inr k)) (apply (world_at job n) p s) ∙ ap (applied_each (world_at job m) ps) (apply_same p (part p (inl refl)) s)

    pub lent_loaded : StaysLent job lane share m n
    lent_loaded = record {
      lent = record { stays = each_mem _ share (λ p k. stays_on p k (mem_each _ share lent.stays p k)); runs = runs_on m.finished share lent.runs };
      places = places_same;
      same = values_same;
      does = does_same;
    }

  -- pieces beside it are finished
  pub lent_beside : (m : Machine) → KeepsJob job m → IsLent job m lane share → (qs : List PieceId) → RunsAt job m qs → Beside job lane share m qs → StaysLent job lane share m (after_share job m qs)
  lent_beside m inv lent qs runs (other, disjoint, stays, apart) =
      let spared = others_spare (world_at job m) (well_formed_plan job.parts is job.first m.batches) (ends_at job m) (pieces_at job m) lane other disjoint share lent.stays m.finished qs m.now apart stays lent.runs runs
      (lent_has_inputs job is m inv qs runs) in
      record {
        lent = record { stays = lent.stays; runs = spared.1 };
        places = λ c. refl;
        same = spared.0;
        does = λ ps part s. refl;
      }

  one_step : {m n : Machine} → ShareStep job (Beside job lane share) m n → KeepsJob job m → IsLent job m lane share → StaysLent job lane share m n
  one_step (Loaded m batch next fits) inv lent = lent_loaded m inv lent batch next fits
  one_step (Finished m qs runs beside) inv lent = lent_beside m inv lent qs runs beside

  both : {m n o : Machine} → StaysLent job lane share m n → StaysLent job lane share n o → StaysLent job lane share m o
  both a b = record {
    lent = b.lent;
    places = λ c. b.places c ∙ a.places c;
    same = λ c k. b.same c (a.places c ∙ k) ∙ a.same c k;
    does = λ ps part s. b.does ps part s ∙ a.does ps part s;
  }

  pub lent_steps : {m n : Machine} → ShareSteps job (Beside job lane share) m n → KeepsJob job m → NothingOut m → IsLent job m lane share → StaysLent job lane share m n × KeepsJob job n × (NothingOut n)
  lent_steps (finish.ShareSteps.Stop m) inv none lent = (record { lent = lent; places = λ c. refl; same = λ c k. refl; does = λ ps part s. refl }, inv, none)
  lent_steps (finish.ShareSteps.Then m n o step more) inv none lent =
      let one = one_step step inv lent in
      let k = step_keeps job is (Beside job lane share) step inv none in
      let rest = lent_steps more k.0 k.1 one.lent in
      (both one rest.0, rest.1, rest.2)

pub lent_stays : LentStays
lent_stays job is lane share m n inv none lent all = lent_steps job is lane share all inv none lent

pub mem_first : (p : PieceId) (xs ys : List PieceId) → Mem p xs → Mem p (xs ++ ys)
mem_first p [] ys m = absurd m
mem_first p (x ∷ xs) ys (inl e) = inl e
mem_first p (x ∷ xs) ys (inr m) = inr (mem_first p xs ys m)

each_last : (R : PieceId → Type 0) (xs ys : List PieceId) → Each R (xs ++ ys) → Each R ys
each_last R [] ys e = e
each_last R (x ∷ xs) ys e = each_last R xs ys e.1

pub return_is_finish : ReturnIsFinish
return_is_finish job is lane run rest m n inv none lent all given after agree no_note put =
    let stays = lent_stays job is lane (run ++ rest) m n inv none lent all in
    let parts = (may_be_parted (world_at job n) (ends_at job n) (pieces_at job n) n.finished run rest).0.0 stays.0.lent.runs in
    let part : ArePart run (run ++ rest) = λ p k. mem_first p run rest k in (
      parts.0,
      sym (put_back (world_at job n) (well_formed_plan job.parts is job.first n.batches) (ends_at job n) lane (run ++ rest) run part stays.0.lent.stays given n.now after
          (lent_has_inputs job is n stays.1 run parts.0)
          (λ c k. let k' : is_lent_with (world_at job m) lane (run ++ rest) c ≡ true = sym (stays.0.places c) ∙ k in stays.0.same c k' ∙ agree c k')
          no_note
          (subst (λ s. IsPutBack (world_at job n) lane (run ++ rest) s n.now after) (sym (stays.0.does run part given)) put)),
      record {
        stays = each_last _ run rest stays.0.lent.stays;
        runs = parts.1;
      },
    )
