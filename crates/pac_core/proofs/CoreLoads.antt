-- What becomes of a core where a batch is loaded, where nothing is, and where nothing that counts is changed.
use Rattle.std.proofs.Common.{◌≡◌, ◌⊎◌, ℕ, ◌+◌, ◌≤◌, Bool, true, false, cond, not, List, [], ◌∷◌, ◌++◌, map, length, Result, Ok, Err, OnErr, OnOk, refl, sym, ap, ap₂, subst, ◌∙◌, inl, inr, arith}
use Rattle.std.specs.Prelude.{filter, slice_get, T}
use Rattle.std.specs.FinMap.{is_sorted}
use Rattle.pac_base.specs.Members.{Mem}
use Rattle.pac_value.specs.State.{Tables}
use Rattle.pac_ops.specs.declared.batch.Batch.{Batch}
use Rattle.pac_ops.specs.Shapes.{RowsFit}
use Rattle.pac_plan.specs.declared.parts.PlanParts.{PlanParts}
use Rattle.pac_plan.specs.Analysis.{IsPlan}
use Rattle.pac_plan.specs.Pieces.{Present}
use Rattle.pac_sched.specs.Schedules.{is_finished, is_out}
use Rattle.pac_sets.specs.declared.set_id.SetId.{SetId}
use Rattle.pac_sets.specs.SetOrder.{set_cmp}
use Rattle.pac_sets.specs.Sets.{Kept, Setting}
use Rattle.pac_undo.specs.Undo.{Undoable}
use Rattle.pac_commute.specs.Loads.{Job, begin, next_in_job}
use Rattle.pac_commute.specs.Machine.{KeepsJob, KeepsPrecedence, among}
use Rattle.pac_commute.specs.PartialFits.{TxnsFitPlan}
use Rattle.pac_commute.proofs.Ends.{machine_ends}
use Rattle.pac_commute.proofs.MachineFit.{machine_fits}
use Rattle.pac_commute.proofs.Steps as steps
use Rattle.pac_core.specs.declared.loaded.LoadedBatch.{LoadedBatch}
use Rattle.pac_core.specs.declared.progress.Progress.{Progress}
use Rattle.pac_core.specs.declared.stage.OpenSet.{OpenSet}
use Rattle.pac_core.specs.declared.stage.SetStage.{SetStage}
use Rattle.pac_core.specs.declared.stage.SetStage.TheVariants.{Waiting, Open}
use Rattle.pac_core.specs.Calls.{IsReplayDone, IsReplayOutcome}
use Rattle.pac_core.specs.Links.{AreStages, IsCore, IsOpened, KeepsProgress, KeepsValues, ReadyFrom, batches_of, core_of, job_of, pieces_marked, replay_so_far, set_ids}
use Rattle.pac_core.specs.Moves.{IsAlike, IsLoadedTo, IsOpeningProgress}
use Rattle.pac_core.specs.Replay.{Replay, left, loaded_pieces, machine_of, opening_replay, present_of, with_batch_loaded}
use Rattle.pac_core.proofs.Alike.{invariant_is, order_is, present_is}
use Rattle.pac_core.proofs.LoadedMore as more
use Rattle.pac_core.proofs.NextReady.{from_same}
use Rattle.pac_core.proofs.LoadingFacts.{pieces_counted, sets_sorted}

-- ---- the same is kept

module _ (job : Job) (p new : Progress) (a : IsAlike p new) (keeps : KeepsProgress job p) where
  batches_same : batches_of new ≡ batches_of p
  batches_same = ap (map (λ (l : LoadedBatch). l.batch)) a.batches

  sets_same : new.sets.sets ≡ p.sets.sets
  sets_same = ap (λ (s : Setting SetStage). s.sets) a.sets

  pub alike_same : replay_so_far job new ≡ replay_so_far job p
  alike_same = λ k. record {
    job = job;
    batches = batches_same k;
    is_closed = a.closed k;
    out = ap₂ (λ bs ss. pieces_marked is_out job bs ss) batches_same sets_same k;
    finished = ap₂ (λ bs ss. pieces_marked is_finished job bs ss) batches_same sets_same k;
  }

  pub alike_keeps : KeepsProgress job new
  alike_keeps = record {
    parts = keeps.parts ∙ sym a.pieces;
    first = keeps.first ∙ sym a.first;
    edges = ap (λ (s : Setting SetStage). s.edges) a.sets ∙ keeps.edges ∙ ap (λ (parts : PlanParts). parts.edges) (sym a.pieces);
    blocks = ap (λ (s : Setting SetStage). s.blocks) a.sets ∙ keeps.blocks ∙ ap (λ (parts : PlanParts). parts.blocks) (sym a.pieces);
    is_plan = keeps.is_plan;
    fit = keeps.fit;
    machine = subst (λ (x : Replay). KeepsJob job (machine_of x)) (sym alike_same) keeps.machine;
    order = subst (λ (x : Replay). KeepsPrecedence job (machine_of x)) (sym alike_same) keeps.order;
    note = a.note_is ∙ keeps.note ∙ ap (λ (x : Replay). (present_of x).note) (sym alike_same);
    next = a.next ∙ keeps.next ∙ ap (next_in_job job) (sym batches_same);
    unfinished = a.unfinished ∙ keeps.unfinished ∙ ap left (sym alike_same);
    sets = ap (map (λ (set : Kept SetStage). set.0)) sets_same ∙ keeps.sets ∙ ap (set_ids job.parts 0) (sym batches_same);
    ascend = subst (λ (ss : List (Kept SetStage)). T (is_sorted set_cmp ss)) (sym sets_same) keeps.ascend;
    stages = subst (λ (x : Replay). AreStages x new.sets.sets) (sym alike_same) (subst (AreStages (replay_so_far job p)) (sym sets_same) keeps.stages);
    values = subst (λ (x : Replay). KeepsValues x new.batches.items new.sets.sets) (sym alike_same)
        (subst (λ (ss : List (Kept SetStage)). KeepsValues (replay_so_far job p) new.batches.items ss) (sym sets_same)
        (subst (λ (ls : List LoadedBatch). KeepsValues (replay_so_far job p) ls p.sets.sets) (sym a.batches) keeps.values));
  }

  pub alike_seen : ReadyFrom job p p.recent → ReadyFrom job new new.recent
  alike_seen seen = subst (ReadyFrom job new) (sym a.recent) (from_same job p new keeps alike_keeps alike_same p.recent seen)

-- the job of a core stays where its plan and its first number do
pub same_job : (p new : Progress) (u : Undoable) → new.pieces ≡ p.pieces → new.first ≡ p.first → job_of new u ≡ job_of p u
same_job p new u pieces first = λ k. record { parts = pieces k; first = first k; tables = u.opening }

-- so does a core whose progress goes on for the same job, with the same tables
pub goes_on : (p new : Progress) (u : Undoable) (core : IsCore p u) → KeepsProgress (job_of p u) new → (replay_so_far (job_of p u) new ≡ core_of p u) → ReadyFrom (job_of p u) new new.recent
    → IsCore new u × (core_of new u ≡ core_of p u)
goes_on p new u core keeps same seen = (
  record {
    progress = subst (λ (j : Job). KeepsProgress j new) (sym job) keeps;
    tables = core.tables ∙ ap (λ (parts : PlanParts). length parts.tables) keeps.parts;
    rows = core.rows ∙ ap (λ (r : Replay). (present_of r).tables) (sym replay);
    seen = subst (λ (j : Job). ReadyFrom j new new.recent) (sym job) seen;
  },
  replay,
)
  where
    job : job_of new u ≡ job_of p u
    job = same_job p new u (sym keeps.parts) (sym keeps.first)

    replay : core_of new u ≡ core_of p u
    replay = ap (λ (j : Job). replay_so_far j new) job ∙ same

-- ---- a batch is loaded

module _ (p : Progress) (u : Undoable) (core : IsCore p u) (batch : Batch) (first : batch.first ≡ p.next) (fits : TxnsFitPlan p.pieces batch.txns) (new : Progress) (to : IsLoadedTo p batch new) where
  abbrev job : Job
  job = job_of p u

  first_is : batch.first ≡ next_in_job job (batches_of p)
  first_is = first ∙ core.progress.next

  up : T (is_sorted set_cmp (p.sets.sets ++ to.more))
  up = sets_sorted job p core.progress batch to.more to.waiting

  job_is : job_of new u ≡ job
  job_is = same_job p new u to.pieces to.first

  replay_is : replay_so_far job new ≡ with_batch_loaded (core_of p u) batch
  replay_is = more.loads job p core.progress batch first_is fits new to up

  pub loaded_is : core_of new u ≡ with_batch_loaded (core_of p u) batch
  loaded_is = ap (λ (j : Job). replay_so_far j new) job_is ∙ replay_is

  pub loaded_left : left (core_of new u) + length (loaded_pieces (core_of p u)) ≡ left (core_of p u) + length (loaded_pieces (core_of new u))
  loaded_left = subst (λ (r : Replay). left r + length (loaded_pieces (core_of p u)) ≡ left (core_of p u) + length (loaded_pieces r)) (sym loaded_is)
      (more.left_more job p core.progress batch first_is fits new to up)

  pub loaded_core : IsCore new u
  loaded_core = record {
    progress = subst (λ (j : Job). KeepsProgress j new) (sym job_is)
        (more.load_keeps job p core.progress batch first_is fits new to up (pieces_counted job (batches_of p) core.progress.machine.run_on batch first_is));
    tables = core.tables ∙ ap (λ (parts : PlanParts). length parts.tables) (sym to.pieces);
    rows = core.rows ∙ ap (λ (s : Present). s.tables) (more.present_now job p core.progress batch first_is fits new to up) ∙ ap (λ (r : Replay). (present_of r).tables) (sym loaded_is);
    seen = λ q j kept ready there. subst (λ n. n ≤ j) (sym to.recent) (omega arith);
  }

-- ---- nothing is loaded

module _ (parts : PlanParts) (is_plan : IsPlan parts) (first : ℕ) (tables : Tables) (fit : RowsFit parts.tables tables) (p : Progress) (opening : IsOpeningProgress parts first p) where
  abbrev opened_job : Job
  opened_job = record { parts = parts; first = first; tables = tables }

  none_loaded : batches_of p ≡ []
  none_loaded = ap (map (λ (l : LoadedBatch). l.batch)) opening.batches

  none_kept : p.sets.sets ≡ []
  none_kept = ap (λ (s : Setting SetStage). s.sets) opening.sets

  pub opening_is : replay_so_far opened_job p ≡ opening_replay opened_job
  opening_is = λ k. record {
    job = opened_job;
    batches = none_loaded k;
    is_closed = opening.opening k;
    out = ap₂ (λ bs ss. pieces_marked is_out opened_job bs ss) none_loaded none_kept k;
    finished = ap₂ (λ bs ss. pieces_marked is_finished opened_job bs ss) none_loaded none_kept k;
  }

  pub opening_keeps : KeepsProgress opened_job p
  opening_keeps = record {
    parts = sym opening.pieces;
    first = sym opening.first_is;
    edges = ap (λ (s : Setting SetStage). s.edges) opening.sets ∙ ap (λ (x : PlanParts). x.edges) (sym opening.pieces);
    blocks = ap (λ (s : Setting SetStage). s.blocks) opening.sets ∙ ap (λ (x : PlanParts). x.blocks) (sym opening.pieces);
    is_plan = is_plan;
    fit = fit;
    machine = subst (λ (x : Replay). KeepsJob opened_job (machine_of x)) (sym opening_is)
        (invariant_is (opening_replay opened_job) (among []) (among []) (begin opened_job []) (steps.opens opened_job).0 (λ q mem. refl) (λ q mem. absurd mem) (λ q mem. absurd mem));
    order = subst (λ (x : Replay). KeepsPrecedence opened_job (machine_of x)) (sym opening_is)
        (order_is (opening_replay opened_job) (among []) (among []) (begin opened_job []) (steps.opens opened_job).0 (λ q mem. refl) (λ q mem. absurd mem) (λ q mem. absurd mem) (steps.opens opened_job).1);
    note = opening.note ∙ ap (λ (s : Present). s.note) (present_is (opening_replay opened_job) (among []) (among []) (begin opened_job []) (steps.opens opened_job).0 (λ q mem. refl) (λ q mem. absurd mem) (λ q mem. absurd mem))
        ∙ ap (λ (x : Replay). (present_of x).note) (sym opening_is);
    next = opening.next ∙ (let e : first ≡ first + 0 = omega arith in e) ∙ ap (next_in_job opened_job) (sym none_loaded);
    unfinished = opening.unfinished ∙ ap left (sym opening_is);
    sets = ap (map (λ (set : Kept SetStage). set.0)) none_kept ∙ ap (set_ids parts 0) (sym none_loaded);
    ascend = subst (λ (ss : List (Kept SetStage)). T (is_sorted set_cmp ss)) (sym none_kept) tt;
    stages = subst (AreStages (replay_so_far opened_job p)) (sym none_kept) (λ j set stage batch e there. absurd (cc e));
    values = λ k loaded there left. absurd (cc (ap (λ ls. slice_get ls k) (sym opening.batches) ∙ there));
  }

module _ (parts : PlanParts) (is_plan : IsPlan parts) (first : ℕ) (tables : Tables) (fit : RowsFit parts.tables tables) (p : Progress) (opening : IsOpeningProgress parts first p)
    (u : Undoable) (n : ℕ) (undo : u ≡ record { tables = n; opening = tables; current = tables }) (count : n ≡ length parts.tables) where
  abbrev new_job : Job
  new_job = record { parts = parts; first = first; tables = tables }

  new_job_is : job_of p u ≡ new_job
  new_job_is = λ k. record { parts = opening.pieces k; first = opening.first_is k; tables = (undo k).opening }

  pub opening_core_is : core_of p u ≡ opening_replay new_job
  opening_core_is = ap (λ (j : Job). replay_so_far j p) new_job_is ∙ opening_is parts is_plan first tables fit p opening

  pub opening_core : IsCore p u
  opening_core = record {
    progress = subst (λ (j : Job). KeepsProgress j p) (sym new_job_is) (opening_keeps parts is_plan first tables fit p opening);
    tables = ap (λ (x : Undoable). x.tables) undo ∙ count ∙ ap (λ (x : PlanParts). length x.tables) (sym opening.pieces);
    rows = ap (λ (x : Undoable). x.current) undo
        ∙ ap (λ (s : Present). s.tables) (present_is (opening_replay new_job) (among []) (among []) (begin new_job []) (steps.opens new_job).0 (λ q mem. refl) (λ q mem. absurd mem) (λ q mem. absurd mem))
        ∙ ap (λ (r : Replay). (present_of r).tables) (sym opening_core_is);
    seen = λ q j kept ready there. subst (λ n. n ≤ j) (sym opening.recent) (omega arith);
  }

-- ---- what a load leaves

module _ (p : Progress) (u : Undoable) (core : IsCore p u) (batch : Batch) (first : batch.first ≡ p.next) (fits : TxnsFitPlan p.pieces batch.txns) (new : Progress) where
  pub load_core : {A E : Type 0} (r : Result A E) → OnOk r (IsLoadedTo p batch new) → OnErr r (IsAlike p new) → IsCore new u
  load_core (Ok a) ok err = loaded_core p u core batch first fits new ok
  load_core (Err e) ok err = (goes_on p new u core (alike_keeps (job_of p u) p new err core.progress) (alike_same (job_of p u) p new err core.progress) (alike_seen (job_of p u) p new err core.progress core.seen)).0

  pub load_is : {A E : Type 0} (r : Result A E) → OnOk r (IsLoadedTo p batch new) → OnOk r (core_of new u ≡ with_batch_loaded (core_of p u) batch)
  load_is (Ok a) ok = loaded_is p u core batch first fits new ok
  load_is (Err e) ok = tt

  pub load_left : {A E : Type 0} (r : Result A E) → OnOk r (IsLoadedTo p batch new)
      → OnOk r (left (core_of new u) + length (loaded_pieces (core_of p u)) ≡ left (core_of p u) + length (loaded_pieces (core_of new u)))
  load_left (Ok a) ok = loaded_left p u core batch first fits new ok
  load_left (Err e) ok = tt

  pub load_same : {A E : Type 0} (r : Result A E) → OnErr r (IsAlike p new) → OnErr r (core_of new u ≡ core_of p u)
  load_same (Ok a) err = tt
  load_same (Err e) err = (goes_on p new u core (alike_keeps (job_of p u) p new err core.progress) (alike_same (job_of p u) p new err core.progress) (alike_seen (job_of p u) p new err core.progress core.seen)).1

-- ---- the end

-- what no test fails on passes it
all_pass : {A : Type 0} (test : A → Bool) (xs : List A) → length (filter (λ x. not (test x)) xs) ≡ 0 → (x : A) → Mem x xs → test x ≡ true
all_pass test [] e x m = absurd m
all_pass {A} test (y ∷ ys) e x m = go (test y) refl e m (all_pass test ys)
  where
    go : (b : Bool) → test y ≡ b → length (cond (not b) (y ∷ filter (λ x. not (test x)) ys) (filter (λ x. not (test x)) ys)) ≡ 0 → (x ≡ y) ⊎ Mem x ys
        → (length (filter (λ x. not (test x)) ys) ≡ 0 → (x : A) → Mem x ys → test x ≡ true) → test x ≡ true
    go true t e (inl same) rest = ap test same ∙ t
    go true t e (inr n) rest = rest e x n
    go false t e n rest = absurd (omega (arith, e))

module _ (p : Progress) (u : Undoable) (core : IsCore p u) (done : IsReplayDone (core_of p u)) where
  pub outcome_is : IsReplayOutcome (core_of p u) u.current p.note
  outcome_is =
      let ends = machine_ends (job_of p u) core.progress.is_plan (machine_of (core_of p u)) core.progress.machine
      (all_pass (among (core_of p u).finished) (loaded_pieces (core_of p u)) done.1) in
      record { tables_are = core.rows ∙ ends.0; note_is = core.progress.note ∙ ends.1 }

-- the tables of now fit the plan
pub outcome_fits : (p : Progress) (u : Undoable) → IsCore p u → RowsFit (job_of p u).parts.tables u.current
outcome_fits p u core =
    let now = (machine_fits (job_of p u) core.progress.is_plan core.progress.fit (machine_of (core_of p u)) core.progress.machine).0 in
    subst (λ (t : Tables). RowsFit (job_of p u).parts.tables t) (sym core.rows) now.rows

-- ---- no more come

pub closed_core : (p : Progress) (u : Undoable) → IsCore p u → IsCore (record p { is_closed = true }) u
closed_core p u core = record {
  progress = record {
    parts = core.progress.parts;
    first = core.progress.first;
    edges = core.progress.edges;
    blocks = core.progress.blocks;
    is_plan = core.progress.is_plan;
    fit = core.progress.fit;
    machine = core.progress.machine;
    order = core.progress.order;
    note = core.progress.note;
    next = core.progress.next;
    unfinished = core.progress.unfinished;
    sets = core.progress.sets;
    ascend = core.progress.ascend;
    stages = stages_closed;
    values = core.progress.values;
  };
  tables = core.tables;
  rows = core.rows;
  seen = core.seen;
}
  where
    opened : (set : SetId) (txns : List ℕ) (opening : OpenSet) → IsOpened (core_of p u) p.sets.sets set txns opening → IsOpened (core_of (record p { is_closed = true }) u) p.sets.sets set txns opening
    opened set txns opening is = record { pieces = is.pieces; pairs = is.pairs; order = is.order; cells = is.cells; passed = is.passed; left = is.left; size = is.size }

    stages_closed : AreStages (core_of (record p { is_closed = true }) u) p.sets.sets
    stages_closed j set (Waiting txns) batch there batch_there = core.progress.stages j set (Waiting txns) batch there batch_there
    stages_closed j set (Open opening) batch there batch_there =
        let is = core.progress.stages j set (Open opening) batch there batch_there in
        (is.0, is.1, opened set is.0 opening is.2)
