-- Each call of a core makes a step of the machine, and own work stays own as long as its piece is out.
use Rattle.std.proofs.Common.{◌≡◌, ℕ, ◌<◌, ◌≤◌, ◌+◌, ◌-◌, nat_lt, Bool, true, false, cond, not, ◌&&◌, ◌||◌, ◌==◌, List, [], ◌∷◌, ◌++◌, map, length, Option, Some, None, refl, sym, ap, ap₂, subst, ◌∙◌, true≢false, inl, inr, ⊎_elim, arith}
use Rattle.std.specs.Prelude.{filter, slice_get}
use Rattle.std.specs.FinMap.{get}
use Rattle.std.proofs.lemmas.Bool.Decides.{nat_tests}
use Rattle.pac_base.specs.Members.{Mem}
use Rattle.pac_base.proofs.TestLemmas.{and_both, and_left, eq_self, not_false, or_cases, or_left, unlike}
use Rattle.pac_value.specs.State.{Cell, RowValues, Tables}
use Rattle.pac_ops.specs.declared.batch.Batch.{Batch}
use Rattle.pac_ops.specs.declared.piece.PieceId.{PieceId}
use Rattle.pac_ops.specs.declared.transaction.Txn.{Txn}
use Rattle.pac_ops.specs.Effects.{defined_in, used_in}
use Rattle.pac_plan.specs.Pieces.{Present, adds, apply, is_piece, ops, part, partial, RowOf, VarOf}
use Rattle.pac_plan.specs.Worlds.{txn_at, txn_block, txn_code}
use Rattle.pac_plan.specs.Codes.{piece_ops}
use Rattle.pac_tables.specs.declared.writes.Write.{Write}
use Rattle.pac_piece.specs.declared.work.Work.{Work}
use Rattle.pac_piece.specs.Results.{WorkDone}
use Rattle.pac_commute.specs.Loads.{Job, begin, next_in_job, loaded, and_batch, pieces_of, world_of}
use Rattle.pac_commute.specs.Machine.{FindsTheSame, Given, GivenBack, IsReadyAt, KeepsJob, Kept, Loaded, Machine, Ran, StepBy, among, drops, ends_at, world_at}
use Rattle.pac_commute.specs.Machine as machine
use Rattle.pac_commute.specs.PlanLaws.{txns_of}
use Rattle.pac_commute.proofs.Apart.{covered_home}
use Rattle.pac_commute.proofs.BatchLemmas.{get-first, txns-more}
use Rattle.pac_commute.proofs.OutWork.{work_stays}
use Rattle.pac_commute.proofs.PlanFacts.{well_formed_plan}
use Rattle.pac_commute.proofs.Steps as steps
use Rattle.pac_core.specs.declared.answers.Take.{Take}
use Rattle.pac_core.specs.declared.answers.Take.TheVariants as take
use Rattle.pac_core.specs.declared.answers.Finish.{Finish}
use Rattle.pac_core.specs.declared.answers.Finish.TheVariants as finish
use Rattle.pac_core.specs.Calls.{IsGivenBack, IsHandedIn, IsNextFinished, IsOwn, IsTakenPiece, MayLoad, MovesOut}
use Rattle.pac_core.specs.Cells.{AreCellsOf, copies_at, copy_at}
use Rattle.pac_core.specs.Events.{HasEvents, IsEvent, IsSound}
use Rattle.pac_core.specs.Inputs.{FindsInputs, is_found}
use Rattle.pac_core.specs.Replay.{Replay, loaded_pieces, machine_of, present_of, with_batch_loaded, with_finished, with_out}
use Rattle.pac_core.specs.Takes.{IsWorkIn, access_now}
use Rattle.pac_core.proofs.Lists.{filter_of}
use Rattle.pac_core.proofs.Marks.{among_filter}
use Rattle.pac_core.proofs.Ready.{at_range}
use Rattle.pac_core.proofs.SameCells.{mem_contains}

-- ---- lists

-- what passes a test, where all that passes is in the list
among_kept : (L : List PieceId) (f : PieceId → Bool) → ((q : PieceId) → f q ≡ true → Mem q L) → among (filter f L) ≡ f
among_kept L f inside = λ i q. go q (f q) refl i
  where
    go : (q : PieceId) (b : Bool) → f q ≡ b → among (filter f L) q ≡ f q
    go q true e = among_filter f L q (inside q e)
    go q false e = unlike (among (filter f L) q) (λ h. true≢false (sym (filter_of f L q (steps.among_mem (filter f L) q h)).1 ∙ e)) ∙ sym e

-- taking out what isn't there changes nothing
drops_none : (F : PieceId → Bool) (p : PieceId) → F p ≡ false → drops F p ≡ F
drops_none F p out = λ i q. go q (F q) refl i
  where
    go : (q : PieceId) (b : Bool) → F q ≡ b → drops F p q ≡ F q
    go q true e = and_both (F q) _ e (ap not (unlike (is_piece p q) (λ same. true≢false (sym e ∙ ap F (sym (steps.same_piece p q same)) ∙ out)))) ∙ sym e
    go q false e = ap (λ b. b && not (is_piece p q)) e ∙ sym e

-- copies depend on what stands at the cells alone
same_copies : (cells : List Cell) (one other : Tables) → ((a : Cell) → Mem a cells → get one a ≡ get other a) → copies_at one cells ≡ copies_at other cells
same_copies [] one other same = refl
same_copies (c ∷ cs) one other same =
    ap₂ (λ (row : Option RowValues) (rest : List Write). let write : Write = record { table = c.0; key = c.1; row = row } in write ∷ rest) (same c (inl refl)) (same_copies cs one other (λ a m. same a (inr m)))

-- ---- transactions

-- a transaction stays what it is
txn_stays : (job : Job) (Ready : Machine → PieceId → Type 0) {m n : Machine} → StepBy job Ready m n → (t : ℕ) (txn : Txn) → txn_at job.first (txns_of m.batches) t ≡ Some txn → txn_at job.first (txns_of n.batches) t ≡ Some txn
txn_stays job Ready (Loaded m batch first fits) t txn there = ap (λ l. txn_at job.first l t) (txns-more m.batches batch) ∙ go (nat_lt t job.first) refl ∙ there
  where
    go : (b : Bool) → nat_lt t job.first ≡ b → ◌≡◌ {A = Option Txn} (cond b None (slice_get (txns_of m.batches ++ batch.txns) (t - job.first))) (cond b None (slice_get (txns_of m.batches) (t - job.first)))
    go true e = refl
    go false e =
        let low : job.first ≤ t = grind (arith, nat_tests) in
        let range = at_range job.first (txns_of m.batches) t txn there in
        let high : t < job.first + length (txns_of m.batches) = range.1 in
        get-first (txns_of m.batches) batch.txns (t - job.first) (omega (arith, low, high))
txn_stays job Ready (Given m p ready keys) t txn there = there
txn_stays job Ready (Ran m p ready) t txn there = there
txn_stays job Ready (Kept m p out) t txn there = there
txn_stays job Ready (GivenBack m out still) t txn there = there

module _ (r : Replay) (sound : IsSound r) where
  abbrev job : Job
  job = r.job

  abbrev m : Machine
  m = machine_of r

  -- ---- own work over a step

  module _ (batches : List Batch) (is_closed : Bool) (out finished : List PieceId) where
    abbrev r' : Replay
    r' = record { job = r.job; batches = batches; is_closed = is_closed; out = out; finished = finished }

    module _ (step : StepBy job (IsReadyAt job) m (machine_of r')) where
      module _ (work : Work) (own : IsOwn r work) (still : among out work.piece ≡ true) where
        abbrev p : PieceId
        p = work.piece

        same : FindsTheSame job p m (machine_of r')
        same = work_stays job sound.is_plan p (machine.StaysOutBy.Then m (machine_of r') (machine_of r') (steps.ordered_steps job sound.is_plan m (machine_of r') step) still (machine.StaysOutBy.Stop (machine_of r'))) sound.machine own.0

        operations : ops (world_at job m) p ≡ piece_ops job.parts p.block own.1.txn
        operations = ap (λ o. part (txn_block job.parts o) p.block (txn_code job.parts o)) own.1.there

        inputs : FindsInputs job.parts p.block own.1.txn ((present_of r').envs p.txn) work.env
        inputs x = own.1.over.inputs x ∙ go (is_found job.parts p.block own.1.txn x) refl
          where
            go : (b : Bool) → is_found job.parts p.block own.1.txn x ≡ b → cond b (get ((present_of r).envs p.txn) x) None ≡ cond b (get ((present_of r').envs p.txn) x) None
            go true found = sym (ap (λ z. z.1) (same.alike (VarOf p.txn x) (and_both (p.txn == p.txn) _ (eq_self p.txn)
                (or_left (used_in (ops (world_at job m) p) x) (defined_in (ops (world_at job m) p) x) (ap (λ os. used_in os x) operations ∙ and_left (used_in (piece_ops job.parts p.block own.1.txn) x) _ found)))))
            go false found = refl

        rows_same : (a : Cell) → Mem a own.1.cells → get (present_of r).tables a ≡ get (present_of r').tables a
        rows_same a mem =
            let covered = (own.1.named.each a).0 (mem_contains own.1.cells a mem) in
            sym (ap (λ z. z.0) (same.alike (RowOf a) (and_both _ _ (covered_home (world_at job m) (well_formed_plan job.parts sound.is_plan job.first r.batches) (ends_at job m) p own.1.named.keys a covered) covered)))

        pub own_still : IsOwn r' work
        own_still = (
          still,
          record {
            txn = own.1.txn;
            there = txn_stays job (IsReadyAt job) step p.txn own.1.txn own.1.there;
            cells = own.1.cells;
            named = subst (λ access. AreCellsOf access own.1.cells) (sym same.accesses) own.1.named;
            over = record {
              piece_is = own.1.over.piece_is;
              code = own.1.over.code;
              inputs = inputs;
              rows = own.1.over.rows ∙ same_copies own.1.cells (present_of r).tables (present_of r').tables rows_same;
            };
          },
        )

      pub event : IsEvent r r'
      event = record { job = refl; step = step; own = own_still }

    -- a step to a machine that has these out and finished is one to the replay's
    module _ (O F : PieceId → Bool) (now : Present) (outs : among out ≡ O) (ends : among finished ≡ F) (step : StepBy job (IsReadyAt job) m (record { batches = batches; out = O; finished = F; now = now })) where
      kept : KeepsJob job (record { batches = batches; out = O; finished = F; now = now })
      kept = steps.keeps job sound.is_plan (steps.ordered_steps job sound.is_plan m (record { batches = batches; out = O; finished = F; now = now }) step) sound.machine

      same_machine : machine_of r' ≡ record { batches = batches; out = O; finished = F; now = now }
      same_machine = λ i. record {
        batches = batches;
        out = outs i;
        finished = ends i;
        now = (ap (λ G. partial (world_of job batches) G (pieces_of job batches) (begin job batches)) ends ∙ sym kept.now) i;
      }

      pub event_by : IsEvent r r'
      event_by = event (subst (StepBy job (IsReadyAt job) m) (sym same_machine) step)

  -- ---- each call

  nothing : IsEvent r r
  nothing = event r.batches r.is_closed r.out r.finished (GivenBack m m.out (λ p e. e))

  unchanged : (new : Replay) → new ≡ r → IsEvent r new
  unchanged new same = subst (IsEvent r) (sym same) nothing

  out_loaded : (q : PieceId) → among r.out q ≡ true → Mem q (loaded_pieces r)
  out_loaded q e = (sound.machine.outs q e).there

  -- it is out
  outs_more : (p : PieceId) → Mem p (loaded_pieces r) → among (with_out r p).out ≡ adds m.out p
  outs_more p there = among_kept (loaded_pieces r) (adds m.out p) (λ q e. ⊎_elim (λ same. subst (λ x. Mem x (loaded_pieces r)) (steps.same_piece p q same) there) (out_loaded q) (or_cases (is_piece p q) (m.out q) e))

  outs_less : (p : PieceId) → among (with_finished r p).out ≡ drops m.out p
  outs_less p = among_kept (loaded_pieces r) (drops m.out p) (λ q e. out_loaded q (and_left (m.out q) _ e))

  ends_more : (p : PieceId) → Mem p (loaded_pieces r) → among (with_finished r p).finished ≡ adds m.finished p
  ends_more p there = among_kept (loaded_pieces r) (adds m.finished p) (λ q e. ⊎_elim (λ same. subst (λ x. Mem x (loaded_pieces r)) (steps.same_piece p q same) there) (sound.machine.finished q) (or_cases (is_piece p q) (m.finished q) e))

  -- a ready piece is applied
  ran : (p : PieceId) → IsReadyAt job m p → IsEvent r (with_finished r p)
  ran p ready = event_by r.batches r.is_closed (with_finished r p).out (with_finished r p).finished m.out (adds m.finished p) (apply (world_at job m) p m.now)
      (outs_less p ∙ drops_none m.out p ready.1) (ends_more p ready.0) (Ran m p ready)

  takes : (answer : Take) (new : Replay) → IsTakenPiece r answer new → IsEvent r new
  takes (take.Given work) new is = subst (IsEvent r) (sym is.4)
      (event_by r.batches r.is_closed (with_out r work.piece).out r.finished (adds m.out work.piece) m.finished m.now (outs_more work.piece is.0.0.0) refl (Given m work.piece is.0.0 is.1))
  takes (take.Ran piece) new is = subst (IsEvent r) (sym is.2) (ran piece is.0.0)
  takes take.NotReady new is = unchanged new is.2
  takes take.Done new is = unchanged new is.1

  runs : (next : Option PieceId) (new : Replay) → IsNextFinished r next new → IsEvent r new
  runs (Some piece) new is = subst (IsEvent r) (sym is.1) (ran piece is.0.0)
  runs None new is = unchanged new is.1

  finishes : (done : WorkDone) (answer : Finish) (new : Replay) → IsHandedIn r done answer new → IsEvent r new
  finishes done finish.Kept new is =
      let p = done.work.piece in
      subst (IsEvent r) (sym is.1)
      (event_by r.batches r.is_closed (with_finished r p).out (with_finished r p).finished (drops m.out p) (adds m.finished p) (apply (world_at job m) p m.now)
      (outs_less p) (ends_more p (out_loaded p is.0.0)) (Kept m p is.0.0))
  finishes done (finish.Foreign back) new is = unchanged new is.2
  finishes done (finish.NoMemory back) new is = unchanged new is.2

  -- whether the work is own or not, no piece is out that wasn't
  gives_back : (work : Work) (new : Replay) → IsGivenBack r work new → MovesOut r new → IsEvent r new
  gives_back work new is rest = subst (IsEvent r) (sym rest) (event r.batches r.is_closed new.out r.finished (GivenBack m (among new.out) was_out))
    where
      was_out : (q : PieceId) → among new.out q ≡ true → among r.out q ≡ true
      was_out q e = go (among r.out q) refl
        where
          go : (b : Bool) → among r.out q ≡ b → b ≡ true
          go true f = refl
          go false f = absurd (not_own (λ own. true≢false (sym (and_left (among r.out q) _ (sym (ap (λ F. F q) (outs_less work.piece)) ∙ sym (ap (λ (x : Replay). among x.out q) (is.0 own)) ∙ e)) ∙ f)))
            where
              not_own : (IsOwn r work → ⊥) → ⊥
              not_own foreign = true≢false (sym (sym (ap (λ (x : Replay). among x.out q) (is.1 foreign)) ∙ e) ∙ f)

  -- ---- all of it

  loads : (batch : Batch) → MayLoad r batch → IsEvent r (with_batch_loaded r batch)
  loads batch may = event_by (and_batch r.batches batch) r.is_closed r.out r.finished m.out m.finished (loaded (next_in_job job r.batches) (begin job (and_batch r.batches batch)).envs m.now)
      refl refl (Loaded m batch may.first may.fits)

  gives_own : (work : Work) (new : Replay) → IsTakenPiece r (take.Given work) new → IsOwn new work
  gives_own work new is = subst (λ (x : Replay). IsOwn x work) (sym is.4) (
    ap (λ F. F work.piece) (outs_more work.piece is.0.0.0) ∙ or_left (is_piece work.piece work.piece) (m.out work.piece) (steps.piece_self work.piece),
    record { txn = is.2.txn; there = is.2.there; cells = is.2.cells; named = is.2.named; over = is.2.over },
  )

  pub has_events : HasEvents r
  has_events = record {
    loads = loads;
    takes = takes;
    runs = runs;
    finishes = finishes;
    gives_back = gives_back;
    takes_back = event r.batches r.is_closed [] r.finished (GivenBack m (among []) (λ p e. absurd (true≢false (sym e))));
    closes = event r.batches true r.out r.finished (GivenBack m m.out (λ p e. e));
    gives_own = gives_own;
  }
