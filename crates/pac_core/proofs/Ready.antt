-- The pieces that the schedule of an open set has ready are those that are ready in the replay, and no piece of a set that waits is.
use Rattle.std.proofs.Common.{◌≡◌, ℕ, suc, ◌+◌, ◌-◌, ◌<◌, ◌≤◌, ◌==◌, nat_lt, Bool, true, false, cond, not, ◌&&◌, ◌||◌, List, [], ◌∷◌, map, length, get_or, Option, Some, None, refl, sym, ap, subst, ◌∙◌, true≢false, inl, inr, ⊎_elim, arith}
use Rattle.std.specs.Prelude.{slice_get, Contains, position, unwrap_or}
use Rattle.std.proofs.lemmas.Bool.Decides.{nat_tests}
use Rattle.std.specs.List.{list_all, list_any}
use Rattle.std.proofs.lemmas.List.{length-map}
use Rattle.std.proofs.lemmas.List.Elements.{Contains-get_or}
use Rattle.std.proofs.lemmas.Option.{same_Some, slice_get-get_or, slice_get_within}
use Rattle.pac_base.specs.Members.{Mem, Rises}
use Rattle.pac_base.proofs.ItemLemmas.{item_at}
use Rattle.pac_base.proofs.TestLemmas.{any_gives, any_mem, eq_self, or_cases, or_left, or_right, same_number}
use Rattle.pac_ops.specs.declared.batch.Batch.{Batch}
use Rattle.pac_ops.specs.declared.piece.PieceId.{PieceId}
use Rattle.pac_ops.specs.declared.transaction.Txn.{Txn}
use Rattle.pac_plan.specs.declared.access.Access.{Access}
use Rattle.pac_plan.specs.declared.access.Access.TheVariants.{Keys}
use Rattle.pac_plan.specs.Pieces.{conflicts, is_piece, precedes}
use Rattle.pac_plan.specs.Worlds.{blocks_in, txn_at}
use Rattle.pac_batch.specs.Conflicts.{access_in}
use Rattle.pac_batch.specs.Sets.{has_numbers, has_txns, set_of}
use Rattle.pac_batch.proofs.ListLaws.{pairs_suffice}
use Rattle.pac_sched.specs.declared.state.PieceState.{PieceState}
use Rattle.pac_sched.specs.declared.state.PieceState.TheVariants as state
use Rattle.pac_sched.specs.Schedules.{at_position, is_finished, is_finished_at, is_out, is_waiting, piece_is_ready, position_of, some_passes, state_of_piece}
use Rattle.pac_sched.specs.Picks.{PredsDone}
use Rattle.pac_sched.proofs.CallLemmas.{ready_waits}
use Rattle.pac_sched.proofs.PickLemmas.{ready_by_pairs, stands, start_preds}
use Rattle.pac_sets.specs.declared.set_id.SetId.{SetId}
use Rattle.pac_sets.specs.Sets.{IsOpenSet, Kept, WaitsFor, WaitsForNothing, kept_of}
use Rattle.pac_sets.proofs.SetLemmas.{kept_there, there_kept}
use Rattle.pac_commute.specs.Loads.{Job}
use Rattle.pac_commute.specs.Machine.{Machine, among, access_at, ends_at, world_at, IsReadyAt, PredsFinished}
use Rattle.pac_commute.specs.PlanLaws.{numbers_of, planned, txns_of}
use Rattle.pac_core.specs.declared.progress.Progress.{Progress}
use Rattle.pac_core.specs.declared.stage.OpenSet.{OpenSet}
use Rattle.pac_core.specs.declared.stage.SetStage.{SetStage}
use Rattle.pac_core.specs.declared.stage.SetStage.TheVariants.{Waiting, Open}
use Rattle.pac_core.specs.Links.{IsOpened, IsRest, KeepsProgress, batches_of, mark, mark_in, piece_in, replay_so_far}
use Rattle.pac_core.specs.Replay.{Replay, loaded_pieces, machine_of}
use Rattle.pac_core.proofs.Ascending.{order_of, position_in, rises_at, rises_end, set_rises}
use Rattle.pac_core.proofs.Lists.{at_map, at_mem, map_at, map_in, mem_at, mem_second}
use Rattle.pac_core.proofs.Marks.{Placed, finished_is, has_is, mark_is, out_is, placed, set_is}
use Rattle.pac_core.proofs.SetFacts.{batch_at, ByBatch, ByConflict, ByEdge, Precedes, Stands, by_precedes, piece_there, precedes_by, range-in, txn_there}
use Rattle.pac_core.proofs.SetLists.{id_of, txn_of_set}

-- ---- numbers

-- a transaction that is there has a number in range
pub at_range : (first : ℕ) (txns : List Txn) (t : ℕ) (txn : Txn) → txn_at first txns t ≡ Some txn → (first ≤ t) × (t < first + length txns)
at_range first txns t txn e = go (nat_lt t first) refl e
  where
    go : (b : Bool) → nat_lt t first ≡ b → cond b None (slice_get txns (t - first)) ≡ Some txn → (first ≤ t) × (t < first + length txns)
    go true lt h = let wrong : None ≡ Some txn = h in absurd cc
    go false lt h =
        let le : first ≤ t = grind (arith, nat_tests) in
        let within = slice_get_within txns (t - first) txn h in
        (le, omega (arith, le, within))

-- a list that isn't empty has a member
one_of : (ts : List ℕ) → has_numbers ts ≡ true → (t : ℕ) × Mem t ts
one_of [] e = absurd (true≢false (sym e))
one_of (t ∷ ts) e = (t, inl refl)

-- ---- states

-- where not all are finished, one isn't
one_left : (states : List PieceState) → list_all is_finished states ≡ false → (i : ℕ) × (s : PieceState) × (slice_get states i ≡ Some s) × (is_finished s ≡ false)
one_left [] e = absurd (true≢false e)
one_left (s ∷ ss) e = go (is_finished s) refl e (one_left ss)
  where
    go : (b : Bool) → is_finished s ≡ b → (b && list_all is_finished ss) ≡ false → (list_all is_finished ss ≡ false → (i : ℕ) × (t : PieceState) × (slice_get ss i ≡ Some t) × (is_finished t ≡ false)) → (i : ℕ) × (t : PieceState) × (slice_get (s ∷ ss) i ≡ Some t) × (is_finished t ≡ false)
    go true is more rest = let r = rest more in (suc r.0, r.1, r.2, r.3)
    go false is more rest = (0, s, refl, is)

-- a piece that is neither out nor finished waits
waits : (s : PieceState) → is_out s ≡ false → is_finished s ≡ false → s ≡ state.Waiting
waits state.Waiting out finished = refl
waits state.Out out finished = absurd (true≢false out)
waits state.Finished out finished = absurd (true≢false finished)

-- the piece of a transaction that is kept of a set that waits does too, and each other one is finished
pub waiting_mark : (block : ℕ) (waiting : List ℕ) (t : ℕ) → Mem t waiting → mark (Some (Waiting waiting)) (piece_in block t) ≡ state.Waiting
waiting_mark block waiting t mem = ap (λ b. cond b state.Waiting state.Finished) (any_mem (λ u. u == t) t waiting mem (eq_self t))

pub unfinished_waits : (block : ℕ) (waiting : List ℕ) (t : ℕ) → is_finished (mark (Some (Waiting waiting)) (piece_in block t)) ≡ false → Mem t waiting
unfinished_waits block waiting t e = go (list_any (λ u. u == t) waiting) refl e
  where
    go : (b : Bool) → list_any (λ u. u == t) waiting ≡ b → is_finished (cond b state.Waiting state.Finished) ≡ false → Mem t waiting
    go true is f =
        let u = any_gives (λ u. u == t) waiting is in
        subst (λ (v : ℕ). Mem v waiting) (same_number u.0 t u.2) u.1
    go false is f = absurd (true≢false f)

module _ (job : Job) (p : Progress) (keeps : KeepsProgress job p) where
  abbrev r : Replay
  r = replay_so_far job p

  abbrev m : Machine
  m = machine_of r

  -- the pieces of a set are loaded
  pub loaded_of : (k : ℕ) (batch : Batch) → slice_get (batches_of p) k ≡ Some batch → (block t : ℕ) → block < job.parts.blocks → Mem t (set_of job.parts batch.first batch.txns block).txns
      → Mem (piece_in block t) (loaded_pieces r)
  loaded_of k batch there block t inside mem =
      let in_batch = txn_of_set job.parts batch.first batch.txns block t mem in
      let least = in_batch.0 in
      let within = in_batch.1 in
      let s : Stands (batches_of p) t k (t - batch.first) = record { batch = batch; there = there; inside = omega (arith, least, within); number = omega (arith, least) } in
      let at = item_at batch.txns (t - batch.first) s.inside in
      let range = at_range job.first (txns_of (batches_of p)) t at.0 (txn_there job.parts job.first (batches_of p) keeps.machine.run_on t k (t - batch.first) s ∙ at.1) in
      piece_there (planned job.parts job.first (batches_of p)) (numbers_of job.first (batches_of p)) (blocks_in job.parts) (piece_in block t)
      (range-in job.first (length (txns_of (batches_of p))) t range.0 range.1)
      (range-in 0 job.parts.blocks block (omega arith) (omega (arith, inside)))
      (sym (has_is job p keeps t k (t - batch.first) s block) ∙ in_batch.2)

  -- ---- the pieces of one set

  -- what is known of the set at an offset
  pub record SetAt (at : ℕ) (id : SetId) (kept : Option SetStage) : Type 0 where
    pub there : slice_get p.sets.sets at ≡ Some (id, kept)
    pub batch : Batch
    pub batch_there : slice_get (batches_of p) id.batch ≡ Some batch
    pub inside : id.block < job.parts.blocks
    pub some : has_txns (set_of job.parts batch.first batch.txns id.block) ≡ true

  pub set_at : (at : ℕ) (id : SetId) (kept : Option SetStage) → slice_get p.sets.sets at ≡ Some (id, kept) → SetAt at id kept
  set_at at id kept there =
      let is = id_of job.parts 0 (batches_of p) id (subst (λ l. Mem id l) keeps.sets (map_in (λ (set : Kept SetStage). set.0) p.sets.sets (id, kept) (at_mem p.sets.sets at (id, kept) there))) in
      record {
        there = there;
        batch = is.batch;
        batch_there = ap (slice_get (batches_of p)) (is.number ∙ (let e : 0 + is.k ≡ is.k = omega arith in e)) ∙ is.there;
        inside = is.inside;
        some = is.some;
      }

  -- the transactions that have pieces in it
  abbrev pub all_txns : (at : ℕ) (id : SetId) (kept : Option SetStage) → SetAt at id kept → List ℕ
  all_txns at id kept set = (set_of job.parts set.batch.first set.batch.txns id.block).txns

  -- those of them of which something is kept
  abbrev pub txns : (at : ℕ) (id : SetId) (kept : Option SetStage) → SetAt at id kept → List ℕ
  txns at id None set = []
  txns at id (Some (Waiting rest)) set = rest
  txns at id (Some (Open opening)) set = (keeps.stages at id (Open opening) set.batch set.there set.batch_there).0

  -- these are the last
  pub rest_of : (at : ℕ) (id : SetId) (stage : SetStage) (set : SetAt at id (Some stage)) → IsRest (all_txns at id (Some stage) set) (txns at id (Some stage) set)
  rest_of at id (Waiting rest) set = keeps.stages at id (Waiting rest) set.batch set.there set.batch_there
  rest_of at id (Open opening) set = (keeps.stages at id (Open opening) set.batch set.there set.batch_there).1

  pub in_all : (at : ℕ) (id : SetId) (kept : Option SetStage) (set : SetAt at id kept) (t : ℕ) → Mem t (txns at id kept set) → Mem t (all_txns at id kept set)
  in_all at id None set t mem = absurd mem
  in_all at id (Some stage) set t mem =
      let rest = rest_of at id stage set in
      subst (λ (ts : List ℕ). Mem t ts) rest.is (mem_second t rest.before (txns at id (Some stage) set) mem)

  pub rises : (at : ℕ) (id : SetId) (kept : Option SetStage) (set : SetAt at id kept) → Rises (txns at id kept set)
  rises at id None set = tt
  rises at id (Some stage) set =
      let rest = rest_of at id stage set in
      rises_end rest.before (txns at id (Some stage) set) (subst Rises (sym rest.is) (set_rises job.parts set.batch.first set.batch.txns id.block))

  module _ (at : ℕ) (id : SetId) (kept : Option SetStage) (set : SetAt at id kept) where
    -- a transaction of it stands in its batch
    abbrev pub stands_all : (t : ℕ) → Mem t (all_txns at id kept set) → Stands (batches_of p) t id.batch (t - set.batch.first)
    stands_all t mem =
        let in_batch = txn_of_set job.parts set.batch.first set.batch.txns id.block t mem in
        let least = in_batch.0 in
        let within = in_batch.1 in
        record { batch = set.batch; there = set.batch_there; inside = omega (arith, least, within); number = omega (arith, least) }

    abbrev pub stands_set : (t : ℕ) → Mem t (txns at id kept set) → Stands (batches_of p) t id.batch (t - set.batch.first)
    stands_set t mem = stands_all t (in_all at id kept set t mem)

    -- the batch of a piece of it is its own
    pub same_batch : (t : ℕ) → Mem t (txns at id kept set) → (place : Placed job p keeps (piece_in id.block t)) → place.k ≡ id.batch
    same_batch t mem place =
        let own = batch_at job.parts job.first (batches_of p) keeps.machine.run_on t id.batch (t - set.batch.first) (stands_set t mem) in
        let other = batch_at job.parts job.first (batches_of p) keeps.machine.run_on t place.k place.i place.stands in
        omega (arith, own, other)

    -- a piece of it has its place here
    pub any_piece : (t : ℕ) → Mem t (all_txns at id kept set) → Mem (piece_in id.block t) (loaded_pieces r)
    any_piece t mem = loaded_of id.batch set.batch set.batch_there id.block t set.inside mem

    pub own_piece : (t : ℕ) → Mem t (txns at id kept set) → Mem (piece_in id.block t) (loaded_pieces r)
    own_piece t mem = any_piece t (in_all at id kept set t mem)

    pub any_mark : (t : ℕ) → Mem t (all_txns at id kept set) → mark_in (batches_of p) p.sets.sets (piece_in id.block t) ≡ mark kept (piece_in id.block t)
    any_mark t mem =
        ap (λ (k : ℕ). mark (kept_of (record { batch = k - 1; block = id.block }) p.sets.sets) (piece_in id.block t))
        (batch_at job.parts job.first (batches_of p) keeps.machine.run_on t id.batch (t - set.batch.first) (stands_all t mem))
        ∙ ap (λ (k : ℕ). mark (kept_of (record { batch = k; block = id.block }) p.sets.sets) (piece_in id.block t)) (omega arith)
        ∙ ap (λ k. mark k (piece_in id.block t)) (kept_there p.sets.sets keeps.ascend at id kept set.there)

    pub own_mark : (t : ℕ) → Mem t (txns at id kept set) → mark_in (batches_of p) p.sets.sets (piece_in id.block t) ≡ mark kept (piece_in id.block t)
    own_mark t mem = any_mark t (in_all at id kept set t mem)

    -- where it stands among its pieces
    own_index : (t : ℕ) → Mem t (txns at id kept set) → (i : ℕ) × (slice_get (txns at id kept set) i ≡ Some t)
    own_index t mem = mem_at (txns at id kept set) t mem

  -- a piece whose set is this one
  pub placed_here : (q : PieceId) (place : Placed job p keeps q) (at : ℕ) (id : SetId) (kept : Option SetStage) (set : SetAt at id kept) → id.batch ≡ place.k → id.block ≡ q.block
      → Mem q.txn (all_txns at id kept set)
  placed_here q place at id kept set batch block =
      let same : place.stands.batch ≡ set.batch = same_Some _ _ (sym place.stands.there ∙ ap (slice_get (batches_of p)) (sym batch) ∙ set.batch_there) in
      subst (λ (b : ℕ). Mem q.txn (set_of job.parts set.batch.first set.batch.txns b).txns) (sym block)
      (subst (λ (x : Batch). Mem q.txn (set_of job.parts x.first x.txns q.block).txns) same place.in_set)

  -- of a piece that isn't finished something is kept
  pub unfinished_here : (at : ℕ) (id : SetId) (kept : Option SetStage) (set : SetAt at id kept) (t : ℕ) → Mem t (all_txns at id kept set) → is_finished (mark kept (piece_in id.block t)) ≡ false → Mem t (txns at id kept set)
  unfinished_here at id None set t mem e = absurd (true≢false e)
  unfinished_here at id (Some (Waiting waiting)) set t mem e = unfinished_waits id.block waiting t e
  unfinished_here at id (Some (Open opening)) set t mem e = go (position_of opening.sched (piece_in id.block t)) refl
    where
      is : IsOpened r p.sets.sets id (txns at id (Some (Open opening)) set) opening
      is = (keeps.stages at id (Open opening) set.batch set.there set.batch_there).2

      go : (o : Option ℕ) → position_of opening.sched (piece_in id.block t) ≡ o → Mem t (txns at id (Some (Open opening)) set)
      go None at_none = absurd (true≢false (ap (λ o. is_finished (unwrap_or (at_position opening.sched.states o) state.Finished)) (sym at_none) ∙ e))
      go (Some i) at_i =
          let s = stands opening.sched (piece_in id.block t) i at_i in
          let found = map_at (piece_in id.block) (txns at id (Some (Open opening)) set) i (piece_in id.block t)
          (ap (λ ps. slice_get ps i) (sym is.pieces) ∙ slice_get-get_or opening.sched.pieces i (piece_in id.block t) s.0 ∙ ap (λ x. Some x) s.1) in
          at_mem (txns at id (Some (Open opening)) set) i t (found.1 ∙ ap (λ (q : PieceId). Some q.txn) found.2)

  -- ---- an open set

  module _ (at : ℕ) (id : SetId) (opening : OpenSet) (set : SetAt at id (Some (Open opening))) where
    opened : IsOpened r p.sets.sets id (txns at id (Some (Open opening)) set) opening
    opened = (keeps.stages at id (Open opening) set.batch set.there set.batch_there).2

    abbrev ts : List ℕ
    ts = txns at id (Some (Open opening)) set

    abbrev access_of_txn : ℕ → Access
    access_of_txn t = access_at job m (piece_in id.block t)

    abbrev accesses : List Access
    accesses = map (access_at job m) opening.sched.pieces

    -- the piece of a transaction
    pub position_is : (i t : ℕ) → slice_get ts i ≡ Some t → position_of opening.sched (piece_in id.block t) ≡ Some i
    position_is i t e = ap (λ ps. position (is_piece (piece_in id.block t)) ps) opened.pieces ∙ position_in id.block ts (rises at id (Some (Open opening)) set) i t e

    piece_is_at : (i t : ℕ) → slice_get ts i ≡ Some t → slice_get opening.sched.pieces i ≡ Some (piece_in id.block t)
    piece_is_at i t e = ap (λ ps. slice_get ps i) opened.pieces ∙ at_map (piece_in id.block) ts i t e

    access_is : (i t : ℕ) → slice_get ts i ≡ Some t → access_in accesses i ≡ access_of_txn t
    access_is i t e = ap (λ o. unwrap_or o (Keys [])) (at_map (access_at job m) opening.sched.pieces i (piece_in id.block t) (piece_is_at i t e))

    accesses_len : length accesses ≡ length ts
    accesses_len = length-map opening.sched.pieces (access_at job m) ∙ ap length opened.pieces ∙ length-map ts (piece_in id.block)

    -- its state is its mark
    state_at : (i t : ℕ) → slice_get ts i ≡ Some t → state_of_piece opening.sched (piece_in id.block t) ≡ slice_get opening.sched.states i
    state_at i t e = ap (at_position opening.sched.states) (position_is i t e)

    pub mark_at : (i t : ℕ) (s : PieceState) → slice_get ts i ≡ Some t → slice_get opening.sched.states i ≡ Some s → mark_in (batches_of p) p.sets.sets (piece_in id.block t) ≡ s
    mark_at i t s e is = own_mark at id (Some (Open opening)) set t (at_mem ts i t e) ∙ ap (λ o. unwrap_or o state.Finished) (state_at i t e ∙ is)

    has_state : (i t : ℕ) → slice_get ts i ≡ Some t → (s : PieceState) × (slice_get opening.sched.states i ≡ Some s)
    has_state i t e =
        let within = slice_get_within ts i t e in
        let size = opened.size in
        let len : length opening.sched.pieces ≡ length ts = ap length opened.pieces ∙ length-map ts (piece_in id.block) in
        item_at opening.sched.states i (omega (arith, within, size, len))

    -- it is finished in the schedule where it is in the replay
    finished_at : (i t : ℕ) → slice_get ts i ≡ Some t → is_finished_at opening.sched i ≡ among r.finished (piece_in id.block t)
    finished_at i t e =
        let s = has_state i t e in
        ap (some_passes is_finished) s.1 ∙ ap is_finished (sym (mark_at i t s.0 e s.1)) ∙ sym (finished_is job p keeps (piece_in id.block t) (own_piece at id (Some (Open opening)) set t (at_mem ts i t e)))

    -- each earlier piece of it that conflicts comes before
    before_here : (i j t u : ℕ) → slice_get ts i ≡ Some t → slice_get ts j ≡ Some u → j < i → conflicts (access_in accesses j) (access_in accesses i) ≡ true
        → precedes (world_at job m) (ends_at job m) (piece_in id.block u) (piece_in id.block t) ≡ true
    before_here i j t u ei ej lt c =
        by_precedes job.parts job.first (batches_of p) keeps.machine.run_on (ends_at job m) (piece_in id.block u) (piece_in id.block t) id.batch id.batch _ _
        (stands_set at id (Some (Open opening)) set u (at_mem ts j u ej)) (stands_set at id (Some (Open opening)) set t (at_mem ts i t ei))
        (ByConflict refl refl (rises_at ts (rises at id (Some (Open opening)) set) j i u t ej ei lt)
        (ap (λ x. conflicts x (access_of_txn t)) (sym (access_is j u ej)) ∙ ap (conflicts (access_in accesses j)) (sym (access_is i t ei)) ∙ c))

    -- a piece that the schedule has ready is ready
    pub ready_there : (i t : ℕ) → slice_get ts i ≡ Some t → piece_is_ready opening.sched (piece_in id.block t) ≡ true → IsReadyAt job m (piece_in id.block t)
    ready_there i t e ready = (
      own_piece at id (Some (Open opening)) set t (at_mem ts i t e),
      out_is job p keeps q (own_piece at id (Some (Open opening)) set t (at_mem ts i t e)) ∙ ap is_out waiting,
      finished_is job p keeps q (own_piece at id (Some (Open opening)) set t (at_mem ts i t e)) ∙ ap is_finished waiting,
      preds,
    )
      where
        q : PieceId
        q = piece_in id.block t

        waiting : mark_in (batches_of p) p.sets.sets q ≡ state.Waiting
        waiting = own_mark at id (Some (Open opening)) set t (at_mem ts i t e) ∙ ap (λ o. unwrap_or o state.Finished) (ready_waits opening.sched q ready)

        done : PredsDone opening.sched i
        done = ((ready_by_pairs opening.sched q i (position_is i t e)).0 ready).1

        -- what the schedule has finished, and the piece itself, is closed under pairs
        F : ℕ → Bool
        F j = is_finished_at opening.sched j || (j == i)

        closed : (a b : ℕ) → Contains opening.sched.pairs (a, b) → F b ≡ true → F a ≡ true
        closed a b has f = or_left _ (a == i) (⊎_elim later here (or_cases (is_finished_at opening.sched b) (b == i) f))
          where
            pair : (get_or opening.sched.pairs has.0 (a, b)) ≡ (a, b)
            pair = has.2

            first_is : (get_or opening.sched.pairs has.0 (a, b)).0 ≡ a
            first_is = ap (λ (x : ℕ × ℕ). x.0) pair

            second_is : (get_or opening.sched.pairs has.0 (a, b)).1 ≡ b
            second_is = ap (λ (x : ℕ × ℕ). x.1) pair

            later : is_finished_at opening.sched b ≡ true → is_finished_at opening.sched a ≡ true
            later f = ap (is_finished_at opening.sched) (sym first_is) ∙ start_preds opening.sched b (opened.order b (moved (slice_get opening.sched.states b) f)) has.0 (a, b) has.1 second_is
              where
                moved : (o : Option PieceState) → some_passes is_finished o ≡ true → some_passes (λ s. not (is_waiting s)) o ≡ true
                moved None f = f
                moved (Some state.Waiting) f = absurd (true≢false (sym f))
                moved (Some state.Out) f = refl
                moved (Some state.Finished) f = refl

            here : (b == i) ≡ true → is_finished_at opening.sched a ≡ true
            here same = ap (is_finished_at opening.sched) (sym first_is) ∙ done has.0 (a, b) has.1 (second_is ∙ same_number b i same)

        preds : PredsFinished job m q
        preds o mem pr = go (precedes_by job.parts job.first (batches_of p) keeps.machine.run_on (ends_at job m) o q place.k mine.k place.i mine.i place.stands mine.stands pr)
          where
            place : Placed job p keeps o
            place = placed job p keeps o mem

            mine : Placed job p keeps q
            mine = placed job p keeps q (own_piece at id (Some (Open opening)) set t (at_mem ts i t e))

            batch_mine : mine.k ≡ id.batch
            batch_mine = same_batch at id (Some (Open opening)) set t (at_mem ts i t e) mine

            -- what the set waits for is finished
            passed : WaitsFor job.parts.edges id (record { batch = place.k; block = o.block }) → among r.finished o ≡ true
            passed w = finished_is job p keeps o mem ∙ ap is_finished (ap (λ s. mark (kept_of s p.sets.sets) o) (set_is job p keeps o place) ∙ ap (λ k. mark k o) (opened.passed _ w))

            go : Precedes job.parts job.first (batches_of p) keeps.machine.run_on (ends_at job m) o q place.k mine.k → among r.finished o ≡ true
            go (ByEdge same edge) = passed (inl (same ∙ batch_mine, edge))
            go (ByBatch same lt) = passed (inr (same, (let b = batch_mine in omega (arith, lt, b))))
            go (ByConflict same batch lt c) = decide (is_finished (mark (Some (Open opening)) (piece_in id.block o.txn))) refl
              where
                own : piece_in id.block o.txn ≡ o
                own = λ k. record { txn = o.txn; block = sym same k }

                here : Mem o.txn (all_txns at id (Some (Open opening)) set)
                here = placed_here o place at id (Some (Open opening)) set (sym (batch ∙ batch_mine)) (sym same)

                together : (j : ℕ) × (slice_get ts j ≡ Some o.txn) → among r.finished o ≡ true
                together j =
                    let less : j.0 < i = order_of ts (rises at id (Some (Open opening)) set) j.0 i o.txn t j.1 e lt in
                    let conflict : conflicts (access_in accesses j.0) (access_in accesses i) ≡ true =
                    ap (λ x. conflicts x (access_in accesses i)) (access_is j.0 o.txn j.1 ∙ ap (access_at job m) own) ∙ ap (conflicts (access_at job m o)) (access_is i t e) ∙ c in
                    let all = (pairs_suffice accesses opening.sched.pairs opened.pairs.0).1 F closed j.0 i less (let within = slice_get_within ts i t e in let len = accesses_len in omega (arith, within, len)) conflict
                    (or_right (is_finished_at opening.sched i) (i == i) (eq_self i)) in
                    ⊎_elim
                    (λ f. ap (among r.finished) (sym own) ∙ sym (finished_at j.0 o.txn j.1) ∙ f)
                    (λ same. let eq = same_number j.0 i same in absurd (omega (arith, less, eq)))
                    (or_cases (is_finished_at opening.sched j.0) (j.0 == i) all)

                -- nothing is kept of it where it is finished
                decide : (b : Bool) → is_finished (mark (Some (Open opening)) (piece_in id.block o.txn)) ≡ b → among r.finished o ≡ true
                decide true e =
                    ap (among r.finished) (sym own)
                    ∙ finished_is job p keeps (piece_in id.block o.txn) (any_piece at id (Some (Open opening)) set o.txn here)
                    ∙ ap is_finished (any_mark at id (Some (Open opening)) set o.txn here)
                    ∙ e
                decide false e = together (own_index at id (Some (Open opening)) set o.txn (unfinished_here at id (Some (Open opening)) set o.txn here e))

    -- a piece of it that is ready is ready in the schedule
    pub there_ready : (i t : ℕ) → slice_get ts i ≡ Some t → IsReadyAt job m (piece_in id.block t) → piece_is_ready opening.sched (piece_in id.block t) ≡ true
    there_ready i t e ready = (ready_by_pairs opening.sched q i (position_is i t e)).1 (state_at i t e ∙ waits_here (has_state i t e)) done
      where
        q : PieceId
        q = piece_in id.block t

        waits_here : (s : PieceState) × (slice_get opening.sched.states i ≡ Some s) → slice_get opening.sched.states i ≡ Some state.Waiting
        waits_here s =
            let is = mark_at i t s.0 e s.1 in
            s.1 ∙ ap (λ x. Some x) (waits s.0
            (ap is_out (sym is) ∙ sym (out_is job p keeps q ready.0) ∙ ready.1)
            (ap is_finished (sym is) ∙ sym (finished_is job p keeps q ready.0) ∙ ready.2))

        done : PredsDone opening.sched i
        done k d lt same = go (item_at ts a (omega (arith, less, within)))
          where
            pair : ℕ × ℕ
            pair = get_or opening.sched.pairs k d

            a : ℕ
            a = pair.0

            next : (pair.0 < pair.1) × (pair.1 < length accesses) × (conflicts (access_in accesses pair.0) (access_in accesses pair.1) ≡ true)
            next = (pairs_suffice accesses opening.sched.pairs opened.pairs.0).0 pair.0 pair.1 (Contains-get_or opening.sched.pairs k d lt)

            less : a < i
            less = let n = next.0 in omega (arith, n, same)

            within : i < length ts
            within = slice_get_within ts i t e

            go : (u : ℕ) × (slice_get ts a ≡ Some u) → is_finished_at opening.sched a ≡ true
            go u = finished_at a u.0 u.1 ∙ ready.3 (piece_in id.block u.0) (own_piece at id (Some (Open opening)) set u.0 (at_mem ts a u.0 u.1))
                (before_here i a t u.0 e u.1 less (ap (λ j. conflicts (access_in accesses a) (access_in accesses j)) (sym same) ∙ next.2))

  -- ---- sets that are not open

  -- an unfinished set has an unfinished piece
  some_left : (at : ℕ) (id : SetId) (stage : SetStage) (set : SetAt at id (Some stage)) → (t : ℕ) × Mem t (txns at id (Some stage) set) × (among r.finished (piece_in id.block t) ≡ false)
  some_left at id (Waiting waiting) set =
      let t = one_of waiting (rest_of at id (Waiting waiting) set).some in (
        t.0,
        t.1,
        finished_is job p keeps (piece_in id.block t.0) (own_piece at id (Some (Waiting waiting)) set t.0 t.1)
            ∙ ap is_finished (own_mark at id (Some (Waiting waiting)) set t.0 t.1 ∙ waiting_mark id.block waiting t.0 t.1),
      )
  some_left at id (Open opening) set =
      let is = (keeps.stages at id (Open opening) set.batch set.there set.batch_there).2 in
      let left = one_left opening.sched.states is.left in
      let within = slice_get_within opening.sched.states left.0 left.1 left.2 in
      let size = is.size in
      let len : length opening.sched.pieces ≡ length (txns at id (Some (Open opening)) set) = ap length is.pieces ∙ length-map (txns at id (Some (Open opening)) set) (piece_in id.block) in
      let t = item_at (txns at id (Some (Open opening)) set) left.0 (omega (arith, within, size, len)) in (
        t.0,
        at_mem _ left.0 t.0 t.1,
        sym (finished_at at id opening set left.0 t.0 t.1) ∙ ap (some_passes is_finished) left.2 ∙ left.3,
      )

  -- the set of a ready piece is open
  pub open_of : (q : PieceId) (place : Placed job p keeps q) → IsReadyAt job m q → IsOpenSet job.parts.edges p.sets.sets place.at
  open_of q place ready = go place.kept place.there (mark_is job p keeps q place)
    where
      id : SetId
      id = record { batch = place.k; block = q.block }

      passed : WaitsForNothing job.parts.edges p.sets.sets id
      passed other wait = at_kept (kept_of other p.sets.sets) refl
        where
          at_kept : (o : Option SetStage) → kept_of other p.sets.sets ≡ o → o ≡ None
          at_kept None e = refl
          at_kept (Some stage) e =
              let found = there_kept p.sets.sets keeps.ascend other stage e in
              let set = set_at found.0 other (Some stage) found.1 in
              let left = some_left found.0 other stage set in
              let mem = own_piece found.0 other (Some stage) set left.0 left.1 in
              let o = placed job p keeps (piece_in other.block left.0) mem in
              absurd (true≢false (sym (ready.3 (piece_in other.block left.0) mem (comes (piece_in other.block left.0) o refl (same_batch found.0 other (Some stage) set left.0 left.1 o))) ∙ left.2))
            where
              comes : (o : PieceId) (po : Placed job p keeps o) → o.block ≡ other.block → po.k ≡ other.batch → precedes (world_at job m) (ends_at job m) o q ≡ true
              comes o po block batch = by_precedes job.parts job.first (batches_of p) keeps.machine.run_on (ends_at job m) o q po.k place.k po.i place.i po.stands place.stands (by wait)
                where
                  by : WaitsFor job.parts.edges id other → Precedes job.parts job.first (batches_of p) keeps.machine.run_on (ends_at job m) o q po.k place.k
                  by (inl edge) = ByEdge (batch ∙ edge.0) (subst (λ b. Contains job.parts.edges (b, q.block)) (sym block) edge.1)
                  by (inr earlier) = ByBatch (block ∙ earlier.0) (let lt = earlier.1 in omega (arith, lt, batch))

      go : (o : Option SetStage) → slice_get p.sets.sets place.at ≡ Some (id, o) → mark_in (batches_of p) p.sets.sets q ≡ mark o q → IsOpenSet job.parts.edges p.sets.sets place.at
      go None there is = absurd (true≢false (sym (finished_is job p keeps q ready.0 ∙ ap is_finished is) ∙ ready.2))
      go (Some stage) there is = record { set = id; kept = stage; there = there; passed = passed }
