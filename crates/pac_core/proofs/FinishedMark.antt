-- A piece of a set is finished, whatever is kept of the set: the replay has it finished, its state is the piece applied, and all is kept.
use Rattle.std.proofs.Common.{◌≡◌, ◌⊎◌, ℕ, ◌+◌, ◌-◌, ◌<◌, ◌==◌, Bool, true, false, cond, not, ◌&&◌, ◌||◌, List, [], ◌∷◌, map, length, Option, Some, None, refl, sym, ap, ap₂, subst, ◌∙◌, true≢false, inl, inr, arith}
use Rattle.std.specs.Prelude.{slice_get, slice_set, filter, T}
use Rattle.std.specs.FinMap.{get, is_sorted}
use Rattle.std.proofs.lemmas.List.{length-set}
use Rattle.std.proofs.lemmas.Option.{same_Some, slice_get_within}
use Rattle.pac_base.specs.Members.{Mem}
use Rattle.pac_base.proofs.TestLemmas.{and_false, and_left, and_right, any_gives, any_mem, equal_number, not_true, or_cases, or_left, or_right, same_number, unlike}
use Rattle.pac_value.specs.declared.values.Value.{Value}
use Rattle.pac_value.specs.Expressions.{Values}
use Rattle.pac_ops.specs.declared.batch.Batch.{Batch}
use Rattle.pac_ops.specs.declared.note.Note.{Note}
use Rattle.pac_ops.specs.declared.piece.PieceId.{PieceId}
use Rattle.pac_ops.specs.declared.transaction.Change.{Change}
use Rattle.pac_ops.specs.declared.transaction.Change.TheVariants.{Put as PutRow, Delete as DeleteRow}
use Rattle.pac_ops.specs.declared.transaction.Txn.{Txn}
use Rattle.pac_ops.specs.declared.transaction.Txn.TheVariants.{Call as ACall, AdHoc}
use Rattle.pac_ops.specs.Notes.{least}
use Rattle.pac_ops.specs.Uses.{defined_variable}
use Rattle.pac_ops.specs.Effects.{NumberedOp, defined_in, is_var, numbered_from, record_op}
use Rattle.pac_plan.specs.declared.parts.PlanParts.{PlanParts}
use Rattle.pac_plan.specs.Pieces.{Present, adds, apply, is_piece, ops}
use Rattle.pac_plan.specs.Codes.{piece_ops}
use Rattle.pac_plan.specs.Worlds.{blocks_in}
use Rattle.pac_plan.proofs.PartLemmas.{part-mem}
use Rattle.pac_plan.proofs.WorldLemmas.{rises-range}
use Rattle.pac_tables.specs.declared.writes.Write.{Write}
use Rattle.pac_keys.proofs.OutputLemmas.{inputs_are_outputs}
use Rattle.pac_batch.specs.Sets.{set_of}
use Rattle.pac_sched.specs.declared.state.PieceState.{PieceState}
use Rattle.pac_sched.specs.declared.state.PieceState.TheVariants as state
use Rattle.pac_sched.specs.Schedules.{is_finished, is_out}
use Rattle.pac_sets.specs.declared.set_id.SetId.{SetId}
use Rattle.pac_sets.specs.Sets.{Kept, WaitsForNothing, with_kept_at}
use Rattle.pac_sets.specs.SetOrder.{set_cmp}
use Rattle.pac_commute.specs.Loads.{Job, next_in_job}
use Rattle.pac_commute.specs.PlanLaws.{numbers_of, txns_of}
use Rattle.pac_commute.specs.Machine.{KeepsJob, KeepsPrecedence, Machine, among, world_at}
use Rattle.pac_commute.specs.Works.{given_over}
use Rattle.pac_commute.proofs.Steps.{piece_self}
use Rattle.pac_commute.proofs.Theorem.{in_order}
use Rattle.pac_core.specs.declared.loaded.LoadedBatch.{LoadedBatch}
use Rattle.pac_core.specs.declared.progress.Progress.{Progress}
use Rattle.pac_core.specs.declared.stage.OpenSet.{OpenSet}
use Rattle.pac_core.specs.declared.stage.SetStage.{SetStage}
use Rattle.pac_core.specs.declared.stage.SetStage.TheVariants.{Waiting, Open}
use Rattle.pac_core.specs.Inputs.{LeavesValues, is_found, is_passed_on}
use Rattle.pac_core.specs.Links.{AreStages, IsOpened, piece_in, set_ids, IsStageOf, IsUnfinishedBatch, KeepsBatch, KeepsInputs, KeepsProgress, KeepsValues, batches_of, mark, mark_in, pieces_marked, replay_so_far}
use Rattle.pac_core.specs.Moves.{IsFinishedTo}
use Rattle.pac_core.specs.Replay.{Replay, left, loaded_pieces, machine_of, present_of, with_finished}
use Rattle.pac_core.specs.Results.{IsGiven}
use Rattle.pac_core.proofs.Alike.{invariant_is, order_is, present_is}
use Rattle.pac_core.proofs.KeptAt.{equal_or_not, get_changed, get_other, ids_stay, passes_still, still_up}
use Rattle.pac_core.proofs.Lists.{at_map, filter_alike, filter_of, set_other, set_same}
use Rattle.pac_core.proofs.Marks.{among_filter, finished_is, out_is}
use Rattle.pac_core.proofs.OneLess.{one_less}
use Rattle.pac_core.proofs.Ready.{SetAt, all_txns, own_mark, own_piece, stands_set, txns}
use Rattle.pac_core.proofs.SetFacts.{Stands, batch_at, ops_at}

-- ---- the values that are kept

-- records define no variable
records_define : (n : ℕ) (records : List Change) (x : ℕ) → defined_in (numbered_from n (map record_op records)) x ≡ false
unfolding numbered_from
records_define n [] x = refl
records_define n (PutRow table key row ∷ cs) x = records_define (n + 1) cs x
records_define n (DeleteRow table key ∷ cs) x = records_define (n + 1) cs x

-- what a piece defines and another block has as an input is left for it
left_for : (parts : PlanParts) (txn : Txn) (block other x : ℕ) → block < parts.blocks → is_found parts block txn x ≡ true → defined_in (piece_ops parts other txn) x ≡ true → is_passed_on parts other txn x ≡ true
left_for parts (ACall call) block other x inside found defined = inputs_are_outputs parts call.proc block other x inside found defined
left_for parts (AdHoc records) block other x inside found defined =
    let o = any_gives (λ (o : NumberedOp). is_var x (defined_variable o.1.kind)) (piece_ops parts other (AdHoc records)) defined in
    absurd (true≢false (sym (any_mem (λ (o : NumberedOp). is_var x (defined_variable o.1.kind)) o.0 _ (part-mem _ other (numbered_from 0 (map record_op records)) o.0 o.1).0 o.2) ∙ records_define 0 records x))

-- what is kept stays right where the piece's values are kept too
inputs_left : (parts : PlanParts) (txn : Txn) (other : ℕ) (outs kept new before after : Values) → KeepsInputs parts txn kept before → LeavesValues parts other txn outs kept new
    → ((x : ℕ) → get after x ≡ given_over (get outs x) (get before x)) → ((x : ℕ) (v : Value) → get outs x ≡ Some v → defined_in (piece_ops parts other txn) x ≡ true) → KeepsInputs parts txn new after
inputs_left parts txn other outs kept new before after is leaves own defined block x inside found = leaves x ∙ go (is_passed_on parts other txn x) refl (get outs x) refl ∙ sym (own x)
  where
    go : (b : Bool) → is_passed_on parts other txn x ≡ b → (o : Option Value) → get outs x ≡ o → cond b (given_over (get outs x) (get kept x)) (get kept x) ≡ given_over (get outs x) (get before x)
    go true l o e = ap (given_over (get outs x)) (is block x inside found)
    go false l None e = is block x inside found ∙ ap (λ o. given_over o (get before x)) (sym e)
    go false l (Some v) e = absurd (true≢false (sym (left_for parts txn block other x inside found (defined x v e)) ∙ l))

-- ---- states

-- a machine once a piece is finished, with these out
abbrev finished_machine : Replay → PieceId → (PieceId → Bool) → Machine
finished_machine r piece out = record { batches = r.batches; out = out; finished = adds (among r.finished) piece; now = apply (world_at r.job (machine_of r)) piece (present_of r) }

-- a step of the machine that finishes a piece: what is out then, with what is kept
pub record IsStepped (r : Replay) (piece : PieceId) : Type 0 where
  pub out : PieceId → Bool
  pub invariant : KeepsJob r.job (finished_machine r piece out)
  pub order : KeepsPrecedence r.job (finished_machine r piece out)
  pub others : (q : PieceId) → among r.out q ≡ true → is_piece piece q ≡ false → out q ≡ true

module _ (job : Job) (p : Progress) (keeps : KeepsProgress job p) (at : ℕ) (id : SetId) (stage : SetStage) (set : SetAt job p keeps at id (Some stage))
    (t : ℕ) (mem : Mem t (txns job p keeps at id (Some stage) set)) (unfinished : is_finished (mark (Some stage) (piece_in id.block t)) ≡ false)
    (stepped : IsStepped (replay_so_far job p) (piece_in id.block t))
    (n : ℕ) (txn : Txn) (number : t ≡ set.batch.first + n) (txn_is : slice_get set.batch.txns n ≡ Some txn)
    (writes : List Write) (outs : Values) (note : Option Note)
    (given : IsGiven (piece_in id.block t) (ops (world_at job (machine_of (replay_so_far job p))) (piece_in id.block t)) writes outs note (present_of (replay_so_far job p)) (apply (world_at job (machine_of (replay_so_far job p))) (piece_in id.block t) (present_of (replay_so_far job p))))
    (kept_before kept_now : Values) (loaded : LoadedBatch) (loaded_there : slice_get p.batches.items id.batch ≡ Some loaded) (before_is : slice_get loaded.kept.items n ≡ Some kept_before)
    (leaves : LeavesValues job.parts id.block txn outs kept_before kept_now)
    (next : Option SetStage) (new : Progress) (to : IsFinishedTo p at id next n kept_now note new)
    (marks_now : (q : PieceId) → Mem q (loaded_pieces (replay_so_far job p)) → mark_in (batches_of p) (with_kept_at p.sets.sets at next) q ≡ cond (is_piece (piece_in id.block t) q) state.Finished (mark_in (batches_of p) p.sets.sets q))
    (stage_now : (x : SetStage) → next ≡ Some x → IsStageOf (with_finished (replay_so_far job p) (piece_in id.block t)) (with_kept_at p.sets.sets at next) id (all_txns job p keeps at id (Some stage) set) x) where
  abbrev pub r : Replay
  r = replay_so_far job p

  abbrev pub m : Machine
  m = machine_of r

  abbrev pub piece : PieceId
  piece = piece_in id.block t

  abbrev pub sets_now : List (Kept SetStage)
  sets_now = with_kept_at p.sets.sets at next

  sets_are : new.sets.sets ≡ sets_now
  sets_are = ap (λ s. s.sets) to.sets

  piece_loaded : Mem piece (loaded_pieces r)
  piece_loaded = own_piece job p keeps at id (Some stage) set t mem

  -- ---- the replay

  finished_now : pieces_marked is_finished job (batches_of p) sets_now ≡ filter (adds (among r.finished) piece) (loaded_pieces r)
  finished_now = filter_alike (λ q. is_finished (mark_in (batches_of p) sets_now q)) (adds (among r.finished) piece) (loaded_pieces r) (λ q mem. ap is_finished (marks_now q mem) ∙ go (among r.finished q) (mark_in (batches_of p) p.sets.sets q) (is_piece piece q) (finished_is job p keeps q mem))
    where
      go : (x : Bool) (s : PieceState) (b : Bool) → x ≡ is_finished s → is_finished (cond b state.Finished s) ≡ (b || x)
      go x s true same = refl
      go x s false same = sym same

  out_now : pieces_marked is_out job (batches_of p) sets_now ≡ filter (λ q. among r.out q && not (is_piece piece q)) (loaded_pieces r)
  out_now = filter_alike (λ q. is_out (mark_in (batches_of p) sets_now q)) (λ q. among r.out q && not (is_piece piece q)) (loaded_pieces r) (λ q mem. ap is_out (marks_now q mem) ∙ go (among r.out q) (mark_in (batches_of p) p.sets.sets q) (is_piece piece q) (out_is job p keeps q mem))
    where
      go : (x : Bool) (s : PieceState) (b : Bool) → x ≡ is_out s → is_out (cond b state.Finished s) ≡ (x && not b)
      go x s true same = sym (and_false x false refl)
      go x s false same = sym same ∙ sym (and_true x)
        where
          and_true : (x : Bool) → (x && true) ≡ x
          and_true true = refl
          and_true false = refl

  pub finishes : replay_so_far job new ≡ with_finished r piece
  finishes = λ k. record {
    job = job;
    batches = to.batches k;
    is_closed = to.closed k;
    out = (ap₂ (λ bs ss. pieces_marked is_out job bs ss) to.batches sets_are ∙ out_now) k;
    finished = (ap₂ (λ bs ss. pieces_marked is_finished job bs ss) to.batches sets_are ∙ finished_now) k;
  }

  abbrev pub r' : Replay
  r' = with_finished r piece

  finished_alike : (q : PieceId) → Mem q (loaded_pieces r) → among r'.finished q ≡ adds (among r.finished) piece q
  finished_alike q mem = among_filter (adds (among r.finished) piece) (loaded_pieces r) q mem

  out_alike : (q : PieceId) → Mem q r'.out → stepped.out q ≡ true
  out_alike q mem =
      let has = (filter_of (λ q. among r.out q && not (is_piece piece q)) (loaded_pieces r) q mem).1 in
      stepped.others q (and_left (among r.out q) _ has) (not_true (is_piece piece q) (and_right (among r.out q) _ has))

  pub present_now : apply (world_at job m) piece (present_of r) ≡ present_of r'
  present_now = present_is r' stepped.out (adds (among r.finished) piece) _ stepped.invariant finished_alike (λ q mem. (filter_of _ (loaded_pieces r) q mem).0) out_alike

  invariant_now : KeepsJob job (machine_of r')
  invariant_now = invariant_is r' stepped.out (adds (among r.finished) piece) _ stepped.invariant finished_alike (λ q mem. (filter_of _ (loaded_pieces r) q mem).0) out_alike

  order_now : KeepsPrecedence job (machine_of r')
  order_now = order_is r' stepped.out (adds (among r.finished) piece) _ stepped.invariant finished_alike (λ q mem. (filter_of _ (loaded_pieces r) q mem).0) out_alike stepped.order

  -- ---- what is kept

  passed_still : (s : SetId) → WaitsForNothing job.parts.edges p.sets.sets s → WaitsForNothing job.parts.edges sets_now s
  passed_still s passed = passes_still p.sets.sets keeps.ascend at id (Some stage) next set.there job.parts.edges s (λ other same none. let wrong : None ≡ Some stage = sym none in absurd cc) passed

  opened_still : (s : SetId) (ts : List ℕ) (o : OpenSet) → IsOpened r p.sets.sets s ts o → IsOpened r' sets_now s ts o
  opened_still s ts o is = record { pieces = is.pieces; pairs = is.pairs; order = is.order; cells = is.cells; passed = passed_still s is.passed; left = is.left; size = is.size }

  stages_now : AreStages r' sets_now
  stages_now j s other batch here batch_there = go (equal_or_not j at)
    where
      go : (j ≡ at) ⊎ (j ≡ at → ⊥) → IsStageOf r' sets_now s (set_of job.parts batch.first batch.txns s.block).txns other
      go (inl same_offset) =
          let same : ◌≡◌ {A = Kept SetStage} (id, next) (s, Some other) = same_Some _ _ (sym (get_changed p.sets.sets at (id, Some stage) next set.there) ∙ ap (slice_get sets_now) (sym same_offset) ∙ here) in
          let id_is : id ≡ s = ap (λ (x : Kept SetStage). x.0) same in
          let batch_is : set.batch ≡ batch = same_Some _ _ (sym set.batch_there ∙ ap (λ (x : SetId). slice_get (batches_of p) x.batch) id_is ∙ batch_there) in
          subst (λ (x : SetId). IsStageOf r' sets_now x (set_of job.parts batch.first batch.txns x.block).txns other) id_is
          (subst (λ (b : Batch). IsStageOf r' sets_now id (set_of job.parts b.first b.txns id.block).txns other) batch_is (stage_now other (ap (λ (x : Kept SetStage). x.1) same)))
      go (inr differ) = still other (keeps.stages j s other batch (sym (get_other p.sets.sets at j next differ) ∙ here) batch_there)
        where
          still : (x : SetStage) → IsStageOf r p.sets.sets s (set_of job.parts batch.first batch.txns s.block).txns x → IsStageOf r' sets_now s (set_of job.parts batch.first batch.txns s.block).txns x
          still (Waiting w) is = is
          still (Open o) is = (is.0, is.1, opened_still s is.0 o is.2)

  unfinished_before : (k : ℕ) → IsUnfinishedBatch sets_now k → IsUnfinishedBatch p.sets.sets k
  unfinished_before k (j, s, other, here, batch) = go (equal_or_not j at)
    where
      go : (j ≡ at) ⊎ (j ≡ at → ⊥) → IsUnfinishedBatch p.sets.sets k
      go (inl same_offset) =
          let same : ◌≡◌ {A = Kept SetStage} (id, next) (s, Some other) = same_Some _ _ (sym (get_changed p.sets.sets at (id, Some stage) next set.there) ∙ ap (slice_get sets_now) (sym same_offset) ∙ here) in
          (at, id, stage, set.there, ap (λ (x : Kept SetStage). x.0.batch) same ∙ batch)
      go (inr differ) = (j, s, other, sym (get_other p.sets.sets at j next differ) ∙ here, batch)

  abbrev pub after : Present
  after = apply (world_at job m) piece (present_of r)

  -- the values of other transactions stay
  other_values : (u : ℕ) (x : Txn) (kept : Values) → (u ≡ t → ⊥) → KeepsInputs job.parts x kept ((present_of r).envs u) → KeepsInputs job.parts x kept (after.envs u)
  other_values u x kept differ is block v inside found = is block v inside found ∙ sym (given.others u v differ)

  -- so do those of other batches
  other_batch : (k : ℕ) (l b : LoadedBatch) → (k ≡ id.batch → ⊥) → slice_get p.batches.items k ≡ Some b → l.batch ≡ b.batch → l.kept.items ≡ b.kept.items → KeepsBatch job.parts (present_of r) b → KeepsBatch job.parts after l
  other_batch k l b differ there_b batch kept is = record {
    all = ap length kept ∙ is.all ∙ sym (ap (λ (x : Batch). length x.txns) batch);
    each = λ j x v at_txn at_kept.
        let txn_b : slice_get b.batch.txns j ≡ Some x = ap (λ (y : Batch). slice_get y.txns j) (sym batch) ∙ at_txn in
        let first_is : l.batch.first ≡ b.batch.first = ap (λ (y : Batch). y.first) batch in
        other_values (l.batch.first + j) x v (apart j x txn_b first_is) (subst (λ (f : ℕ). KeepsInputs job.parts x v ((present_of r).envs (f + j))) (sym first_is) (is.each j x v txn_b (ap (λ ks. slice_get ks j) (sym kept) ∙ at_kept)));
  }
    where
      apart : (j : ℕ) (x : Txn) → slice_get b.batch.txns j ≡ Some x → l.batch.first ≡ b.batch.first → l.batch.first + j ≡ t → ⊥
      apart j x at_txn first_is same =
          let s : Stands (batches_of p) t k j = record {
            batch = b.batch;
            there = at_map (λ (l : LoadedBatch). l.batch) p.batches.items k b there_b;
            inside = slice_get_within b.batch.txns j x at_txn;
            number = sym same ∙ ap (λ (f : ℕ). f + j) first_is;
          } in
          let theirs = batch_at job.parts job.first (batches_of p) keeps.machine.run_on t k j s in
          let own = batch_at job.parts job.first (batches_of p) keeps.machine.run_on t id.batch (t - set.batch.first) (stands_set job p keeps at id (Some stage) set t mem) in
          differ (omega (arith, own, theirs))

  -- those of its own batch but for its own
  own_batch : (l : LoadedBatch) → l.batch ≡ loaded.batch → l.kept.items ≡ slice_set loaded.kept.items n kept_now → KeepsBatch job.parts (present_of r) loaded → KeepsBatch job.parts after l
  own_batch l batch kept is = record {
    all = ap length kept ∙ length-set loaded.kept.items n kept_now ∙ is.all ∙ sym (ap (λ (x : Batch). length x.txns) batch);
    each = λ j x v at_txn at_kept. go j x v (ap (λ (y : Batch). slice_get y.txns j) (sym batch) ∙ at_txn) (ap (λ ks. slice_get ks j) (sym kept) ∙ at_kept) (equal_or_not j n);
  }
    where
      own_first : loaded.batch ≡ set.batch
      own_first = same_Some _ _ (sym (at_map (λ (l : LoadedBatch). l.batch) p.batches.items id.batch loaded loaded_there) ∙ set.batch_there)

      number_is : (j : ℕ) → j ≡ n → l.batch.first + j ≡ t
      number_is j same = ap (λ (y : Batch). y.first + j) (batch ∙ own_first) ∙ ap (λ (k : ℕ). set.batch.first + k) same ∙ sym number

      go : (j : ℕ) (x : Txn) (v : Values) → slice_get loaded.batch.txns j ≡ Some x → slice_get (slice_set loaded.kept.items n kept_now) j ≡ Some v → (j ≡ n) ⊎ (j ≡ n → ⊥)
          → KeepsInputs job.parts x v (after.envs (l.batch.first + j))
      go j x v at_txn at_kept (inl same) =
          let value_is : kept_now ≡ v = same_Some _ _ (sym (set_same loaded.kept.items n kept_before kept_now before_is) ∙ ap (slice_get (slice_set loaded.kept.items n kept_now)) (sym same) ∙ at_kept) in
          let x_is : txn ≡ x = same_Some _ _ (sym txn_is ∙ ap (λ (y : Batch). slice_get y.txns n) (sym own_first) ∙ ap (slice_get loaded.batch.txns) (sym same) ∙ at_txn) in
          subst (λ (u : ℕ). KeepsInputs job.parts x v (after.envs u)) (sym (number_is j same))
          (subst (λ (y : Txn). KeepsInputs job.parts y v (after.envs t)) x_is
          (subst (λ (w : Values). KeepsInputs job.parts txn w (after.envs t)) value_is
          (inputs_left job.parts txn id.block outs kept_before kept_now ((present_of r).envs t) (after.envs t) own_inputs leaves given.own
          (λ y w h. ap (λ os. defined_in os y) (sym operations) ∙ given.defined y w h))))
        where
          s : Stands (batches_of p) t id.batch n
          s = record { batch = set.batch; there = set.batch_there; inside = slice_get_within set.batch.txns n txn txn_is; number = number }

          operations : ops (world_at job m) piece ≡ piece_ops job.parts id.block txn
          operations = ops_at job.parts job.first (batches_of p) keeps.machine.run_on t id.batch n s id.block txn txn_is

          own_inputs : KeepsInputs job.parts txn kept_before ((present_of r).envs t)
          own_inputs = subst (λ (u : ℕ). KeepsInputs job.parts txn kept_before ((present_of r).envs u)) (ap (λ (y : Batch). y.first + n) own_first ∙ sym number)
              (is.each n txn kept_before (ap (λ (y : Batch). slice_get y.txns n) own_first ∙ txn_is) before_is)
      go j x v at_txn at_kept (inr differ) =
          let first_is : l.batch.first ≡ loaded.batch.first = ap (λ (y : Batch). y.first) batch in
          let both : l.batch.first + n ≡ t = number_is n refl in
          other_values (l.batch.first + j) x v (λ same. differ (omega (arith, same, both)))
          (subst (λ (f : ℕ). KeepsInputs job.parts x v ((present_of r).envs (f + j))) (sym first_is) (is.each j x v at_txn (sym (set_other loaded.kept.items n j kept_now differ) ∙ at_kept)))

  values_now : KeepsValues r' new.batches.items new.sets.sets
  values_now k l there_l left_k =
      let before = to.values k l there_l left_k in
      let old_values = keeps.values k before.0 before.1 (unfinished_before k (subst (λ ss. IsUnfinishedBatch ss k) sets_are left_k)) in
      subst (λ (s : Present). KeepsBatch job.parts s l) present_now (go (equal_or_not k id.batch) before.0 before.1 before.2 before.3 old_values)
    where
      go : (k ≡ id.batch) ⊎ (k ≡ id.batch → ⊥) → (b : LoadedBatch) → slice_get p.batches.items k ≡ Some b → l.batch ≡ b.batch → l.kept.items ≡ cond (k == id.batch) (slice_set b.kept.items n kept_now) b.kept.items
          → KeepsBatch job.parts (present_of r) b → KeepsBatch job.parts after l
      go (inl same) b there_b batch kept is =
          let b_is : b ≡ loaded = same_Some _ _ (sym there_b ∙ ap (slice_get p.batches.items) same ∙ loaded_there) in
          own_batch l (batch ∙ ap (λ (x : LoadedBatch). x.batch) b_is) (kept ∙ ap (λ c. cond c (slice_set b.kept.items n kept_now) b.kept.items) (equal_number k id.batch same) ∙ ap (λ (x : LoadedBatch). slice_set x.kept.items n kept_now) b_is)
          (subst (λ (x : LoadedBatch). KeepsBatch job.parts (present_of r) x) b_is is)
      go (inr differ) b there_b batch kept is =
          other_batch k l b differ there_b batch (kept ∙ ap (λ c. cond c (slice_set b.kept.items n kept_now) b.kept.items) (unlike (k == id.batch) (λ h. differ (same_number k id.batch h)))) is

  -- one piece less is left
  left_now : left r' + 1 ≡ left r
  left_now =
      ap (λ l. length l + 1) (filter_alike (λ q. not (among r'.finished q)) (λ q. not (among (piece ∷ r.finished) q)) (loaded_pieces r) (λ q mem. ap not (finished_alike q mem)))
      ∙ one_less piece (λ q. not (among r.finished q)) (λ q. not (among (piece ∷ r.finished) q))
      (ap not (finished_is job p keeps piece piece_loaded ∙ ap is_finished (own_mark job p keeps at id (Some stage) set t mem) ∙ unfinished))
      (ap (λ b. not (b || among r.finished piece)) (piece_self piece))
      (λ q differ. ap (λ b. not (b || among r.finished q)) (sym differ))
      (loaded_pieces r) (in_order (world_at job m) (numbers_of job.first (batches_of p)) (blocks_in job.parts) (rises-range job.first (length (txns_of (batches_of p)))) (rises-range 0 job.parts.blocks)) piece_loaded

  -- all is kept
  pub finish_keeps : KeepsProgress job new
  finish_keeps = record {
    parts = keeps.parts ∙ sym to.pieces;
    first = keeps.first ∙ sym to.first;
    edges = ap (λ s. s.edges) to.sets ∙ keeps.edges ∙ ap (λ (x : PlanParts). x.edges) (sym to.pieces);
    blocks = ap (λ s. s.blocks) to.sets ∙ keeps.blocks ∙ ap (λ (x : PlanParts). x.blocks) (sym to.pieces);
    is_plan = keeps.is_plan;
    fit = keeps.fit;
    machine = subst (λ (x : Replay). KeepsJob job (machine_of x)) (sym finishes) invariant_now;
    order = subst (λ (x : Replay). KeepsPrecedence job (machine_of x)) (sym finishes) order_now;
    note = to.note_is ∙ ap (λ (o : Option Note). least o note) keeps.note ∙ sym given.note_is ∙ ap (λ (s : Present). s.note) present_now ∙ ap (λ (x : Replay). (present_of x).note) (sym finishes);
    next = to.next ∙ keeps.next ∙ ap (next_in_job job) (sym to.batches);
    unfinished = (let a = to.unfinished in let b = left_now in let c = keeps.unfinished in let l : left (replay_so_far job new) ≡ left r' = ap left finishes in omega (arith, a, b, c, l));
    sets = ap (map (λ (set : Kept SetStage). set.0)) sets_are ∙ ids_stay p.sets.sets at next ∙ keeps.sets ∙ ap (set_ids job.parts 0) (sym to.batches);
    ascend = subst (λ ss. T (is_sorted set_cmp ss)) (sym sets_are) (still_up p.sets.sets keeps.ascend at id (Some stage) next set.there);
    stages = subst (λ (x : Replay). AreStages x new.sets.sets) (sym finishes) (subst (AreStages r') (sym sets_are) stages_now);
    values = subst (λ (x : Replay). KeepsValues x new.batches.items new.sets.sets) (sym finishes) values_now;
  }
