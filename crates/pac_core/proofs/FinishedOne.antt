-- A piece of an open set is finished: the replay has it finished, its state is the piece applied, and all is kept.
use Rattle.std.proofs.Common.{◌≡◌, ◌⊎◌, ℕ, zero, suc, ◌+◌, ◌-◌, Bool, true, false, cond, List, [], ◌∷◌, length, Option, Some, None, refl, sym, ap, subst, ◌∙◌, true≢false, inl, inr, arith}
use Rattle.std.specs.Prelude.{slice_get, unwrap_or}
use Rattle.std.specs.List.{list_all}
use Rattle.std.proofs.lemmas.List.{length-map, length-set}
use Rattle.std.proofs.lemmas.Option.{same_Some, slice_get_within}
use Rattle.pac_base.specs.Members.{Mem}
use Rattle.pac_base.proofs.TestLemmas.{and_left, and_right}
use Rattle.pac_base.proofs.ItemLemmas.{item_at}
use Rattle.pac_value.specs.Expressions.{Values}
use Rattle.pac_ops.specs.declared.note.Note.{Note}
use Rattle.pac_ops.specs.declared.piece.PieceId.{PieceId}
use Rattle.pac_ops.specs.declared.transaction.Txn.{Txn}
use Rattle.pac_plan.specs.Pieces.{apply, is_piece, ops}
use Rattle.pac_tables.specs.declared.writes.Write.{Write}
use Rattle.pac_sched.specs.declared.state.PieceState.{PieceState}
use Rattle.pac_sched.specs.declared.state.PieceState.TheVariants as state
use Rattle.pac_sched.specs.Schedules.{IsInOrder, all_finished, at_position, is_finished, position_of, set_at, with_state}
use Rattle.pac_sets.specs.declared.set_id.SetId.{SetId}
use Rattle.pac_sets.specs.Sets.{Kept, WaitsForNothing, kept_of, with_kept_at}
use Rattle.pac_commute.specs.Loads.{Job}
use Rattle.pac_commute.specs.Machine.{Machine, world_at}
use Rattle.pac_core.specs.declared.loaded.LoadedBatch.{LoadedBatch}
use Rattle.pac_core.specs.declared.progress.Progress.{Progress}
use Rattle.pac_core.specs.declared.stage.OpenSet.{OpenSet}
use Rattle.pac_core.specs.declared.stage.SetStage.{SetStage}
use Rattle.pac_core.specs.declared.stage.SetStage.TheVariants.{Open}
use Rattle.pac_core.specs.Inputs.{LeavesValues}
use Rattle.pac_core.specs.Links.{piece_in, set_of_piece, IsStageOf, KeepsProgress, batches_of, mark, mark_in, replay_so_far}
use Rattle.pac_core.specs.Moves.{IsFinishedTo, after_finish, finished_in}
use Rattle.pac_core.specs.Replay.{Replay, left, loaded_pieces, machine_of, present_of, with_finished}
use Rattle.pac_core.specs.Results.{IsGiven}
use Rattle.pac_core.proofs.FinishedMark as mark_of
use Rattle.pac_core.proofs.FinishedMark.{IsStepped}
use Rattle.pac_core.proofs.KeptAt.{equal_or_not, kept_changed, kept_stays, passes_still}
use Rattle.pac_core.proofs.Lists.{at_mem, mem_at}
use Rattle.pac_core.proofs.Marks.{Placed, placed, set_is}
use Rattle.pac_core.proofs.OneMark.{mark_after, moved, old_mark}
use Rattle.pac_core.proofs.Ready.{SetAt, all_txns, any_mark, own_mark, placed_here, position_is, txns, unfinished_here}

-- ---- states

all_are : (states : List PieceState) → list_all is_finished states ≡ true → (j : ℕ) (s : PieceState) → slice_get states j ≡ Some s → s ≡ state.Finished
all_are [] all j s e = let wrong : None ≡ Some s = e in absurd cc
all_are (x ∷ xs) all zero s e = sym (same_Some x s e) ∙ finished x (and_left (is_finished x) (list_all is_finished xs) all)
  where
    finished : (x : PieceState) → is_finished x ≡ true → x ≡ state.Finished
    finished state.Waiting h = absurd (true≢false (sym h))
    finished state.Out h = absurd (true≢false (sym h))
    finished state.Finished h = refl
all_are (x ∷ xs) all (suc j) s e = all_are xs (and_right (is_finished x) (list_all is_finished xs) all) j s e

-- what was finished is
finished_both : (b : Bool) (s : PieceState) → is_finished s ≡ true → state.Finished ≡ cond b state.Finished s
finished_both true s e = refl
finished_both false state.Waiting e = absurd (true≢false (sym e))
finished_both false state.Out e = absurd (true≢false (sym e))
finished_both false state.Finished e = refl

module _ (job : Job) (p : Progress) (keeps : KeepsProgress job p) (at : ℕ) (id : SetId) (opening : OpenSet) (set : SetAt job p keeps at id (Some (Open opening)))
    (i t : ℕ) (at_i : slice_get (txns job p keeps at id (Some (Open opening)) set) i ≡ Some t) (old : PieceState) (was : slice_get opening.sched.states i ≡ Some old) (unfinished : is_finished old ≡ false)
    (order : IsInOrder (with_state opening.sched (piece_in id.block t) state.Finished))
    (stepped : IsStepped (replay_so_far job p) (piece_in id.block t))
    (n : ℕ) (txn : Txn) (number : t ≡ set.batch.first + n) (txn_is : slice_get set.batch.txns n ≡ Some txn)
    (writes : List Write) (outs : Values) (note : Option Note)
    (given : IsGiven (piece_in id.block t) (ops (world_at job (machine_of (replay_so_far job p))) (piece_in id.block t)) writes outs note (present_of (replay_so_far job p)) (apply (world_at job (machine_of (replay_so_far job p))) (piece_in id.block t) (present_of (replay_so_far job p))))
    (kept_before kept_now : Values) (loaded : LoadedBatch) (loaded_there : slice_get p.batches.items id.batch ≡ Some loaded) (before_is : slice_get loaded.kept.items n ≡ Some kept_before)
    (leaves : LeavesValues job.parts id.block txn outs kept_before kept_now)
    (new : Progress) (to : IsFinishedTo p at id (after_finish (finished_in opening (piece_in id.block t))) n kept_now note new) where
  abbrev pub r : Replay
  r = replay_so_far job p

  abbrev pub m : Machine
  m = machine_of r

  abbrev pub piece : PieceId
  piece = piece_in id.block t

  abbrev pub now_open : OpenSet
  now_open = moved job p keeps at id opening set i t at_i old state.Finished was

  abbrev pub sets_now : List (Kept SetStage)
  sets_now = with_kept_at p.sets.sets at (after_finish now_open)

  -- a finished set has each piece finished
  marks_now : (q : PieceId) → Mem q (loaded_pieces r) → mark_in (batches_of p) sets_now q ≡ cond (is_piece piece q) state.Finished (mark_in (batches_of p) p.sets.sets q)
  marks_now q mem = go (all_finished now_open.sched) refl
    where
      go : (b : Bool) → all_finished now_open.sched ≡ b → mark_in (batches_of p) (with_kept_at p.sets.sets at (cond b None (Some (Open now_open)))) q ≡ cond (is_piece piece q) state.Finished (mark_in (batches_of p) p.sets.sets q)
      go false all = mark_after job p keeps at id opening set i t at_i old state.Finished was q
      go true all = split (equal_or_not place.k id.batch) (equal_or_not q.block id.block)
        where
          place : Placed job p keeps q
          place = placed job p keeps q mem

          none : kept_of id (with_kept_at p.sets.sets at None) ≡ None
          none = kept_changed p.sets.sets keeps.ascend at id (Some (Open opening)) None set.there

          some : kept_of id (with_kept_at p.sets.sets at (Some (Open now_open))) ≡ Some (Open now_open)
          some = kept_changed p.sets.sets keeps.ascend at id (Some (Open opening)) (Some (Open now_open)) set.there

          -- in another set
          other : (set_of_piece (batches_of p) q ≡ id → ⊥) → mark_in (batches_of p) (with_kept_at p.sets.sets at None) q ≡ cond (is_piece piece q) state.Finished (mark_in (batches_of p) p.sets.sets q)
          other differ =
              ap (λ k. mark k q) (kept_stays p.sets.sets keeps.ascend at id (Some (Open opening)) None set.there (set_of_piece (batches_of p) q) differ)
              ∙ sym (ap (λ k. mark k q) (kept_stays p.sets.sets keeps.ascend at id (Some (Open opening)) (Some (Open now_open)) set.there (set_of_piece (batches_of p) q) differ))
              ∙ mark_after job p keeps at id opening set i t at_i old state.Finished was q

          split : (place.k ≡ id.batch) ⊎ (place.k ≡ id.batch → ⊥) → (q.block ≡ id.block) ⊎ (q.block ≡ id.block → ⊥) → mark_in (batches_of p) (with_kept_at p.sets.sets at None) q ≡ cond (is_piece piece q) state.Finished (mark_in (batches_of p) p.sets.sets q)
          split (inl batch) (inl block) =
              let own : set_of_piece (batches_of p) q ≡ id = set_is job p keeps q place ∙ (λ k. record { batch = batch k; block = block k }) in
              let q_in = placed_here job p keeps q place at id (Some (Open opening)) set (sym batch) (sym block) in
              let here : piece_in id.block q.txn ≡ q = λ k. record { txn = q.txn; block = sym block k } in
              ap (λ x. mark (kept_of x (with_kept_at p.sets.sets at None)) q) own ∙ ap (λ k. mark k q) none
              ∙ decide own q_in here (is_finished (mark (Some (Open opening)) (piece_in id.block q.txn))) refl
            where
              has_state_now : (j u : ℕ) → slice_get (txns job p keeps at id (Some (Open opening)) set) j ≡ Some u → (s : PieceState) × (slice_get now_open.sched.states j ≡ Some s)
              has_state_now j u at_j =
                  let is = (keeps.stages at id (Open opening) set.batch set.there set.batch_there).2 in
                  let within = slice_get_within _ j u at_j in
                  let size = is.size in
                  let len : length opening.sched.pieces ≡ length (txns job p keeps at id (Some (Open opening)) set) = ap length is.pieces ∙ length-map _ (piece_in id.block) in
                  let now_size : length now_open.sched.states ≡ length opening.sched.states = ap (λ o. length (set_at o state.Finished opening.sched.states)) (position_is job p keeps at id opening set i t at_i) ∙ length-set opening.sched.states i state.Finished in
                  item_at now_open.sched.states j (omega (arith, within, size, len, now_size))

              -- it was finished before, or is among those of which something is kept
              decide : set_of_piece (batches_of p) q ≡ id → Mem q.txn (all_txns job p keeps at id (Some (Open opening)) set) → piece_in id.block q.txn ≡ q
                  → (b : Bool) → is_finished (mark (Some (Open opening)) (piece_in id.block q.txn)) ≡ b → state.Finished ≡ cond (is_piece piece q) state.Finished (mark_in (batches_of p) p.sets.sets q)
              decide own q_in here true was_finished =
                  finished_both (is_piece piece q) (mark_in (batches_of p) p.sets.sets q)
                  (ap (λ x. is_finished (mark_in (batches_of p) p.sets.sets x)) (sym here) ∙ ap is_finished (any_mark job p keeps at id (Some (Open opening)) set q.txn q_in) ∙ was_finished)
              decide own q_in here false was_left =
                  let j = mem_at (txns job p keeps at id (Some (Open opening)) set) q.txn (unfinished_here job p keeps at id (Some (Open opening)) set q.txn q_in was_left) in
                  let s = has_state_now j.0 q.txn j.1 in
                  sym (all_are now_open.sched.states all j.0 s.0 s.1)
                  ∙ sym (ap (λ o. unwrap_or o state.Finished) (ap (at_position now_open.sched.states) (ap (position_of opening.sched) (sym here) ∙ position_is job p keeps at id opening set j.0 q.txn j.1) ∙ s.1))
                  ∙ sym (ap (λ x. mark (kept_of x (with_kept_at p.sets.sets at (Some (Open now_open)))) q) own ∙ ap (λ k. mark k q) some)
                  ∙ mark_after job p keeps at id opening set i t at_i old state.Finished was q
          split (inl batch) (inr block) = other (λ h. block (ap (λ (x : SetId). x.block) h))
          split (inr batch) block = other (λ h. batch (ap (λ (x : SetId). x.batch) (sym (set_is job p keeps q place) ∙ h)))

  passed_still : (s : SetId) → WaitsForNothing job.parts.edges p.sets.sets s → WaitsForNothing job.parts.edges sets_now s
  passed_still s passed = passes_still p.sets.sets keeps.ascend at id (Some (Open opening)) (after_finish now_open) set.there job.parts.edges s (λ other same none. let wrong : None ≡ Some (Open opening) = sym none in absurd cc) passed

  -- the set goes on where another of its pieces is left
  stage_now : (x : SetStage) → after_finish now_open ≡ Some x → IsStageOf (with_finished r piece) sets_now id (all_txns job p keeps at id (Some (Open opening)) set) x
  stage_now x is = go (all_finished now_open.sched) refl is
    where
      go : (b : Bool) → all_finished now_open.sched ≡ b → cond b None (Some (Open now_open)) ≡ Some x → IsStageOf (with_finished r piece) sets_now id (all_txns job p keeps at id (Some (Open opening)) set) x
      go true all e = let wrong : None ≡ Some x = e in absurd cc
      go false all e =
          let was = keeps.stages at id (Open opening) set.batch set.there set.batch_there in
          subst (IsStageOf (with_finished r piece) sets_now id (all_txns job p keeps at id (Some (Open opening)) set)) (same_Some (Open now_open) x e) (
            was.0,
            was.1,
            record {
              pieces = was.2.pieces;
              pairs = was.2.pairs;
              order = order;
              cells = was.2.cells;
              passed = passed_still id was.2.passed;
              left = all;
              size = ap (λ o. length (set_at o state.Finished opening.sched.states)) (position_is job p keeps at id opening set i t at_i) ∙ length-set opening.sched.states i state.Finished ∙ was.2.size;
            },
          )

  left_mark : is_finished (mark (Some (Open opening)) piece) ≡ false
  left_mark = ap is_finished (sym (own_mark job p keeps at id (Some (Open opening)) set t (at_mem _ i t at_i)) ∙ old_mark job p keeps at id opening set i t at_i old state.Finished was) ∙ unfinished

  pub finishes : replay_so_far job new ≡ with_finished r piece
  finishes = mark_of.finishes job p keeps at id (Open opening) set t (at_mem _ i t at_i) left_mark stepped n txn number txn_is writes outs note given kept_before kept_now loaded loaded_there before_is leaves
      (after_finish now_open) new to marks_now stage_now

  pub present_now : apply (world_at job m) piece (present_of r) ≡ present_of (with_finished r piece)
  present_now = mark_of.present_now job p keeps at id (Open opening) set t (at_mem _ i t at_i) left_mark stepped n txn number txn_is writes outs note given kept_before kept_now loaded loaded_there before_is leaves
      (after_finish now_open) new to marks_now stage_now

  pub finish_keeps : KeepsProgress job new
  finish_keeps = mark_of.finish_keeps job p keeps at id (Open opening) set t (at_mem _ i t at_i) left_mark stepped n txn number txn_is writes outs note given kept_before kept_now loaded loaded_there before_is leaves
      (after_finish now_open) new to marks_now stage_now
