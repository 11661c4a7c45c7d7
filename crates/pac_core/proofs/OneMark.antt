-- One piece of an open set is so far now: what that changes of the replay.
use Rattle.std.proofs.Common.{◌≡◌, ◌⊎◌, ℕ, ◌+◌, ◌-◌, Bool, true, false, cond, List, Option, Some, None, refl, sym, ap, ◌∙◌, true≢false, inl, inr, arith}
use Rattle.std.specs.Prelude.{slice_get, slice_set, filter, unwrap_or}
use Rattle.std.proofs.lemmas.Option.{same_Some, slice_get-get_or, slice_get_within}
use Rattle.pac_base.specs.Members.{Mem}
use Rattle.pac_ops.specs.declared.piece.PieceId.{PieceId}
use Rattle.pac_plan.specs.Pieces.{is_piece}
use Rattle.pac_sched.specs.declared.state.PieceState.{PieceState}
use Rattle.pac_sched.specs.declared.state.PieceState.TheVariants as state
use Rattle.pac_sched.specs.Schedules.{Schedule, at_position, position_of, set_at, state_of_piece, with_state}
use Rattle.pac_sched.proofs.StateLemmas.{get_same, get_other}
use Rattle.pac_sched.proofs.PickLemmas.{stands}
use Rattle.pac_sets.specs.declared.set_id.SetId.{SetId}
use Rattle.pac_sets.specs.Sets.{Kept, kept_of, with_kept_at}
use Rattle.pac_sets.proofs.SetLemmas.{kept_there}
use Rattle.pac_commute.proofs.Steps.{piece_self, same_piece}
use Rattle.pac_commute.specs.Loads.{Job}
use Rattle.pac_core.specs.declared.progress.Progress.{Progress}
use Rattle.pac_core.specs.declared.stage.OpenSet.{OpenSet}
use Rattle.pac_core.specs.declared.stage.SetStage.{SetStage}
use Rattle.pac_core.specs.declared.stage.SetStage.TheVariants.{Open}
use Rattle.pac_core.specs.Links.{KeepsProgress, batches_of, mark, mark_in, pieces_marked, piece_in, replay_so_far, set_of_piece}
use Rattle.pac_core.specs.Replay.{Replay, loaded_pieces}
use Rattle.pac_core.proofs.KeptAt.{equal_or_not, kept_changed, kept_stays}
use Rattle.pac_core.proofs.Lists.{at_mem, filter_alike}
use Rattle.pac_core.proofs.Ready.{SetAt, mark_at, own_piece, position_is, stands_set, txns}
use Rattle.pac_core.proofs.SetFacts.{batch_at}

-- ---- in a schedule

module _ (s : Schedule) (id : PieceId) (i : ℕ) (at : position_of s id ≡ Some i) (old new : PieceState) (was : slice_get s.states i ≡ Some old) where
  -- the piece is so far, and others are as they were
  own_state : state_of_piece (with_state s id new) id ≡ Some new
  own_state = ap (λ o. at_position (set_at o new s.states) o) at ∙ get_same s.states i new (slice_get_within s.states i old was)

  other_state : (q : PieceId) → is_piece id q ≡ false → state_of_piece (with_state s id new) q ≡ state_of_piece s q
  other_state q differ = ap (λ o. at_position (set_at o new s.states) (position_of s q)) at ∙ go (position_of s q) refl
    where
      apart : (j : ℕ) → position_of s q ≡ Some j → j ≡ i → ⊥
      apart j e same =
          let one = stands s id i at in
          let other = stands s q j e in
          let there : Some id ≡ Some q = sym (ap (λ x. Some x) one.1) ∙ sym (slice_get-get_or s.pieces i id one.0) ∙ ap (slice_get s.pieces) (sym same) ∙ slice_get-get_or s.pieces j q other.0 ∙ ap (λ x. Some x) other.1 in
          true≢false (sym (piece_self id) ∙ ap (is_piece id) (same_Some id q there) ∙ differ)

      go : (o : Option ℕ) → position_of s q ≡ o → at_position (slice_set s.states i new) o ≡ at_position s.states o
      go None e = refl
      go (Some j) e = get_other s.states i new (slice_get_within s.states i old was) j (apart j e)

-- ---- in the replay

module _ (job : Job) (p : Progress) (keeps : KeepsProgress job p) (at : ℕ) (id : SetId) (opening : OpenSet) (set : SetAt job p keeps at id (Some (Open opening)))
    (i t : ℕ) (e : slice_get (txns job p keeps at id (Some (Open opening)) set) i ≡ Some t) (old new : PieceState) (was : slice_get opening.sched.states i ≡ Some old) where
  abbrev pub r : Replay
  r = replay_so_far job p

  -- the piece
  abbrev pub q0 : PieceId
  q0 = piece_in id.block t

  -- its set now
  abbrev pub moved : OpenSet
  moved = record { sched = with_state opening.sched q0 new; cells = opening.cells }

  abbrev pub sets_after : List (Kept SetStage)
  sets_after = with_kept_at p.sets.sets at (Some (Open moved))

  place_is : position_of opening.sched q0 ≡ Some i
  place_is = position_is job p keeps at id opening set i t e

  loaded_is : Mem q0 (loaded_pieces r)
  loaded_is = own_piece job p keeps at id (Some (Open opening)) set t (at_mem _ i t e)

  pub old_mark : mark_in (batches_of p) p.sets.sets q0 ≡ old
  old_mark = mark_at job p keeps at id opening set i t old e was

  set_is_id : set_of_piece (batches_of p) q0 ≡ id
  set_is_id =
      let s = stands_set job p keeps at id (Some (Open opening)) set t (at_mem _ i t e) in
      ap (λ (k : ℕ). record { batch = k - 1; block = id.block }) (batch_at job.parts job.first (batches_of p) keeps.machine.run_on t id.batch (t - set.batch.first) s)
      ∙ ap (λ (k : ℕ). record { batch = k; block = id.block }) (let e : id.batch + 1 - 1 ≡ id.batch = omega arith in e)

  -- each other piece is as far as it was
  pub mark_after : (q : PieceId) → mark_in (batches_of p) sets_after q ≡ cond (is_piece q0 q) new (mark_in (batches_of p) p.sets.sets q)
  mark_after q = go (is_piece q0 q) refl
    where
      changed : kept_of id sets_after ≡ Some (Open moved)
      changed = kept_changed p.sets.sets keeps.ascend at id (Some (Open opening)) (Some (Open moved)) set.there

      stays : (set_of_piece (batches_of p) q ≡ id → ⊥) → mark (kept_of (set_of_piece (batches_of p) q) sets_after) q ≡ mark (kept_of (set_of_piece (batches_of p) q) p.sets.sets) q
      stays differ = ap (λ k. mark k q) (kept_stays p.sets.sets keeps.ascend at id (Some (Open opening)) (Some (Open moved)) set.there (set_of_piece (batches_of p) q) differ)

      others : is_piece q0 q ≡ false → (x : ℕ) (y : ℕ) → x ≡ (set_of_piece (batches_of p) q).batch → y ≡ q.block → ((x ≡ id.batch) ⊎ (x ≡ id.batch → ⊥)) → ((y ≡ id.block) ⊎ (y ≡ id.block → ⊥))
          → mark (kept_of (set_of_piece (batches_of p) q) sets_after) q ≡ mark (kept_of (set_of_piece (batches_of p) q) p.sets.sets) q
      others differ x y ex ey (inl b) (inl c) =
          let same : set_of_piece (batches_of p) q ≡ id = λ k. record { batch = (sym ex ∙ b) k; block = (sym ey ∙ c) k } in
          ap (λ s. mark (kept_of s sets_after) q) same ∙ ap (λ k. mark k q) changed
          ∙ ap (λ o. unwrap_or o state.Finished) (other_state opening.sched q0 i place_is old new was q differ)
          ∙ sym (ap (λ s. mark (kept_of s p.sets.sets) q) same ∙ ap (λ k. mark k q) (kept_there p.sets.sets keeps.ascend at id (Some (Open opening)) set.there))
      others differ x y ex ey (inl b) (inr c) = stays (λ h. c (ey ∙ ap (λ (x : SetId). x.block) h))
      others differ x y ex ey (inr b) c = stays (λ h. b (ex ∙ ap (λ (x : SetId). x.batch) h))

      go : (b : Bool) → is_piece q0 q ≡ b → mark_in (batches_of p) sets_after q ≡ cond b new (mark_in (batches_of p) p.sets.sets q)
      go true same =
          let own : q0 ≡ q = same_piece q0 q same in
          ap (mark_in (batches_of p) sets_after) (sym own)
          ∙ ap (λ s. mark (kept_of s sets_after) q0) set_is_id ∙ ap (λ k. mark k q0) changed
          ∙ ap (λ o. unwrap_or o state.Finished) (own_state opening.sched q0 i place_is old new was)
      go false differ = others differ (set_of_piece (batches_of p) q).batch q.block refl refl (equal_or_not (set_of_piece (batches_of p) q).batch id.batch) (equal_or_not q.block id.block)

  -- the pieces that pass a test
  pub marked_after : (test : PieceState → Bool) (g : PieceId → Bool) → ((q : PieceId) → Mem q (loaded_pieces r) → cond (is_piece q0 q) (test new) (test (mark_in (batches_of p) p.sets.sets q)) ≡ g q)
      → pieces_marked test job (batches_of p) sets_after ≡ filter g (loaded_pieces r)
  marked_after test g same = filter_alike (λ q. test (mark_in (batches_of p) sets_after q)) g (loaded_pieces r) (λ q mem. ap test (mark_after q) ∙ inside new (mark_in (batches_of p) p.sets.sets q) (is_piece q0 q) ∙ same q mem)
    where
      inside : (x y : PieceState) (b : Bool) → test (cond b x y) ≡ cond b (test x) (test y)
      inside x y true = refl
      inside x y false = refl
