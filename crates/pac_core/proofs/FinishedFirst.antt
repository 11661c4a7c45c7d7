-- The first piece that is left of a set that waits is finished: the others are left, and all is kept.
use Rattle.std.proofs.Common.{◌≡◌, ◌⊎◌, ℕ, ◌+◌, ◌-◌, ◌<◌, ◌==◌, Bool, true, false, cond, ◌||◌, List, [], ◌∷◌, ◌++◌, Option, Some, None, refl, sym, ap, subst, ◌∙◌, true≢false, inl, inr, arith, append_assoc}
use Rattle.std.specs.Prelude.{slice_get}
use Rattle.std.specs.List.{list_any}
use Rattle.std.proofs.lemmas.Option.{same_Some}
use Rattle.pac_base.specs.Members.{Mem}
use Rattle.pac_base.proofs.TestLemmas.{any_gives, mem_each, same_number, unlike}
use Rattle.pac_value.specs.Expressions.{Values}
use Rattle.pac_ops.specs.declared.note.Note.{Note}
use Rattle.pac_ops.specs.declared.piece.PieceId.{PieceId}
use Rattle.pac_ops.specs.declared.transaction.Txn.{Txn}
use Rattle.pac_plan.specs.Pieces.{apply, is_piece, ops}
use Rattle.pac_tables.specs.declared.writes.Write.{Write}
use Rattle.pac_batch.specs.Sets.{has_numbers}
use Rattle.pac_sched.specs.declared.state.PieceState.TheVariants as state
use Rattle.pac_sched.specs.Schedules.{is_finished}
use Rattle.pac_sets.specs.declared.set_id.SetId.{SetId}
use Rattle.pac_sets.specs.Sets.{Kept, kept_of, with_kept_at}
use Rattle.pac_sets.proofs.SetLemmas.{kept_there}
use Rattle.pac_commute.specs.Loads.{Job}
use Rattle.pac_commute.specs.Machine.{Machine, world_at}
use Rattle.pac_commute.proofs.Steps.{piece_self, same_piece}
use Rattle.pac_core.specs.declared.loaded.LoadedBatch.{LoadedBatch}
use Rattle.pac_core.specs.declared.progress.Progress.{Progress}
use Rattle.pac_core.specs.declared.stage.SetStage.{SetStage}
use Rattle.pac_core.specs.declared.stage.SetStage.TheVariants.{Waiting}
use Rattle.pac_core.specs.Inputs.{LeavesValues}
use Rattle.pac_core.specs.Links.{IsRest, IsStageOf, KeepsProgress, batches_of, mark, mark_in, piece_in, replay_so_far, set_of_piece}
use Rattle.pac_core.specs.Moves.{IsFinishedTo, after_first}
use Rattle.pac_core.specs.Replay.{Replay, loaded_pieces, machine_of, present_of, with_finished}
use Rattle.pac_core.specs.Results.{IsGiven}
use Rattle.pac_core.proofs.FinishedMark as mark_of
use Rattle.pac_core.proofs.FinishedMark.{IsStepped}
use Rattle.pac_core.proofs.KeptAt.{equal_or_not, kept_changed, kept_stays}
use Rattle.pac_core.proofs.Ready.{SetAt, all_txns, rest_of, rises, set_at, stands_set, waiting_mark}
use Rattle.pac_core.proofs.SetFacts.{batch_at}

-- what is left of a set says of each of its pieces how far it is, where none is left too
left_mark : (rest : List ℕ) (q : PieceId) → mark (after_first rest) q ≡ cond (list_any (λ u. u == q.txn) rest) state.Waiting state.Finished
left_mark [] q = refl
left_mark (u ∷ us) q = refl

-- a list ends with the others too
others_rest : (all : List ℕ) (t : ℕ) (rest : List ℕ) → IsRest all (t ∷ rest) → has_numbers rest ≡ true → IsRest all rest
others_rest all t rest is some = record {
  before = is.before ++ t ∷ [];
  is = append_assoc is.before (t ∷ []) rest ∙ is.is;
  some = some;
}

module _ (job : Job) (p : Progress) (keeps : KeepsProgress job p) (at : ℕ) (id : SetId) (t : ℕ) (rest : List ℕ) (there : slice_get p.sets.sets at ≡ Some (id, Some (Waiting (t ∷ rest))))
    (stepped : IsStepped (replay_so_far job p) (piece_in id.block t))
    (n : ℕ) (txn : Txn) (number : t ≡ (set_at job p keeps at id (Some (Waiting (t ∷ rest))) there).batch.first + n) (txn_is : slice_get (set_at job p keeps at id (Some (Waiting (t ∷ rest))) there).batch.txns n ≡ Some txn)
    (writes : List Write) (outs : Values) (note : Option Note)
    (given : IsGiven (piece_in id.block t) (ops (world_at job (machine_of (replay_so_far job p))) (piece_in id.block t)) writes outs note (present_of (replay_so_far job p)) (apply (world_at job (machine_of (replay_so_far job p))) (piece_in id.block t) (present_of (replay_so_far job p))))
    (kept_before kept_now : Values) (loaded : LoadedBatch) (loaded_there : slice_get p.batches.items id.batch ≡ Some loaded) (before_is : slice_get loaded.kept.items n ≡ Some kept_before)
    (leaves : LeavesValues job.parts id.block txn outs kept_before kept_now)
    (new : Progress) (to : IsFinishedTo p at id (after_first rest) n kept_now note new) where
  abbrev pub r : Replay
  r = replay_so_far job p

  abbrev pub m : Machine
  m = machine_of r

  abbrev pub piece : PieceId
  piece = piece_in id.block t

  abbrev set : SetAt job p keeps at id (Some (Waiting (t ∷ rest)))
  set = set_at job p keeps at id (Some (Waiting (t ∷ rest))) there

  abbrev sets_now : List (Kept SetStage)
  sets_now = with_kept_at p.sets.sets at (after_first rest)

  -- the transactions after it have greater numbers
  not_again : list_any (λ u. u == t) rest ≡ false
  not_again = unlike (list_any (λ u. u == t) rest) (λ h.
      let u = any_gives (λ u. u == t) rest h in
      let same : u.0 ≡ t = same_number u.0 t u.2 in
      let less : t < u.0 = mem_each (λ v. t < v) rest (rises job p keeps at id (Some (Waiting (t ∷ rest))) set).0 u.0 u.1 in
      omega (arith, same, less))

  set_is_id : set_of_piece (batches_of p) piece ≡ id
  set_is_id =
      let s = stands_set job p keeps at id (Some (Waiting (t ∷ rest))) set t (inl refl) in
      let number = batch_at job.parts job.first (batches_of p) keeps.machine.run_on t id.batch (t - set.batch.first) s in
      ap (λ (k : ℕ). record { batch = k - 1; block = id.block }) number
      ∙ ap (λ (k : ℕ). record { batch = k; block = id.block }) (let e : id.batch + 1 - 1 ≡ id.batch = omega arith in e)

  -- each other piece is as far as it was
  marks_now : (q : PieceId) → Mem q (loaded_pieces r) → mark_in (batches_of p) sets_now q ≡ cond (is_piece piece q) state.Finished (mark_in (batches_of p) p.sets.sets q)
  marks_now q mem = go (is_piece piece q) refl
    where
      changed : (x : PieceId) → set_of_piece (batches_of p) x ≡ id → mark_in (batches_of p) sets_now x ≡ cond (list_any (λ u. u == x.txn) rest) state.Waiting state.Finished
      changed x own =
          ap (λ s. mark (kept_of s sets_now) x) own
          ∙ ap (λ k. mark k x) (kept_changed p.sets.sets keeps.ascend at id (Some (Waiting (t ∷ rest))) (after_first rest) there)
          ∙ left_mark rest x

      was : set_of_piece (batches_of p) q ≡ id → mark_in (batches_of p) p.sets.sets q ≡ cond (t == q.txn || list_any (λ u. u == q.txn) rest) state.Waiting state.Finished
      was own =
          ap (λ s. mark (kept_of s p.sets.sets) q) own
          ∙ ap (λ k. mark k q) (kept_there p.sets.sets keeps.ascend at id (Some (Waiting (t ∷ rest))) there)

      stays : (set_of_piece (batches_of p) q ≡ id → ⊥) → mark_in (batches_of p) sets_now q ≡ mark_in (batches_of p) p.sets.sets q
      stays differ = ap (λ k. mark k q) (kept_stays p.sets.sets keeps.ascend at id (Some (Waiting (t ∷ rest))) (after_first rest) there (set_of_piece (batches_of p) q) differ)

      -- of the set, and another transaction's
      other : set_of_piece (batches_of p) q ≡ id → is_piece piece q ≡ false → mark_in (batches_of p) sets_now q ≡ mark_in (batches_of p) p.sets.sets q
      other own differ = changed q own ∙ sym (was own ∙ ap (λ b. cond (b || list_any (λ u. u == q.txn) rest) state.Waiting state.Finished) (apart (t == q.txn) refl))
        where
          block : id.block ≡ q.block
          block = ap (λ (s : SetId). s.block) (sym own)

          apart : (b : Bool) → (t == q.txn) ≡ b → (t == q.txn) ≡ false
          apart false e = e
          apart true e =
              let txn : t ≡ q.txn = same_number t q.txn e in
              let same : piece ≡ q = λ k. record { txn = txn k; block = block k } in
              absurd (true≢false (sym (piece_self piece) ∙ ap (is_piece piece) same ∙ differ))

      go : (b : Bool) → is_piece piece q ≡ b → mark_in (batches_of p) sets_now q ≡ cond b state.Finished (mark_in (batches_of p) p.sets.sets q)
      go true same =
          let own : piece ≡ q = same_piece piece q same in
          ap (mark_in (batches_of p) sets_now) (sym own) ∙ changed piece set_is_id ∙ ap (λ b. cond b state.Waiting state.Finished) not_again
      go false differ = split (equal_or_not (set_of_piece (batches_of p) q).batch id.batch) (equal_or_not q.block id.block)
        where
          split : ((set_of_piece (batches_of p) q).batch ≡ id.batch) ⊎ ((set_of_piece (batches_of p) q).batch ≡ id.batch → ⊥) → (q.block ≡ id.block) ⊎ (q.block ≡ id.block → ⊥)
              → mark_in (batches_of p) sets_now q ≡ mark_in (batches_of p) p.sets.sets q
          split (inl b) (inl c) = other (λ k. record { batch = b k; block = c k }) differ
          split (inl b) (inr c) = stays (λ h. c (ap (λ (x : SetId). x.block) h))
          split (inr b) c = stays (λ h. b (ap (λ (x : SetId). x.batch) h))

  -- the set goes on where another transaction is left
  stage_now : (x : SetStage) → after_first rest ≡ Some x → IsStageOf (with_finished r piece) sets_now id (all_txns job p keeps at id (Some (Waiting (t ∷ rest))) set) x
  stage_now x is = go (has_numbers rest) refl is
    where
      go : (b : Bool) → has_numbers rest ≡ b → cond b (Some (Waiting rest)) None ≡ Some x → IsStageOf (with_finished r piece) sets_now id (all_txns job p keeps at id (Some (Waiting (t ∷ rest))) set) x
      go false none e = let wrong : None ≡ Some x = e in absurd cc
      go true some e =
          subst (IsStageOf (with_finished r piece) sets_now id (all_txns job p keeps at id (Some (Waiting (t ∷ rest))) set)) (same_Some (Waiting rest) x e)
          (others_rest (all_txns job p keeps at id (Some (Waiting (t ∷ rest))) set) t rest (rest_of job p keeps at id (Waiting (t ∷ rest)) set) some)

  unfinished : is_finished (mark (Some (Waiting (t ∷ rest))) piece) ≡ false
  unfinished = ap is_finished (waiting_mark id.block (t ∷ rest) t (inl refl))

  pub finishes : replay_so_far job new ≡ with_finished r piece
  finishes = mark_of.finishes job p keeps at id (Waiting (t ∷ rest)) set t (inl refl) unfinished stepped n txn number txn_is writes outs note given kept_before kept_now loaded loaded_there before_is leaves
      (after_first rest) new to marks_now stage_now

  pub present_now : apply (world_at job m) piece (present_of r) ≡ present_of (with_finished r piece)
  present_now = mark_of.present_now job p keeps at id (Waiting (t ∷ rest)) set t (inl refl) unfinished stepped n txn number txn_is writes outs note given kept_before kept_now loaded loaded_there before_is leaves
      (after_first rest) new to marks_now stage_now

  pub finish_keeps : KeepsProgress job new
  finish_keeps = mark_of.finish_keeps job p keeps at id (Waiting (t ∷ rest)) set t (inl refl) unfinished stepped n txn number txn_is writes outs note given kept_before kept_now loaded loaded_there before_is leaves
      (after_first rest) new to marks_now stage_now
