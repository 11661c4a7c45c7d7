-- The first piece that is left of an open set that waits is ready, and comes next where no set before it has a ready one.
use Rattle.std.proofs.Common.{◌≡◌, ℕ, ◌<◌, ◌≤◌, Bool, true, false, List, ◌∷◌, Option, Some, refl, sym, ap, ◌∙◌, inl, inr, arith}
use Rattle.std.specs.Prelude.{slice_get}
use Rattle.pac_base.specs.Members.{Mem}
use Rattle.pac_base.proofs.TestLemmas.{mem_each}
use Rattle.pac_ops.specs.declared.piece.PieceId.{PieceId}
use Rattle.pac_sched.specs.declared.state.PieceState.TheVariants as state
use Rattle.pac_sched.specs.Schedules.{is_finished, is_out}
use Rattle.pac_sets.specs.declared.set_id.SetId.{SetId}
use Rattle.pac_sets.specs.Sets.{WaitsFor, WaitsForNothing, kept_of}
use Rattle.pac_commute.specs.Loads.{Job}
use Rattle.pac_commute.specs.Machine.{IsReadyAt, Machine, PredsFinished, among, ends_at}
use Rattle.pac_core.specs.declared.progress.Progress.{Progress}
use Rattle.pac_core.specs.declared.stage.SetStage.{SetStage}
use Rattle.pac_core.specs.declared.stage.SetStage.TheVariants.{Waiting}
use Rattle.pac_core.specs.Links.{KeepsProgress, ReadyFrom, batches_of, mark, mark_in, piece_in, replay_so_far}
use Rattle.pac_core.specs.Replay.{Replay, machine_of}
use Rattle.pac_core.specs.Takes.{IsNextPiece}
use Rattle.pac_core.proofs.Marks.{Placed, finished_is, out_is, placed, set_is}
use Rattle.pac_core.proofs.NextReady.{comes_first}
use Rattle.pac_core.proofs.Ready.{SetAt, all_txns, any_mark, any_piece, own_mark, own_piece, placed_here, rises, same_batch, set_at, unfinished_here, waiting_mark}
use Rattle.pac_core.proofs.SetFacts.{ByBatch, ByConflict, ByEdge, Precedes, precedes_by}

module _ (job : Job) (p : Progress) (keeps : KeepsProgress job p) (at : ℕ) (id : SetId) (t : ℕ) (rest : List ℕ) (there : slice_get p.sets.sets at ≡ Some (id, Some (Waiting (t ∷ rest))))
    (passed : WaitsForNothing job.parts.edges p.sets.sets id) where
  abbrev r : Replay
  r = replay_so_far job p

  abbrev m : Machine
  m = machine_of r

  abbrev kept : Option SetStage
  kept = Some (Waiting (t ∷ rest))

  abbrev set : SetAt job p keeps at id (Some (Waiting (t ∷ rest)))
  set = set_at job p keeps at id (Some (Waiting (t ∷ rest))) there

  abbrev q : PieceId
  q = piece_in id.block t

  waits : mark_in (batches_of p) p.sets.sets q ≡ state.Waiting
  waits = own_mark job p keeps at id kept set t (inl refl) ∙ waiting_mark id.block (t ∷ rest) t (inl refl)

  -- each of these has a greater number
  behind : (u : ℕ) → Mem u rest → t < u
  behind u mem = mem_each (λ v. t < v) rest (rises job p keeps at id kept set).0 u mem

  preds : PredsFinished job m q
  preds o mem pr = go (precedes_by job.parts job.first (batches_of p) keeps.machine.run_on (ends_at job m) o q place.k mine.k place.i mine.i place.stands mine.stands pr)
    where
      place : Placed job p keeps o
      place = placed job p keeps o mem

      mine : Placed job p keeps q
      mine = placed job p keeps q (own_piece job p keeps at id kept set t (inl refl))

      batch_mine : mine.k ≡ id.batch
      batch_mine = same_batch job p keeps at id kept set t (inl refl) mine

      -- what the set waits for is finished
      by_set : WaitsFor job.parts.edges id (record { batch = place.k; block = o.block }) → among r.finished o ≡ true
      by_set w = finished_is job p keeps o mem ∙ ap is_finished (ap (λ s. mark (kept_of s p.sets.sets) o) (set_is job p keeps o place) ∙ ap (λ k. mark k o) (passed _ w))

      go : Precedes job.parts job.first (batches_of p) keeps.machine.run_on (ends_at job m) o q place.k mine.k → among r.finished o ≡ true
      go (ByEdge same edge) = by_set (inl (same ∙ batch_mine, edge))
      go (ByBatch same lt) = by_set (inr (same, (let b = batch_mine in omega (arith, lt, b))))
      go (ByConflict same batch lt c) = decide (is_finished (mark kept (piece_in id.block o.txn))) refl
        where
          own : piece_in id.block o.txn ≡ o
          own = λ k. record { txn = o.txn; block = sym same k }

          here : Mem o.txn (all_txns job p keeps at id kept set)
          here = placed_here job p keeps o place at id kept set (sym (batch ∙ batch_mine)) (sym same)

          -- none that is left has a lesser number
          not_left : Mem o.txn (t ∷ rest) → ⊥
          not_left (inl e) = omega (arith, e, lt)
          not_left (inr later) = let less = behind o.txn later in omega (arith, less, lt)

          decide : (b : Bool) → is_finished (mark kept (piece_in id.block o.txn)) ≡ b → among r.finished o ≡ true
          decide true e =
              ap (among r.finished) (sym own)
              ∙ finished_is job p keeps (piece_in id.block o.txn) (any_piece job p keeps at id kept set o.txn here)
              ∙ ap is_finished (any_mark job p keeps at id kept set o.txn here)
              ∙ e
          decide false e = absurd (not_left (unfinished_here job p keeps at id kept set o.txn here e))

  pub ready_first : IsReadyAt job m q
  ready_first = (
    own_piece job p keeps at id kept set t (inl refl),
    out_is job p keeps q (own_piece job p keeps at id kept set t (inl refl)) ∙ ap is_out waits,
    finished_is job p keeps q (own_piece job p keeps at id kept set t (inl refl)) ∙ ap is_finished waits,
    preds,
  )

  pub next_first : ReadyFrom job p at → IsNextPiece r (Some q)
  next_first ready_from = (ready_first, comes_first job p keeps at id (Waiting (t ∷ rest)) set t (inl refl) ready_from least)
    where
      least : (o : PieceId) → IsReadyAt job m o → piece_in id.block o.txn ≡ o → Mem o.txn (t ∷ rest) → t ≤ o.txn
      least o o_ready own (inl e) = omega (arith, e)
      least o o_ready own (inr later) = let less = behind o.txn later in omega (arith, less)
