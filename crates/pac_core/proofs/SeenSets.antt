-- Where the search for a ready piece begins: no set before has one, whatever is handed out, or finished from there on.
use Rattle.std.proofs.Common.{◌≡◌, ◌⊎◌, ℕ, ◌<◌, ◌≤◌, Bool, true, false, ◌&&◌, not, List, map, Option, Some, refl, sym, ap, subst, ◌∙◌, true≢false, inl, inr, ⊎_elim, arith}
use Rattle.std.specs.Prelude.{slice_get}
use Rattle.pac_base.proofs.TestLemmas.{and_both, or_cases, or_left, or_right, unlike}
use Rattle.pac_base.specs.Members.{Mem}
use Rattle.pac_ops.specs.declared.batch.Batch.{Batch}
use Rattle.pac_ops.specs.declared.piece.PieceId.{PieceId}
use Rattle.pac_plan.specs.Pieces.{adds, is_piece, precedes}
use Rattle.pac_plan.proofs.OrderLemmas.{order_kept}
use Rattle.pac_sets.specs.declared.set_id.SetId.{SetId}
use Rattle.pac_sets.specs.Sets.{Kept}
use Rattle.pac_sets.proofs.SetLemmas.{less_there}
use Rattle.pac_undo.specs.Undo.{Undoable}
use Rattle.pac_commute.specs.Loads.{Job}
use Rattle.pac_commute.specs.Machine.{IsReadyAt, among, ends_at, world_at}
use Rattle.pac_commute.proofs.Steps.{same_piece}
use Rattle.pac_core.specs.declared.progress.Progress.{Progress}
use Rattle.pac_core.specs.declared.stage.SetStage.{SetStage}
use Rattle.pac_core.specs.Links.{IsCore, KeepsProgress, ReadyFrom, batches_of, replay_so_far, set_of_piece}
use Rattle.pac_core.specs.Replay.{Replay, loaded_pieces, machine_of, with_finished, with_out}
use Rattle.pac_core.proofs.Lists.{at_map, map_at}
use Rattle.pac_core.proofs.Marks.{Placed, among_filter, placed, set_is}
use Rattle.pac_core.proofs.NextReady.{seen_keeps, set_less, three}
use Rattle.pac_core.proofs.SetFacts.{ByBatch, ByConflict, ByEdge, Precedes, precedes_by}

-- ---- the same sets

-- a set of others is one of these
set_before : (p new : Progress) → batches_of new ≡ batches_of p → map (λ (set : Kept SetStage). set.0) new.sets.sets ≡ map (λ (set : Kept SetStage). set.0) p.sets.sets
    → (q : PieceId) (j : ℕ) (kept : Option SetStage) → slice_get new.sets.sets j ≡ Some (set_of_piece (batches_of new) q, kept)
    → (old : Option SetStage) × (slice_get p.sets.sets j ≡ Some (set_of_piece (batches_of p) q, old))
set_before p new batches ids q j kept there =
    let old = map_at (λ (set : Kept SetStage). set.0) p.sets.sets j (set_of_piece (batches_of new) q)
    (ap (λ l. slice_get l j) (sym ids) ∙ at_map (λ (set : Kept SetStage). set.0) new.sets.sets j (set_of_piece (batches_of new) q, kept) there) in
    (old.0.1, old.1 ∙ ap (λ (s : SetId). Some (s, old.0.1)) (old.2 ∙ ap (λ (bs : List Batch). set_of_piece bs q) batches))

module _ (job : Job) (p : Progress) (keeps : KeepsProgress job p) where
  abbrev r : Replay
  r = replay_so_far job p

  abbrev before : PieceId → PieceId → Bool
  before a b = precedes (world_at job (machine_of r)) (ends_at job (machine_of r)) a b

  -- what a piece comes before is of no earlier set
  later_set : (a b : PieceId) (i j : ℕ) (kept other : Option SetStage) → Mem a (loaded_pieces r) → Mem b (loaded_pieces r) → before a b ≡ true
      → slice_get p.sets.sets i ≡ Some (set_of_piece (batches_of p) a, kept) → slice_get p.sets.sets j ≡ Some (set_of_piece (batches_of p) b, other) → i ≤ j
  later_set a b i j kept other mem_a mem_b pr at_a at_b = go (three i j)
    where
      one : Placed job p keeps a
      one = placed job p keeps a mem_a

      two : Placed job p keeps b
      two = placed job p keeps b mem_b

      id_a : slice_get p.sets.sets i ≡ Some (record { batch = one.k; block = a.block }, kept)
      id_a = at_a ∙ ap (λ (s : SetId). Some (s, kept)) (set_is job p keeps a one)

      id_b : slice_get p.sets.sets j ≡ Some (record { batch = two.k; block = b.block }, other)
      id_b = at_b ∙ ap (λ (s : SetId). Some (s, other)) (set_is job p keeps b two)

      less : (two.k < one.k) ⊎ ((two.k ≡ one.k) × (b.block < a.block)) → Precedes job.parts job.first (batches_of p) keeps.machine.run_on (ends_at job (machine_of r)) a b one.k two.k → ⊥
      less (inl lt) (ByEdge same edge) = omega (arith, lt, same)
      less (inr (e, lt)) (ByEdge same edge) = let up : a.block < b.block = (order_kept job.parts keeps.is_plan).up a.block b.block edge in omega (arith, up, lt)
      less (inl lt) (ByBatch same later) = omega (arith, lt, later)
      less (inr (e, lt)) (ByBatch same later) = omega (arith, e, later)
      less (inl lt) (ByConflict same batch later c) = omega (arith, lt, batch)
      less (inr (e, lt)) (ByConflict same batch later c) = omega (arith, same, lt)

      go : (i < j) ⊎ ((i ≡ j) ⊎ (j < i)) → i ≤ j
      go (inl lt) = omega (arith, lt)
      go (inr (inl e)) = omega (arith, e)
      go (inr (inr gt)) = absurd (less
          (set_less (record { batch = two.k; block = b.block }) (record { batch = one.k; block = a.block }) (less_there p.sets.sets keeps.ascend j i _ _ id_b id_a gt))
          (precedes_by job.parts job.first (batches_of p) keeps.machine.run_on (ends_at job (machine_of r)) a b one.k two.k one.i two.i one.stands two.stands pr))

  module _ (piece : PieceId) where
    -- what is ready once a piece is out was ready before
    out_before : (q : PieceId) → IsReadyAt job (machine_of (with_out r piece)) q → IsReadyAt job (machine_of r) q
    out_before q ready = (
      ready.0,
      unlike (among r.out q) (λ h. true≢false (sym (among_filter (adds (among r.out) piece) (loaded_pieces r) q ready.0 ∙ or_right (is_piece piece q) (among r.out q) h) ∙ ready.1)),
      ready.2,
      ready.3,
    )

    -- what is ready once a piece is finished was ready before, or comes after the piece
    finished_before : (q : PieceId) → IsReadyAt job (machine_of (with_finished r piece)) q → IsReadyAt job (machine_of r) q ⊎ (before piece q ≡ true)
    finished_before q ready = go (before piece q) refl
      where
        now : (x : PieceId) → Mem x (loaded_pieces r) → among (with_finished r piece).finished x ≡ adds (among r.finished) piece x
        now x mem = among_filter (adds (among r.finished) piece) (loaded_pieces r) x mem

        other : is_piece piece q ≡ false
        other = unlike (is_piece piece q) (λ h. true≢false (sym (now q ready.0 ∙ or_left (is_piece piece q) (among r.finished q) h) ∙ ready.2))

        unfinished : among r.finished q ≡ false
        unfinished = unlike (among r.finished q) (λ h. true≢false (sym (now q ready.0 ∙ or_right (is_piece piece q) (among r.finished q) h) ∙ ready.2))

        not_out : among r.out q ≡ false
        not_out = unlike (among r.out q) (λ h. true≢false (sym (among_filter (λ x. among r.out x && not (is_piece piece x)) (loaded_pieces r) q ready.0 ∙ and_both (among r.out q) _ h (ap not other)) ∙ ready.1))

        preds : before piece q ≡ false → (x : PieceId) → Mem x (loaded_pieces r) → before x q ≡ true → among r.finished x ≡ true
        preds free x mem pr = ⊎_elim
            (λ same. absurd (true≢false (sym (ap (λ y. before y q) (same_piece piece x same) ∙ pr) ∙ free)))
            (λ f. f)
            (or_cases (is_piece piece x) (among r.finished x) (sym (now x mem) ∙ ready.3 x mem pr))

        go : (b : Bool) → before piece q ≡ b → IsReadyAt job (machine_of r) q ⊎ (before piece q ≡ true)
        go true e = inr e
        go false e = inl (ready.0, not_out, unfinished, preds e)

    module _ (new : Progress) (batches : batches_of new ≡ batches_of p) (ids : map (λ (set : Kept SetStage). set.0) new.sets.sets ≡ map (λ (set : Kept SetStage). set.0) p.sets.sets) (seen : ReadyFrom job p p.recent) where
      pub seen_out : new.recent ≡ p.recent → replay_so_far job new ≡ with_out r piece → ReadyFrom job new new.recent
      seen_out recent is q j kept ready there =
          let old = set_before p new batches ids q j kept there in
          subst (λ n. n ≤ j) (sym recent) (seen q j old.0 (out_before q (subst (λ (x : Replay). IsReadyAt job (machine_of x) q) is ready)) old.1)

      pub seen_finished : Mem piece (loaded_pieces r) → (at : ℕ) (stage : Option SetStage) → slice_get p.sets.sets at ≡ Some (set_of_piece (batches_of p) piece, stage) → (new.recent ≤ p.recent) × (new.recent ≤ at)
          → replay_so_far job new ≡ with_finished r piece → ReadyFrom job new new.recent
      seen_finished mem at stage here recent is q j kept ready there =
          let old = set_before p new batches ids q j kept there in
          let now : IsReadyAt job (machine_of (with_finished r piece)) q = subst (λ (x : Replay). IsReadyAt job (machine_of x) q) is ready in
          let first = recent.0 in
          let second = recent.1 in
          ⊎_elim
          (λ was. let le = seen q j old.0 was old.1 in omega (arith, le, first))
          (λ pr. let le = later_set piece q at j stage old.0 mem now.0 pr here old.1 in omega (arith, le, second))
          (finished_before q now)

-- ---- the search begins anew

pub seen_anew : (p : Progress) (u : Undoable) → IsCore p u → IsCore (record p { recent = 0 }) u
seen_anew p u core = record { progress = seen_keeps _ p 0 core.progress; tables = core.tables; rows = core.rows; seen = λ q j kept ready there. omega arith }
