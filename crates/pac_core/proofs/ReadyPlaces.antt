-- Where a piece of an open set belongs, and where the first ready one does.
use Rattle.std.proofs.Common.{◌≡◌, ℕ, ◌+◌, ◌-◌, ◌<◌, ◌≤◌, true, List, map, length, Option, Some, None, refl, sym, ap, ◌∙◌, true≢false, arith}
use Rattle.std.specs.Prelude.{slice_get}
use Rattle.std.proofs.lemmas.Option.{same_Some, slice_get-get_or}
use Rattle.pac_ops.specs.declared.batch.Batch.{Batch}
use Rattle.pac_ops.specs.declared.piece.PieceId.{PieceId}
use Rattle.pac_sched.specs.declared.state.PieceState.{PieceState}
use Rattle.pac_sched.specs.declared.state.PieceState.TheVariants.{Waiting}
use Rattle.pac_sched.specs.Schedules.{Schedule, at_position, piece_is_ready, position_is_ready, position_of, some_passes}
use Rattle.pac_sched.proofs.CallLemmas.{ready_waits}
use Rattle.pac_sched.proofs.PickLemmas.{picks_first, stands}
use Rattle.pac_sets.specs.declared.set_id.SetId.{SetId}
use Rattle.pac_commute.specs.Loads.{Job}
use Rattle.pac_core.specs.declared.loaded.LoadedBatch.{LoadedBatch}
use Rattle.pac_core.specs.declared.progress.Progress.{Progress}
use Rattle.pac_core.specs.declared.stage.OpenSet.{OpenSet}
use Rattle.pac_core.specs.declared.stage.SetStage.{SetStage}
use Rattle.pac_core.specs.declared.stage.SetStage.TheVariants.{Open}
use Rattle.pac_core.specs.Links.{KeepsProgress, batches_of, piece_in}
use Rattle.pac_core.specs.Moves.{IsReadyAtOffset}
use Rattle.pac_core.specs.Places.{IsOpenAt, IsPieceAt}
use Rattle.pac_core.proofs.Lists.{at_mem, map_at}
use Rattle.pac_core.proofs.Ready.{SetAt, set_at, stands_set, txns}
use Rattle.pac_core.proofs.SetFacts.{Stands}

-- the open set at an offset is one
pub same_open : (p : Progress) (at : ℕ) (set : SetId) (opening other : OpenSet) → slice_get p.sets.sets at ≡ Some (set, Some (Open opening)) → IsOpenAt p at other → other ≡ opening
same_open p at set opening other there is = opens (same_Some _ _ (ap (λ (x : SetId × Option SetStage). x.1) (same_Some _ _ (sym is.1 ∙ there))))
  where
    opens : {a b : OpenSet} → ◌≡◌ {A = SetStage} (Open a) (Open b) → a ≡ b
    opens e = cc

-- ---- a piece that stands in an open set

module _ (job : Job) (p : Progress) (keeps : KeepsProgress job p) (at : ℕ) (piece : PieceId) (id : SetId) (opening : OpenSet) (there : slice_get p.sets.sets at ≡ Some (id, Some (Open opening)))
    (i : ℕ) (at_i : position_of opening.sched piece ≡ Some i) where
  abbrev set : SetAt job p keeps at id (Some (Open opening))
  set = set_at job p keeps at id (Some (Open opening)) there

  abbrev ts : List ℕ
  ts = txns job p keeps at id (Some (Open opening)) set

  found : (t : ℕ) × (slice_get ts i ≡ Some t) × (piece_in id.block t ≡ piece)
  found =
      let s = stands opening.sched piece i at_i in
      let pieces : opening.sched.pieces ≡ map (piece_in id.block) ts = (keeps.stages at id (Open opening) set.batch set.there set.batch_there).2.pieces in
      map_at (piece_in id.block) ts i piece
      (ap (λ ps. slice_get ps i) (sym pieces) ∙ slice_get-get_or opening.sched.pieces i piece s.0 ∙ ap (λ x. Some x) s.1)

  txn_is : found.0 ≡ piece.txn
  txn_is = ap (λ (q : PieceId). q.txn) found.2

  pub loaded_in : (l : LoadedBatch) × (slice_get p.batches.items id.batch ≡ Some l) × (l.batch ≡ set.batch)
  loaded_in = map_at (λ (l : LoadedBatch). l.batch) p.batches.items id.batch set.batch set.batch_there

  stands_in : Stands (batches_of p) found.0 id.batch (found.0 - set.batch.first)
  stands_in = stands_set job p keeps at id (Some (Open opening)) set found.0 (at_mem ts i found.0 found.1)

  module _ (l : LoadedBatch) (l_there : slice_get p.batches.items id.batch ≡ Some l) where
    same_batch : l.batch ≡ set.batch
    same_batch = ap (λ (x : LoadedBatch). x.batch) (same_Some _ _ (sym l_there ∙ loaded_in.1)) ∙ loaded_in.2

    pub begins_in : l.batch.first ≤ piece.txn
    begins_in =
        let s = stands_in in
        let b : s.batch ≡ l.batch = same_Some _ _ (sym s.there ∙ set.batch_there) ∙ sym same_batch in
        let first : s.batch.first ≡ l.batch.first = ap (λ (x : Batch). x.first) b in
        let number : found.0 ≡ s.batch.first + (found.0 - set.batch.first) = s.number in
        let txn = txn_is in
        omega (arith, first, number, txn)

    pub placed_in : (far : PieceState) → slice_get opening.sched.states i ≡ Some far → IsPieceAt p (record { at = at; position = i; batch = id.batch; index = piece.txn - l.batch.first }) piece far
    placed_in far is = record {
      txn = record {
        loaded = l;
        there = l_there;
        inside = inside;
        number = (let le = begins_in in omega (arith, le));
      };
      stands = record {
        set = id;
        opening = opening;
        there = there;
        position_is = at_i;
        far_is = is;
      };
      set_is = λ k. record { batch = id.batch; block = ap (λ (q : PieceId). q.block) found.2 k };
    }
      where
        inside : piece.txn - l.batch.first < length l.batch.txns
        inside =
            let s = stands_in in
            let b : s.batch ≡ l.batch = same_Some _ _ (sym s.there ∙ set.batch_there) ∙ sym same_batch in
            let lt : found.0 - set.batch.first < length s.batch.txns = s.inside in
            let len : length s.batch.txns ≡ length l.batch.txns = ap (λ (x : Batch). length x.txns) b in
            let first : l.batch.first ≡ set.batch.first = ap (λ (x : Batch). x.first) same_batch in
            let txn = txn_is in
            omega (arith, lt, len, first, txn)

-- ---- the first ready one

module _ (job : Job) (p : Progress) (keeps : KeepsProgress job p) (at : ℕ) (piece : PieceId) (ready : IsReadyAtOffset p at piece) where
  abbrev sched : Schedule
  sched = ready.stands.opening.sched

  is_ready : piece_is_ready sched piece ≡ true
  is_ready = (picks_first sched piece ready.picked).0

  -- it stands among the pieces
  pub position_there : (i : ℕ) × (position_of sched piece ≡ Some i)
  position_there = go (position_of sched piece) refl
    where
      go : (o : Option ℕ) → position_of sched piece ≡ o → (i : ℕ) × (position_of sched piece ≡ Some i)
      go (Some i) e = (i, e)
      go None e = absurd (true≢false (sym is_ready ∙ ap (some_passes (position_is_ready sched)) e))

  pub loaded_there : (l : LoadedBatch) × (slice_get p.batches.items ready.stands.set.batch ≡ Some l)
  loaded_there = let l = loaded_in job p keeps at piece ready.stands.set ready.stands.opening ready.stands.there position_there.0 position_there.1 in (l.0, l.1)

  module _ (l : LoadedBatch) (there : slice_get p.batches.items ready.stands.set.batch ≡ Some l) where
    pub begins : l.batch.first ≤ piece.txn
    begins = begins_in job p keeps at piece ready.stands.set ready.stands.opening ready.stands.there position_there.0 position_there.1 l there

    pub placed_ready : (i : ℕ) → position_of sched piece ≡ Some i → IsPieceAt p (record { at = at; position = i; batch = ready.stands.set.batch; index = piece.txn - l.batch.first }) piece Waiting
    placed_ready i at_i = placed_in job p keeps at piece ready.stands.set ready.stands.opening ready.stands.there i at_i l there Waiting
        (ap (at_position sched.states) (sym at_i) ∙ ready_waits sched piece is_ready)
