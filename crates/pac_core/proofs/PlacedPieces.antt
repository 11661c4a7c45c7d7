-- What stands at the place of a piece: its transaction, the values that are kept of it, and the cells of its access.
use Rattle.std.proofs.Common.{◌≡◌, ℕ, ◌+◌, ◌-◌, ◌<◌, List, length, Option, Some, sym, ap, subst, ◌∙◌, arith}
use Rattle.std.specs.Prelude.{slice_get}
use Rattle.std.proofs.lemmas.List.{length-map}
use Rattle.std.proofs.lemmas.Option.{same_Some, slice_get-get_or}
use Rattle.pac_base.specs.Members.{Mem}
use Rattle.pac_value.specs.Expressions.{Values}
use Rattle.pac_ops.specs.declared.batch.Batch.{Batch}
use Rattle.pac_ops.specs.declared.piece.PieceId.{PieceId}
use Rattle.pac_ops.specs.declared.transaction.Txn.{Txn}
use Rattle.pac_sched.specs.declared.state.PieceState.{PieceState}
use Rattle.pac_sched.specs.Schedules.{is_finished, is_out}
use Rattle.pac_sched.proofs.PickLemmas.{stands}
use Rattle.pac_sets.specs.declared.set_id.SetId.{SetId}
use Rattle.pac_commute.specs.Loads.{Job}
use Rattle.pac_commute.specs.Machine.{Machine, access_at, among}
use Rattle.pac_core.specs.declared.cells.PieceCells.{PieceCells}
use Rattle.pac_core.specs.declared.loaded.LoadedBatch.{LoadedBatch}
use Rattle.pac_core.specs.declared.place.Place.{Place}
use Rattle.pac_core.specs.declared.progress.Progress.{Progress}
use Rattle.pac_core.specs.declared.stage.OpenSet.{OpenSet}
use Rattle.pac_core.specs.declared.stage.SetStage.{SetStage}
use Rattle.pac_core.specs.declared.stage.SetStage.TheVariants.{Open}
use Rattle.pac_core.specs.Cells.{AreOf}
use Rattle.pac_core.specs.Links.{IsOpened, KeepsBatch, KeepsProgress, batches_of, mark_in, piece_in, replay_so_far}
use Rattle.pac_core.specs.Places.{AreCellsAt, AreValuesAt, IsPieceAt, IsTxnAt}
use Rattle.pac_core.specs.Replay.{Replay, loaded_pieces, machine_of, present_of}
use Rattle.pac_core.proofs.Lists.{at_map, at_mem, map_at}
use Rattle.pac_core.proofs.Marks.{finished_is, out_is}
use Rattle.pac_core.proofs.Ready.{SetAt, mark_at, own_piece, set_at, txns}
use Rattle.pac_core.proofs.SetFacts.{Stands}

module _ (job : Job) (p : Progress) (keeps : KeepsProgress job p) (place : Place) (piece : PieceId) (far : PieceState) (at : IsPieceAt p place piece far) where
  abbrev pub r : Replay
  r = replay_so_far job p

  abbrev pub m : Machine
  m = machine_of r

  abbrev pub id : SetId
  id = at.stands.set

  abbrev pub opening : OpenSet
  opening = at.stands.opening

  -- ---- its set

  abbrev pub set : SetAt job p keeps place.at at.stands.set (Some (Open at.stands.opening))
  set = set_at job p keeps place.at at.stands.set (Some (Open at.stands.opening)) at.stands.there

  abbrev pub ts : List ℕ
  ts = txns job p keeps place.at id (Some (Open opening)) set

  opened : IsOpened r p.sets.sets id ts opening
  opened = (keeps.stages place.at id (Open opening) set.batch set.there set.batch_there).2

  pub batch_is : id.batch ≡ place.batch
  batch_is = ap (λ (s : SetId). s.batch) at.set_is

  pub block_is : id.block ≡ piece.block
  block_is = ap (λ (s : SetId). s.block) at.set_is

  pub own : piece_in id.block piece.txn ≡ piece
  own = λ k. record { txn = piece.txn; block = block_is k }

  -- where its transaction is among those of the set
  pub index_is : slice_get ts place.position ≡ Some piece.txn
  index_is =
      let s = stands opening.sched piece place.position at.stands.position_is in
      let found = map_at (piece_in id.block) ts place.position piece
      (ap (λ ps. slice_get ps place.position) (sym opened.pieces) ∙ slice_get-get_or opening.sched.pieces place.position piece s.0 ∙ ap (λ x. Some x) s.1) in
      found.1 ∙ ap (λ (q : PieceId). Some q.txn) found.2

  pub loaded_is : Mem piece (loaded_pieces r)
  loaded_is = subst (λ q. Mem q (loaded_pieces r)) own (own_piece job p keeps place.at id (Some (Open opening)) set piece.txn (at_mem ts place.position piece.txn index_is))

  pub mark_is : mark_in (batches_of p) p.sets.sets piece ≡ far
  mark_is = ap (mark_in (batches_of p) p.sets.sets) (sym own) ∙ mark_at job p keeps place.at id opening set place.position piece.txn far index_is at.stands.far_is

  pub out_now : among r.out piece ≡ is_out far
  out_now = out_is job p keeps piece loaded_is ∙ ap is_out mark_is

  pub finished_now : among r.finished piece ≡ is_finished far
  finished_now = finished_is job p keeps piece loaded_is ∙ ap is_finished mark_is

  -- ---- its transaction

  abbrev pub loaded : LoadedBatch
  loaded = at.txn.loaded

  pub batch_there : slice_get (batches_of p) place.batch ≡ Some loaded.batch
  batch_there = at_map (λ (l : LoadedBatch). l.batch) p.batches.items place.batch loaded at.txn.there

  abbrev pub stands_at : Stands (batches_of p) piece.txn place.batch place.index
  stands_at = record { batch = loaded.batch; there = batch_there; inside = at.txn.inside; number = at.txn.number }

  pub loaded_there : slice_get p.batches.items id.batch ≡ Some loaded
  loaded_there = ap (slice_get p.batches.items) batch_is ∙ at.txn.there

  pub set_batch : set.batch ≡ loaded.batch
  set_batch = same_Some _ _ (sym set.batch_there ∙ ap (slice_get (batches_of p)) batch_is ∙ batch_there)

  pub number_is : piece.txn ≡ set.batch.first + place.index
  number_is = at.txn.number ∙ ap (λ (b : Batch). b.first + place.index) (sym set_batch)

  pub block_inside : piece.block < job.parts.blocks
  block_inside = subst (λ (b : ℕ). b < job.parts.blocks) block_is set.inside

  module _ (txn : Txn) (txn_is : IsTxnAt p place txn) where
    pub in_batch : slice_get loaded.batch.txns place.index ≡ Some txn
    in_batch = ap (λ (l : LoadedBatch). slice_get l.batch.txns place.index) (same_Some _ _ (sym at.txn.there ∙ txn_is.1)) ∙ txn_is.2

    pub in_set_batch : slice_get set.batch.txns place.index ≡ Some txn
    in_set_batch = ap (λ (b : Batch). slice_get b.txns place.index) set_batch ∙ in_batch

    -- ---- the values that are kept

    module _ (kept : Values) (kept_is : AreValuesAt p place kept) where
      values : KeepsBatch job.parts (present_of r) loaded
      values = keeps.values place.batch loaded at.txn.there (place.at, id, Open opening, at.stands.there, batch_is)

      pub before_is : slice_get loaded.kept.items place.index ≡ Some kept
      before_is = ap (λ (l : LoadedBatch). slice_get l.kept.items place.index) (same_Some _ _ (sym at.txn.there ∙ kept_is.1)) ∙ kept_is.2

  -- there is room for them
  pub kept_len : length loaded.kept.items ≡ length loaded.batch.txns
  kept_len = (keeps.values place.batch loaded at.txn.there (place.at, id, Open opening, at.stands.there, batch_is)).all

  -- ---- its cells

  pub cells_len : place.position < length opening.cells.items
  cells_len =
      let within = (stands opening.sched piece place.position at.stands.position_is).0 in
      let all = opened.cells.all in
      let len = length-map opening.sched.pieces (access_at job m) in
      omega (arith, within, all, len)

  pub cells_are : (cells : PieceCells) → AreCellsAt p place cells → AreOf (access_at job m piece) cells
  cells_are cells is =
      let s = stands opening.sched piece place.position at.stands.position_is in
      let there : slice_get opening.sched.pieces place.position ≡ Some piece = slice_get-get_or opening.sched.pieces place.position piece s.0 ∙ ap (λ x. Some x) s.1 in
      let same : Open is.1 ≡ Open opening = same_Some _ _ (ap (λ (x : SetId × Option SetStage). x.1) (same_Some _ _ (sym is.2 ∙ at.stands.there))) in
      opened.cells.each place.position (access_at job m piece) cells (at_map (access_at job m) opening.sched.pieces place.position piece there)
      (ap (λ (o : OpenSet). slice_get o.cells.items place.position) (sym (opens same)) ∙ is.3)
    where
      opens : {a b : OpenSet} → ◌≡◌ {A = SetStage} (Open a) (Open b) → a ≡ b
      opens e = cc
