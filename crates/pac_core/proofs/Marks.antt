-- Where a loaded piece stands: its transaction in a batch, and its set; and what its set says of how far it is.
use Rattle.std.proofs.Common.{◌≡◌, ℕ, ◌+◌, ◌-◌, ◌<◌, Bool, true, false, List, map, length, Option, Some, refl, sym, ap, subst, ◌∙◌, true≢false, arith}
use Rattle.std.specs.Prelude.{slice_get, filter, IsSomeAnd}
use Rattle.std.specs.Option.{option_map}
use Rattle.std.proofs.lemmas.Option.{slice_get-map}
use Rattle.pac_base.specs.Members.{Mem}
use Rattle.pac_base.proofs.ItemLemmas.{item_at, some_one}
use Rattle.pac_base.proofs.TestLemmas.{unlike}
use Rattle.pac_value.specs.Values.{type_of}
use Rattle.pac_ops.specs.declared.piece.PieceId.{PieceId}
use Rattle.pac_ops.specs.declared.program.Program.{Program}
use Rattle.pac_ops.specs.declared.transaction.Txn.{Txn}
use Rattle.pac_ops.specs.declared.transaction.Txn.TheVariants.{Call as ACall, AdHoc}
use Rattle.pac_plan.specs.declared.parts.PlanParts.{PlanParts}
use Rattle.pac_plan.specs.Pieces.{World, has_ops, part, piece_exists}
use Rattle.pac_plan.specs.Worlds.{blocks_in, txn_at, txn_block, txn_code}
use Rattle.pac_plan.specs.Codes.{TxnFitsPlan}
use Rattle.pac_batch.specs.Sets.{has_piece, set_of}
use Rattle.pac_sched.specs.Schedules.{is_finished, is_out}
use Rattle.pac_sets.specs.declared.set_id.SetId.{SetId}
use Rattle.pac_sets.specs.Sets.{Kept, kept_of}
use Rattle.pac_sets.proofs.SetLemmas.{kept_there}
use Rattle.pac_commute.specs.Loads.{Job}
use Rattle.pac_commute.specs.Machine.{Machine, among}
use Rattle.pac_commute.specs.PartialFits.{TxnIsOfPlan}
use Rattle.pac_commute.specs.PlanLaws.{numbers_of, planned, txns_of}
use Rattle.pac_commute.proofs.Loads.{in-range}
use Rattle.pac_commute.proofs.Replays.{at_number}
use Rattle.pac_commute.proofs.Steps.{among_mem, mem_among}
use Rattle.pac_core.specs.declared.progress.Progress.{Progress}
use Rattle.pac_core.specs.declared.stage.SetStage.{SetStage}
use Rattle.pac_core.specs.Links.{KeepsProgress, batches_of, mark, mark_in, piece_in, replay_so_far, set_ids, set_of_piece}
use Rattle.pac_core.specs.Replay.{Replay, loaded_pieces, machine_of}
use Rattle.pac_core.proofs.Lists.{filter_in, filter_of, map_at, mem_at}
use Rattle.pac_core.proofs.SetFacts.{Stands, batch_at, piece_is, stands, txn_there}
use Rattle.pac_core.proofs.SetLists.{id_in, set_in, txn_in}

-- ---- transactions of the plan

pub fits_plan : (parts : PlanParts) (txn : Txn) → TxnIsOfPlan parts txn → TxnFitsPlan parts txn
fits_plan parts (AdHoc records) fits = fits
fits_plan parts (ACall call) fits =
    let f = some_one (slice_get parts.programs call.proc) (λ program. map type_of call.args ≡ program.params) fits in
    subst (λ o. IsSomeAnd o (λ types. map type_of call.args ≡ types))
    (sym (slice_get-map (λ (program : Program). program.params) parts.programs call.proc ∙ ap (option_map (λ (program : Program). program.params)) f.1)) f.2

-- ---- a filter of pieces

pub among_filter : (f : PieceId → Bool) (ps : List PieceId) (q : PieceId) → Mem q ps → among (filter f ps) q ≡ f q
among_filter f ps q m = go (f q) refl
  where
    go : (b : Bool) → f q ≡ b → among (filter f ps) q ≡ b
    go true e = mem_among (filter f ps) q (filter_in f ps q m e)
    go false e = unlike _ (λ h. true≢false (sym (filter_of f ps q (among_mem (filter f ps) q h)).1 ∙ e))

module _ (job : Job) (p : Progress) (keeps : KeepsProgress job p) where
  abbrev r : Replay
  r = replay_so_far job p

  abbrev m : Machine
  m = machine_of r

  abbrev w : World
  w = planned job.parts job.first (batches_of p)

  -- a batch's transaction is the one of its number
  pub local_txn : (t k i : ℕ) (s : Stands (batches_of p) t k i) → txn_at s.batch.first s.batch.txns t ≡ txn_at job.first (txns_of (batches_of p)) t
  local_txn t k i s =
      let found = item_at s.batch.txns i s.inside in
      ap (txn_at s.batch.first s.batch.txns) s.number ∙ at_number job.parts s.batch.first s.batch.txns i found.0 found.1 ∙ sym found.1
      ∙ sym (txn_there job.parts job.first (batches_of p) keeps.machine.run_on t k i s)

  -- it has a piece in a block where that exists
  pub has_is : (t k i : ℕ) (s : Stands (batches_of p) t k i) (block : ℕ) → has_piece job.parts block (txn_at s.batch.first s.batch.txns t) ≡ piece_exists w (piece_in block t)
  has_is t k i s block = ap (λ o. has_ops (part (txn_block job.parts o) block (txn_code job.parts o))) (local_txn t k i s)

  -- where a piece belongs
  pub record Placed (q : PieceId) : Type 0 where
    pub k : ℕ
    pub i : ℕ
    pub stands : Stands (batches_of p) q.txn k i
    pub txn : Txn
    pub txn_is : slice_get stands.batch.txns i ≡ Some txn
    pub inside : q.block < job.parts.blocks
    pub in_set : Mem q.txn (set_of job.parts stands.batch.first stands.batch.txns q.block).txns
    pub at : ℕ
    pub kept : Option SetStage
    pub there : slice_get p.sets.sets at ≡ Some (record { batch = k; block = q.block }, kept)

  -- each loaded piece belongs somewhere
  pub placed : (q : PieceId) → Mem q (loaded_pieces r) → Placed q
  placed q mem =
      let is = piece_is w (numbers_of job.first (batches_of p)) (blocks_in job.parts) q mem in
      let range = in-range job.first (length (txns_of (batches_of p))) q.txn is.0 in
      let s = stands job.first (batches_of p) keeps.machine.run_on q.txn range.0 range.1 in
      let block = (in-range 0 job.parts.blocks q.block is.1).1 in
      at_txn s.0 s.1 s.2 (item_at s.2.batch.txns s.1 s.2.inside) (omega (arith, block)) is.2
    where
      at_txn : (k i : ℕ) (s : Stands (batches_of p) q.txn k i) → (txn : Txn) × (slice_get s.batch.txns i ≡ Some txn) → q.block < job.parts.blocks → piece_exists w q ≡ true → Placed q
      at_txn k i s found inside exists =
          let number = s.number in
          let lt = s.inside in
          let has : has_piece job.parts q.block (txn_at s.batch.first s.batch.txns q.txn) ≡ true = has_is q.txn k i s q.block ∙ exists in
          let in_set = txn_in job.parts s.batch.first s.batch.txns q.block q.txn (omega (arith, number)) (omega (arith, number, lt)) has in
          let id = id_in job.parts 0 (batches_of p) k s.batch s.there (set_of job.parts s.batch.first s.batch.txns q.block) (set_in job.parts s.batch.first s.batch.txns q.block q.txn inside in_set) in
          let place = mem_at (set_ids job.parts 0 (batches_of p)) (record { batch = k; block = q.block }) (subst (λ (n : ℕ). Mem (record { batch = n; block = q.block }) (set_ids job.parts 0 (batches_of p))) (let e : 0 + k ≡ k = omega arith in e) id) in
          let stage = map_at (λ (set : Kept SetStage). set.0) p.sets.sets place.0 (record { batch = k; block = q.block }) (ap (λ ids. slice_get ids place.0) keeps.sets ∙ place.1) in
          record {
            k = k;
            i = i;
            stands = s;
            txn = found.0;
            txn_is = found.1;
            inside = inside;
            in_set = in_set;
            at = place.0;
            kept = stage.0.1;
            there = stage.1 ∙ ap (λ (id : SetId). Some (id, stage.0.1)) stage.2;
          }

  module _ (q : PieceId) (at : Placed q) where
    -- its set is that of its batch and block
    pub set_is : set_of_piece (batches_of p) q ≡ record { batch = at.k; block = q.block }
    set_is =
        ap (λ (k : ℕ). record { batch = k - 1; block = q.block }) (batch_at job.parts job.first (batches_of p) keeps.machine.run_on q.txn at.k at.i at.stands)
        ∙ ap (λ (k : ℕ). record { batch = k; block = q.block }) (let e : at.k + 1 - 1 ≡ at.k = omega arith in e)

    -- how far it is says its set
    pub mark_is : mark_in (batches_of p) p.sets.sets q ≡ mark at.kept q
    mark_is = ap (λ id. mark (kept_of id p.sets.sets) q) set_is ∙ ap (λ k. mark k q) (kept_there p.sets.sets keeps.ascend at.at (record { batch = at.k; block = q.block }) at.kept at.there)

  pub finished_is : (q : PieceId) → Mem q (loaded_pieces r) → among r.finished q ≡ is_finished (mark_in (batches_of p) p.sets.sets q)
  finished_is q mem = among_filter (λ q. is_finished (mark_in (batches_of p) p.sets.sets q)) (loaded_pieces r) q mem

  pub out_is : (q : PieceId) → Mem q (loaded_pieces r) → among r.out q ≡ is_out (mark_in (batches_of p) p.sets.sets q)
  out_is q mem = among_filter (λ q. is_out (mark_in (batches_of p) p.sets.sets q)) (loaded_pieces r) q mem
