-- Where a piece that is out belongs; and a piece that is found nowhere isn't out.
use Rattle.std.proofs.Common.{◌≡◌, ℕ, ◌+◌, ◌<◌, true, false, length, Option, Some, None, sym, ap, subst, ◌∙◌, true≢false, arith}
use Rattle.std.specs.Prelude.{IfNone, IfSome, slice_get}
use Rattle.pac_base.specs.Members.{Mem}
use Rattle.pac_base.proofs.TestLemmas.{unlike}
use Rattle.pac_ops.specs.declared.piece.PieceId.{PieceId}
use Rattle.pac_sched.specs.declared.state.PieceState.TheVariants.{Out}
use Rattle.pac_sched.specs.Schedules.{at_position, is_out, position_of, state_of_piece}
use Rattle.pac_sets.specs.declared.set_id.SetId.{SetId}
use Rattle.pac_sets.specs.Sets.{IsSetAt, kept_of}
use Rattle.pac_sets.proofs.SetLemmas.{kept_there}
use Rattle.pac_commute.specs.Loads.{Job}
use Rattle.pac_commute.specs.Machine.{among}
use Rattle.pac_commute.proofs.Steps.{among_mem}
use Rattle.pac_core.specs.declared.loaded.LoadedBatch.{LoadedBatch}
use Rattle.pac_core.specs.declared.progress.Progress.{Progress}
use Rattle.pac_core.specs.declared.stage.OpenSet.{OpenSet}
use Rattle.pac_core.specs.declared.stage.SetStage.TheVariants.{Open}
use Rattle.pac_core.specs.Links.{KeepsProgress, batches_of, mark, mark_in, replay_so_far, set_of_piece}
use Rattle.pac_core.specs.Places.{IsNotOutOf, IsPieceIn, IsTxnIn, IsTxnNowhere}
use Rattle.pac_core.specs.Replay.{Replay, loaded_pieces}
use Rattle.pac_core.proofs.Lists.{at_map, filter_of, map_at}
use Rattle.pac_core.proofs.Marks.{Placed, placed, out_is, set_is}
use Rattle.pac_core.proofs.SetFacts.{Stands, batch_at}

pub if_none : {X : Type 0} (o : Option X) (P : Type 0) → P → IfNone o P
if_none None P p = p
if_none (Some x) P p = tt

-- a piece that is out of an open set stands in it
pub found_out : (p : Progress) (at : ℕ) (piece : PieceId) (set : SetId) (opening : OpenSet) → slice_get p.sets.sets at ≡ Some (set, Some (Open opening)) → state_of_piece opening.sched piece ≡ Some Out
    → (o : Option ℕ) → o ≡ position_of opening.sched piece → IfSome o (λ position. IsPieceIn p at piece position Out)
found_out p at piece set opening there is None e = tt
found_out p at piece set opening there is (Some i) e = record { set = set; opening = opening; there = there; position_is = sym e; far_is = ap (at_position opening.sched.states) e ∙ is }

module _ (job : Job) (p : Progress) (keeps : KeepsProgress job p) (piece : PieceId) where
  abbrev r : Replay
  r = replay_so_far job p

  -- what is out is loaded
  out_loaded : among r.out piece ≡ true → Mem piece (loaded_pieces r)
  out_loaded h = (filter_of (λ q. is_out (mark_in (batches_of p) p.sets.sets q)) (loaded_pieces r) piece (among_mem r.out piece h)).0

  -- the transaction of a loaded piece is there
  stands_there : (q : Placed job p keeps piece) → IsTxnIn p.batches.items piece.txn q.k q.i
  stands_there q =
      let l = map_at (λ (l : LoadedBatch). l.batch) p.batches.items q.k q.stands.batch q.stands.there in
      record {
        loaded = l.0;
        there = l.1;
        inside = subst (λ b. q.i < length b.txns) (sym l.2) q.stands.inside;
        number = subst (λ b. piece.txn ≡ b.first + q.i) (sym l.2) q.stands.number;
      }

  pub nowhere_out : IsTxnNowhere p.batches.items piece.txn → among r.out piece ≡ false
  nowhere_out none = unlike (among r.out piece) (λ h. let q = placed job p keeps piece (out_loaded h) in none q.k q.i (stands_there q))

  module _ (b i : ℕ) (is : IsTxnIn p.batches.items piece.txn b i) where
    -- its batch is the one
    batch_same : (q : Placed job p keeps piece) → q.k ≡ b
    batch_same q =
        let s : Stands (batches_of p) piece.txn b i = record { batch = is.loaded.batch; there = at_map (λ (l : LoadedBatch). l.batch) p.batches.items b is.loaded is.there; inside = is.inside; number = is.number } in
        let own = batch_at job.parts job.first (batches_of p) keeps.machine.run_on piece.txn q.k q.i q.stands in
        let other = batch_at job.parts job.first (batches_of p) keeps.machine.run_on piece.txn b i s in
        omega (arith, own, other)

    set_same : (q : Placed job p keeps piece) → ◌≡◌ {A = SetId} (record { batch = q.k; block = piece.block }) (record { batch = b; block = piece.block })
    set_same q = λ k. record { batch = batch_same q k; block = piece.block }

    pub no_set_out : ((at : ℕ) → IsSetAt p.sets.sets (record { batch = b; block = piece.block }) at → ⊥) → among r.out piece ≡ false
    no_set_out none = unlike (among r.out piece) (λ h.
        let q = placed job p keeps piece (out_loaded h) in
        none q.at (q.kept, q.there ∙ ap (λ (s : SetId). Some (s, q.kept)) (set_same q)))

    pub not_out : (at : ℕ) → IsSetAt p.sets.sets (record { batch = b; block = piece.block }) at → IsNotOutOf p at piece → among r.out piece ≡ false
    not_out at found none = unlike (among r.out piece) (λ h.
        let mem = out_loaded h in
        let q = placed job p keeps piece mem in
        let id : set_of_piece (batches_of p) piece ≡ record { batch = b; block = piece.block } = set_is job p keeps piece q ∙ set_same q in
        true≢false (sym h ∙ out_is job p keeps piece mem
        ∙ ap (λ s. is_out (mark (kept_of s p.sets.sets) piece)) id
        ∙ ap (λ o. is_out (mark o piece)) (kept_there p.sets.sets keeps.ascend at (record { batch = b; block = piece.block }) found.0 found.1)
        ∙ none (record { batch = b; block = piece.block }) found.0 found.1))
