-- Steps by precedence keep the order: the predecessors of what is finished, and of what is out, are finished.
use Rattle.std.proofs.Common.{◌≡◌, ◌<◌, ◌≤◌, nat_lt, Bool, true, false, refl, sym, ◌∙◌, subst, true≢false, ⊎_elim, arith}
use Rattle.std.proofs.lemmas.Bool.Decides.{nat_tests}
use Rattle.pac_base.specs.Members.{Mem}
use Rattle.pac_ops.specs.declared.batch.Batch.{Batch}
use Rattle.pac_ops.specs.declared.piece.PieceId.{PieceId}
use Rattle.pac_plan.specs.Analysis.{IsPlan}
use Rattle.pac_plan.specs.Pieces.{is_piece, adds, precedes}
use Rattle.pac_commute.specs.Exchange.{HoldsPreds}
use Rattle.pac_commute.specs.Loads.{Job, begin, next_in_job, loaded, and_batch, LoadKeeps}
use Rattle.pac_commute.specs.PartialFits.{TxnsFitPlan}
use Rattle.pac_commute.specs.Machine.{Machine, world_at, pieces_at, ends_at, PredsFinished, IsReadyAt, StepBy, Loaded, Given, Ran, Kept, GivenBack, KeepsJob, KeepsPrecedence, OutsUnordered}
use Rattle.pac_base.proofs.TestLemmas.{or_right, or_cases, unlike}
use Rattle.pac_commute.proofs.Steps.{keeps_load, old_finished, same_piece, still_out}

module _ (job : Job) (is : IsPlan job.parts) where
  module _ (m : Machine) (order : KeepsPrecedence job m) where
    -- p is finished now
    finishes : (p : PieceId) → PredsFinished job m p → HoldsPreds (world_at job m) (ends_at job m) (pieces_at job m) (adds m.finished p)
    finishes p preds q r mq mr pr picked = or_right (is_piece p q) (m.finished q) (⊎_elim
        (λ e. preds q mq (subst (λ x. precedes (world_at job m) (ends_at job m) q x ≡ true) (sym (same_piece p r e)) pr))
        (λ f. order.closed q r mq mr pr f)
        (or_cases (is_piece p r) (m.finished r) picked))

    -- one more batch
    module _ (inv : KeepsJob job m) (batch : Batch) (next : batch.first ≡ next_in_job job m.batches) (fits : TxnsFitPlan job.parts batch.txns) where
      abbrev m' : Machine
      m' = record m { batches = and_batch m.batches batch; now = loaded (next_in_job job m.batches) (begin job (and_batch m.batches batch)).envs m.now }

      load : LoadKeeps job m.batches batch
      load = keeps_load job is m inv batch next fits

      -- a predecessor of what was there was there
      preds_kept : (p q : PieceId) → Mem p (pieces_at job m') → q.txn < next_in_job job m.batches → precedes (world_at job m') (ends_at job m') p q ≡ true
          → (Mem p (pieces_at job m) → precedes (world_at job m) (ends_at job m) p q ≡ true → m.finished p ≡ true) → m.finished p ≡ true
      preds_kept p q mp lt pr f = go (nat_lt p.txn (next_in_job job m.batches)) refl
        where
          go : (b : Bool) → nat_lt p.txn (next_in_job job m.batches) ≡ b → m.finished p ≡ true
          go true h = let lp : p.txn < next_in_job job m.batches = grind (arith, nat_tests) in f (load.old p mp lp) (sym (load.precedence p q lp lt) ∙ pr)
          go false h = let le : next_in_job job m.batches ≤ p.txn = grind (arith, nat_tests) in absurd (true≢false (sym pr ∙ load.later p q le lt))

      load_order : KeepsPrecedence job m'
      load_order = record {
        closed = λ p q mp mq pr f. preds_kept p q mp (old_finished job is m inv batch next fits q f) pr (λ k r. order.closed p q k (load.old q mq (old_finished job is m inv batch next fits q f)) r f);
        outs = λ p o q mq pr. preds_kept q p mq (load.there p (inv.outs p o).there).0 pr (λ k r. order.outs p o q k r);
      }

  pub keeps_order : {m n : Machine} → StepBy job (IsReadyAt job) m n → KeepsJob job m → KeepsPrecedence job m → KeepsPrecedence job n
  keeps_order (Loaded m batch next fits) inv order = load_order m order inv batch next fits
  keeps_order (Given m p ready keys) inv order = record {
    closed = order.closed;
    outs = λ q e. ⊎_elim (λ same. subst (PredsFinished job m) (same_piece p q same) ready.3) (λ k. order.outs q k) (or_cases (is_piece p q) (m.out q) e);
  }
  keeps_order (Ran m p ready) inv order = record {
    closed = finishes m order p ready.3;
    outs = λ q e r mr pr. or_right (is_piece p r) (m.finished r) (order.outs q e r mr pr);
  }
  keeps_order (Kept m p out) inv order = record {
    closed = finishes m order p (order.outs p out);
    outs = λ q e r mr pr. or_right (is_piece p r) (m.finished r) (order.outs q (still_out m.out p q e).0 r mr pr);
  }
  keeps_order (GivenBack m out still) inv order = record {
    closed = order.closed;
    outs = λ q e. order.outs q (still q e);
  }

pub outs_unordered : OutsUnordered
outs_unordered job m inv order p q out_p out_q = unlike _ (λ pr. true≢false (sym (order.outs q out_q p (inv.outs p out_p).there pr) ∙ (inv.outs p out_p).unfinished))
