-- What is kept of a machine, its state and what is ready depend on which pieces are out and finished, and not on how that is listed.
use Rattle.std.proofs.Common.{◌≡◌, Bool, true, refl, sym, ◌∙◌}
use Rattle.pac_base.specs.Members.{Mem}
use Rattle.pac_ops.specs.declared.piece.PieceId.{PieceId}
use Rattle.pac_plan.specs.Pieces.{Present}
use Rattle.pac_commute.specs.Loads.{begin}
use Rattle.pac_commute.specs.Machine.{IsOutBy, KeepsJob, KeepsPrecedence, Machine, among, world_at}
use Rattle.pac_commute.proofs.Steps.{among_mem}
use Rattle.pac_commute.proofs.Theorem.{same_picks}
use Rattle.pac_core.specs.Replay.{Replay, loaded_pieces, machine_of, present_of}

module _ (r : Replay) (out finished : PieceId → Bool) (now : Present) where
  abbrev n : Machine
  n = record { batches = r.batches; out = out; finished = finished; now = now }

  module _ (inv : KeepsJob r.job n) (same : (q : PieceId) → Mem q (loaded_pieces r) → among r.finished q ≡ finished q) (loaded : (q : PieceId) → Mem q r.finished → Mem q (loaded_pieces r))
      (outs : (q : PieceId) → Mem q r.out → out q ≡ true) where
    -- the state is the same
    pub present_is : now ≡ present_of r
    present_is = inv.now ∙ sym (same_picks (world_at r.job n) (among r.finished) finished (loaded_pieces r) (begin r.job r.batches) same)

    out_here : (q : PieceId) → among r.out q ≡ true → IsOutBy r.job (machine_of r) q
    out_here q is_out =
        let is = inv.outs q (outs q (among_mem r.out q is_out)) in
        record {
          there = is.there;
          unfinished = same q is.there ∙ is.unfinished;
          needed = λ o mo pr. same o mo ∙ is.needed o mo pr;
          keys = is.keys;
        }

    -- and the same is kept
    pub invariant_is : KeepsJob r.job (machine_of r)
    invariant_is = record {
      run_on = inv.run_on;
      fit = inv.fit;
      closed = λ p q mp mq pr f. same p mp ∙ inv.closed p q mp mq pr (sym (same q mq) ∙ f);
      finished = λ q f. loaded q (among_mem r.finished q f);
      outs = out_here;
      now = refl;
    }

    -- so is the order
    pub order_is : KeepsPrecedence r.job n → KeepsPrecedence r.job (machine_of r)
    order_is order = record {
      closed = λ p q mp mq pr f. same p mp ∙ order.closed p q mp mq pr (sym (same q mq) ∙ f);
      outs = λ p o q mq pr. same q mq ∙ order.outs p (outs p (among_mem r.out p o)) q mq pr;
    }
