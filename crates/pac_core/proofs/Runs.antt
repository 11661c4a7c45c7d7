-- The work of a piece can be done once what it needs is finished.
use Rattle.std.proofs.Common.{◌≡◌, ◌≤◌, ℕ, Bool, true, false, cond, not, List, length, Option, None, Some, refl, sym, ap, subst, ◌∙◌, ⊎_elim}
use Rattle.std.specs.FinMap.{empty, get}
use Rattle.pac_base.proofs.TestLemmas.{and_both, and_left, and_right, not_true}
use Rattle.pac_value.specs.Expressions.{Values}
use Rattle.pac_value.specs.State.{Cell, RowValues, Tables}
use Rattle.pac_ops.specs.declared.piece.PieceId.{PieceId}
use Rattle.pac_ops.specs.declared.transaction.Txn.{Txn}
use Rattle.pac_ops.specs.Shapes.{RowsFit}
use Rattle.pac_ops.specs.Transactions.{txn_state}
use Rattle.pac_ops.specs.Effects.{defined_in, used_in}
use Rattle.pac_plan.specs.Analysis.{IsPlan}
use Rattle.pac_plan.specs.Pieces.{HasInputs, InputsAre, ops, part}
use Rattle.pac_plan.specs.Worlds.{txn_at, txn_block, txn_code}
use Rattle.pac_plan.specs.Codes.{TxnFitsPlan, code_in, piece_ops}
use Rattle.pac_tables.specs.Written.{written}
use Rattle.pac_piece.specs.Frames.{AreAmong}
use Rattle.pac_piece.specs.Runnable.{IsRunnableOn, IsRunnableOver}
use Rattle.pac_commute.specs.Loads.{Job}
use Rattle.pac_commute.specs.Machine.{KeepsJob, Machine, NeedsFinished, ends_at, world_at}
use Rattle.pac_commute.specs.PlanLaws.{txns_of}
use Rattle.pac_commute.proofs.FitLemmas.{env_is}
use Rattle.pac_commute.proofs.MachineFit.{machine_fits}
use Rattle.pac_commute.proofs.Steps.{have_inputs}
use Rattle.pac_core.specs.Cells.{copies_at}
use Rattle.pac_core.specs.Inputs.{FindsInputs, is_found}
use Rattle.pac_core.proofs.Copies.{copied_or}

module _ (job : Job) (is : IsPlan job.parts) (rows_fit : RowsFit job.parts.tables job.tables) (m : Machine) (inv : KeepsJob job m) (p : PieceId) (needed : NeedsFinished job m p)
    (txn : Txn) (there : txn_at job.first (txns_of m.batches) p.txn ≡ Some txn) (fits : TxnFitsPlan job.parts txn) (env : Values) (finds : FindsInputs job.parts p.block txn (m.now.envs p.txn) env) where
  good : HasInputs (world_at job m) (ends_at job m) p m.now
  good = have_inputs job is m inv p needed

  operations : ops (world_at job m) p ≡ piece_ops job.parts p.block txn
  operations = ap (λ o. part (txn_block job.parts o) p.block (txn_code job.parts o)) there

  end : (rows : Tables) × RowsFit job.parts.tables rows × (ends_at job m p.txn ≡ (txn_state job.parts.programs txn rows).env)
  end = env_is job.parts is job.first m.batches inv.run_on inv.fit job.tables rows_fit p.txn txn there

  inputs_end : InputsAre (piece_ops job.parts p.block txn) (ends_at job m p.txn) env
  inputs_end x u d =
      finds x ∙ ap (λ b. cond b (get (m.now.envs p.txn) x) None) (and_both _ _ u (ap not d))
      ∙ good x (ap (λ os. used_in os x) operations ∙ u) (ap (λ os. defined_in os x) operations ∙ d)

  only_end : AreAmong env (ends_at job m p.txn)
  only_end x v e = go (is_found job.parts p.block txn x) refl (sym (finds x) ∙ e)
    where
      go : (b : Bool) → is_found job.parts p.block txn x ≡ b → cond b (get (m.now.envs p.txn) x) None ≡ Some v → get (ends_at job m p.txn) x ≡ Some v
      go false f h = let wrong : None ≡ Some v = h in absurd cc
      go true f h =
          sym (good x (ap (λ os. used_in os x) operations ∙ and_left (used_in (piece_ops job.parts p.block txn) x) _ f)
          (ap (λ os. defined_in os x) operations ∙ not_true (defined_in (piece_ops job.parts p.block txn) x) (and_right (used_in (piece_ops job.parts p.block txn) x) _ f))) ∙ h

  abbrev over : (base : Tables) → RowsFit job.parts.tables base → IsRunnableOver p.block (code_in job.parts p.block txn) env base
  over base fit = record {
    parts = job.parts;
    is_plan = is;
    txn = txn;
    fits = fits;
    code = refl;
    before = end.0;
    before_fit = end.1;
    inputs = subst (λ (e : Values). InputsAre (piece_ops job.parts p.block txn) e env) end.2 inputs_end;
    only = subst (λ (e : Values). AreAmong env e) end.2 only_end;
    rows = fit;
  }

  now_fit : RowsFit job.parts.tables m.now.tables
  now_fit = (machine_fits job is rows_fit m inv).0.rows

  -- over the tables
  pub runnable_on : (tables : ℕ) → length job.parts.tables ≤ tables → IsRunnableOn p.block (code_in job.parts p.block txn) env tables m.now.tables
  runnable_on tables enough = record { runnable = over m.now.tables now_fit; among = enough }

  -- over copies
  pub runnable_copies : (cells : List Cell) → IsRunnableOver p.block (code_in job.parts p.block txn) env (written empty (copies_at m.now.tables cells))
  runnable_copies cells = over (written empty (copies_at m.now.tables cells)) (λ a row e. ⊎_elim
      (λ same. now_fit a row (sym same ∙ e))
      (λ none. let wrong : ◌≡◌ {A = Option RowValues} None (Some row) = sym none ∙ e in absurd cc)
      (copied_or m.now.tables cells a))
