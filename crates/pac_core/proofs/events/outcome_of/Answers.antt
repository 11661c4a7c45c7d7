-- By what the core has for the piece.
use Rattle.std.proofs.Common.{Result, Ok, Err, sym, ap, subst, ◌∙◌}
use Rattle.std.specs.Prelude.{IfOk}
use Rattle.std.specs.FinMap.{get}
use Rattle.pac_base.specs.declared.no_memory.NoMemory.{NoMemory}
use Rattle.pac_value.specs.Expressions.{Values}
use Rattle.pac_value.specs.State.{Tables}
use Rattle.pac_ops.specs.declared.transaction.Txn.{Txn}
use Rattle.pac_plan.specs.declared.code.Code.{Code}
use Rattle.pac_plan.specs.Codes.{code_in}
use Rattle.pac_piece.specs.declared.on_tables.PieceOutcome.{PieceOutcome}
use Rattle.pac_piece.specs.Values.{IsEndOver}
use Rattle.pac_commute.proofs.Steps.{needs_finished}
use Rattle.pac_core.specs.declared.progress.Progress.{Progress}
use Rattle.pac_core.specs.Links.{core_of, job_of}
use Rattle.pac_core.specs.Replay.{machine_of}
use Rattle.pac_core.specs.Results.{IsResultAmong}
use Rattle.pac_core.proofs.EndValues.{leaves_passed}
use Rattle.pac_core.proofs.TakeNext.{kept_after_is}
use Rattle.pac_core.proofs.EventFacts.{block_inside, fits, may_run_on, result_is}
use Rattle.pac_core.proofs.events.outcome_of.Goals as goal

pub code_of-requires-clause-fits : goal.code_of-requires-clause-fits
code_of-requires-clause-fits g c = fits c.args.progress.now c.args.rows.now c.requires.core c.args.place c.args.piece c.requires.place c.txn_at-txn.result.now c.txn_at-txn.ensures

pub code_of-requires-clause-block : goal.code_of-requires-clause-block
code_of-requires-clause-block g c = block_inside c.args.progress.now c.args.rows.now c.requires.core c.args.place c.args.piece c.requires.place c.txn_at-txn.result.now c.txn_at-txn.ensures

pub find-requires-clause-fits : goal.find-requires-clause-fits
find-requires-clause-fits g c = fits c.args.progress.now c.args.rows.now c.requires.core c.args.place c.args.piece c.requires.place c.txn_at-txn.result.now c.txn_at-txn.ensures

pub find-requires-clause-block : goal.find-requires-clause-block
find-requires-clause-block g c = block_inside c.args.progress.now c.args.rows.now c.requires.core c.args.place c.args.piece c.requires.place c.txn_at-txn.result.now c.txn_at-txn.ensures

pub run_on-requires : goal.run_on-requires
run_on-requires g c =
    may_run_on c.args.progress.now c.args.rows.now c.requires.core c.args.place c.args.piece c.requires.place c.txn_at-txn.result.now c.txn_at-txn.ensures c.values_at-kept.result.now c.values_at-kept.ensures (needs_finished (job_of c.args.progress.now c.args.rows.now) c.requires.core.progress.is_plan (machine_of (core_of c.args.progress.now c.args.rows.now)) c.args.piece c.requires.ready.3)
    c.find.new.env c.in_ok-find.ensures c.get.result.now (c.get.ensures ∙ c.in_ok-code.ensures) _ (sym c.rows.ensures.tables) _ c.rows.ensures.rows

pub returns-clause-result : goal.returns-clause-result
returns-clause-result g c = go c.run_on.result c.run_on.ensures.value
  where
    p : Progress
    p = c.args.progress.now

    txn : Txn
    txn = c.txn_at-txn.result.now

    kept : Values
    kept = c.values_at-kept.result.now

    env : Values
    env = c.find.new.env

    of_core : (outcome : PieceOutcome) → IsEndOver c.args.piece.txn (code_in p.pieces c.args.piece.block txn) env c.args.rows.now.current outcome.writes outcome.values outcome.note
        → IsResultAmong (core_of p c.args.rows.now) p c.args.place c.args.piece outcome.writes outcome.values outcome.note
    of_core outcome end = record {
      outs = end.outs;
      result = result_is p c.args.rows.now c.requires.core c.args.place c.args.piece c.requires.place txn c.txn_at-txn.ensures kept c.values_at-kept.ensures (needs_finished (job_of c.args.progress.now c.args.rows.now) c.requires.core.progress.is_plan (machine_of (core_of c.args.progress.now c.args.rows.now)) c.args.piece c.requires.ready.3) c.requires.ready.2
          env c.in_ok-find.ensures c.args.rows.now.current (λ a covers. ap (λ (t : Tables). get t a) c.requires.core.rows) outcome.writes end.outs outcome.note end.value;
      leaves = λ now after. kept_after_is p c.args.place c.args.piece end.outs txn c.txn_at-txn.ensures kept c.values_at-kept.ensures now
          (leaves_passed p.pieces c.args.piece.block txn kept env c.in_ok-find.ensures c.args.piece.txn c.args.rows.now.current outcome.writes outcome.values outcome.note end kept now
          (after txn kept c.txn_at-txn.ensures c.values_at-kept.ensures));
    }

    go : (r : Result PieceOutcome NoMemory) → IfOk r (λ (outcome : PieceOutcome). IsEndOver c.args.piece.txn c.get.result.now env (g.R.Rows.held c.rows.result.now) outcome.writes outcome.values outcome.note)
        → IfOk r (λ (outcome : PieceOutcome). IsResultAmong (core_of p c.args.rows.now) p c.args.place c.args.piece outcome.writes outcome.values outcome.note)
    go (Err e) value = tt
    go (Ok outcome) value = of_core outcome
        (subst (λ (t : Tables). IsEndOver c.args.piece.txn (code_in p.pieces c.args.piece.block txn) env t outcome.writes outcome.values outcome.note) c.rows.ensures.rows
        (subst (λ (x : Code). IsEndOver c.args.piece.txn x env (g.R.Rows.held c.rows.result.now) outcome.writes outcome.values outcome.note) (c.get.ensures ∙ c.in_ok-code.ensures) value))
