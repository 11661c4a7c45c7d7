-- It is the work of a piece of a plan.
use Rattle.std.proofs.Common.{sym, subst}
use Rattle.pac_value.specs.Expressions.{Values}
use Rattle.pac_plan.specs.declared.code.Code.{Code}
use Rattle.pac_plan.specs.Codes.{code_ops}
use Rattle.pac_piece.specs.Values.{CanRunCode, copied, state_over}
use Rattle.pac_piece.proofs.RunnableLemmas.{runnable}
use Rattle.pac_piece.proofs.TableLemmas.{all_there}
use Rattle.pac_piece.proofs.work.run_apart.Goals as goal

pub run_code-requires : goal.run_code-requires
run_code-requires c =
    let work = c.args.work.now in
    record {
      can = subst (λ (env : Values). CanRunCode c.get.result.now (state_over env (copied work))) (sym c.in_ok-env.ensures)
          (subst (λ (code : Code). CanRunCode code (state_over work.env (copied work))) (sym c.get.ensures) (runnable work.piece.block work.code work.env (copied work) c.requires));
      there = all_there (code_ops c.get.result.now);
    }
