-- The batches may be executed over the plan, and what that leaves is what serial execution gives.
use Rattle.std.proofs.Common.{◌∙◌, ap, length, subst, sym, arith}
use Rattle.pac_restore.specs.Outcomes.{FitsReplayed, outcome_of}
use Rattle.pac_recover.proofs.WorkerLemmas.{fits-executed, gives, numbers-run, same-txns, txns-of-plan}
use Rattle.pac_recover.proofs.workers.execute_planned.Goals as goal

pub execute-requires-clause-runs : goal.execute-requires-clause-runs
execute-requires-clause-runs g c κs within = numbers-run c.args.before c.args.batches c.requires.runs

pub execute-requires-clause-txns : goal.execute-requires-clause-txns
execute-requires-clause-txns g c κs within = txns-of-plan c.args._cat.now c.args.plan c.requires.programs c.requires.shapes c.args.batches c.requires.fit

pub execute-requires-clause-numbers : goal.execute-requires-clause-numbers
execute-requires-clause-numbers g c κs within = omega (arith, c.requires.few, ap length (same-txns c.args.batches))

pub returns-clause-outcome : goal.returns-clause-outcome
returns-clause-outcome g c =
    ap outcome_of c.execution_of.ensures
    ∙ gives c.args._cat.now.procs c.args.plan.programs c.requires.replays c.args.before c.args.batches c.args.tables.rows _ c.in_ok-executed.executed.tables c.in_ok-executed.executed.first_note c.in_ok-executed.ensures.held c.in_ok-executed.ensures.note

pub returns-clause-fits : goal.returns-clause-fits
returns-clause-fits g c =
    subst (λ e. FitsReplayed c.args._cat.now e) (sym c.execution_of.ensures)
    (fits-executed c.args._cat.now c.args.plan c.requires.programs c.requires.shapes _ c.in_ok-executed.executed.tables c.in_ok-executed.executed.first_note c.in_ok-executed.ensures.tables c.in_ok-executed.ensures.fit)
