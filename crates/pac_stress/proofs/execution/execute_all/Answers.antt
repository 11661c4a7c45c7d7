-- The batches may be executed over the plan, and what that leaves is what serial execution gives.
use Rattle.std.proofs.Common.{◌<◌, ◌+◌, ℕ, List, arith, ap, length, rules, ◌∙◌}
use Rattle.std.specs.Prelude.{sum}
use Rattle.pac_ops.specs.Notes.{first_note}
use Rattle.pac_ops.specs.Transactions.{replayed}
use Rattle.pac_tables.specs.Joined.{Held}
use Rattle.pac_commute.specs.PlanLaws.{txns_of}
use Rattle.pac_recover.proofs.WorkerLemmas.{numbers-run, same-txns, txns-of-plan}
use Rattle.pac_stress.proofs.Finishing.{leaves-abort, leaves-tables, pieces-are}
use Rattle.pac_stress.proofs.PieceCounts.{pieces-small}
use Rattle.pac_stress.proofs.execution.execute_all.Goals as goal

pub execute-requires-clause-runs : goal.execute-requires-clause-runs
execute-requires-clause-runs g c κs within = numbers-run 0 c.args.batches c.requires.runs

pub execute-requires-clause-txns : goal.execute-requires-clause-txns
execute-requires-clause-txns g c κs within = txns-of-plan c.args.cat.now c.in_ok-plan.plan c.in_ok-plan.ensures.programs c.in_ok-plan.ensures.shapes c.args.batches c.requires.fit

pub execute-requires-clause-numbers : goal.execute-requires-clause-numbers
execute-requires-clause-numbers g c κs within = omega (arith, c.requires.few, ap length (same-txns c.args.batches))

pub together-requires : goal.together-requires
together-requires g c =
    let blocks : c.in_ok-plan.plan.blocks < 65536 = search rules in
    let small = pieces-small c.in_ok-plan.plan c.args.batches blocks c.requires.few in
    omega (arith, small, c.in_ok-tables.ensures.counted, ap sum c.as_slice.ensures)

pub returns-in-None-clause-ends : goal.returns-in-None-clause-ends
returns-in-None-clause-ends g c = (
  leaves-tables c.args.cat.now c.in_ok-plan.plan c.in_ok-plan.ensures.replays c.args.batches c.in_ok-tables.field-0.tables.rows c.in_ok-tables.field-0.first_note (c.in_ok-tables.ensures.held ∙ ap (λ (h : Held). (replayed c.in_ok-plan.plan.programs 1 (txns_of c.args.batches) h.rows).tables) c.in_ok-rows.ensures.rows)
      (c.in_ok-tables.ensures.note ∙ ap (λ (h : Held). first_note (replayed c.in_ok-plan.plan.programs 1 (txns_of c.args.batches) h.rows).notes) c.in_ok-rows.ensures.rows) c.in-None.is,
  pieces-are c.args.cat.now c.in_ok-plan.plan c.args.batches c.together.result c.in_ok-plan.ensures.programs c.in_ok-plan.ensures.shapes c.in_ok-plan.ensures.analysis
      (c.together.ensures ∙ ap (λ (tallies : List ℕ). sum tallies + c.in_ok-tables.field-0.drained) c.as_slice.ensures ∙ c.in_ok-tables.ensures.counted),
)

pub returns-in-Some-clause-ends : goal.returns-in-Some-clause-ends
returns-in-Some-clause-ends g c = leaves-abort c.args.cat.now c.in_ok-plan.plan c.in_ok-plan.ensures.replays c.args.batches c.in_ok-tables.field-0.first_note c.in-Some.note
    (c.in_ok-tables.ensures.note ∙ ap (λ (h : Held). first_note (replayed c.in_ok-plan.plan.programs 1 (txns_of c.args.batches) h.rows).notes) c.in_ok-rows.ensures.rows) c.in-Some.is
