-- By its kind, where its conditions hold.
use Rattle.std.proofs.Common.{inl, inr}
use Rattle.pac_piece.proofs.StepLemmas.{on_ok}
use Rattle.pac_piece.proofs.run_op.run_op.Goals as goal

pub run_value-requires-clause-kind : goal.run_value-requires-clause-kind
run_value-requires-clause-kind g c = inl c.in-Let.is

pub run_value-requires-in-Cond-clause-kind : goal.run_value-requires-in-Cond-clause-kind
run_value-requires-in-Cond-clause-kind g c = inr c.in-Cond.is

pub returns-in-Let : goal.returns-in-Let
returns-in-Let g c = on_ok c.run_value.result (λ steps. steps (g.S.RowSource.base c.args.source.now)) c.run_value.ensures

pub returns-in-Cond : goal.returns-in-Cond
returns-in-Cond g c = on_ok c.run_value-in-Cond.result (λ steps. steps (g.S.RowSource.base c.args.source.now)) c.run_value-in-Cond.ensures
