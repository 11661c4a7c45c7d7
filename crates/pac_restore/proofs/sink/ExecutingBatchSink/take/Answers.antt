-- One batch more is executed.
use Rattle.std.proofs.Common.{◌∙◌, ap}
use Rattle.pac_types.specs.Typing.{CatalogueState}
use Rattle.pac_restore.specs.Outcomes.{outcome_of, then_serial}
use Rattle.pac_restore.proofs.SinkLemmas.{taken-more}
use Rattle.pac_restore.proofs.sink.ExecutingBatchSink.take.Goals as goal

pub returns-clause-took : goal.returns-clause-took
returns-clause-took g c = λ start taken is.
    let sink = c.args.self in
    let batch = c.args.batch in (
      is.0,
      taken-more start.catalogue.now.procs (outcome_of start.executed) (outcome_of sink.executed) _ taken batch is.1
          (c.in_ok-executed.ensures.outcome ∙ ap (λ (cat : CatalogueState). then_serial cat.procs batch.first batch.txns (outcome_of sink.executed)) is.0),
    )
