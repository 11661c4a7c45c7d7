-- Without memory for the catalogue nothing is served.
use Rattle.std.proofs.lemmas.Result.{err_from_is_err_and}
use Rattle.pac_run.proofs.LineLemmas.{nothing-served}
use Rattle.pac_run.proofs.serving.serve.Goals as goal

pub returns-in_err-catalogue-clause-served : goal.returns-in_err-catalogue-clause-served
returns-in_err-catalogue-clause-served g c =
    let r = c.from_residual in
    let p = err_from_is_err_and r.result r.ensures.1 in
    nothing-served c.args.engine.now _ _ _ _ r.result p.0 c.requires.none c.requires.held (c.catalogue.ensures.durable c.requires.goes_on) p.1 p.2
