-- A graph that isn't made has too many operations.
use Rattle.std.proofs.Common.{Err, ap, sym, ◌∙◌}
use Rattle.std.proofs.lemmas.Result.{err_from_is_err_and}
use Rattle.pac_base.specs.declared.refusal.Refusal.TheVariants as error
use Rattle.pac_main.proofs.InputLemmas.{err_is}
use Rattle.pac_main.proofs.ExplainLemmas.{tree_excess}
use Rattle.pac_main.proofs.explanation.explain_tree.Goals as goal

pub returns-in_err-graph-in-Ok-clause-fault : goal.returns-in_err-graph-in-Ok-clause-fault
returns-in_err-graph-in-Ok-clause-fault c =
    let p = err_from_is_err_and c.from_residual-in_err-graph-in-Ok.result c.from_residual-in_err-graph-in-Ok.ensures.1 in
    λ fault is.
    let came = ap (λ e. Err e) (sym p.2 ∙ err_is _ p.0 (error.Fault fault) p.1 is) in
    tree_excess c.args.tree c.in-Ok.catalogue fault c.in-Ok.ensures.ok (c.in_err-graph-in-Ok.ensures.fault fault came)
