-- The bytes that were read are the whole input, or more than it may have.
use Rattle.std.proofs.Common.{sym, subst}
use Rattle.std.proofs.lemmas.Result.{err_from_is_err_and}
use Rattle.pac_main.specs.Causes.{IsUnread}
use Rattle.pac_main.specs.Streams.{observed}
use Rattle.pac_main.proofs.InputLemmas.{if_err, not-read}
use Rattle.pac_main.proofs.replay.read_whole.Goals as goal

pub returns-in_err-text-clause-stops : goal.returns-in_err-text-clause-stops
returns-in_err-text-clause-stops g c =
    let p = err_from_is_err_and c.from_residual.result c.from_residual.ensures.1 in
    let source = observed g.I.Source.left g.I.Source.faults c.args.input.now c.read_up_to.new.source in
    if_err (IsUnread source) c.from_residual.result p.0 p.1 (subst (IsUnread source) (sym p.2) (not-read source c.in_err-text.field-0.0 c.in_err-text.ensures.cause))
