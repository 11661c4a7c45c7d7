use Rattle.pac_request.proofs.PlainLemmas.{args_fit, call_asked}
use Rattle.pac_request.proofs.plain.plain_call.Goals as goal

pub of-args-requires : goal.of-args-requires
of-args-requires c =
    args_fit c.args.catalogue.now c.args.line.now c.in-Some.proc c.in-Some.called.now c.in-Some.after.now c.in-Some-2.values.items c.in-Some.ensures.called
    (rw c.as_slice.ensures at (rw c.in-Some-2.is at c.in_ok-values.ensures)) c.in-Some.ensures.few

pub returns : goal.returns
returns c =
    rw c.of-args.ensures (call_asked c.args.catalogue.now c.args.line.now c.in-Some.proc c.in-Some.called.now c.in-Some.after.now c.in-Some-2.values.items c.in-Some.ensures.called
    (rw c.as_slice.ensures at (rw c.in-Some-2.is at c.in_ok-values.ensures)))
