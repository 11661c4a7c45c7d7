use Rattle.std.proofs.Common.{refl}
use Rattle.pac_types.specs.WellFormed.{types}
use Rattle.pac_request.proofs.PlainLemmas.{one_more, all_read}
use Rattle.pac_request.proofs.plain.arguments.Goals as goal

pub loop-wanted-preserved : goal.loop-wanted-preserved
loop-wanted-preserved c =
    one_more c.args.bytes.now c.loop-wanted.rest.now c.in-Some-to_argument.here.now c.in-Some-argument.after.now c.loop-wanted.is_first c.in-Some.wanted (types c.args.params.now) (types c.loop-wanted.params.now) (types c.in-Some.more.now)
    c.loop-wanted.values.items c.push.new.list.items c.in-Some-argument.value c.in-Some.ensures.types c.in-Some-to_argument.ensures c.in-Some-argument.ensures.read c.in-Some-argument.ensures.value c.in_ok-push.ensures.items c.loop-wanted.invariant

pub returns-then-ends : goal.returns-then-ends
returns-then-ends c =
    all_read c.args.bytes.now c.loop-wanted.rest.now c.loop-wanted.is_first (types c.args.params.now) (types c.loop-wanted.params.now) c.loop-wanted.values.items c.in_default.ensures.types (c.if-ends.ensures refl) c.loop-wanted.invariant
