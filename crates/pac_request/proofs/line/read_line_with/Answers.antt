use Rattle.std.proofs.Common.{arith, inl, refl}
use Rattle.pac_request.specs.LineReading.{LineSays}
use Rattle.pac_request.specs.declared.request.Request.TheVariants as request
use Rattle.pac_request.proofs.PlainLemmas.{plain_says, plain_fits}
use Rattle.pac_request.proofs.LineOnce.{short_says, line_once, only_answer}
use Rattle.pac_request.proofs.line.read_line_with.Goals as goal

pub returns-clause-says : goal.returns-clause-says
returns-clause-says c = short_says _ c.args.line.now _ _ c.answer_of.result (omega (arith, c.if-line-gt-MAX_LINE.false)) c.in_ok-lexed.ensures.lexed c.answer_of.ensures.exact

pub returns-clause-only : goal.returns-clause-only
returns-clause-only c = λ answer says. only_answer (LineSays c.args.catalogue.now c.args.line.now) answer c.answer_of.result (line_once c.args.catalogue.now c.args.line.now)
    (short_says _ c.args.line.now _ _ c.answer_of.result (omega (arith, c.if-line-gt-MAX_LINE.false)) c.in_ok-lexed.ensures.lexed c.answer_of.ensures.exact) says

pub returns-then-line-gt-MAX_LINE-clause-only : goal.returns-then-line-gt-MAX_LINE-clause-only
returns-then-line-gt-MAX_LINE-clause-only c = λ answer says. rw c.refused.ensures (line_once c.args.catalogue.now c.args.line.now answer _ says (inl (omega (arith, c.if-line-gt-MAX_LINE.true), refl)))

pub returns-in-Some-clause-says : goal.returns-in-Some-clause-says
returns-in-Some-clause-says c = plain_says c.args.catalogue.now c.args.line.now (request.Call c.in-Some.call) (omega (arith, c.if-line-gt-MAX_LINE.false)) (rw c.in-Some.is at c.in_ok-call.ensures)

pub returns-in-Some-clause-only : goal.returns-in-Some-clause-only
returns-in-Some-clause-only c = λ answer says. line_once c.args.catalogue.now c.args.line.now answer _ says
    (plain_says c.args.catalogue.now c.args.line.now (request.Call c.in-Some.call) (omega (arith, c.if-line-gt-MAX_LINE.false)) (rw c.in-Some.is at c.in_ok-call.ensures))

pub returns-in-Some-clause-fits : goal.returns-in-Some-clause-fits
returns-in-Some-clause-fits c = plain_fits c.args.catalogue.now c.args.line.now (request.Call c.in-Some.call) (rw c.in-Some.is at c.in_ok-call.ensures)
