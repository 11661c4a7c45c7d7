use Rattle.std.proofs.Common.{arith, inl, refl}
use Rattle.pac_request.specs.ScriptLines.{ScriptLineSays}
use Rattle.pac_request.specs.declared.request.Request.TheVariants as request
use Rattle.pac_request.proofs.PlainLemmas.{plain_says_in_script, plain_fits}
use Rattle.pac_request.proofs.LineOnce.{in_place_says, out_of_place_says, script_line_once, only_answer}
use Rattle.pac_request.proofs.line.read_script_line.Goals as goal

pub returns-in-Some-out_of_place-clause-only : goal.returns-in-Some-out_of_place-clause-only
returns-in-Some-out_of_place-clause-only c = λ answer says. rw c.refused-in-Some-out_of_place.ensures (script_line_once c.args.catalogue.now c.args.line.now answer _ says
    (out_of_place_says c.args.catalogue.now c.args.line.now _ _ _ (omega (arith, c.if-line-gt-MAX_LINE.false)) c.in_ok-lexed.ensures.lexed (rw c.deref.ensures.value at c.in-Some-out_of_place.ensures)))

pub returns-clause-says : goal.returns-clause-says
returns-clause-says c = in_place_says _ c.args.line.now _ _ c.answer_of.result (omega (arith, c.if-line-gt-MAX_LINE.false)) c.in_ok-lexed.ensures.lexed (rw c.deref.ensures.value at c.in_default-out_of_place.ensures) c.answer_of.ensures.exact

pub returns-clause-only : goal.returns-clause-only
returns-clause-only c = λ answer says. only_answer (ScriptLineSays c.args.catalogue.now c.args.line.now) answer c.answer_of.result (script_line_once c.args.catalogue.now c.args.line.now)
    (in_place_says _ c.args.line.now _ _ c.answer_of.result (omega (arith, c.if-line-gt-MAX_LINE.false)) c.in_ok-lexed.ensures.lexed (rw c.deref.ensures.value at c.in_default-out_of_place.ensures) c.answer_of.ensures.exact) says

pub returns-then-line-gt-MAX_LINE-clause-only : goal.returns-then-line-gt-MAX_LINE-clause-only
returns-then-line-gt-MAX_LINE-clause-only c = λ answer says. rw c.refused.ensures (script_line_once c.args.catalogue.now c.args.line.now answer _ says (inl (omega (arith, c.if-line-gt-MAX_LINE.true), refl)))

pub returns-in-Some-clause-says : goal.returns-in-Some-clause-says
returns-in-Some-clause-says c = plain_says_in_script c.args.catalogue.now c.args.line.now (request.Call c.in-Some.call) (omega (arith, c.if-line-gt-MAX_LINE.false)) (rw c.in-Some.is at c.in_ok-call.ensures)

pub returns-in-Some-clause-only : goal.returns-in-Some-clause-only
returns-in-Some-clause-only c = λ answer says. script_line_once c.args.catalogue.now c.args.line.now answer _ says
    (plain_says_in_script c.args.catalogue.now c.args.line.now (request.Call c.in-Some.call) (omega (arith, c.if-line-gt-MAX_LINE.false)) (rw c.in-Some.is at c.in_ok-call.ensures))

pub returns-in-Some-clause-fits : goal.returns-in-Some-clause-fits
returns-in-Some-clause-fits c = plain_fits c.args.catalogue.now c.args.line.now (request.Call c.in-Some.call) (rw c.in-Some.is at c.in_ok-call.ensures)
