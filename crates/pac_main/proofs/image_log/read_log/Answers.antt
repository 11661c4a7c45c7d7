-- What is read of the parts is read of the text.
use Rattle.std.proofs.Common.{subst, List, ℕ}
use Rattle.pac_request.specs.Answers.{AnswersBy}
use Rattle.pac_script.specs.Script.{text_before}
use Rattle.pac_main.specs.Lay.{LogPartsSay}
use Rattle.pac_main.proofs.LogLemmas.{OnlyThis, log-is-not}
use Rattle.pac_main.proofs.image_log.read_log.Goals as goal

pub returns-clause-fault : goal.returns-clause-fault
returns-clause-fault c = λ fault is.
    let text = c.args.text.now in
    let mark = c.find_mark.result in
    let read = c.read_parts.result in
    log-is-not text mark c.find_mark.ensures.mark c.requires.short read fault
    (subst (λ (bytes : List ℕ). AnswersBy (LogPartsSay (text_before text mark) bytes) read) c.parts.ensures.bytes (subst (λ (prefix : List ℕ). AnswersBy (LogPartsSay prefix c.parts.result.1.now) read) c.parts.ensures.prefix c.read_parts.ensures.says))
    (subst (λ (bytes : List ℕ). AnswersBy (OnlyThis (text_before text mark) bytes) read) c.parts.ensures.bytes (subst (λ (prefix : List ℕ). AnswersBy (OnlyThis prefix c.parts.result.1.now) read) c.parts.ensures.prefix c.read_parts.ensures.only))
    is
