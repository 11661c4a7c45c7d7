use Rattle.std.proofs.Common.{Some, ap, sym, ◌∙◌}
use Rattle.pac_request.proofs.LineStepping.{no_record_left, no_record, record_read, gives_along}
use Rattle.pac_request.proofs.parser.LineParser.record.Goals as goal

pub returns-in_default-clause-run : goal.returns-in_default-clause-run
returns-in_default-clause-run c = λ k. rw c.refuse.ensures (no_record_left _ k _ c.in_default.ensures)

pub returns-in_default-record_word-clause-run : goal.returns-in_default-record_word-clause-run
returns-in_default-record_word-clause-run c = λ k. rw c.refuse-in_default-record_word.ensures (no_record _ k _ _ _ c.in-Some.ensures (sym c.record_word.ensures ∙ c.in_default-record_word.is))

pub returns-in-Put-clause-run : goal.returns-in-Put-clause-run
returns-in-Put-clause-run c = λ k. gives_along _ c.put.result _ _ (record_read _ k _ _ _ _ c.in-Some.ensures (sym c.record_word.ensures ∙ c.in-Some-record_word.is ∙ ap (λ w. Some w) c.in-Put.is)) (c.put.ensures.run k)

pub returns-in-Delete-clause-run : goal.returns-in-Delete-clause-run
returns-in-Delete-clause-run c = λ k. gives_along _ c.delete.result _ _ (record_read _ k _ _ _ _ c.in-Some.ensures (sym c.record_word.ensures ∙ c.in-Some-record_word.is ∙ ap (λ w. Some w) c.in-Delete.is)) (c.delete.ensures.run k)
