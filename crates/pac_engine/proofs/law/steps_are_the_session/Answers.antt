-- More groups are closed after those that were.
use Rattle.pac_session.specs.Session.{ends}
use Rattle.pac_session.specs.Groups.{all_requests, cut_one}
use Rattle.pac_engine.proofs.LawLemmas.{begins, closes-then, stops-then}
use Rattle.pac_engine.proofs.law.steps_are_the_session.Goals as goal

pub returns-clause-begins : goal.returns-clause-begins
returns-clause-begins c = begins

pub returns-clause-closes : goal.returns-clause-closes
returns-clause-closes c = λ rules spot start whole asked given more old new is next. closes-then rules spot start whole given old is (cut_one rules (ends rules start (all_requests whole.closed)) whole.rest asked) more new next

pub returns-clause-stops : goal.returns-clause-stops
returns-clause-stops c = λ rules spot start whole asked given more old cause is stops. stops-then rules spot start whole given old is (cut_one rules (ends rules start (all_requests whole.closed)) whole.rest asked).closed more cause stops
