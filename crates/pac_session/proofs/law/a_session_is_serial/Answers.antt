-- A session is a serial execution, and counts it.
use Rattle.pac_session.proofs.SessionLemmas.{committed-serial, ends-number}
use Rattle.pac_session.proofs.law.a_session_is_serial.Goals as goal

pub returns-clause-serial : goal.returns-clause-serial
returns-clause-serial c = λ rules start requests. committed-serial rules start requests

pub returns-clause-counted : goal.returns-clause-counted
returns-clause-counted c = λ rules start requests. ends-number rules start requests
