-- A text that is accepted is not refused.
use Rattle.pac_log.proofs.HeaderLemmas.{no_want}
use Rattle.pac_log.proofs.header.header_catalogue.Goals as goal

pub returns-in-Err-Fault-clause-refused : goal.returns-in-Err-Fault-clause-refused
returns-in-Err-Fault-clause-refused c = λ e catalogue is. no_want c.in-Err-Fault.field-0 _ c.in-Err-Fault.field-0-is (c.in-Err-Fault.ensures.only catalogue is)
