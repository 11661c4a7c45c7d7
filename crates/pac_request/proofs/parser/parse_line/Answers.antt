use Rattle.pac_request.proofs.LineMeets.{records_held}
use Rattle.pac_request.proofs.parser.parse_line.Goals as goal

pub returns-clause-records : goal.returns-clause-records
returns-clause-records c = records_held _ _ _ c.said_by.result c.said_by.ensures
