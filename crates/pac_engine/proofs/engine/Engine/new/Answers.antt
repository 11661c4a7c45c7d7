-- The numbers of a log's transactions leave room for those of a session.
use Rattle.std.proofs.Common.{arith}
use Rattle.pac_engine.proofs.engine.Engine.new.Goals as goal

pub new-session-requires-clause-numbers : goal.new-session-requires-clause-numbers
new-session-requires-clause-numbers c = omega (arith, c.txns-before.ensures.room)
