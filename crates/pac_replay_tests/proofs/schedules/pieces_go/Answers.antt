-- The pieces are of transactions that are numbered.
use Rattle.pac_replay_tests.proofs.Numbered.{numbered}
use Rattle.pac_replay_tests.proofs.schedules.pieces_go.Goals as goal

pub opened_go-requires-clause-different : goal.opened_go-requires-clause-different
opened_go-requires-clause-different c = numbered c.args.pieces.now c.requires
