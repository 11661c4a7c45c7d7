-- At each moment the gate is shut, or open with the whole piece.
use Rattle.pac_outside.proofs.GateBytes.{first_step, any_moment, opens, opens_whole}
use Rattle.pac_outside.proofs.Histories.{on_ok}
use Rattle.pac_outside.proofs.durable.open_after.Goals as goal

pub returns-in_err-write_and_sync-clause-any_moment : goal.returns-in_err-write_and_sync-clause-any_moment
returns-in_err-write_and_sync-clause-any_moment g c = λ prefix placed. first_step prefix _ _ placed _ _ c.write_and_sync.ensures.moments

pub returns-clause-any_moment : goal.returns-clause-any_moment
returns-clause-any_moment g c = λ prefix placed. any_moment prefix _ _ placed _ _ _ c.write_and_sync.ensures.moments c.in_ok-write_and_sync.ensures.durable c.write_and_sync-2.ensures.moments

pub returns-clause-opened : goal.returns-clause-opened
returns-clause-opened g c = let second = c.write_and_sync-2.ensures.durable in on_ok c.write_and_sync-2.result second (λ durable prefix placed. opens prefix _ _ placed _ _ _ c.in_ok-write_and_sync.ensures.durable durable)

pub returns-clause-durable : goal.returns-clause-durable
returns-clause-durable g c = let second = c.write_and_sync-2.ensures.durable in on_ok c.write_and_sync-2.result second (λ durable. opens_whole _ _ _ _ _ c.requires.ready c.in_ok-write_and_sync.ensures.durable durable)
