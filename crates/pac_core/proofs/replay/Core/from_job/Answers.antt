-- Its batches are loaded, and it is closed.
use Rattle.std.proofs.Common.{sym, ap, subst, ◌∙◌}
use Rattle.pac_core.specs.Calls.{MayLoadAll, with_batches}
use Rattle.pac_core.specs.Replay.{Replay, closed}
use Rattle.pac_core.proofs.replay.Core.from_job.Goals as goal

pub load_all-requires : goal.load_all-requires
load_all-requires g c = subst (λ (r : Replay). MayLoadAll r c.args.job.batches) (sym c.in_ok-core.ensures) c.requires.may

pub returns : goal.returns
returns g c = c.close.ensures ∙ ap closed (c.in_ok-load_all.ensures ∙ ap (λ (r : Replay). with_batches r c.args.job.batches) c.in_ok-core.ensures)
