-- The batches may be loaded, since their numbers run on and they fit the plan.
use Rattle.std.proofs.Common.{sym, ap, subst, ◌∙◌}
use Rattle.pac_core.specs.Calls.{MayLoadAll, with_batches}
use Rattle.pac_core.specs.Replay.{Replay, closed}
use Rattle.pac_core.proofs.BatchLoads.{may_load_first}
use Rattle.pac_core.proofs.execution.loaded.Goals as goal

pub load_all-requires : goal.load_all-requires
load_all-requires g c =
    subst (λ (r : Replay). MayLoadAll r c.args.batches) (sym c.in_ok-core.ensures)
    (may_load_first (record { parts = c.args.plan; first = c.args.first; tables = g.R.Rows.held c.args.tables }) c.args.batches c.requires.runs c.requires.txns c.requires.numbers)

pub returns : goal.returns
returns g c = c.close.ensures ∙ ap closed (c.in_ok-load_all.ensures ∙ ap (λ (r : Replay). with_batches r c.args.batches) c.in_ok-core.ensures)
