-- The room that was made changes nothing of what the writes leave.
use Rattle.std.proofs.Common.{ap, sym, ◌∙◌}
use Rattle.pac_tables.specs.Written.{written}
use Rattle.pac_tables.proofs.RoomLemmas.{written-grown}
use Rattle.pac_tables.proofs.writes.apply_all.Goals as goal

pub returns-in-Ok-clause-ok : goal.returns-in-Ok-clause-ok
returns-in-Ok-clause-ok g c =
    c.make_all.ensures.rows
    ∙ ap (written (g.R.Rows.held c.make_room.new.rows)) (c.into_items.ensures.value ∙ sym c.items.ensures.value)
    ∙ written-grown c.items.result.now (g.R.Rows.held c.args.rows.now) (g.R.Rows.held c.make_room.new.rows) c.in-Ok.ensures.grows
    ∙ ap (written (g.R.Rows.held c.args.rows.now)) c.items.ensures.value
