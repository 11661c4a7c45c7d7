-- The row stands there already, or a copy is put where none stood.
use Rattle.std.proofs.Common.{◌≡◌, false, Option, Some, None, is_some, sym, ap, ◌∙◌}
use Rattle.std.specs.Option.{option_map}
use Rattle.pac_tables.specs.Room.{without_cells}
use Rattle.pac_tables.proofs.RoomLemmas.{offset-put, grows-put, back-put}
use Rattle.pac_tables.proofs.writes.make_cell.Goals as goal

absent-from : {A B : Type 0} (f : A → B) (o : Option A) (found : Option B) → option_map f o ≡ found → is_some o ≡ false → found ≡ None
absent-from f None found e h = sym e
absent-from f (Some x) found e h = absurd cc

pub returns-clause-offset : goal.returns-clause-offset
returns-clause-offset g c =
    let absent = absent-from _ c.get.result _ c.get.ensures (sym c.is_some.ensures ∙ c.if-is_some.false) in
    offset-put c.args.write.now c.in_ok-copy.copy (g.R.Rows.held c.args.rows.now) (g.R.Rows.held c.put.new.self) absent c.put.result c.put.ensures.ok

pub returns-clause-grows : goal.returns-clause-grows
returns-clause-grows g c =
    let absent = absent-from _ c.get.result _ c.get.ensures (sym c.is_some.ensures ∙ c.if-is_some.false) in
    grows-put c.args.write.now c.in_ok-copy.copy (g.R.Rows.held c.args.rows.now) (g.R.Rows.held c.put.new.self) absent c.put.result c.put.ensures.ok c.put.ensures.err

pub returns-clause-back : goal.returns-clause-back
returns-clause-back g c =
    let absent = absent-from _ c.get.result _ c.get.ensures (sym c.is_some.ensures ∙ c.if-is_some.false) in
    ap (without_cells (g.R.Rows.held c.put.new.self)) c.in_ok-push.ensures.items
    ∙ back-put c.args.write.now c.in_ok-copy.copy (g.R.Rows.held c.args.rows.now) (g.R.Rows.held c.put.new.self) absent c.put.result c.put.ensures.ok c.put.ensures.err c.args.made.now.items
